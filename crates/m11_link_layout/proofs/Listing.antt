-- The lists of bases and values in a plan.
use Rattle.std.proofs.Common.{◌≡◌, ℕ, ◌+◌, ◌%◌, ◌<◌, ◌≤◌, Bool, true, false, cond, List, [], ◌∷◌, ◌++◌, append_assoc, append-nil, length, drop, get_or, map, slice_get, option_map, is_some, true≢false, ◌||◌, Option, Some, None, Err, refl, sym, ap, subst, ◌∙◌, arith}
use Rattle.std.specs.Map.{lookup, lookup_key}
use Rattle.std.specs.Prelude.{option_and_then}
use Rattle.std.proofs.lemmas.Bool.{and_parts}
use Rattle.std.proofs.lemmas.List.{drop_all}
use Rattle.std.proofs.lemmas.List.{length-map}
use Rattle.std.proofs.lemmas.Option.{slice_get-get_or, slice_get-map}
use Rattle.indexmap.specs.IndexMap.{insert_entry}
use Rattle.m11_base.specs.Rad50.{is_same_name}
use Rattle.m11_base.proofs.SameNames.{same_name_equal}
use Rattle.m11_link_modules.proofs.Indexing.{drop_at}
use Rattle.m11_link_layout.specs.Plan.{Agrees, Bases, PlanTables, Plans, StopsAtSection, after_offset, bases_onto, contribution_bases, defined_value, definition_values, placed, planned_base, planned_section_base, planned_value, value_at}
use Rattle.std.specs.Option.{unwrap_or}
use Rattle.m11_link_layout.specs.Tables.{LayoutTables, LiesAt, is_contribution, with_reference}
use Rattle.m11_link_layout.specs.declared.definition.Definition.{Definition}
use Rattle.m11_link_layout.specs.declared.definition.Total.{Total}
use Rattle.m11_link_layout.specs.declared.fault.LinkFault.{LinkFault}
use Rattle.m11_link_layout.specs.declared.fault.LinkFault.TheVariants.{NoMemory}

-- ---- keys and entries

some_is : {A : Type 0} (x y : A) → ◌≡◌ {A = Option A} (Some x) (Some y) → x ≡ y
some_is x y e = cc

none_some : {A : Type 0} (x : A) → ◌≡◌ {A = Option A} None (Some x) → ⊥
none_some x e = cc

-- a key that was found passes the test
key_by : {K : Type 0} (test : K → Bool) (first key : K) (b : Bool) (others : Option K) → test first ≡ b
    → (others ≡ Some key → test key ≡ true) → cond b (Some first) others ≡ Some key → test key ≡ true
key_by {K} test first key true others t h e =
    let P : K → Type 0 = λ k. test k ≡ true in subst P (some_is first key e) t
key_by test first key false others t h e = h e

pub found_key : {K V : Type 0} (test : K → Bool) (entries : List (K × V)) (key : K) → lookup_key test entries ≡ Some key
    → test key ≡ true
found_key test [] key e = absurd (none_some key e)
found_key test (entry ∷ entries) key e =
    key_by test entry.0 key (test entry.0) (lookup_key test entries) refl (found_key test entries key) e

-- inserting an entry that is already in the list changes nothing
insert_by : {K V : Type 0} (entry : K × V) (entries inserted : List (K × V)) (value : V) (b : Bool) (others : Option V)
    → (others ≡ Some value → inserted ≡ entries) → cond b (Some entry.1) others ≡ Some value
    → cond b ((entry.0, value) ∷ entries) (entry ∷ inserted) ≡ entry ∷ entries
insert_by {K} {V} entry entries inserted value true others h e =
    ap (λ (v : V). (entry.0, v) ∷ entries) (sym (some_is entry.1 value e))
insert_by {K} {V} entry entries inserted value false others h e = ap (λ (es : List (K × V)). entry ∷ es) (h e)

pub insert_same : {K V : Type 0} (eq : K → K → Bool) (entries : List (K × V)) (key : K) (value : V)
    → lookup (eq key) entries ≡ Some value → insert_entry eq entries key value ≡ entries
insert_same eq [] key value e = absurd (none_some value e)
insert_same eq (entry ∷ entries) key value e =
    insert_by entry entries (insert_entry eq entries key value) value (eq key entry.0) (lookup (eq key) entries)
    (insert_same eq entries key value) e

-- if a look-up of a reference yields true, the reference was found and is strong
strong_by : (found : Option Bool) → unwrap_or found false ≡ true → found ≡ Some true
strong_by None e = absurd (true≢false (sym e))
strong_by (Some b) e = ap (λ (x : Bool). Some x) e

reference_same : (g : LayoutTables) (name : ℕ × ℕ) (is_strong : Bool)
    → unwrap_or (lookup (is_same_name name) g.references) false ≡ true → g ≡ with_reference name is_strong g
reference_same g name is_strong e =
    let same = insert_same is_same_name g.references name true (strong_by (lookup (is_same_name name) g.references) e) in
    let P : Bool → Type 0 = λ b. g ≡ (let all : LayoutTables = record g {
      references = insert_entry is_same_name g.references name (b || is_strong);
    } in all) in
    subst P (sym e) (ap (λ (r : List ((ℕ × ℕ) × Bool)). let all : LayoutTables = record g { references = r } in all) (sym same))

pub reference_stays : {seen : LayoutTables} (g : LayoutTables) (name : ℕ × ℕ) (is_strong : Bool) → seen ≡ g
    → unwrap_or (lookup (is_same_name name) seen.references) false ≡ true → g ≡ with_reference name is_strong g
reference_stays {seen} g name is_strong is e =
    let P : LayoutTables → Type 0 = λ x. x ≡ with_reference name is_strong x in
    subst P is (reference_same seen name is_strong e)

-- if the key found for a contribution is at this index with this offset, the contribution is there
pub stands : {seen : LayoutTables} (g : LayoutTables) (key stored : ℕ × (ℕ × ℕ)) (index offset : ℕ) → seen ≡ g
    → slice_get seen.contributions index ≡ Some (stored, offset)
    → Some stored ≡ lookup_key (is_contribution key) seen.contributions → LiesAt key index offset g.contributions
stands {seen} g key stored index offset is at found =
    let P : LayoutTables → Type 0 = λ x. LiesAt key index offset x.contributions in
    subst P is (stored, at, found_key (is_contribution key) seen.contributions stored (sym found))

-- ---- lists that agree

pub agrees_none : (all : List ℕ) → Agrees [] all
agrees_none all = λ index value e. absurd (none_some value e)

pub agrees_whole : (some all : List ℕ) → some ≡ all → Agrees some all
agrees_whole some all same = λ index value e. ap (λ (xs : List ℕ). slice_get xs index) (sym same) ∙ e

-- ---- bases

based : (plan : PlanTables) (module_index : ℕ) (section stored : ℕ × ℕ) (offset base : ℕ)
    → (planned_section_base plan stored + offset) % 0o200000 ≡ base → is_same_name section stored ≡ true
    → base ≡ after_offset (Some offset) (planned_section_base plan section)
based plan module_index section stored offset base e same =
    sym e ∙ ap (λ (name : ℕ × ℕ). (planned_section_base plan name + offset) % 0o200000)
    (sym (same_name_equal section stored same))

pub base_listed : (plan : PlanTables) (module_index : ℕ) (section : ℕ × ℕ) (index offset base : ℕ)
    → LiesAt (module_index, section) index offset plan.gathered.contributions
    → lookup (is_contribution (module_index, section)) plan.gathered.contributions ≡ Some offset
    → slice_get (contribution_bases plan) index ≡ Some base
    → base ≡ planned_base plan module_index section
base_listed plan module_index section index offset base at found e =
    let there = ap (λ (o : Option ((ℕ × (ℕ × ℕ)) × ℕ)). option_map (λ entry. after_offset (Some entry.1)
    (planned_section_base plan entry.0.1)) o) at.1 in
    let is = some_is ((planned_section_base plan at.0.1 + offset) % 0o200000) base (sym there
    ∙ sym (slice_get-map (λ entry. after_offset (Some entry.1) (planned_section_base plan entry.0.1))
    plan.gathered.contributions index) ∙ e) in
    based plan module_index section at.0.1 offset base is (and_parts _ _ at.2).1
    ∙ ap (λ (o : Option ℕ). after_offset o (planned_section_base plan section)) (sym found)

-- ---- values

valued : (plan : PlanTables) (entry : Option ((ℕ × ℕ) × Definition)) (found : Option Definition) (value : ℕ)
    → option_map (λ e. value_at plan e.1.module_index e.1.location) entry ≡ Some value
    → option_map (λ e. e.1) entry ≡ found → Some value ≡ defined_value plan found
valued plan None found value e f = absurd (none_some value e)
valued plan (Some entry) found value e f = sym e ∙ ap (λ (o : Option Definition). defined_value plan o) f

pub value_listed : (plan : PlanTables) (name : ℕ × ℕ) (index value : ℕ)
    → slice_get (map (λ entry. entry.1) plan.gathered.definitions) index
    ≡ lookup (is_same_name name) plan.gathered.definitions
    → slice_get (definition_values plan) index ≡ Some value → Some value ≡ planned_value plan name
value_listed plan name index value at e =
    valued plan (slice_get plan.gathered.definitions index) (lookup (is_same_name name) plan.gathered.definitions) value
    (sym (slice_get-map (λ entry. value_at plan entry.1.module_index entry.1.location) plan.gathered.definitions index) ∙ e)
    (sym (slice_get-map (λ entry. entry.1) plan.gathered.definitions index) ∙ at)

-- ---- the results of look-ups, given what a call returned

shown : (xs ys : List ℕ) (index value : ℕ) → xs ≡ ys → index < length xs → value ≡ get_or xs index value
    → slice_get ys index ≡ Some value
shown xs ys index value same lt e =
    ap (λ (zs : List ℕ). slice_get zs index) (sym same) ∙ slice_get-get_or xs index value lt
    ∙ ap (λ (n : ℕ). Some n) (sym e)

module _ {seen : PlanTables} (plan : PlanTables) (is : seen ≡ plan) where
  pub base_shown : (module_index : ℕ) (section : ℕ × ℕ) (index offset base : ℕ) (bases taken : List ℕ)
      → LiesAt (module_index, section) index offset seen.gathered.contributions
      → Some offset ≡ lookup (is_contribution (module_index, section)) seen.gathered.contributions
      → Agrees bases (contribution_bases seen) → taken ≡ bases → index < length taken → base ≡ get_or taken index base
      → base ≡ planned_base plan module_index section
  base_shown module_index section index offset base bases taken at found agrees same lt e =
      let P : PlanTables → Type 0 = λ p. base ≡ planned_base p module_index section in
      subst P is (base_listed seen module_index section index offset base at (sym found)
      (agrees index base (shown taken bases index base same lt e)))

  -- the definition at this index is the one that a look-up of the name finds
  abbrev IsFoundAt : (ℕ × ℕ) → ℕ → Type 0
  IsFoundAt name index = slice_get (map (λ entry. entry.1) seen.gathered.definitions) index
      ≡ lookup (is_same_name name) seen.gathered.definitions

  pub value_shown : (name : ℕ × ℕ) (index value : ℕ) (values taken : List ℕ) → IsFoundAt name index
      → Agrees values (definition_values seen) → taken ≡ values → index < length taken → value ≡ get_or taken index value
      → Some value ≡ planned_value plan name
  value_shown name index value values taken at agrees same lt e =
      let P : PlanTables → Type 0 = λ p. Some value ≡ planned_value p name in
      subst P is (value_listed seen name index value at (agrees index value (shown taken values index value same lt e)))

  pub value_found : (name : ℕ × ℕ) (index value : ℕ) → IsFoundAt name index
      → slice_get (definition_values plan) index ≡ Some value → Some value ≡ planned_value plan name
  value_found name index value at e =
      let P : PlanTables → Type 0 = λ p. slice_get (map (λ entry. entry.1) p.gathered.definitions) index
      ≡ lookup (is_same_name name) p.gathered.definitions in
      value_listed plan name index value (subst P is at) e

-- ---- lists that are made one item after another

pub listed_more : (all done new : List ℕ) (index value : ℕ) → slice_get all index ≡ Some value → new ≡ done ++ value ∷ []
    → done ++ drop index all ≡ all → new ++ drop (index + 1) all ≡ all
listed_more all done new index value at is so_far =
    ap (λ (xs : List ℕ). xs ++ drop (index + 1) all) is ∙ append_assoc done (value ∷ []) (drop (index + 1) all)
    ∙ ap (λ (xs : List ℕ). done ++ xs) (sym (drop_at all index value at)) ∙ so_far

pub listed_whole : (all done : List ℕ) (index : ℕ) → length all ≤ index → done ++ drop index all ≡ all → done ≡ all
listed_whole all done index le so_far =
    sym (append-nil done) ∙ ap (λ (xs : List ℕ). done ++ xs) (sym (drop_all index all le)) ∙ so_far

pub bases_counted : (plan : PlanTables) → length (contribution_bases plan) ≡ length plan.gathered.contributions
bases_counted plan = length-map plan.gathered.contributions
    (λ entry. after_offset (Some entry.1) (planned_section_base plan entry.0.1))

pub values_counted : (plan : PlanTables) → length (definition_values plan) ≡ length plan.gathered.definitions
values_counted plan =
    length-map plan.gathered.definitions (λ entry. value_at plan entry.1.module_index entry.1.location)

abbrev section_and_offset : (ℕ × (ℕ × ℕ)) × ℕ → (ℕ × ℕ) × ℕ
section_and_offset entry = (entry.0.1, entry.1)

base_by : (plan : PlanTables) (entry : Option ((ℕ × (ℕ × ℕ)) × ℕ)) (section : ℕ × ℕ) (offset : ℕ)
    → option_map section_and_offset entry ≡ Some (section, offset)
    → option_map (λ e. after_offset (Some e.1) (planned_section_base plan e.0.1)) entry
    ≡ Some ((planned_section_base plan section + offset) % 0o200000)
base_by plan None section offset e = absurd (none_some (section, offset) e)
base_by plan (Some entry) section offset e =
    ap (λ (f : (ℕ × ℕ) × ℕ). Some ((planned_section_base plan f.0 + f.1) % 0o200000))
    (some_is (section_and_offset entry) (section, offset) e)

-- the base of a contribution's section plus the contribution's offset is the item of the list of bases at its index
pub base_made : {seen : PlanTables} (plan : PlanTables) (index : ℕ) (section : ℕ × ℕ) (offset base below : ℕ) → seen ≡ plan
    → option_map section_and_offset (slice_get seen.gathered.contributions index) ≡ Some (section, offset)
    → below ≡ planned_section_base plan section → base ≡ (below + offset) % 0o200000
    → slice_get (contribution_bases plan) index ≡ Some base
base_made plan index section offset base below is at under e =
    let P : PlanTables → Type 0 = λ p. option_map section_and_offset (slice_get p.gathered.contributions index)
    ≡ Some (section, offset) in
    slice_get-map (λ entry. after_offset (Some entry.1) (planned_section_base plan entry.0.1))
    plan.gathered.contributions index
    ∙ base_by plan (slice_get plan.gathered.contributions index) section offset (subst P is at)
    ∙ ap (λ (n : ℕ). Some ((n + offset) % 0o200000)) (sym under) ∙ ap (λ (n : ℕ). Some n) (sym e)

-- ---- where memory may be refused

abbrev alone : Bases → Option Bases
alone b = let same : Bases = record { bases = b.bases; top = b.top } in Some same

first_placed : (here : Option Bases) (following : Bases → Option Bases) (all : Bases)
    → option_and_then following here ≡ Some all → is_some (option_and_then alone here) ≡ true
first_placed None following all e = absurd (none_some all e)
first_placed (Some b) following all e = refl

-- if there is a section, and all sections were placed, memory may be refused at the first section or later
pub stops_first : (next : ℕ) (sections : List ((ℕ × ℕ) × Total)) (all : Bases) → bases_onto [] next sections ≡ Some all
    → 0 < length sections → StopsAtSection [] next sections
stops_first next [] all e lt = absurd (omega arith)
stops_first next (section ∷ sections) all e lt = record {
  before = [];
  section = section;
  left = sections;
  split = refl;
  fits = first_placed (placed [] next section) (λ b. bases_onto b.bases b.top sections) all e;
}

pub plan_refused : (bottom : ℕ) (gathered : LayoutTables) (entries : List ((ℕ × ℕ) × ℕ)) (all : Bases) (said : LinkFault)
    → said ≡ NoMemory → entries ≡ [] → bases_onto entries bottom gathered.sections ≡ Some all
    → 0 < length gathered.sections → Plans bottom gathered (Err said)
plan_refused bottom gathered entries all said is none e lt =
    let P : LinkFault → Type 0 = λ f. Plans bottom gathered (Err f) in
    let Q : List ((ℕ × ℕ) × ℕ) → Type 0 = λ xs. bases_onto xs bottom gathered.sections ≡ Some all in
    subst P (sym is) (stops_first bottom gathered.sections all (subst Q none e) lt)
