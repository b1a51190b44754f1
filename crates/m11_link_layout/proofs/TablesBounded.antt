-- The tables of a link are no larger than the names of its modules, sections and globals allow.
use Rattle.std.proofs.Common.{◌≡◌, ℕ, ◌+◌, ◌*◌, ◌≤◌, mul-le-mul, Bool, true, false, ◌||◌, if◌then◌else◌, List, [], ◌∷◌, ◌++◌, length, length-append, Option, Some, None, refl, sym, ap, ◌∙◌, subst, arith, true≢false}
use Rattle.std.specs.List.{cons_option, filter_map}
use Rattle.std.specs.Map.{keys_of}
use Rattle.std.proofs.lemmas.List.{length-map, map-append}
use Rattle.std.proofs.lemmas.List.Elements.{filter_map-append}
use Rattle.std.proofs.lemmas.List.Folds.{list_any-append}
use Rattle.indexmap.specs.IndexMap.{insert_entry}
use Rattle.m11_base.specs.Rad50.{is_same_name}
use Rattle.m11_base.proofs.SameNames.{same_name_itself, same_name_equal}
use Rattle.m11_obj.specs.declared.gsd.GsdEntry.{GsdEntry}
use Rattle.m11_obj.specs.declared.gsd.GsdKind.{GsdKind}
use Rattle.m11_obj.specs.declared.gsd.GsdKind.TheVariants.{ModuleName, ControlSection, InternalSymbol, TransferAddress, GlobalSymbol, ProgramSection, Identification}
use Rattle.m11_link_modules.specs.Names.{is_among}
use Rattle.m11_link_modules.specs.Parts.{Part, Directory, Entry, EndOfDirectory, Text, Relocations, Relocated, EndOfModule, EndOfFile}
use Rattle.m11_link_modules.specs.Positions.{RulesState, distinct, ends_module, global_in, global_names, global_of, known_of, modules_in, section_by, section_in, section_names, sections_in, stage_after, this_module}
use Rattle.m11_link_modules.specs.Rules.{defines, fault_of, first_fault}
use Rattle.m11_obj.specs.Gsd.{has_bits}
use Rattle.m11_link_modules.proofs.KnownAfter.{known_after_part, this_module_goes_on}
use Rattle.m11_link_layout.specs.Tables.{LayoutTables, collected_after, collected_after_all, is_contribution, nothing_collected, with_definition, with_entry, with_reference, with_relocated, with_weak}
use Rattle.m11_link_layout.proofs.Finding.{Apart, apart_inserted}
use Rattle.m11_link_layout.proofs.Keeping.{relocated_keeps, symbol_keeps}
use Rattle.m11_link_layout.proofs.ModulesOfParts.{modules_more, one_ended}
use Rattle.m11_link_layout.proofs.Walking.{walked}
use Rattle.m11_link_layout.proofs.FewerNames.{Within, distinct_no_more, no_more, among_distinct}
use Rattle.m11_link_layout.proofs.KnownBounded.{Bounded, bounded_step}

-- ---- contributions: at most one more for each entry of a section

module _ {K V : Type 0} (eq : K → K → Bool) where
  pub one_entry : (es : List (K × V)) (k : K) (v : V) → length (insert_entry eq es k v) ≤ length es + 1
  one_entry [] k v = omega arith
  one_entry (e ∷ es) k v = by (eq k e.0) (one_entry es k v)
    where
      by : (b : Bool) → length (insert_entry eq es k v) ≤ length es + 1
          → length (if b then (e.0, v) ∷ es else e ∷ insert_entry eq es k v) ≤ length (e ∷ es) + 1
      by true h = omega arith
      by false h = omega (arith, h)

abbrev contributions_reported : LayoutTables → List ((ℕ × (ℕ × ℕ)) × ℕ)
contributions_reported g = g.contributions

-- if a part doesn't change the contributions, they stay within the bound
left_alone : (old new : List ((ℕ × (ℕ × ℕ)) × ℕ)) (entered : List ((ℕ × ℕ) × ℕ)) → new ≡ old
    → length new ≤ length old + length entered
left_alone old new entered e =
    let P : List ((ℕ × (ℕ × ℕ)) × ℕ) → Type 0 = λ these. length these ≤ length old + length entered in
    subst P (sym e) (more (length old) (length entered))
  where
    more : (m n : ℕ) → m ≤ m + n
    more m n = omega arith

entry_contributes : (bottom : ℕ) (kind : GsdKind) (entry : GsdEntry) (g : LayoutTables)
    → length (with_entry bottom kind entry g).contributions
    ≤ length g.contributions + length (cons_option (section_by kind entry) [])
entry_contributes bottom ControlSection entry g =
    one_entry is_contribution g.contributions (length g.names, entry.name) _
entry_contributes bottom ProgramSection entry g =
    one_entry is_contribution g.contributions (length g.names, entry.name) _
entry_contributes bottom ModuleName entry g = left_alone g.contributions _ [] refl
entry_contributes bottom InternalSymbol entry g = left_alone g.contributions _ [] refl
entry_contributes bottom TransferAddress entry g = left_alone g.contributions _ [] refl
entry_contributes bottom GlobalSymbol entry g =
    left_alone g.contributions _ []
    (symbol_keeps contributions_reported g (λ definitions references weak. refl) entry)
entry_contributes bottom Identification entry g = left_alone g.contributions _ [] refl

contributes : (bottom : ℕ) (g : LayoutTables) (part : Part)
    → length (collected_after bottom g part).contributions
    ≤ length g.contributions + length (filter_map section_in (part ∷ []))
unfolding collected_after
contributes bottom g Directory = left_alone g.contributions _ [] refl
contributes bottom g (Entry entry) = entry_contributes bottom entry.kind entry g
contributes bottom g EndOfDirectory = left_alone g.contributions _ [] refl
contributes bottom g (Text address bytes) = left_alone g.contributions _ [] refl
contributes bottom g Relocations = left_alone g.contributions _ [] refl
contributes bottom g (Relocated relocation) =
    left_alone g.contributions _ []
    (relocated_keeps contributions_reported g (λ definitions references weak. refl) (global_of relocation.target))
contributes bottom g EndOfModule = left_alone g.contributions _ [] refl
contributes bottom g EndOfFile = left_alone g.contributions _ [] refl

entered_more : (before : List Part) (part : Part)
    → sections_in (before ++ part ∷ []) ≡ sections_in before ++ filter_map section_in (part ∷ [])
unfolding sections_in
entered_more before part = filter_map-append section_in before (part ∷ [])

count_more : (before : List Part) (part : Part)
    → length (sections_in (before ++ part ∷ []))
    ≡ length (sections_in before) + length (filter_map section_in (part ∷ []))
count_more before part =
    ap length (entered_more before part) ∙ length-append (sections_in before) (filter_map section_in (part ∷ []))

-- ---- entries of sections: in each module, no more than there are names

true_first : (a b : Bool) → a ≡ true → (a || b) ≡ true
true_first a b e = ap (λ x. x || b) e

names_grow : (before : List Part) (part : Part)
    → length (section_names before) ≤ length (section_names (before ++ part ∷ []))
unfolding section_names
names_grow before part =
    distinct_no_more (keys_of (sections_in before)) (keys_of (sections_in (before ++ part ∷ [])))
    (λ name a. ap (λ entered. is_among (keys_of entered) name) (entered_more before part)
    ∙ ap (λ names. is_among names name)
    (map-append (λ e. e.0) (sections_in before) (filter_map section_in (part ∷ [])))
    ∙ list_any-append (is_same_name name) (keys_of (sections_in before)) (keys_of (filter_map section_in (part ∷ [])))
    ∙ true_first (is_among (keys_of (sections_in before)) name)
    (is_among (keys_of (filter_map section_in (part ∷ []))) name) a)

-- the section entries are at most one for each module that ended and each section, and those of the current module
abbrev pub EntersFew : List Part → Type 0
EntersFew before = length (sections_in before)
    ≤ modules_in before * length (section_names before) + length (sections_in (this_module before))

few_more : (total modules names entered more modules' names' : ℕ) → modules ≤ modules' → names ≤ names'
    → total ≤ modules * names + entered → total + more ≤ modules' * names' + (entered + more)
few_more total modules names entered more modules' names' m n h =
    let p : modules * names ≤ modules' * names' = mul-le-mul m n in
    by (modules * names) (modules' * names') p h
  where
    by : (a b : ℕ) → a ≤ b → total ≤ a + entered → total + more ≤ b + (entered + more)
    by a b p h = omega (arith, p, h)

at_least : (a b c : ℕ) → a ≡ b + c → b ≤ a
at_least a b c e = omega (arith, e)

few_on : (before : List Part) (part : Part) → ends_module part ≡ false → EntersFew before
    → EntersFew (before ++ part ∷ [])
few_on before part e h =
    let more = length (filter_map section_in (part ∷ [])) in
    let all = count_more before part in
    let own = ap (λ parts. length (sections_in parts)) (this_module_goes_on before part e)
    ∙ count_more (this_module before) part in
    let P : ℕ → Type 0 = λ n. n
    ≤ modules_in (before ++ part ∷ []) * length (section_names (before ++ part ∷ []))
    + length (sections_in (this_module (before ++ part ∷ []))) in
    let Q : ℕ → Type 0 = λ n. length (sections_in before) + more
    ≤ modules_in (before ++ part ∷ []) * length (section_names (before ++ part ∷ [])) + n in
    subst P (sym all) (subst Q (sym own)
    (few_more (length (sections_in before)) (modules_in before) (length (section_names before))
    (length (sections_in (this_module before))) more (modules_in (before ++ part ∷ []))
    (length (section_names (before ++ part ∷ [])))
    (at_least (modules_in (before ++ part ∷ [])) (modules_in before) (modules_in (part ∷ []))
    (modules_more before part))
    (names_grow before part) h))

at_most : (a b : ℕ) → a ≡ b → a ≤ b
at_most a b e = omega (arith, e)

one_times : (m n : ℕ) → (m + 1) * n ≡ m * n + n
one_times m n = omega arith

few_last : (total modules names entered total' modules' names' entered' : ℕ) → total' ≡ total + 0
    → modules' ≡ modules + 1 → names ≤ names' → entered ≤ names → total ≤ modules * names + entered
    → total' ≤ modules' * names' + entered'
few_last total modules names entered total' modules' names' entered' t m n e h =
    let p : (modules + 1) * names ≤ modules' * names' = mul-le-mul (at_most (modules + 1) modules' (sym m)) n in
    by (modules * names) (modules' * names') (subst (λ k. k ≤ modules' * names') (one_times modules names) p) h
  where
    by : (a b : ℕ) → a + names ≤ b → total ≤ a + entered → total' ≤ b + entered'
    by a b p h = omega (arith, t, e, p, h)

-- the current module has no more section entries than there are sections
pub entered_few : (before : List Part) → Bounded (known_of before)
    → length (sections_in (this_module before)) ≤ length (section_names before)
unfolding known_of
entered_few before b =
    let P : ℕ → Type 0 = λ n. n ≤ length (section_names before) in
    subst P (length-map (sections_in (this_module before)) (λ e. e.0))
    (no_more (keys_of (sections_in (this_module before))) (section_names before) b.apart b.within)

few_ended : (before : List Part) → Bounded (known_of before) → EntersFew before → EntersFew (before ++ EndOfModule ∷ [])
few_ended before b h =
    few_last (length (sections_in before)) (modules_in before) (length (section_names before))
    (length (sections_in (this_module before))) (length (sections_in (before ++ EndOfModule ∷ [])))
    (modules_in (before ++ EndOfModule ∷ [])) (length (section_names (before ++ EndOfModule ∷ [])))
    (length (sections_in (this_module (before ++ EndOfModule ∷ [])))) (count_more before EndOfModule)
    (one_ended before) (names_grow before EndOfModule) (entered_few before b) h

few_step : (before : List Part) (part : Part) → Bounded (known_of before) → EntersFew before
    → EntersFew (before ++ part ∷ [])
few_step before Directory b h = few_on before Directory refl h
few_step before (Entry entry) b h = few_on before (Entry entry) refl h
few_step before EndOfDirectory b h = few_on before EndOfDirectory refl h
few_step before (Text address bytes) b h = few_on before (Text address bytes) refl h
few_step before Relocations b h = few_on before Relocations refl h
few_step before (Relocated relocation) b h = few_on before (Relocated relocation) refl h
few_step before EndOfModule b h = few_ended before b h
few_step before EndOfFile b h = few_on before EndOfFile refl h

-- ---- weak names are distinct

abbrev Once : LayoutTables → Type 0
Once g = Apart is_same_name g.weak

symbol_once : (b c : Bool) (entry : GsdEntry) (g : LayoutTables) → Once g
    → Once (if b then with_definition entry g else if c then with_weak entry.name g else with_reference entry.name
    true g)
symbol_once true c entry g d = d
symbol_once false true entry g d = apart_inserted is_same_name same_name_equal same_name_itself g.weak entry.name d
symbol_once false false entry g d = d

entry_once : (bottom : ℕ) (kind : GsdKind) (entry : GsdEntry) (g : LayoutTables) → Once g
    → Once (with_entry bottom kind entry g)
entry_once bottom GlobalSymbol entry g d = symbol_once (defines entry) (has_bits 1 entry.flags) entry g d
entry_once bottom ModuleName entry g d = d
entry_once bottom ControlSection entry g d = d
entry_once bottom InternalSymbol entry g d = d
entry_once bottom TransferAddress entry g d = d
entry_once bottom ProgramSection entry g d = d
entry_once bottom Identification entry g d = d

relocated_once : (global : Option (ℕ × ℕ)) (g : LayoutTables) → Once g → Once (with_relocated global g)
relocated_once None g d = d
relocated_once (Some name) g d = d

once_step : (bottom : ℕ) (g : LayoutTables) (part : Part) → Once g → Once (collected_after bottom g part)
unfolding collected_after
once_step bottom g Directory d = d
once_step bottom g (Entry entry) d = entry_once bottom entry.kind entry g d
once_step bottom g EndOfDirectory d = d
once_step bottom g (Text address bytes) d = d
once_step bottom g Relocations d = d
once_step bottom g (Relocated relocation) d = relocated_once (global_of relocation.target) g d
once_step bottom g EndOfModule d = tt
once_step bottom g EndOfFile d = d

-- ---- all tables, part by part

pub record Tables (before : List Part) (g : LayoutTables) : Type 0 where
  pub known : Bounded (known_of before)
  pub weak : Apart is_same_name g.weak
  pub contributions : length g.contributions ≤ length (sections_in before)
  pub entered : EntersFew before

one_part : (old new sections sections' more : ℕ) → new ≤ old + more → sections' ≡ sections + more → old ≤ sections
    → new ≤ sections'
one_part old new sections sections' more n s h = omega (arith, n, s, h)

tables_step : (bottom : ℕ) (before : List Part) (g : LayoutTables) (part : Part) → fault_of before part ≡ None
    → Tables before g → Tables (before ++ part ∷ []) (collected_after bottom g part)
tables_step bottom before g part n t =
    let P : RulesState → Type 0 = λ known. Bounded known in
    record {
      known = subst P (sym (known_after_part before part n)) (bounded_step (known_of before) part n t.known);
      weak = once_step bottom g part t.weak;
      contributions = one_part (length g.contributions) _ (length (sections_in before)) _
          (length (filter_map section_in (part ∷ []))) (contributes bottom g part) (count_more before part)
          t.contributions;
      entered = few_step before part t.known t.entered;
    }

none_at_most : (n : ℕ) → 0 ≤ n
none_at_most n = omega arith

tables_none : Tables [] nothing_collected
unfolding known_of stage_after modules_in section_names sections_in global_names distinct this_module
tables_none = record {
  known = record {
    modules = none_at_most 32;
    sections = none_at_most 256;
    globals = none_at_most 8192;
    apart = tt;
    within = λ name a. absurd (true≢false (sym a));
  };
  weak = tt;
  contributions = none_at_most 0;
  entered = none_at_most 0;
}

pub tables_of : (bottom : ℕ) (parts : List Part) → first_fault [] parts ≡ None → Tables parts (collected_after_all bottom nothing_collected parts)
tables_of bottom parts n = walked bottom Tables (tables_step bottom) [] parts nothing_collected n tables_none

-- ---- each table by its names

pub keys_counted : {X : Type 0} (es : List ((ℕ × ℕ) × X)) (names : List (ℕ × ℕ)) → keys_of es ≡ names
    → length es ≡ length names
keys_counted es names e = sym (length-map es (λ pair. pair.0)) ∙ ap length e

pub in_all : (total modules names entered : ℕ) → total ≤ modules * names + entered → entered ≤ names
    → total ≤ (modules + 1) * names
in_all total modules names entered h e =
    let P : ℕ → Type 0 = λ n. total ≤ n in
    subst P (sym (one_times modules names)) (by (modules * names) h)
  where
    by : (a : ℕ) → total ≤ a + entered → total ≤ a + names
    by a h = omega (arith, h, e)

pub more_modules : (m n : ℕ) → m ≤ n → m + 1 ≤ n + 1
more_modules m n h = omega (arith, h)

pub no_less : (a b c : ℕ) → a ≤ b → b ≤ c → a ≤ c
no_less a b c h k = omega (arith, h, k)

-- distinct names among the global names in parts are no more than the parts' distinct global names
pub few_globals : (parts : List Part) (names : List (ℕ × ℕ)) → Within names (filter_map global_in parts)
    → length (distinct names) ≤ length (global_names parts)
unfolding global_names
few_globals parts names w = distinct_no_more names (filter_map global_in parts) w

pub few_pairs : {X : Type 0} (parts : List Part) (es : List ((ℕ × ℕ) × X)) (names : List (ℕ × ℕ))
    → keys_of es ≡ distinct names → Within names (filter_map global_in parts)
    → length es ≤ length (global_names parts)
few_pairs parts es names e w =
    let P : ℕ → Type 0 = λ n. n ≤ length (global_names parts) in
    subst P (sym (keys_counted es (distinct names) e)) (few_globals parts names w)

pub few_weak : (parts : List Part) (weak : List (ℕ × ℕ)) → Apart is_same_name weak → Within weak (filter_map global_in parts)
    → length weak ≤ length (global_names parts)
unfolding global_names
few_weak parts weak d w =
    no_more weak (distinct (filter_map global_in parts)) d
    (λ name a. among_distinct (filter_map global_in parts) name ∙ w name a)
