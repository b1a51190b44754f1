-- The names that are gathered are those of the modules.
use Rattle.std.proofs.Common.{◌≡◌, ℕ, ◌+◌, ◌<◌, ◌≤◌, nat_eq, nat_lt, Bool, true, false, if◌then◌else◌, List, [], ◌∷◌, ◌++◌, get_or, length, append-nil, Option, Some, None, refl, sym, ap, ◌∙◌, subst, arith}
use Rattle.std.specs.List.{cons_option, filter_map}
use Rattle.std.specs.Option.{option_or, unwrap_or}
use Rattle.std.proofs.lemmas.Bool.Decides.{nat_tests}
use Rattle.std.proofs.lemmas.List.{get_or_append_left, get_or_past, get_or_push, length_push}
use Rattle.std.proofs.lemmas.List.Elements.{filter_map-append}
use Rattle.m11_obj.specs.declared.gsd.GsdEntry.{GsdEntry}
use Rattle.m11_obj.specs.declared.gsd.GsdKind.{GsdKind}
use Rattle.m11_obj.specs.declared.gsd.GsdKind.TheVariants.{ModuleName, ControlSection, InternalSymbol, TransferAddress, GlobalSymbol, ProgramSection, Identification}
use Rattle.m11_link_modules.specs.Parts.{Part, Directory, Entry, EndOfDirectory, Text, Relocations, Relocated, EndOfModule, EndOfFile}
use Rattle.m11_link_modules.specs.Positions.{ends_module, global_of, modules_in, this_module}
use Rattle.m11_link_modules.proofs.KnownAfter.{this_module_ended, this_module_goes_on}
use Rattle.m11_link_layout.specs.Tables.{LayoutTables, collected_after, nothing_collected, with_entry, with_relocated}
use Rattle.m11_link_layout.specs.Modules.{first_of, module_at, module_name, name_at, name_by, name_in, name_reported}
use Rattle.m11_link_layout.proofs.Keeping.{relocated_keeps, symbol_keeps}
use Rattle.m11_link_layout.proofs.ModulesOfParts.{add_zero, one_ended, module_more, modules_are, modules_more, where_true}
use Rattle.m11_link_layout.proofs.Sizing.{or_none}

-- these names are those of the modules that ended, and `name` is that of the current module, if an entry has it
pub record NamesOf (before : List Part) (names : List (ℕ × ℕ)) (name : Option (ℕ × ℕ)) : Type 0 where
  pub count : length names ≡ modules_in before
  pub reported : name ≡ name_reported (this_module before)
  pub each : (index : ℕ) → index < modules_in before → get_or names index (0, 0) ≡ module_name (module_at before index)

-- ---- one more part of a module

first_more : {X : Type 0} (xs ys : List X) → first_of (xs ++ ys) ≡ option_or (first_of xs) (first_of ys)
first_more [] ys = refl
first_more (x ∷ xs) ys = refl

reported_more : (own : List Part) (part : Part) → name_reported (own ++ part ∷ [])
    ≡ option_or (name_reported own) (first_of (filter_map name_in (part ∷ [])))
unfolding name_reported
reported_more own part =
    ap first_of (filter_map-append name_in own (part ∷ []))
    ∙ first_more (filter_map name_in own) (filter_map name_in (part ∷ []))

not_here : (n index : ℕ) → index < n → nat_eq n index ≡ false
not_here n index h = grind (arith, nat_tests)

-- a further part doesn't change the parts of a module that ended
ended_stays : (before : List Part) (part : Part) (index : ℕ) → index < modules_in before
    → module_at (before ++ part ∷ []) index ≡ module_at before index
ended_stays before part index h =
    module_more before part index ∙ ap (λ b. module_at before index ++ where_true b part)
    (not_here (modules_in before) index h) ∙ append-nil (module_at before index)

goes_on : (before : List Part) (part : Part) (names : List (ℕ × ℕ)) (old new : Option (ℕ × ℕ))
    → ends_module part ≡ false
    → modules_in (part ∷ []) ≡ 0 → new ≡ option_or old (first_of (filter_map name_in (part ∷ [])))
    → NamesOf before names old → NamesOf (before ++ part ∷ []) names new
goes_on before part names old new e z is n =
    let same : modules_in (before ++ part ∷ []) ≡ modules_in before = modules_more before part
    ∙ ap (λ k. modules_in before + k) z ∙ add_zero (modules_in before) in
    record {
      count = n.count ∙ sym same;
      reported = is ∙ ap (λ name. option_or name (first_of (filter_map name_in (part ∷ [])))) n.reported
          ∙ sym (reported_more (this_module before) part)
          ∙ ap (λ own. name_reported own) (sym (this_module_goes_on before part e));
      each = λ index h.
          let P : ℕ → Type 0 = λ k. index < k in
          let h' = subst P same h in n.each index h'
          ∙ ap (λ own. module_name own) (sym (ended_stays before part index h'));
    }

-- ---- the end of a module

here : (n : ℕ) → nat_eq n n ≡ true
here n = grind (arith, nat_tests)

-- the parts of a module that ends are its parts so far, and then its end
this_ends : (before : List Part) → module_at (before ++ EndOfModule ∷ []) (modules_in before)
    ≡ this_module before ++ EndOfModule ∷ []
this_ends before =
    module_more before EndOfModule (modules_in before)
    ∙ (λ j. (modules_are before).this j ++ where_true (here (modules_in before) j) EndOfModule)

this_name : (before : List Part) (name : Option (ℕ × ℕ)) → name ≡ name_reported (this_module before)
    → unwrap_or name (0, 0) ≡ module_name (module_at (before ++ EndOfModule ∷ []) (modules_in before))
this_name before name e =
    ap (λ reported. unwrap_or reported (0, 0)) (e ∙ sym (or_none (name_reported (this_module before)))
    ∙ sym (reported_more (this_module before) EndOfModule))
    ∙ ap (λ own. module_name own) (sym (this_ends before))

each_name : (before : List Part) (names : List (ℕ × ℕ)) (name : Option (ℕ × ℕ)) (index : ℕ) (b : Bool)
    → nat_lt index (modules_in before) ≡ b
    → index < modules_in before + 1 → NamesOf before names name
    → get_or (names ++ unwrap_or name (0, 0) ∷ []) index (0, 0)
    ≡ module_name (module_at (before ++ EndOfModule ∷ []) index)
each_name before names name index true t h n =
    let below : index < modules_in before = grind (arith, nat_tests) in
    let P : ℕ → Type 0 = λ k. index < k in
    get_or_append_left names (unwrap_or name (0, 0) ∷ []) (0, 0) index (subst P (sym n.count) below)
    ∙ n.each index below
    ∙ ap (λ own. module_name own) (sym (ended_stays before EndOfModule index below))
each_name before names name index false t h n =
    let at : modules_in before ≡ index = grind (arith, nat_tests) in
    let P : ℕ → Type 0 = λ k. get_or (names ++ unwrap_or name (0, 0) ∷ []) k (0, 0)
    ≡ module_name (module_at (before ++ EndOfModule ∷ []) k) in
    subst P at (get_or_push names (unwrap_or name (0, 0)) (0, 0) (modules_in before) n.count
    ∙ this_name before name n.reported)

ended : (before : List Part) (names : List (ℕ × ℕ)) (name : Option (ℕ × ℕ)) → NamesOf before names name
    → NamesOf (before ++ EndOfModule ∷ []) (names ++ unwrap_or name (0, 0) ∷ []) None
unfolding name_reported
ended before names name n = record {
  count = length_push names (unwrap_or name (0, 0)) ∙ ap (λ k. k + 1) n.count ∙ sym (one_ended before);
  reported = ap (λ own. name_reported own) (sym (this_module_ended before));
  each = λ index h. let P : ℕ → Type 0 = λ k. index < k in
      each_name before names name index (nat_lt index (modules_in before)) refl (subst P (one_ended before) h) n;
}

-- ---- one more part gathered

abbrev names_reported : LayoutTables → List (ℕ × ℕ) × Option (ℕ × ℕ)
names_reported g = (g.names, g.name)

abbrev Named : List Part → LayoutTables → Type 0
Named before g = NamesOf before g.names g.name

kept : (before : List Part) (g new : LayoutTables) (part : Part) → ends_module part ≡ false → modules_in (part ∷ []) ≡ 0
    → filter_map name_in (part ∷ []) ≡ [] → names_reported new ≡ names_reported g → Named before g
    → Named (before ++ part ∷ []) new
kept before g new part e z none same n =
    let P : List (ℕ × ℕ) × Option (ℕ × ℕ) → Type 0 = λ reported. NamesOf (before ++ part ∷ []) reported.0 reported.1 in
    subst P (sym same) (goes_on before part g.names g.name g.name e z
    (sym (or_none g.name) ∙ ap (λ reported. option_or g.name (first_of reported)) (sym none)) n)

entry_step : (bottom : ℕ) (before : List Part) (g : LayoutTables) (kind : GsdKind) (entry : GsdEntry)
    → modules_in (Entry entry ∷ []) ≡ 0
    → filter_map name_in (Entry entry ∷ []) ≡ cons_option (name_by kind entry) [] → Named before g
    → Named (before ++ Entry entry ∷ []) (with_entry bottom kind entry g)
entry_step bottom before g ModuleName entry z a n =
    goes_on before (Entry entry) g.names g.name (option_or g.name (Some entry.name)) refl z
    (ap (λ reported. option_or g.name (first_of reported)) (sym a)) n
entry_step bottom before g ControlSection entry z a n =
    kept before g (with_entry bottom ControlSection entry g) (Entry entry) refl z a refl n
entry_step bottom before g ProgramSection entry z a n =
    kept before g (with_entry bottom ProgramSection entry g) (Entry entry) refl z a refl n
entry_step bottom before g InternalSymbol entry z a n =
    kept before g (with_entry bottom InternalSymbol entry g) (Entry entry) refl z a refl n
entry_step bottom before g TransferAddress entry z a n =
    kept before g (with_entry bottom TransferAddress entry g) (Entry entry) refl z a refl n
entry_step bottom before g GlobalSymbol entry z a n =
    kept before g (with_entry bottom GlobalSymbol entry g) (Entry entry) refl z a
    (symbol_keeps names_reported g (λ definitions references weak. refl) entry) n
entry_step bottom before g Identification entry z a n =
    kept before g (with_entry bottom Identification entry g) (Entry entry) refl z a refl n

pub names_step : (bottom : ℕ) (before : List Part) (g : LayoutTables) (part : Part) → NamesOf before g.names g.name
    → NamesOf (before ++ part ∷ []) (collected_after bottom g part).names (collected_after bottom g part).name
unfolding collected_after modules_in
names_step bottom before g Directory n = kept before g g Directory refl refl refl refl n
names_step bottom before g (Entry entry) n = entry_step bottom before g entry.kind entry refl refl n
names_step bottom before g EndOfDirectory n = kept before g g EndOfDirectory refl refl refl refl n
names_step bottom before g (Text address bytes) n = kept before g g (Text address bytes) refl refl refl refl n
names_step bottom before g Relocations n = kept before g g Relocations refl refl refl refl n
names_step bottom before g (Relocated relocation) n =
    kept before g (with_relocated (global_of relocation.target) g) (Relocated relocation) refl refl refl
    (relocated_keeps names_reported g (λ definitions references weak. refl) (global_of relocation.target)) n
names_step bottom before g EndOfModule n = ended before g.names g.name n
names_step bottom before g EndOfFile n = kept before g g EndOfFile refl refl refl refl n

below_none : (index : ℕ) → index < 0 → ⊥
below_none index h = omega arith

pub names_none : NamesOf [] nothing_collected.names nothing_collected.name
unfolding modules_in name_reported this_module
names_none = record { count = refl; reported = refl; each = λ index h. absurd (below_none index h) }

-- ---- the name of any index

named : (before : List Part) (names : List (ℕ × ℕ)) (name : Option (ℕ × ℕ)) (index : ℕ) (b : Bool)
    → nat_lt index (modules_in before) ≡ b → NamesOf before names name
    → get_or names index (0, 0) ≡ (if b then module_name (module_at before index) else (0, 0))
named before names name index true t n =
    let below : index < modules_in before = grind (arith, nat_tests) in n.each index below
named before names name index false t n =
    let past : modules_in before ≤ index = grind (arith, nat_tests) in
    let P : ℕ → Type 0 = λ k. k ≤ index in get_or_past names index (0, 0) (subst P (sym n.count) past)

pub names_are : (before : List Part) (names : List (ℕ × ℕ)) (name : Option (ℕ × ℕ)) (index : ℕ)
    → NamesOf before names name → get_or names index (0, 0) ≡ name_at before index
names_are before names name index n = named before names name index (nat_lt index (modules_in before)) refl n
