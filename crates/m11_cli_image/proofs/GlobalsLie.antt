-- A global has the value that the first source that defines it gives it.
use Rattle.std.proofs.Common.{◌≡◌, ◌∙◌, ℕ, zero, suc, ◌+◌, Bool, true, false, if◌then◌else◌, List, [], ◌∷◌, ◌++◌, map, flat_map, take, Option, Some, None, option_map, refl, sym, ap, subst, true≢false, arith}
use Rattle.std.specs.Prelude.{slice_get}
use Rattle.std.specs.List.{AllByRecursion, cons_option, enumerate_from, filter_map}
use Rattle.std.specs.Map.{lookup}
use Rattle.std.specs.Option.{is_some, option_or, unwrap_or}
use Rattle.m11_base.specs.Rad50.{Name, is_same_name}
use Rattle.m11_base.proofs.SameNames.{same_name_equal}
use Rattle.m11_asm_directory.specs.Definitions.{lies_in}
use Rattle.m11_asm_directory.specs.Names.{ordered}
use Rattle.m11_link_layout.specs.declared.definition.Definition as layout
use Rattle.m11_link_layout.specs.declared.definition.GlobalLocation.{GlobalLocation}
use Rattle.m11_asm_rules.specs.Definitions.{last_definition}
use Rattle.m11_asm_rules.specs.Tables.{Table}
use Rattle.m11_asm_rules.specs.declared.definitions.Definition.{Definition}
use Rattle.m11_asm_rules.specs.declared.definitions.Key.TheVariants.{Named}
use Rattle.m11_asm_rules.specs.declared.definitions.Standing.{Standing}
use Rattle.m11_asm_rules.specs.declared.definitions.Standing.TheVariants.{Known, Unknown}
use Rattle.m11_asm_rules.specs.declared.sections.Section.{Section}
use Rattle.m11_scan_expressions.specs.declared.kinds.Kind.{Kind}
use Rattle.m11_scan_expressions.specs.declared.kinds.Kind.TheVariants as kind
use Rattle.m11_cli_image.specs.Globals.{address_of, definition_value, global, global_by, global_known, global_standing, global_under, globals_at, globals_of, globals_under, in_source, location_of}
use Rattle.m11_cli_image.specs.Image.{addresses_of}
use Rattle.m11_cli_image.specs.Sources.{Source}
use Rattle.m11_cli_image.specs.Labels.{DefinesFirst, HasValue}
use Rattle.m11_cli_image.specs.Targets.{target_by}

-- ---- lookups

lookup_then : {X : Type 0} (name : Name) (some more : List (Name × X))
    → lookup (is_same_name name) (some ++ more) ≡ option_or (lookup (is_same_name name) some) (lookup (is_same_name name) more)
lookup_then name [] more = refl
lookup_then name (one ∷ some) more = by (is_same_name name one.0) (lookup_then name some more)
  where
    by : (b : Bool)
        → lookup (is_same_name name) (some ++ more) ≡ option_or (lookup (is_same_name name) some) (lookup (is_same_name name) more)
        → (if b then Some one.1 else lookup (is_same_name name) (some ++ more))
        ≡ option_or (if b then Some one.1 else lookup (is_same_name name) some) (lookup (is_same_name name) more)
    by true rest = refl
    by false rest = rest

definition_at : ℕ → GlobalLocation → layout.Definition
definition_at index location = record { module_index = index; location = location }

lookup_in_source : (name : Name) (index : ℕ) (globals : List (Name × GlobalLocation))
    → lookup (is_same_name name) (map (in_source index) globals) ≡ option_map (definition_at index) (lookup (is_same_name name) globals)
unfolding definition_at
lookup_in_source name index [] = refl
lookup_in_source name index (one ∷ globals) = by (is_same_name name one.0) (lookup_in_source name index globals)
  where
    by : (b : Bool)
        → lookup (is_same_name name) (map (in_source index) globals) ≡ option_map (definition_at index) (lookup (is_same_name name) globals)
        → (if b then Some (definition_at index one.1) else lookup (is_same_name name) (map (in_source index) globals))
        ≡ option_map (definition_at index) (if b then Some one.1 else lookup (is_same_name name) globals)
    by true rest = refl
    by false rest = rest

-- ---- the location of one source

module _ (table : Table) (name : Name) (definition : Definition) (number : ℕ) (sort : Kind)
    (last : last_definition (Named name) table.definitions ≡ Some definition) (known : definition.standing ≡ Known number sort) where
  abbrev Holds : GlobalLocation → Type 0
  Holds location = (location ≡ location_of number sort) × (section : Name) × (lies_in section sort ≡ true)

  abbrev Good : Name × GlobalLocation → Type 0
  Good entry = is_same_name name entry.0 ≡ true → Holds entry.1

  found_good : (entries : List (Name × GlobalLocation)) (location : GlobalLocation) → AllByRecursion Good entries
      → lookup (is_same_name name) entries ≡ Some location → Holds location
  found_good [] location good e = absurd (true≢false (sym (ap is_some e)))
  found_good (entry ∷ entries) location good e =
      by (is_same_name name entry.0) refl (λ (f : lookup (is_same_name name) entries ≡ Some location). found_good entries location good.1 f)
    where
      Found : Option GlobalLocation → Type 0
      Found (Some other) = Holds other
      Found None = Unit {0}

      by : (b : Bool) → is_same_name name entry.0 ≡ b → (lookup (is_same_name name) entries ≡ Some location → Holds location) → Holds location
      by true f rest =
          let same : Some entry.1 ≡ Some location =
          sym (ap (λ (b : Bool). if b then Some entry.1 else lookup (is_same_name name) entries) f) ∙ e in
          subst Found same (good.0 f)
      by false f rest =
          rest (sym (ap (λ (b : Bool). if b then Some entry.1 else lookup (is_same_name name) entries) f) ∙ e)

  may_add : (section other : Name) (b : Bool) (rest : List (Name × GlobalLocation)) → lies_in section sort ≡ b → AllByRecursion Good rest
      → AllByRecursion Good (cons_option (if b then Some (other, location_of number sort) else None) rest)
  may_add section other true rest e good = (λ _. (refl, section, e), good)
  may_add section other false rest e good = good

  -- a definition of another name doesn't matter for this one
  other_added : (other : Name) → is_same_name name other ≡ false → (section : Name) (found : Option Definition) (rest : List (Name × GlobalLocation))
      → AllByRecursion Good rest → AllByRecursion Good (cons_option (global_by section other found) rest)
  other_added other e section None rest good = good
  other_added other e section (Some one) rest good = by one.standing
    where
      maybe : (b : Bool) (location : GlobalLocation) → AllByRecursion Good (cons_option (if b then Some (other, location) else None) rest)
      maybe true location = (λ f. absurd (true≢false (sym f ∙ e)), good)
      maybe false location = good

      by : (standing : Standing) → AllByRecursion Good (cons_option (global_standing section other standing) rest)
      by (Known value kind) = maybe (lies_in section kind) (location_of value kind)
      by Unknown = good

  one_added : (section other : Name) (same : Bool) → is_same_name name other ≡ same → (rest : List (Name × GlobalLocation)) → AllByRecursion Good rest
      → AllByRecursion Good (cons_option (global_under table section other) rest)
  one_added section other true e rest good =
      let names : name ≡ other = same_name_equal name other e in
      let found : last_definition (Named other) table.definitions ≡ Some definition =
      subst (λ (n : Name). last_definition (Named n) table.definitions ≡ Some definition) names last in
      let under : global_under table section other ≡ global_known section other number sort =
      ap (global_by section other) found ∙ ap (global_standing section other) known in
      subst (λ (o : Option (Name × GlobalLocation)). AllByRecursion Good (cons_option o rest)) (sym under)
      (may_add section other (lies_in section sort) rest refl good)
  one_added section other false e rest good =
      other_added other e section (last_definition (Named other) table.definitions) rest good

  section_good : (section : Name) (names : List Name) → AllByRecursion Good (filter_map (global_under table section) names)
  section_good section [] = tt
  section_good section (other ∷ names) =
      one_added section other (is_same_name name other) refl (filter_map (global_under table section) names) (section_good section names)

  both_good : (some more : List (Name × GlobalLocation)) → AllByRecursion Good some → AllByRecursion Good more → AllByRecursion Good (some ++ more)
  both_good [] more first next = next
  both_good (entry ∷ some) more first next = (first.0, both_good some more first.1 next)

  sections_good : (sections : List Section) → AllByRecursion Good (flat_map (globals_under table) sections)
  sections_good [] = tt
  sections_good (section ∷ sections) =
      both_good (globals_under table section) (flat_map (globals_under table) sections)
      (section_good section.name (ordered table.globals)) (sections_good sections)

  pub location_found : (location : GlobalLocation) → lookup (is_same_name name) (flat_map (globals_under table) table.sections) ≡ Some location → Holds location
  location_found location e = found_good (flat_map (globals_under table) table.sections) location (sections_good table.sections) e

-- ---- among all sources

module _ (name : Name) where
  abbrev look : List (Name × layout.Definition) → Option layout.Definition
  look globals = lookup (is_same_name name) globals

  nothing_first : (one other : Option layout.Definition) → option_or one other ≡ None → (one ≡ None) × (other ≡ None)
  nothing_first None other e = (refl, e)
  nothing_first (Some definition) other e = absurd (true≢false (ap is_some e))

  found_first : (first index : ℕ) (sources : List Source) (source : Source) (location : GlobalLocation) → slice_get sources index ≡ Some source
      → look (flat_map globals_at (enumerate_from first (take index sources))) ≡ None
      → lookup (is_same_name name) (globals_of source.facts) ≡ Some location
      → look (flat_map globals_at (enumerate_from first sources)) ≡ Some (definition_at (first + index) location)
  found_first first index [] source location own none listed = absurd (true≢false (sym (ap is_some own)))
  found_first first zero (here ∷ sources) source location own none listed =
      let at : first ≡ first + 0 = omega arith in
      lookup_then name (globals_at (first, here)) (flat_map globals_at (enumerate_from (first + 1) sources))
      ∙ ap (λ (o : Option layout.Definition). option_or o (look (flat_map globals_at (enumerate_from (first + 1) sources))))
      (lookup_in_source name first (globals_of here.facts)
      ∙ (ap (option_map (definition_at first)) (subst Listed (sym own) listed)
      ∙ ap (λ (i : ℕ). Some (definition_at i location)) at))
    where
      Listed : Option Source → Type 0
      Listed (Some some) = lookup (is_same_name name) (globals_of some.facts) ≡ Some location
      Listed None = Unit {0}
  found_first first (suc index) (here ∷ sources) source location own none listed =
      let both = nothing_first (look (globals_at (first, here))) (look (flat_map globals_at (enumerate_from (first + 1) (take index sources))))
      (sym (lookup_then name (globals_at (first, here)) (flat_map globals_at (enumerate_from (first + 1) (take index sources)))) ∙ none) in
      let at : first + 1 + index ≡ first + suc index = omega arith in
      lookup_then name (globals_at (first, here)) (flat_map globals_at (enumerate_from (first + 1) sources))
      ∙ (ap (λ (o : Option layout.Definition). option_or o (look (flat_map globals_at (enumerate_from (first + 1) sources)))) both.0
      ∙ (found_first (first + 1) index sources source location own both.1 listed
      ∙ ap (λ (i : ℕ). Some (definition_at i location)) at))

  module _ (bottom : ℕ) (sources : List Source) where
    by_kind : (index number : ℕ) (sort : Kind) (section : Name) → lies_in section sort ≡ true
        → address_of bottom sources index (location_of number sort) ≡ target_by (addresses_of bottom sources) index number sort
    unfolding addresses_of
    by_kind index number kind.Absolute section e = refl
    by_kind index number kind.Register section e = refl
    by_kind index number (kind.Section own) section e = refl
    by_kind index number (kind.Reference other) section e = absurd (true≢false (sym e))

    global_is : (index : ℕ) (source : Source) (number : ℕ) (sort : Kind) → DefinesFirst sources index source name → HasValue source name number sort
        → global bottom sources name ≡ target_by (addresses_of bottom sources) index number sort
    unfolding global definition_at
    global_is index source number sort first value =
        let holds = location_found source.facts.table name value.definition number sort value.last value.known first.location first.listed in
        let at : 0 + index ≡ index = omega arith in
        ap (λ (o : Option layout.Definition). unwrap_or (option_map (definition_value bottom sources) o) 0)
        (found_first 0 index sources source first.location first.own first.none_before first.listed
        ∙ ap (λ (i : ℕ). Some (definition_at i first.location)) at)
        ∙ (ap (address_of bottom sources index) holds.0 ∙ by_kind index number sort holds.1 holds.2)

    pub global_lies : (index : ℕ) (source : Source) (number : ℕ) (sort : Kind) → DefinesFirst sources index source name
        → HasValue source name number sort
        → (addresses_of bottom sources).global name ≡ target_by (addresses_of bottom sources) index number sort
    unfolding addresses_of
    global_lies index source number sort first value = global_is index source number sort first value
