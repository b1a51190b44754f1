-- A name has `G` if a line makes it global, or if lines refer to it and none defines it.
use Rattle.std.proofs.Common.{◌≡◌, ◌∙◌, ◌&&◌, ◌||◌, Bool, true, false, List, ◌++◌, filter, Option, Some, None, refl, ap}
use Rattle.std.specs.Prelude.{is_none}
use Rattle.std.proofs.lemmas.List.Folds.{list_any-append}
use Rattle.std.proofs.lemmas.Map.Views.{any-filter_same}
use Rattle.m11_base.specs.Rad50.{Name, is_same_name}
use Rattle.m11_base.proofs.SameNames.{same_name_equal}
use Rattle.m11_asm_directory.specs.FirstPass.{DirectoryFacts}
use Rattle.m11_asm_directory.specs.Laws.{AreInOrder}
use Rattle.m11_asm_directory.specs.Names.{has_name, ordered}
use Rattle.m11_asm_directory.specs.References.{is_open}
use Rattle.m11_asm_rules.specs.Assigning.{is_unknown_as}
use Rattle.m11_asm_rules.specs.declared.definitions.Definition.{Definition}
use Rattle.m11_asm.specs.Symbols.{definition_of, is_global, is_needed}

undefined : (global referred : Bool) → (global || (true && (referred || global))) ≡ (global || (referred && true))
undefined true referred = refl
undefined false true = refl
undefined false false = refl

defined : (unknown global referred : Bool) → (global || ((unknown && global) && (referred || global))) ≡ (global || (referred && false))
defined unknown true referred = refl
defined true false true = refl
defined true false false = refl
defined false false true = refl
defined false false false = refl

module _ (facts : DirectoryFacts) (name : Name) where
  -- whether the name is open, by its last definition
  abbrev open_by : Option Definition → Bool
  open_by found = elim found [
    | None ↦ true
    | Some definition ↦ is_unknown_as definition.standing && has_name name facts.table.globals
  ]

  by_found : (definition : Option Definition)
      → (has_name name facts.table.globals
      || (open_by definition && (has_name name facts.referred || has_name name facts.table.globals)))
      ≡ (has_name name facts.table.globals || (has_name name facts.referred && is_none definition))
  by_found None = undefined (has_name name facts.table.globals) (has_name name facts.referred)
  by_found (Some definition) =
      defined (is_unknown_as definition.standing) (has_name name facts.table.globals) (has_name name facts.referred)

  has_open : has_name name (filter (is_open facts.table) (facts.referred ++ facts.table.globals))
      ≡ (is_open facts.table name && (has_name name facts.referred || has_name name facts.table.globals))
  has_open =
      any-filter_same (λ (other : Name). is_same_name other name) (is_open facts.table) (is_open facts.table name)
      (λ other e. ap (is_open facts.table) (same_name_equal other name e)) (facts.referred ++ facts.table.globals)
      ∙ ap (λ (b : Bool). is_open facts.table name && b)
      (list_any-append (λ (other : Name). is_same_name other name) facts.referred facts.table.globals)

  pub global_or_needed : ((names : List Name) → AreInOrder (ordered names) names)
      → is_global facts name ≡ (has_name name facts.table.globals || is_needed facts name)
  global_or_needed in_order =
      ap (λ (b : Bool). has_name name facts.table.globals || b)
      ((in_order (filter (is_open facts.table) (facts.referred ++ facts.table.globals))).same name ∙ has_open)
      ∙ by_found (definition_of facts name)
