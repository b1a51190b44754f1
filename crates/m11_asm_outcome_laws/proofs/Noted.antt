-- The operator of a line uses each name that it defines.
use Rattle.std.proofs.Common.{◌≡◌, ◌∙◌, ℕ, ◌||◌, Bool, true, false, if◌then◌else◌, List, [], ◌∷◌, ◌++◌, Option, Some, None, refl, ap}
use Rattle.std.proofs.lemmas.List.Folds.{list_any-append}
use Rattle.std.specs.List.{list_any}
use Rattle.m11_base.proofs.SameNames.{same_name_itself}
use Rattle.m11_base.specs.Devices.{Bytes}
use Rattle.m11_base.specs.Rad50.{Name, is_same_name}
use Rattle.m11_scan_expressions.specs.Tokens.{Expression}
use Rattle.m11_asm_rules.specs.Assigning as assigning
use Rattle.m11_asm_rules.specs.Changes.{Change, Keeps, Counts, Selects, Assigns, Numbers, Exports, Sets}
use Rattle.m11_asm_rules.specs.Definitions.{first_definitions, is_defined}
use Rattle.m11_asm_rules.specs.declared.definitions.Key.TheVariants.{Named}
use Rattle.m11_asm_rules.specs.Limits.{is_counted, with_uses, with_symbol}
use Rattle.m11_asm_rules.specs.Actions.{Action, Assign, SetCounter, SetNumber}
use Rattle.m11_asm_rules.specs.Lines.{change_of}
use Rattle.m11_asm_rules.specs.SymbolUses.{SymbolUse, action_uses, defined, named, reads}
use Rattle.m11_asm_rules.specs.Locations.{Goes}
use Rattle.m11_asm_rules.specs.Relocations.{is_here}
use Rattle.m11_asm_rules.specs.Tables.{Table}
use Rattle.m11_asm_rules.specs.declared.meanings.Context.TheVariants.{LocalOnly}
use Rattle.m11_scan_expressions.specs.declared.names.Symbol.{Symbol}
use Rattle.m11_scan_expressions.specs.declared.names.Symbol.TheVariants.{Ordinary, Local, Counter}

-- ---- a counted name stays counted, and a used name is counted

stays_by : (is_register is_there is_new : Bool) → (is_register || is_there) ≡ true → (is_register || (is_there || is_new)) ≡ true
stays_by true is_there is_new there = refl
stays_by false true is_new there = refl
stays_by false false is_new there = absurd (cc)

counts_by : (is_register is_there is_new : Bool) → is_new ≡ true → (is_register || (is_there || (is_new || false))) ≡ true
counts_by true is_there is_new same = refl
counts_by false true is_new same = refl
counts_by false false true same = refl
counts_by false false false same = absurd (cc)

module _ (name : Name) where
  counted_with : (names more : List Name) → is_counted name (names ++ more)
      ≡ (is_defined (Named name) first_definitions
      || (list_any (λ other. is_same_name other name) names || list_any (λ other. is_same_name other name) more))
  counted_with names more =
      ap (λ (b : Bool). is_defined (Named name) first_definitions || b) (list_any-append (λ other. is_same_name other name) names more)

  name_stays : (is_known : Bool) (other : Name) (names : List Name) → is_counted name names ≡ true
      → is_counted name (if is_known then names else names ++ other ∷ []) ≡ true
  name_stays true other names there = there
  name_stays false other names there =
      counted_with names (other ∷ [])
      ∙ stays_by (is_defined (Named name) first_definitions) (list_any (λ other. is_same_name other name) names)
      (list_any (λ other. is_same_name other name) (other ∷ [])) there

  symbol_stays : (symbol : Symbol) (names : List Name) → is_counted name names ≡ true → is_counted name (with_symbol symbol names) ≡ true
  symbol_stays (Ordinary other) names there = name_stays (is_counted other names) other names there
  symbol_stays (Local number) names there = there
  symbol_stays Counter names there = there

  pub uses_stay : (some : List SymbolUse) (names : List Name) → is_counted name names ≡ true
      → is_counted name (with_uses some names) ≡ true
  uses_stay [] names there = there
  uses_stay (symbol_use ∷ some) names there =
      uses_stay some (with_symbol symbol_use.symbol names) (symbol_stays symbol_use.symbol names there)

  now_by : (is_known : Bool) (names : List Name) → is_counted name names ≡ is_known
      → is_counted name (if is_known then names else names ++ name ∷ []) ≡ true
  now_by true names there = there
  now_by false names there =
      counted_with names (name ∷ [])
      ∙ counts_by (is_defined (Named name) first_definitions) (list_any (λ other. is_same_name other name) names) (is_same_name name name)
      (same_name_itself name)

  -- the name of the first use is counted
  pub first_counts : (some : List SymbolUse) (names : List Name) → is_counted name (with_uses (named name ∷ some) names) ≡ true
  first_counts some names = uses_stay some (with_symbol (Ordinary name) names) (now_by (is_counted name names) names refl)

-- ---- the name that a change defines is used

abbrev pub IsNoted : List SymbolUse → Change → Type 0
IsNoted some (Assigns name is_global tokens) = (names : List Name) → is_counted name (with_uses some names) ≡ true
IsNoted some (Numbers name number) = (names : List Name) → is_counted name (with_uses some names) ≡ true
IsNoted some Keeps = Unit {0}
IsNoted some (Counts move) = Unit {0}
IsNoted some (Selects name attributes) = Unit {0}
IsNoted some (Exports names) = Unit {0}
IsNoted some (Sets modes) = Unit {0}

module _ (some : List SymbolUse) where
  choice_noted : (choice : Bool) (one other : Change) → IsNoted some one → IsNoted some other
      → IsNoted some (if choice then one else other)
  choice_noted true one other first second = first
  choice_noted false one other first second = second

target_noted : (is_global : Bool) (tokens : Expression) (name : Option Name)
    → IsNoted (defined name ++ reads LocalOnly tokens) (assigning.assignment name is_global tokens)
target_noted is_global tokens (Some name) = λ names. first_counts name (reads LocalOnly tokens) names
target_noted is_global tokens None = tt

pub action_noted : (stood firm : Table) (line : Bytes) (action : Action)
    → IsNoted (action_uses stood line action) (change_of firm line action)
action_noted stood firm line (Assign name is_global tokens) = target_noted is_global tokens name
action_noted stood firm line (SetCounter tokens) =
    let value = assigning.counter_value firm tokens in
    choice_noted (reads LocalOnly tokens) (is_here firm value.kind) (Counts (Goes value.number)) Keeps tt tt
action_noted stood firm line (SetNumber name number) = λ names. first_counts name [] names
action_noted stood firm line other = tt
