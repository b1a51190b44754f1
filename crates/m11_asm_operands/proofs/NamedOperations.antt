-- Each operation with a name is listed.
use Rattle.std.proofs.Common.{◌≡◌, ℕ, Bool, true, false, List, [], ◌∷◌, Option, Some, None, find, refl, subst, sym}
use Rattle.std.proofs.lemmas.Bool.{and_parts}
use Rattle.std.specs.List.{list_all}
use Rattle.std.specs.Prelude.{if◌then◌else◌, IfSome, IsTrue, option_map}
use Rattle.std.specs.Str.{bytes_eq}
use Rattle.m11_base.specs.Instructions.{operation_in, other_names, rows}
use Rattle.m11_base.specs.Mnemonics.{named_in, or_else}
use Rattle.m11_base.specs.declared.instruction.Op.{Op}
use Rattle.m11_base.specs.declared.instruction_list.Row.{Row}
use Rattle.m11_asm_rules.specs.Operators.{directive_rows, operator_named}
use Rattle.m11_asm_rules.specs.declared.operators.DirectiveRow.{DirectiveRow}
use Rattle.m11_asm_rules.specs.declared.operators.Operator.{Operator}
use Rattle.m11_asm_rules.specs.declared.operators.Operator.TheVariants as operators
use Rattle.m11_asm_operands.proofs.Naming.{directive_or}
use Rattle.m11_asm_operands.specs.ListedOperations.{has_listed_operation, is_listed}

abbrev IsListed : Option Op → Type 0
IsListed found = IfSome found (λ operation. IsTrue (is_listed operation))

abbrev pub HasListed : Option Operator → Type 0
HasListed found = IfSome found (λ operator. IsTrue (has_listed_operation operator))

abbrev has_listed_row : Row → Bool
has_listed_row row = is_listed row.operation

first_or : (is_this : Bool) (row : Row) (found : Option Row) → has_listed_row row ≡ true → IsListed (operation_in found)
    → IsListed (operation_in (if is_this then Some row else found))
first_or true row found listed others = listed
first_or false row found listed others = others

listed_in : (test : Row → Bool) (list : List Row) → list_all has_listed_row list ≡ true → IsListed (operation_in (find test list))
listed_in test [] all = tt
listed_in test (row ∷ list) all =
    let parts = and_parts (has_listed_row row) (list_all has_listed_row list) all in
    first_or (test row) row (find test list) parts.0 (listed_in test list parts.1)

rows_listed : list_all has_listed_row rows ≡ true
unfolding rows
rows_listed = refl

other_names_listed : list_all has_listed_row other_names ≡ true
unfolding other_names
other_names_listed = refl

listed_or : (found other : Option Op) → IsListed found → IsListed other → IsListed (or_else found other)
listed_or (Some operation) other first second = first
listed_or None other first second = second

instruction_listed : (found : Option Op) → IsListed found → HasListed (option_map operators.Instruction found)
instruction_listed (Some operation) listed = listed
instruction_listed None listed = tt

directive_listed : (found : Option DirectiveRow) (other : Option Operator) → HasListed other → HasListed (directive_or found other)
directive_listed (Some row) other listed = refl
directive_listed None other listed = listed

named_listed : (name : List ℕ) → HasListed (operator_named name)
named_listed name =
    directive_listed (find (λ row. bytes_eq row.name name) directive_rows) _
    (instruction_listed (or_else (named_in rows name) (named_in other_names name))
    (listed_or (named_in rows name) (named_in other_names name) (listed_in _ rows rows_listed)
    (listed_in _ other_names other_names_listed)))

pub found_listed : (name : List ℕ) (found : Option Operator) → found ≡ operator_named name → HasListed found
found_listed name found is = subst HasListed (sym is) (named_listed name)
