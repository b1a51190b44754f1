-- The body of a line: what follows its labels. (MACRO-11 Language Reference Manual, "Operator field", "Direct assignment statements" and
-- ".WORD directive". That there is no `.==`, and that a body that doesn't begin with a name counts as words, are this project's own
-- choices. Here a name in the operator field needn't be the name of an operator.)
use Rattle.std.specs.Prelude.{ℕ, Bool, true, false, ◌||◌, ◌==◌, if◌then◌else◌, List, [], ◌∷◌, drop, Option, Some, None, unwrap_or}
use Rattle.std.specs.List.{prefix_len}
use Rattle.m11_base.specs.Devices.{Bytes}
use Rattle.m11_base.specs.NameCharacters.{is_name_character}
use Rattle.m11_scan.specs.Classes.{is_blank}
use Rattle.m11_scan.specs.declared.sort.Sort.{Sort}
use Rattle.m11_scan.specs.declared.sort.Sort.TheVariants as sorts
use Rattle.m11_scan.specs.Cutting.{Lexeme}
use Rattle.m11_scan.specs.Skipped.{skipped_between}
use Rattle.m11_scan_statements.specs.Labels.{is_counter}
use Rattle.m11_scan_statements.specs.Listed.{is_name, span_of}
use Rattle.m11_scan_statements.specs.declared.bodies.Body.{Body}
use Rattle.m11_scan_statements.specs.declared.bodies.Body.TheVariants.{Nothing, Assign, SetCounter, Operate, Words}

-- the assignment to `target`, a token of the first sort, by a token of the second sort after it; none if these make no assignment.
-- `=` assigns to the location counter, and `=` or `==` to any other name. The assigned value begins at column `value`
abbrev pub set_by : Sort → Sort → Lexeme → ℕ → Option Body
set_by sorts.Name sorts.Equals target value =
    if is_counter target.text then Some (SetCounter value)
    else Some (Assign (record { name = span_of target; is_global = false; value = value }))
set_by sorts.Name sorts.TwoEquals target value =
    if is_counter target.text then None
    else Some (Assign (record { name = span_of target; is_global = true; value = value }))
set_by _ _ target value = None

-- the assignment by the token after `target`, as `set_by` yields it, if only blanks and tabs are between the two
abbrev pub assignment_to : Bytes → Lexeme → List Lexeme → Option Body
assignment_to line target [] = None
assignment_to line target (equals ∷ tokens) =
    if skipped_between line target.end equals.start then None else set_by target.sort equals.sort target equals.end

-- whether a character begins a name, a number, or an operand with `#`, `@`, `(` or `-`
abbrev pub is_operand_start : ℕ → Bool
is_operand_start byte = is_name_character byte || (byte == 0o43 || (byte == 0o100 || (byte == 0o50 || byte == 0o55)))

abbrev pub begins_or_ends : Bytes → Bool
begins_or_ends [] = true
begins_or_ends (byte ∷ text) = is_operand_start byte

-- whether a text, after its leading blanks and tabs, ends or goes on with a character for which `is_operand_start` is true
abbrev pub begins_operand : Bytes → Bool
begins_operand text = begins_or_ends (drop (prefix_len is_blank text) text)

-- an operator if the token is a name other than `.`, otherwise words
abbrev pub operation : Lexeme → Body
operation token = if is_name token then Operate (span_of token) else Words token.start

-- the body that these tokens of a line form: an assignment, or else an operator or words; nothing without tokens
abbrev pub body_in : Bytes → List Lexeme → Body
body_in line [] = Nothing
body_in line (first ∷ tokens) = unwrap_or (assignment_to line first tokens) (operation first)
