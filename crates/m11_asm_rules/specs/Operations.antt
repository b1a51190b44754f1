-- How the text after the labels of a line is read. (MACRO-11 Language Reference Manual, "Operator field", ".WORD directive", ".LIMIT
-- directive", ".EVEN directive", ".ODD directive" and "General assembler directives". This project's own: a line handled by unfolding
-- does nothing more, and `.SBTTL` and `.PAGE` do nothing.)
use Rattle.std.specs.Prelude.{ℕ, Bool, true, false, if◌then◌else◌, Option, Some, None}
use Rattle.m11_base.specs.Devices.{Bytes}
use Rattle.m11_base.specs.NameCharacters.{six_of}
use Rattle.m11_scan.specs.Cutting.{text_between}
use Rattle.m11_scan_expressions.specs.LeftOvers.{left_over}
use Rattle.m11_scan_expressions.specs.Tokens.{expression}
use Rattle.m11_scan_statements.specs.Statements.{body_of}
use Rattle.m11_scan_statements.specs.declared.bodies.Body.{Body}
use Rattle.m11_scan_statements.specs.declared.bodies.Body.TheVariants as body
use Rattle.m11_asm_rules.specs.Actions.{Action, AlignTo, Assign, LimitWords, NoAction, Operate, Operation, SetCounter, Store, does}
use Rattle.m11_asm_rules.specs.Assigning.{after_expression, target}
use Rattle.m11_asm_rules.specs.Control as control
use Rattle.m11_asm_rules.specs.Counts as counts
use Rattle.m11_asm_rules.specs.Exports as exports
use Rattle.m11_asm_rules.specs.Operators.{operator_named}
use Rattle.m11_asm_rules.specs.Psects as sections
use Rattle.m11_asm_rules.specs.Storage as storage
use Rattle.m11_asm_rules.specs.Strings as strings
use Rattle.m11_asm_rules.specs.declared.operators.Directive.{Directive}
use Rattle.m11_asm_rules.specs.declared.operators.Directive.TheVariants as word
use Rattle.m11_asm_rules.specs.declared.operators.Operator.TheVariants as operators

-- the operation of a directive whose name ends at a column; `arguments` is the number of actuals of the innermost macro call around its
-- line, None if there is no such call
abbrev pub directive : Option ℕ → Bytes → ℕ → Directive → Operation
directive arguments line start word.Word = storage.words line start
directive arguments line start word.Byte = storage.bytes line start
directive arguments line start word.Ascii = strings.text false line start
directive arguments line start word.Asciz = strings.text true line start
directive arguments line start word.Rad50 = strings.rad50 line start
directive arguments line start word.Blkb = storage.room 1 line start
directive arguments line start word.Blkw = storage.room 2 line start
directive arguments line start word.Even = does (Store (AlignTo true)) (left_over line start)
directive arguments line start word.Odd = does (Store (AlignTo false)) (left_over line start)
directive arguments line start word.Limit = does (Store LimitWords) (left_over line start)
directive arguments line start word.Radix = control.radix line start
directive arguments line start word.Asect = sections.asect line start
directive arguments line start word.Csect = sections.csect line start
directive arguments line start word.Psect = sections.psect line start
directive arguments line start word.Globl = exports.exported false line start
directive arguments line start word.Weak = exports.exported true line start
directive arguments line start word.Title = exports.title line start
directive arguments line start word.Ident = exports.ident line start
directive arguments line start word.Sbttl = does NoAction 0
directive arguments line start word.Page = does NoAction (left_over line start)
directive arguments line start word.List = control.listing true line start
directive arguments line start word.Nlist = control.listing false line start
directive arguments line start word.Enabl = control.enabl line start
directive arguments line start word.Dsabl = control.dsabl line start
directive arguments line start word.Narg = counts.narg arguments line start
directive arguments line start word.Nchr = counts.nchr line start
directive arguments line start word.End = exports.ending line start

-- what the text after the labels does; a text that isn't an assignment and doesn't begin with a known operator is read as the arguments of
-- `.WORD`, and an empty text does nothing
abbrev pub operation_of : Option ℕ → Bytes → Body → Operation
operation_of arguments line body.Nothing = does NoAction 0
operation_of arguments line (body.Assign made) =
    does (Assign (target line made.name) made.is_global (expression line made.value)) (after_expression line made.value)
operation_of arguments line (body.SetCounter value) = does (SetCounter (expression line value)) (after_expression line value)
operation_of arguments line (body.Operate name) = elim (operator_named (six_of (text_between line name.start name.end))) [
  | Some (operators.Directive found) ↦ directive arguments line name.end found
  | Some (operators.Instruction operation) ↦ does (Operate operation name.end) 0
  | None ↦ storage.words line name.start
]
operation_of arguments line (body.Words start) = storage.words line start

-- what a line does after its labels: nothing, if it is a macro call or has an operator that unfolding has handled
abbrev pub operation : Bool → Option ℕ → Bytes → Operation
operation is_own arguments line = if is_own then does NoAction 0 else operation_of arguments line (body_of line)

abbrev pub action : Bool → Option ℕ → Bytes → Action
action is_own arguments line = (operation is_own arguments line).action
