-- The code's operands and fields, as the definitions represent them: each expression by its tokens. (MACRO-11 Language Reference Manual,
-- "Addressing modes".)
use Rattle.std.specs.Prelude.{ℕ, ◌*◌, ◌&&◌, not, Bool}
use Rattle.m11_base.specs.Devices.{Bytes}
use Rattle.m11_scan.specs.Cutting.{Lexeme}
use Rattle.m11_scan.specs.Skipped.{skipped_between}
use Rattle.m11_scan.specs.Views.{bits_of}
use Rattle.m11_scan_expressions.specs.Tokens.{Expression, expression_of}
use Rattle.m11_scan_expressions.specs.declared.exprs.Expr.{Expr}
use Rattle.m11_asm_rules.specs.declared.fields.Field.{Field}
use Rattle.m11_asm_rules.specs.declared.fields.Field.TheVariants.{Operand, Register, Target, Number, Missing}
use Rattle.m11_asm_rules.specs.declared.operands.Form.{Form}
use Rattle.m11_asm_rules.specs.declared.operands.Form.TheVariants as form
use Rattle.m11_asm_rules.specs.declared.operands.WrittenOperand.{WrittenOperand}
use Rattle.m11_asm_rules.specs.declared.operands.WrittenOperand.TheVariants.{Absent, Plain, Pointed, Stepped, Before, Indexed, Immediate}
use Rattle.m11_asm_rules.specs.Fields as rules
use Rattle.m11_asm_rules.specs.Operands.{Read, is_open, words_of}
use Rattle.m11_asm_operands.specs.declared.fields.FieldAt.{FieldAt}
use Rattle.m11_asm_operands.specs.declared.fields.Fields.{Fields}
use Rattle.m11_asm_operands.specs.declared.operands.OperandAt.{OperandAt}

abbrev pub written_operand_model : Bytes → WrittenOperand Expr → WrittenOperand Expression
written_operand_model line Absent = Absent
written_operand_model line (Plain is_deferred place) = Plain is_deferred (expression_of line place)
written_operand_model line (Pointed is_deferred register) = Pointed is_deferred (expression_of line register)
written_operand_model line (Stepped is_deferred register) = Stepped is_deferred (expression_of line register)
written_operand_model line (Before is_deferred register) = Before is_deferred (expression_of line register)
written_operand_model line (Indexed is_deferred index register) = Indexed is_deferred (expression_of line index) (expression_of line register)
written_operand_model line (Immediate is_deferred number) = Immediate is_deferred (expression_of line number)

abbrev pub operand_at_model : Bytes → OperandAt → Read
operand_at_model line read = record { operand = written_operand_model line read.operand; end = read.end; flags = bits_of read.flags }

abbrev pub form_model : Bytes → Form Expr → Form Expression
form_model line form.Absent = form.Absent
form_model line (form.InRegister kind register) = form.InRegister kind (expression_of line register)
form_model line (form.Indexed kind register index) = form.Indexed kind (expression_of line register) (expression_of line index)
form_model line (form.Unindexed register) = form.Unindexed (expression_of line register)
form_model line (form.AfterCounter kind number) = form.AfterCounter kind (expression_of line number)

abbrev pub field_model : Bytes → Field Expr → Field Expression
field_model line (Operand form) = Operand (form_model line form)
field_model line (Register register) = Register (expression_of line register)
field_model line (Target target) = Target (expression_of line target)
field_model line (Number number) = Number (expression_of line number)
field_model line Missing = Missing

abbrev pub field_at_model : Bytes → FieldAt → rules.FieldAt
field_at_model line read = record { field = field_model line read.field; end = read.end; flags = bits_of read.flags }

abbrev pub fields_model : Bytes → Fields → rules.Fields
fields_model line fields = record {
  first = field_model line fields.first;
  second = field_model line fields.second;
  end = fields.end;
  flags = bits_of fields.flags;
}

-- whether a token after a column is a `(`, with no skipped character between them
abbrev pub opens_after : Bytes → ℕ → Lexeme → Bool
opens_after line column token = is_open token.sort && not (skipped_between line column token.start)

-- the number of bytes that a field has after the code word
abbrev pub bytes_in : {E : Type 0} → Field E → ℕ
bytes_in (Operand form) = words_of form * 2
bytes_in field = 0
