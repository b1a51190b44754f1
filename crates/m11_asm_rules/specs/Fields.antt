-- The fields of instructions, as written. (PDP-11/40 Processor Handbook, "Instruction set"; MACRO-11 Language Reference Manual,
-- "Operand field". This project's own: a missing register counts as R0, and a missing target as the offset 0, both flagged A; and a
-- missing number counts as 0.)
use Rattle.std.specs.Prelude.{ℕ, if◌then◌else◌, List, [], ◌∷◌, Some, None}
use Rattle.std.specs.Int.RustNames.{bit_or}
use Rattle.m11_scan_expressions.specs.Expressions.{KnownSymbols}
use Rattle.m11_scan_expressions.specs.Tokens.{Expression, expression, is_empty}
use Rattle.m11_base.specs.Devices.{Bytes}
use Rattle.m11_base.specs.declared.instruction.Op.{Op}
use Rattle.m11_base.specs.declared.instruction.Op.TheVariants as op
use Rattle.m11_scan.specs.Ends.{expression_end}
use Rattle.m11_scan.specs.ErrorFlags.{flag_A}
use Rattle.m11_unfold_rules.specs.Immediate.{column_after_comma}
use Rattle.m11_asm_rules.specs.declared.fields.Field.{Field}
use Rattle.m11_asm_rules.specs.declared.fields.Field.TheVariants as content
use Rattle.m11_asm_rules.specs.declared.fields.FieldKind.{FieldKind}
use Rattle.m11_asm_rules.specs.declared.fields.FieldKind.TheVariants.{Operand, Register, Target, Number, NoField}
use Rattle.m11_asm_rules.specs.declared.operands.Form.{Form}
use Rattle.m11_asm_rules.specs.declared.operands.Form.TheVariants.{Absent}
use Rattle.m11_asm_rules.specs.Operands.{form_of, operand_at}

-- ---- the kinds of the fields of an instruction, in the order in which they are written: at most two

abbrev pub first_kind : Op → FieldKind
first_kind (op.Double operation size) = Operand
first_kind (op.Extended operation) = Operand
first_kind (op.Register operation) = Register
first_kind op.Sob = Register
first_kind (op.Single operation size) = Operand
first_kind op.Rts = Register
first_kind (op.Number operation) = Number
first_kind (op.Branch operation) = Target
first_kind op.Call = Operand
first_kind operation = NoField

abbrev pub second_kind : Op → FieldKind
second_kind (op.Double operation size) = Operand
second_kind (op.Extended operation) = Register
second_kind (op.Register operation) = Operand
second_kind op.Sob = Target
second_kind operation = NoField

-- ---- one field, and then both fields of an instruction

-- a field, the column after it, and its flags
pub record FieldAt : Type 0 where
  pub field : Field Expression
  pub end : ℕ
  pub flags : ℕ

abbrev pub field_read : Field Expression → ℕ → ℕ → FieldAt
field_read field end flags = record { field = field; end = end; flags = flags }

-- a field with the expression at a column; if there is none, a missing field with these flags
abbrev pub expression_read : (Expression → Field Expression) → ℕ → Bytes → ℕ → FieldAt
expression_read field flags line start =
    if is_empty (expression line start) then field_read content.Missing start flags
    else field_read (field (expression line start)) (expression_end line start) 0

abbrev pub field_at : KnownSymbols → Bytes → ℕ → FieldKind → FieldAt
field_at firm line start Operand =
    let read = operand_at line start in field_read (content.Operand (form_of firm read.operand)) read.end read.flags
field_at firm line start Register = expression_read content.Register flag_A line start
field_at firm line start Target = expression_read content.Target flag_A line start
field_at firm line start Number = expression_read content.Number 0 line start
field_at firm line start NoField = field_read content.Missing start 0

-- a field that is missing, since there is no comma before it, with A for an operand, a register or a target
abbrev pub missing_field : ℕ → FieldKind → FieldAt
missing_field end Operand = field_read (content.Operand Absent) end flag_A
missing_field end Register = field_read content.Missing end flag_A
missing_field end Target = field_read content.Missing end flag_A
missing_field end kind = field_read content.Missing end 0

-- the second field, which comes after a comma; without a comma it is missing
abbrev pub field_after : KnownSymbols → Bytes → ℕ → FieldKind → FieldAt
field_after firm line end NoField = missing_field end NoField
field_after firm line end kind =
    elim (column_after_comma line end) [ Some next ↦ field_at firm line next kind | None ↦ missing_field end kind ]

-- both fields, the column after them, and their flags
pub record Fields : Type 0 where
  pub first : Field Expression
  pub second : Field Expression
  pub end : ℕ
  pub flags : ℕ

abbrev pub no_fields : ℕ → Fields
no_fields column = record { first = content.Missing; second = content.Missing; end = column; flags = 0 }

-- the fields of an operation, which begin at a column of its line; the forms of operands depend on firm names
abbrev pub fields_at : KnownSymbols → Bytes → ℕ → Op → Fields
fields_at firm line start operation =
    let first = field_at firm line start (first_kind operation) in
    let second = field_after firm line first.end (second_kind operation) in
    record { first = first.field; second = second.field; end = second.end; flags = bit_or first.flags second.flags }

-- a list of forms, preceded by the form of a field if the field is an operand
abbrev pub with_form : {E : Type 0} → Field E → List (Form E) → List (Form E)
with_form (content.Operand form) forms = form ∷ forms
with_form field forms = forms

-- the forms of the operands among the fields
abbrev pub forms_of : Fields → List (Form Expression)
forms_of fields = with_form fields.first (with_form fields.second [])
