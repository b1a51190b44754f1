-- The values that the code of an instruction needs: those of its registers, targets and numbers. (PDP-11/40 Processor Handbook,
-- "Instruction set" and "Addressing modes".)
use Rattle.m11_scan_expressions.specs.Expressions.{value}
use Rattle.m11_scan_expressions.specs.Tokens.{Expression}
use Rattle.m11_asm_rules.specs.Codes.{LineContext}
use Rattle.m11_asm_rules.specs.declared.fields.Field.{Field}
use Rattle.m11_asm_rules.specs.declared.fields.Field.TheVariants.{Operand, Register, Target, Number, Missing}
use Rattle.m11_asm_rules.specs.declared.operands.Form.{Form}
use Rattle.m11_asm_rules.specs.declared.operands.Form.TheVariants.{Absent, InRegister, Indexed, Unindexed, AfterCounter}
use Rattle.m11_scan_expressions.specs.Quantities.{Quantity, absolute}

-- the value of a field from which the instruction's code needs no register, target or number: 0
abbrev pub no_value : Quantity
no_value = absolute 0 0

-- the value of the register of a form, or 0 if the form has none
abbrev pub form_value : LineContext → Form Expression → Quantity
form_value line_context Absent = no_value
form_value line_context (InRegister kind register) = value line_context.known register
form_value line_context (Indexed kind register index) = value line_context.known register
form_value line_context (Unindexed register) = value line_context.known register
form_value line_context (AfterCounter kind number) = no_value

abbrev pub field_value : LineContext → Field Expression → Quantity
field_value line_context (Operand form) = form_value line_context form
field_value line_context (Register register) = value line_context.known register
field_value line_context (Target target) = value line_context.known target
field_value line_context (Number number) = value line_context.known number
field_value line_context Missing = no_value
