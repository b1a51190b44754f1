-- Which operations on words or bytes are in the list of instructions. (PDP-11/40 Processor Handbook, "Instruction set".)
use Rattle.std.specs.Prelude.{Bool, true}
use Rattle.m11_base.specs.Encoding.{has_double, has_single}
use Rattle.m11_base.specs.declared.instruction.Op.{Op}
use Rattle.m11_base.specs.declared.instruction.Op.TheVariants as op
use Rattle.m11_asm_rules.specs.declared.operators.Operator.{Operator}
use Rattle.m11_asm_rules.specs.declared.operators.Operator.TheVariants as operators

abbrev pub is_listed : Op → Bool
is_listed (op.Double operation size) = has_double operation size
is_listed (op.Single operation size) = has_single operation size
is_listed _ = true

-- whether an operator is an instruction whose operation is in the list, or a directive
abbrev pub has_listed_operation : Operator → Bool
has_listed_operation (operators.Instruction operation) = is_listed operation
has_listed_operation (operators.Directive directive) = true
