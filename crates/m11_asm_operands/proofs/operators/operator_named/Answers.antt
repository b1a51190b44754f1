use Rattle.m11_asm_operands.proofs.NamedOperations.{found_listed}
use Rattle.m11_asm_operands.proofs.operators.operator_named.Goals as goal

pub returns-clause-listed : goal.returns-clause-listed
returns-clause-listed c = found_listed c.args.name.now c.find_operator.result c.find_operator.ensures
