use Rattle.m11_cpu_quick.proofs.StepsMade.{jump_acts}
use Rattle.m11_cpu_quick.proofs.arms.jump_to.Goals as goal

pub returns-clause-some : goal.returns-clause-some
returns-clause-some c = jump_acts _ _ _ c.requires.operation_is (rw c.of_bits-operand.ensures at c.in_ok-target.ensures.some)
