use Rattle.m11_cpu_quick.proofs.StepsMade.{single_acts}
use Rattle.m11_cpu_quick.proofs.arms.on_one.Goals as goal

pub returns-clause-some : goal.returns-clause-some
returns-clause-some c = single_acts _ _ _ _ _ c.requires.operation_is (rw c.of_bits-operand.ensures at c.in_ok-after.ensures.some)
