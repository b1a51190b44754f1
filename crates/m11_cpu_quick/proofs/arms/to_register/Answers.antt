use Rattle.m11_cpu_quick.proofs.StepsMade.{double_acts}
use Rattle.m11_cpu_quick.proofs.arms.to_register.Goals as goal

pub returns-clause-some : goal.returns-clause-some
returns-clause-some c = double_acts _ _ _ _ _ c.requires.operation_is (rw (c.of_bits-from.ensures, c.of_bits-to.ensures) at c.in_ok-after.ensures.some)
