use Rattle.m11_cpu_quick.proofs.StepsMade.{call_acts}
use Rattle.m11_cpu_quick.proofs.arms.call_to.Goals as goal

pub returns-clause-some : goal.returns-clause-some
returns-clause-some c =
    call_acts _ _ _ c.requires.operation_is c.requires.counter (rw c.of_bits-operand.ensures at c.in_ok-target.ensures.some)
