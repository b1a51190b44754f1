use Rattle.m11_cpu_quick.proofs.StepsMade.{return_acts}
use Rattle.m11_cpu_quick.proofs.arms.return_to.Goals as goal

pub returns-clause-some : goal.returns-clause-some
returns-clause-some c =
    return_acts _ _ _ c.requires.operation_is c.requires.counter c.in_ok-target.ensures.some
