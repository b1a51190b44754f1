use Rattle.m11_cpu_quick.proofs.StepsMade.{decoded_return_from_trap}
use Rattle.m11_cpu_quick.proofs.rarer.rarer_bare.Goals as goal

pub returns-in_ok-target-in-Rti-clause-some : goal.returns-in_ok-target-in-Rti-clause-some
returns-in_ok-target-in-Rti-clause-some c =
    decoded_return_from_trap c.args.code.word _ _ (rw c.in-Rti.is at c.requires) c.in_ok-target-in-Rti.ensures.some
