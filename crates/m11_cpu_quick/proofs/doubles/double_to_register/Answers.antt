use Rattle.m11_cpu_machine.specs.DoubleOperands.{double}
use Rattle.m11_cpu_quick.proofs.QuickDone.{bind_comes, in_register}
use Rattle.m11_cpu_quick.proofs.doubles.double_to_register.Goals as goal

pub returns-clause-some : goal.returns-clause-some
unfolding double
returns-clause-some c =
    bind_comes _ _ _ _ _ _ _ c.in_ok-value.ensures.some
    (bind_comes _ _ _ _ _ _ _ (in_register _ _ _ c.requires.destination.0)
    (c.double_into_register.ensures.done c.in_ok-value.after))
