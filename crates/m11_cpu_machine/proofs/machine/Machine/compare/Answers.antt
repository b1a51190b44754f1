use Rattle.std.proofs.Common.{refl, rules}
use Rattle.m11_cpu_machine.specs.DoubleOperands.{compare}
use Rattle.m11_cpu_machine.proofs.Dialogues.{bind_aborts, bind_does, comes_ok}
use Rattle.m11_cpu_machine.proofs.machine.Machine.compare.Goals as goal

pub returns : goal.returns
unfolding compare
returns g c =
    bind_does _ _ _ _ _ _ _ _ _ c.in_ok-destination.ensures.does
    (comes_ok _ _ _ _ _ refl (search rules))

pub returns-in_err-destination : goal.returns-in_err-destination
unfolding compare
returns-in_err-destination g c =
    bind_aborts _ _ _ _ _ _ _ _ c.in_err-destination.ensures.does c.from_residual.ensures.1
