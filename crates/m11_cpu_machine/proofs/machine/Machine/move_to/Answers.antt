use Rattle.std.proofs.Common.{refl, rules}
use Rattle.m11_cpu_machine.specs.DoubleOperands.{move_to}
use Rattle.m11_cpu_machine.proofs.Dialogues.{bind_aborts, bind_does, comes_ok}
use Rattle.m11_cpu_machine.proofs.machine.Machine.move_to.Goals as goal

pub returns : goal.returns
unfolding move_to
returns g c =
    bind_does _ _ _ _ _ _ _ _ _ c.in_ok-store_moved.ensures
    (comes_ok _ _ _ _ _ refl (search rules))

pub returns-in_err-store_moved : goal.returns-in_err-store_moved
unfolding move_to
returns-in_err-store_moved g c =
    bind_aborts _ _ _ _ _ _ _ _ c.in_err-store_moved.ensures c.from_residual.ensures.1
