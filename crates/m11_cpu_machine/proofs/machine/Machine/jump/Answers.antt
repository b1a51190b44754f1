use Rattle.std.proofs.Common.{refl}
use Rattle.m11_cpu_machine.specs.Jumps.{jump}
use Rattle.m11_cpu_machine.proofs.Dialogues.{bind_aborts, bind_does, comes_ok}
use Rattle.m11_cpu_machine.proofs.machine.Machine.jump.Goals as goal

pub returns : goal.returns
unfolding jump
returns g c =
    bind_does _ _ _ _ _ _ _ _ _ c.in_ok-target.ensures
    (comes_ok _ _ _ _ _ refl c.set_register.ensures)

pub returns-in_err-target : goal.returns-in_err-target
unfolding jump
returns-in_err-target g c =
    bind_aborts _ _ _ _ _ _ _ _ c.in_err-target.ensures c.from_residual.ensures.1
