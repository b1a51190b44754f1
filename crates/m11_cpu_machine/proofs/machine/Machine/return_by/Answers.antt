use Rattle.std.proofs.Common.{refl, rules}
use Rattle.m11_cpu_machine.specs.Jumps.{pop, return_by}
use Rattle.m11_cpu_machine.proofs.Dialogues.{at_machine, bind_aborts, bind_does, comes_ok}
use Rattle.m11_cpu_machine.proofs.machine.Machine.return_by.Goals as goal

pub returns : goal.returns
unfolding return_by
returns g c =
    bind_does _ _ _ _ _ _ _ _ _ (at_machine pop _ _ _ _ _ (search rules) c.in_ok-popped.ensures)
    (comes_ok _ _ _ _ _ refl c.set_register-2.ensures)

pub returns-in_err-popped : goal.returns-in_err-popped
unfolding return_by
returns-in_err-popped g c =
    bind_aborts _ _ _ _ _ _ _ _ (at_machine pop _ _ _ _ _ (search rules) c.in_err-popped.ensures) c.from_residual.ensures.1
