use Rattle.std.proofs.Common.{refl, rules}
use Rattle.m11_cpu_machine.specs.Execution.{return_from_trap}
use Rattle.m11_cpu_machine.specs.Jumps.{pop}
use Rattle.m11_cpu_machine.proofs.Dialogues.{at_machine, bind_aborts, bind_does, comes_ok}
use Rattle.m11_cpu_machine.proofs.machine.Machine.return_from_trap.Goals as goal

pub returns : goal.returns
unfolding return_from_trap
returns g c =
    bind_does _ _ _ _ _ _ _ _ _ c.in_ok-address.ensures
    (bind_does _ _ _ _ _ _ _ _ _ (at_machine pop _ _ _ _ _ c.set_register.ensures c.in_ok-status.ensures)
    (comes_ok _ _ _ _ _ refl (search rules)))

pub returns-in_err-address : goal.returns-in_err-address
unfolding return_from_trap
returns-in_err-address g c =
    bind_aborts _ _ _ _ _ _ _ _ c.in_err-address.ensures c.from_residual.ensures.1

pub returns-in_err-status : goal.returns-in_err-status
unfolding return_from_trap
returns-in_err-status g c =
    bind_does _ _ _ _ _ _ _ _ _ c.in_ok-address.ensures
    (bind_aborts _ _ _ _ _ _ _ _ (at_machine pop _ _ _ _ _ c.set_register.ensures c.in_err-status.ensures) c.from_residual-in_err-status.ensures.1)
