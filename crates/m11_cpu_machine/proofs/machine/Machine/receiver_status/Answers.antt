use Rattle.std.proofs.Common.{refl}
use Rattle.m11_cpu_machine.specs.Access.{receiver_status}
use Rattle.m11_cpu_machine.proofs.Dialogues.{bind_aborts, bind_does, comes_ok, if_not_by, if_so_by, value_does}
use Rattle.m11_cpu_machine.proofs.machine.Machine.receiver_status.Goals as goal

pub returns-then-not-is_waiting-clause-does : goal.returns-then-not-is_waiting-clause-does
unfolding receiver_status
returns-then-not-is_waiting-clause-does g c =
    if_not_by _ _ _ _ _ _ _ c.is_waiting.ensures c.if-not-is_waiting.true (comes_ok _ _ _ _ _ c.status.ensures.bits refl)

pub returns-in_err-receive-clause-does : goal.returns-in_err-receive-clause-does
unfolding receiver_status
returns-in_err-receive-clause-does g c =
    if_so_by _ _ _ _ _ _ _ c.is_waiting.ensures c.if-not-is_waiting.false
    (bind_aborts _ _ _ _ _ _ _ _ c.in_err-receive.ensures c.from_residual.ensures.1)

pub returns-clause-does : goal.returns-clause-does
unfolding receiver_status
returns-clause-does g c =
    if_so_by _ _ _ _ _ _ _ c.is_waiting.ensures c.if-not-is_waiting.false
    (bind_does _ _ _ _ _ _ _ _ _ c.in_ok-receive.ensures
    (value_does _ _ _ _ c.status-2.ensures.bits))
