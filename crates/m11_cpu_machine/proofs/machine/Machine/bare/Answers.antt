use Rattle.std.proofs.Common.{refl}
use Rattle.m11_cpu_machine.specs.Execution.{bare}
use Rattle.m11_cpu_machine.proofs.Dialogues.{act_by, bind_aborts, bind_does, comes, comes_ok}
use Rattle.m11_cpu_machine.proofs.machine.Machine.bare.Goals as goal

pub returns-in-Halt : goal.returns-in-Halt
unfolding bare
returns-in-Halt g c =
    act_by bare _ _ _ _ _ _ c.in-Halt.is (comes _ _ _ refl)

pub returns-in-Wait : goal.returns-in-Wait
unfolding bare
returns-in-Wait g c =
    act_by bare _ _ _ _ _ _ c.in-Wait.is (comes _ _ _ refl)

pub returns-in-Bpt : goal.returns-in-Bpt
unfolding bare
returns-in-Bpt g c =
    act_by bare _ _ _ _ _ _ c.in-Bpt.is (comes _ _ _ refl)

pub returns-in-Iot : goal.returns-in-Iot
unfolding bare
returns-in-Iot g c =
    act_by bare _ _ _ _ _ _ c.in-Iot.is (comes _ _ _ refl)

pub returns-in-Reset : goal.returns-in-Reset
unfolding bare
returns-in-Reset g c =
    act_by bare _ _ _ _ _ _ c.in-Reset.is (comes_ok _ _ _ _ _ refl c.reset.ensures)

pub returns-in_ok-return_from_trap-in-Rti : goal.returns-in_ok-return_from_trap-in-Rti
unfolding bare
returns-in_ok-return_from_trap-in-Rti g c =
    act_by bare _ _ _ _ _ _ c.in-Rti.is
    (bind_does _ _ _ _ _ _ _ _ _ c.in_ok-return_from_trap-in-Rti.ensures
    (comes _ _ _ refl))

pub returns-in_err-return_from_trap-in-Rti : goal.returns-in_err-return_from_trap-in-Rti
unfolding bare
returns-in_err-return_from_trap-in-Rti g c =
    act_by bare _ _ _ _ _ _ c.in-Rti.is
    (bind_aborts _ _ _ _ _ _ _ _ c.in_err-return_from_trap-in-Rti.ensures c.from_residual.ensures.1)

pub returns-in_ok-return_from_trap-in-Rtt : goal.returns-in_ok-return_from_trap-in-Rtt
unfolding bare
returns-in_ok-return_from_trap-in-Rtt g c =
    act_by bare _ _ _ _ _ _ c.in-Rtt.is
    (bind_does _ _ _ _ _ _ _ _ _ c.in_ok-return_from_trap-in-Rtt.ensures
    (comes _ _ _ refl))

pub returns-in_err-return_from_trap-in-Rtt : goal.returns-in_err-return_from_trap-in-Rtt
unfolding bare
returns-in_err-return_from_trap-in-Rtt g c =
    act_by bare _ _ _ _ _ _ c.in-Rtt.is
    (bind_aborts _ _ _ _ _ _ _ _ c.in_err-return_from_trap-in-Rtt.ensures c.from_residual-in_err-return_from_trap-in-Rtt.ensures.1)
