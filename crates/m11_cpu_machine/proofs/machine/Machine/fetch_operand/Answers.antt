use Rattle.m11_cpu_machine.specs.Addressing.{fetch_operand}
use Rattle.m11_cpu_machine.proofs.Dialogues.{bind_aborts, bind_does}
use Rattle.m11_cpu_machine.proofs.machine.Machine.fetch_operand.Goals as goal

pub returns-clause-does : goal.returns-clause-does
unfolding fetch_operand
returns-clause-does g c =
    bind_does _ _ _ _ _ _ _ _ _ c.in_ok-location.ensures
    c.fetch.ensures.does

pub returns-in_err-location-clause-does : goal.returns-in_err-location-clause-does
unfolding fetch_operand
returns-in_err-location-clause-does g c =
    bind_aborts _ _ _ _ _ _ _ _ c.in_err-location.ensures c.from_residual.ensures.1
