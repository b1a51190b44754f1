use Rattle.std.proofs.Common.{refl}
use Rattle.m11_cpu_machine.specs.Jumps.{address_of, target}
use Rattle.m11_cpu_machine.proofs.Dialogues.{act_by, bind_aborts, bind_does, comes}
use Rattle.m11_cpu_machine.proofs.machine.Machine.target.Goals as goal

pub returns-in-InRegister : goal.returns-in-InRegister
unfolding target
returns-in-InRegister g c =
    bind_does _ _ _ _ _ _ _ _ _ c.in_ok-location_of.ensures
    (act_by address_of _ _ _ _ _ _ c.in-InRegister.is (comes _ _ _ refl))

pub returns-in-InMemory : goal.returns-in-InMemory
unfolding target
returns-in-InMemory g c =
    bind_does _ _ _ _ _ _ _ _ _ c.in_ok-location_of.ensures
    (act_by address_of _ _ _ _ _ _ c.in-InMemory.is (comes _ _ _ refl))

pub returns-in_err-location_of : goal.returns-in_err-location_of
unfolding target
returns-in_err-location_of g c =
    bind_aborts _ _ _ _ _ _ _ _ c.in_err-location_of.ensures c.from_residual.ensures.1
