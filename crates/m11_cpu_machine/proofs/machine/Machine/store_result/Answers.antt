use Rattle.std.proofs.Common.{refl}
use Rattle.m11_cpu_machine.specs.Addressing.{store_result}
use Rattle.m11_cpu_machine.proofs.Dialogues.{bind_aborts, bind_does, comes_ok}
use Rattle.m11_cpu_machine.proofs.machine.Machine.store_result.Goals as goal

pub returns : goal.returns
unfolding store_result
returns g c =
    bind_does _ _ _ _ _ _ _ _ _ c.in_ok-store.ensures
    (comes_ok _ _ _ _ _ refl c.set_codes_after_store.ensures)

pub returns-in_err-store : goal.returns-in_err-store
unfolding store_result
returns-in_err-store g c =
    bind_aborts _ _ _ _ _ _ _ _ c.in_err-store.ensures c.from_residual.ensures.1
