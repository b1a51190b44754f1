use Rattle.std.proofs.Common.{refl, rules}
use Rattle.m11_cpu_machine.specs.Addressing.{indexed}
use Rattle.m11_cpu_machine.proofs.Dialogues.{bind_aborts, bind_does, comes_ok}
use Rattle.m11_cpu_machine.proofs.machine.Machine.indexed.Goals as goal

pub returns : goal.returns
unfolding indexed
returns g c =
    bind_does _ _ _ _ _ _ _ _ _ c.in_ok-index.ensures
    (comes_ok _ _ _ _ _ (search rules) refl)

pub returns-in_err-index : goal.returns-in_err-index
unfolding indexed
returns-in_err-index g c =
    bind_aborts _ _ _ _ _ _ _ _ c.in_err-index.ensures c.from_residual.ensures.1
