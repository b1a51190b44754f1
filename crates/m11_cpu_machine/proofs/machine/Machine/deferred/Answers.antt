use Rattle.std.proofs.Common.{refl}
use Rattle.m11_cpu_machine.specs.Addressing.{deferred}
use Rattle.m11_cpu_machine.proofs.Dialogues.{bind_aborts, bind_does, comes}
use Rattle.m11_cpu_machine.proofs.machine.Machine.deferred.Goals as goal

pub returns : goal.returns
unfolding deferred
returns g c =
    bind_does _ _ _ _ _ _ _ _ _ c.in_ok-load_word.ensures
    (comes _ _ _ refl)

pub returns-in_err-load_word : goal.returns-in_err-load_word
unfolding deferred
returns-in_err-load_word g c =
    bind_aborts _ _ _ _ _ _ _ _ c.in_err-load_word.ensures c.from_residual.ensures.1
