use Rattle.std.proofs.Common.{sym}
use Rattle.m11_cpu_machine.specs.Jumps.{push}
use Rattle.m11_cpu_machine.specs.Traps.{push_state}
use Rattle.m11_cpu_machine.proofs.Dialogues.{act_by, bind_aborts, bind_does}
use Rattle.m11_cpu_machine.proofs.machine.Machine.push_state.Goals as goal

pub returns : goal.returns
unfolding push_state
returns g c =
    bind_does _ _ _ _ _ _ _ _ _ (act_by push _ _ _ _ _ _ (sym c.bits.ensures.bits) c.in_ok-push.ensures)
    (act_by push _ _ _ _ _ _ (sym c.register.ensures) c.push-2.ensures)

pub returns-in_err-push : goal.returns-in_err-push
unfolding push_state
returns-in_err-push g c =
    bind_aborts _ _ _ _ _ _ _ _ (act_by push _ _ _ _ _ _ (sym c.bits.ensures.bits) c.in_err-push.ensures) c.from_residual.ensures.1
