use Rattle.std.proofs.Common.{refl, rules, sym}
use Rattle.m11_cpu_machine.specs.Jumps.{enter, push}
use Rattle.m11_cpu_machine.proofs.Dialogues.{act_by, bind_aborts, bind_does, comes_ok}
use Rattle.m11_cpu_machine.proofs.machine.Machine.enter.Goals as goal

pub returns : goal.returns
unfolding enter
returns g c =
    bind_does _ _ _ _ _ _ _ _ _ (act_by push _ _ _ _ _ _ (sym c.register.ensures) c.in_ok-push.ensures)
    (comes_ok _ _ _ _ _ refl (search rules))

pub returns-in_err-push : goal.returns-in_err-push
unfolding enter
returns-in_err-push g c =
    bind_aborts _ _ _ _ _ _ _ _ (act_by push _ _ _ _ _ _ (sym c.register.ensures) c.in_err-push.ensures) c.from_residual.ensures.1
