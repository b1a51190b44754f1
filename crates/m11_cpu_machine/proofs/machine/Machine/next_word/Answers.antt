use Rattle.std.proofs.Common.{refl, sym}
use Rattle.m11_cpu_machine.specs.Access.{load_word}
use Rattle.m11_cpu_machine.specs.Addressing.{next_word}
use Rattle.m11_cpu_machine.proofs.Dialogues.{act_by, bind_aborts, bind_does, comes_ok}
use Rattle.m11_cpu_machine.proofs.machine.Machine.next_word.Goals as goal

pub returns : goal.returns
unfolding next_word
returns g c =
    bind_does _ _ _ _ _ _ _ _ _ (act_by load_word _ _ _ _ _ _ (sym c.register-address.ensures) c.in_ok-word.ensures)
    (comes_ok _ _ _ _ _ refl c.advance.ensures)

pub returns-in_err-word : goal.returns-in_err-word
unfolding next_word
returns-in_err-word g c =
    bind_aborts _ _ _ _ _ _ _ _ (act_by load_word _ _ _ _ _ _ (sym c.register-address.ensures) c.in_err-word.ensures) c.from_residual.ensures.1
