use Rattle.std.proofs.Common.{refl, rules}
use Rattle.m11_cpu_machine.specs.SingleOperands.{test_operand}
use Rattle.m11_cpu_machine.proofs.Dialogues.{bind_aborts, bind_does, comes_ok}
use Rattle.m11_cpu_machine.proofs.machine.Machine.test_operand.Goals as goal

pub returns : goal.returns
unfolding test_operand
returns g c =
    bind_does _ _ _ _ _ _ _ _ _ c.in_ok-value.ensures.does
    (comes_ok _ _ _ _ _ refl (search rules))

pub returns-in_err-value : goal.returns-in_err-value
unfolding test_operand
returns-in_err-value g c =
    bind_aborts _ _ _ _ _ _ _ _ c.in_err-value.ensures.does c.from_residual.ensures.1
