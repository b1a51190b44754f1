use Rattle.std.proofs.Common.{refl, rules}
use Rattle.m11_cpu_machine.specs.Extended.{extended}
use Rattle.m11_cpu_machine.proofs.Dialogues.{bind_aborts, bind_does, comes_ok}
use Rattle.m11_cpu_machine.proofs.machine.Machine.extended.Goals as goal

pub returns-in-Mul : goal.returns-in-Mul
unfolding extended
returns-in-Mul g c =
    bind_does _ _ _ _ _ _ _ _ _ c.in_ok-source.ensures.does
    (comes_ok _ _ _ _ _ refl (search rules))

pub returns-in-Div : goal.returns-in-Div
unfolding extended
returns-in-Div g c =
    bind_does _ _ _ _ _ _ _ _ _ c.in_ok-source.ensures.does
    (comes_ok _ _ _ _ _ refl (search rules))

pub returns-in-Ash : goal.returns-in-Ash
unfolding extended
returns-in-Ash g c =
    bind_does _ _ _ _ _ _ _ _ _ c.in_ok-source.ensures.does
    (comes_ok _ _ _ _ _ refl (search rules))

pub returns-in-Ashc : goal.returns-in-Ashc
unfolding extended
returns-in-Ashc g c =
    bind_does _ _ _ _ _ _ _ _ _ c.in_ok-source.ensures.does
    (comes_ok _ _ _ _ _ refl (search rules))

pub returns-in_err-source : goal.returns-in_err-source
unfolding extended
returns-in_err-source g c =
    bind_aborts _ _ _ _ _ _ _ _ c.in_err-source.ensures.does c.from_residual.ensures.1
