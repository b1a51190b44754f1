use Rattle.std.proofs.Common.{ℕ, sym, ◌∙◌}
use Rattle.m11_cpu_quick.proofs.ResultsPut.{divides, refuses}
use Rattle.m11_cpu_quick.proofs.extended.divide_by.Goals as goal

pub returns-in-Done-clause-done : goal.returns-in-Done-clause-done
returns-in-Done-clause-done c =
    λ (k : ℕ). divides _ _ _ _ k _ _ _ _ c.args.machine.now c.set_codes.new.self c.requires
    (sym c.in-Done.is ∙ (rw (c.held.ensures, c.held-2.ensures, c.low_word_of-odd.ensures) at c.divide.ensures)) c.hold.ensures
    (rw c.low_word_of-odd.ensures at c.hold-in-Done.ensures) c.set_codes.ensures

pub returns-in-Refused-clause-done : goal.returns-in-Refused-clause-done
returns-in-Refused-clause-done c =
    λ (k : ℕ). refuses _ _ k _ _ c.args.machine.now c.set_codes-in-Refused.new.self c.requires
    (sym c.in-Refused.is ∙ (rw (c.held.ensures, c.held-2.ensures, c.low_word_of-odd.ensures) at c.divide.ensures))
    c.set_codes-in-Refused.ensures
