use Rattle.std.proofs.Common.{ℕ}
use Rattle.m11_cpu_quick.proofs.ResultsPut.{multiplied_at, shifts, shifts_pair}
use Rattle.m11_cpu_quick.proofs.extended.extend.Goals as goal

pub returns-in-Mul-clause-done : goal.returns-in-Mul-clause-done
returns-in-Mul-clause-done c = rw c.in-Mul.is (λ (k : ℕ).
    multiplied_at _ _ k _ _ _ c.multiply-product.result c.args.machine.now c.set_codes.new.self c.requires
    (rw c.held.ensures at c.multiply-product.ensures) c.hold.ensures
    (rw c.low_word_of-odd.ensures at c.hold-in-Mul.ensures) c.set_codes.ensures)

pub returns-in-Div-clause-done : goal.returns-in-Div-clause-done
returns-in-Div-clause-done c = rw c.in-Div.is c.divide_by.ensures.done

pub returns-in-Ash-clause-done : goal.returns-in-Ash-clause-done
returns-in-Ash-clause-done c = rw c.in-Ash.is (λ (k : ℕ).
    shifts _ _ k _ _ c.shift-shifted.result c.args.machine.now c.set_codes-in-Ash.new.self c.requires
    (rw c.held-in-Ash.ensures at c.shift-shifted.ensures) c.hold-in-Ash.ensures c.set_codes-in-Ash.ensures)

pub returns-in-Ashc-clause-done : goal.returns-in-Ashc-clause-done
returns-in-Ashc-clause-done c = rw c.in-Ashc.is (λ (k : ℕ).
    shifts_pair _ _ k _ _ _ c.shift_pair-shifted.result c.args.machine.now c.set_codes-in-Ashc.new.self c.requires
    (rw (c.held-in-Ashc.ensures, c.held-in-Ashc-2.ensures, c.low_word_of-odd.ensures) at c.shift_pair-shifted.ensures)
    c.hold-in-Ashc.ensures (rw c.low_word_of-odd.ensures at c.hold-in-Ashc-2.ensures) c.set_codes-in-Ashc.ensures)
