use Rattle.std.proofs.Common.{◌≡◌, suc, ◌-◌, ◌/◌, ◌∙◌, ap, List, ◌++◌, ℕ, arith}
use Rattle.m11_unfold_rules.specs.Digits.{last_digits}
use Rattle.m11_unfold_rules.proofs.Numerals.{digit_before, first_digit}
use Rattle.m11_unfold_rules.proofs.digits.last_digits.Goals as goal

pub returns-then-rest-base : goal.returns-then-rest-base
returns-then-rest-base c =
    let some = c.digits-test.true in
    let is : c.digits.left ≡ suc (c.digits.left - 1) = omega arith in
    c.in_ok-insert.ensures.items
    ∙ first_digit c.args.base c.digits.rest c.digits.digits.items _ c.digits.left _ is c.digits.invariant c.if-rest-base.true

pub digits-preserved : goal.digits-preserved
digits-preserved c =
    let some = c.digits-test.true in
    let is : c.digits.left ≡ suc (c.digits.left - 1) = omega arith in
    ap (λ (l : List ℕ). last_digits (c.digits.left - 1) c.args.base (c.digits.rest / c.args.base) ++ l) c.in_ok-insert.ensures.items
    ∙ digit_before c.args.base c.digits.rest c.digits.digits.items _ c.digits.left _ is c.digits.invariant c.if-rest-base.false
