use Rattle.std.proofs.Common.{◌≡◌, ◌++◌}
use Rattle.m11_unfold_rules.specs.Digits.{last_digits}
use Rattle.m11_unfold_rules.proofs.digits.last_digits.Given as goal

abbrev pub invariant-digits : goal.invariant-digits
invariant-digits l = last_digits l.left l.base l.rest ++ l.digits.items ≡ last_digits l.bound l.base l.number

abbrev pub decreases-digits : goal.decreases-digits
decreases-digits l = l.left
