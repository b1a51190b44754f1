use Rattle.std.proofs.Common.{◌≡◌, ◌<◌, take}
use Rattle.m11_base.specs.Octal.{octal_value}
use Rattle.m11_base.proofs.octal.word_of_digits.Given as goal

abbrev pub invariant-loop-digit : goal.invariant-loop-digit
invariant-loop-digit l = (l.value < 65536) × (l.value ≡ octal_value (take l.digit-index l.digits))
