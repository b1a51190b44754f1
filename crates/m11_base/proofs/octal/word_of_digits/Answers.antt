use Rattle.std.proofs.Common.{◌+◌, ◌≤◌, arith}
use Rattle.std.proofs.lemmas.Bool.{le-ltb}
use Rattle.m11_base.specs.Octal.{octal_value}
use Rattle.m11_base.proofs.Digits.{octal_value-push, octal_value-take}
use Rattle.m11_base.proofs.octal.word_of_digits.Goals as goal

pub returns-then-value-gt65535 : goal.returns-then-value-gt65535
returns-then-value-gt65535 c =
    let digits = c.args.digits.now in
    let here = octal_value-push digits c.loop-digit.digit-index c.loop-digit-test.true in
    let large : 65536 ≤ octal_value digits = omega (arith, here, octal_value-take digits (c.loop-digit.digit-index + 1)) in
    rw (le-ltb (octal_value digits) 65536 large)
