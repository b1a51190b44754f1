-- Numbers of 32 bits, added and subtracted word by word.
use Rattle.std.proofs.Common.{ℕ, ◌<◌, arith}
use Rattle.std.proofs.lemmas.Bool.Decides.{nat_tests}
use Rattle.std.proofs.lemmas.Int.{ints}
use Rattle.m11_base.specs.declared.instruction.ConditionCodes.{ConditionCodes}
use Rattle.m11_cpu_arithmetic.specs.Doubles.{double_result}
use Rattle.m11_cpu_arithmetic.specs.Singles.{single_result}
use Rattle.m11_cpu_arithmetic.specs.Laws.{Adds, Subtracts}

pub added : (source_high source_low high low : ℕ) (codes : ConditionCodes) → source_high < 0o200000
    → source_low < 0o200000
    → high < 0o200000 → low < 0o200000 → Adds source_high source_low high low codes
unfolding double_result single_result
added source_high source_low high low codes source_high_below source_low_below high_below low_below =
    record { value = grind (arith, ints, nat_tests); carry = grind (arith, ints, nat_tests) }

pub subtracted : (source_high source_low high low : ℕ) (codes : ConditionCodes) → source_high < 0o200000
    → source_low < 0o200000
    → high < 0o200000 → low < 0o200000 → Subtracts source_high source_low high low codes
unfolding double_result single_result
subtracted source_high source_low high low codes source_high_below source_low_below high_below low_below =
    record { value = grind (arith, ints, nat_tests); carry = grind (arith, ints, nat_tests) }
