-- Shifts by several places. (PDP-11/40 Processor Handbook, "Extended instruction set".)
use Rattle.std.specs.Prelude.{ℕ, zero, suc, ◌-◌, ◌%◌, ◌^◌, ◌==◌, nat_lt, Bool, false, if◌then◌else◌, ℤ, pos, negsuc, ◌*ℤ◌}
use Rattle.std.specs.Int.{int_div_euclid}
use Rattle.m11_base.specs.declared.operand.Size.TheVariants.{Word}
use Rattle.m11_cpu_arithmetic.specs.declared.results.Computed.{Computed}
use Rattle.m11_cpu_arithmetic.specs.declared.results.Pair.{Pair}
use Rattle.m11_base.specs.Words.{modulo}
use Rattle.m11_cpu_arithmetic.specs.Sizes.{size_limit, pair_limit, signed, overflows, overflows_pair}
use Rattle.m11_cpu_arithmetic.specs.Results.{with_codes, pair_of}
use Rattle.m11_cpu_arithmetic.specs.Extended.{joined}

-- the six lowest bits of a count as a signed number: from 31 places to the left to 32 to the right (`negsuc n` is -(n + 1))
abbrev pub places : ℕ → ℤ
places count = if nat_lt (count % 64) 32 then pos (count % 64) else negsuc (63 - count % 64)

-- a number shifted to the left by n places, or to the right if n is negative: each place doubles it, or halves it and rounds down
abbrev pub shifted : ℤ → ℤ → ℤ
shifted number (pos n) = number *ℤ pos (2 ^ n)
shifted number (negsuc n) = int_div_euclid number (pos (2 ^ suc n))

-- whether bit `power` of a number in two's complement is set; bit 0 is the lowest
abbrev pub digit : ℤ → ℕ → Bool
digit number power = modulo 2 (int_div_euclid number (pos (2 ^ power))) == 1

-- the last bit that `shifted` shifts out of a number of `width` bits; clear if the number of places is 0
abbrev pub last_bit : ℕ → ℤ → ℤ → Bool
last_bit width number (pos zero) = false
last_bit width number (pos (suc n)) = digit (number *ℤ pos (2 ^ suc n)) width
last_bit width number (negsuc n) = digit number n

-- the result of ASH: V is set if the exact result doesn't fit a signed word, and C is the last bit shifted out
unfoldable pub shift_result : ℕ → ℕ → Computed
shift_result value count =
    let number = signed Word value in
    let moved = shifted number (places count) in
    with_codes Word (modulo (size_limit Word) moved) (overflows Word moved) (last_bit 16 number (places count))

-- the result of ASHC: V is set if the exact result doesn't fit a signed number of 32 bits, and C is the last bit shifted out
unfoldable pub shift_pair_result : ℕ → ℕ → ℕ → Pair
shift_pair_result high low count =
    let number = joined high low in
    let moved = shifted number (places count) in
    pair_of (modulo pair_limit moved) (overflows_pair moved) (last_bit 32 number (places count))
