-- Multiplication and division. (PDP-11/40 Processor Handbook, "Extended instruction set".)
use Rattle.std.specs.Prelude.{ℕ, ◌+◌, ◌*◌, true, false, if◌then◌else◌, ◌==◌, ℤ, pos, ◌*ℤ◌, int_lt, int_div, int_rem}
use Rattle.std.specs.Int.{cast_signed, w32}
use Rattle.std.specs.Ordering.{int_eq}
use Rattle.m11_base.specs.declared.operand.Size.TheVariants.{Word}
use Rattle.m11_cpu_arithmetic.specs.declared.results.Pair.{Pair}
use Rattle.m11_cpu_arithmetic.specs.declared.results.Division.{Division}
use Rattle.m11_cpu_arithmetic.specs.declared.results.Division.TheVariants.{Done, Refused}
use Rattle.m11_base.specs.Words.{modulo}
use Rattle.m11_cpu_arithmetic.specs.Sizes.{size_limit, pair_limit, signed, overflows}
use Rattle.m11_cpu_arithmetic.specs.Results.{pair_of}

-- the number in the 32 bits of two words; the highest bit is the sign
abbrev pub joined : ℕ → ℕ → ℤ
joined high low = cast_signed w32 (high * 0o200000 + low)

-- the result of MUL: the product's 32 bits, with their N and Z; V is clear, and C is set if the product doesn't fit a signed word
unfoldable pub product_of : ℕ → ℕ → Pair
product_of register source =
    let product = signed Word register *ℤ signed Word source in
    pair_of (modulo pair_limit product) false (overflows Word product)

abbrev pub refused_by_zero : Division
refused_by_zero = Refused (record { negative = false; zero = true; overflow = true; carry = true })

-- the refusal of a quotient that doesn't fit a signed word
abbrev pub refused_quotient : ℤ → Division
refused_quotient quotient =
    Refused (record { negative = int_lt quotient (pos 0); zero = false; overflow = true; carry = false })

abbrev pub done : ℤ → ℤ → Division
done quotient remainder =
    Done (modulo (size_limit Word) quotient) (modulo (size_limit Word) remainder)
    (record { negative = int_lt quotient (pos 0); zero = int_eq quotient (pos 0); overflow = false; carry = false })

-- a number divided by another one, which isn't 0: the quotient is rounded towards 0, and refused if it doesn't fit a signed word
abbrev pub divided : ℤ → ℤ → Division
divided dividend divisor =
    let quotient = int_div dividend divisor in
    if overflows Word quotient then refused_quotient quotient else done quotient (int_rem dividend divisor)

-- the result of DIV on the 32 bits of two words and a divisor: refused if the divisor is 0 or the quotient doesn't fit a signed word
unfoldable pub division_of : ℕ → ℕ → ℕ → Division
division_of high low divisor =
    if divisor == 0 then refused_by_zero else divided (joined high low) (signed Word divisor)
