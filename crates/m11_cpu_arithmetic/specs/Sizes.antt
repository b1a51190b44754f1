-- Words and bytes as numbers, and numbers as words and bytes. (PDP-11/40 Processor Handbook, "Instruction
-- set": condition codes, and two's complement numbers.)
use Rattle.std.specs.Prelude.{ℕ, ◌-◌, Bool, ◌||◌, ℤ, pos, neg_ℤ, int_lt, int_le}
use Rattle.std.specs.Int.{cast_signed, w8, w16}
use Rattle.m11_base.specs.declared.operand.Size.{Size}
use Rattle.m11_base.specs.declared.operand.Size.TheVariants.{Word, Byte}

-- the limit of a size: all values of the size are below this limit
abbrev pub size_limit : Size → ℕ
size_limit Word = 0o200000
size_limit Byte = 0o400

-- the limit of 32 bits: all unsigned numbers of 32 bits are below it
abbrev pub pair_limit : ℕ
pair_limit = 0o40000000000

-- the value with only the highest bit set; it and all greater values are negative as signed numbers
abbrev pub sign_bit : Size → ℕ
sign_bit Word = 0o100000
sign_bit Byte = 0o200

-- the value as a signed number; its highest bit is the sign
abbrev pub signed : Size → ℕ → ℤ
signed Word value = cast_signed w16 value
signed Byte value = cast_signed w8 value

-- whether an exact signed number doesn't fit the size
abbrev pub overflows : Size → ℤ → Bool
overflows Word number = int_lt number (neg_ℤ (pos 0o100000)) || int_lt (pos 0o077777) number
overflows Byte number = int_lt number (neg_ℤ (pos 0o200)) || int_lt (pos 0o177) number

-- whether an exact unsigned number doesn't fit the size
abbrev pub is_outside : Size → ℤ → Bool
is_outside size number = int_lt number (pos 0) || int_le (pos (size_limit size)) number

-- the value with every bit inverted
abbrev pub complement : Size → ℕ → ℕ
complement size value = size_limit size - 1 - value

-- whether an exact signed number doesn't fit 32 bits
abbrev pub overflows_pair : ℤ → Bool
overflows_pair number = int_lt number (neg_ℤ (pos 0o20000000000)) || int_lt (pos 0o17777777777) number
