-- Results and the condition codes that they set. (PDP-11/40 Processor Handbook, "Instruction set": condition codes.)
use Rattle.std.specs.Prelude.{ℕ, ◌/◌, ◌%◌, ◌==◌, Bool, not, ℤ, pos, int_lt}
use Rattle.std.specs.Bool.{beq}
use Rattle.std.specs.Int.{cast_signed, w32}
use Rattle.m11_base.specs.declared.operand.Size.{Size}
use Rattle.m11_cpu_arithmetic.specs.declared.results.Computed.{Computed}
use Rattle.m11_cpu_arithmetic.specs.declared.results.Pair.{Pair}
use Rattle.m11_base.specs.Words.{modulo}
use Rattle.m11_cpu_arithmetic.specs.Sizes.{size_limit, signed, overflows, is_outside}

-- whether exactly one of two flags is set
abbrev pub differ : Bool → Bool → Bool
differ first second = not (beq first second)

-- a value with its condition codes: N if it is negative, Z if it is 0, and V and C as the arguments say
abbrev pub with_codes : Size → ℕ → Bool → Bool → Computed
with_codes size value overflow carry = record {
  value = value;
  codes = record {
    negative = int_lt (signed size value) (pos 0);
    zero = value == 0;
    overflow = overflow;
    carry = carry;
  };
}

-- a sum or difference, from the exact unsigned number and the exact signed one: V if the signed one doesn't fit the size, C if
-- the unsigned one doesn't
abbrev pub exact_result : Size → ℤ → ℤ → Computed
exact_result size unsigned_number signed_number =
    with_codes size (modulo (size_limit size) unsigned_number) (overflows size signed_number)
    (is_outside size unsigned_number)

-- 32 bits in two words, with their condition codes: N if the highest bit is set, Z if all are 0, and V and C as the arguments say
abbrev pub pair_of : ℕ → Bool → Bool → Pair
pair_of number overflow carry = record {
  high = number / 0o200000;
  low = number % 0o200000;
  codes = record {
    negative = int_lt (cast_signed w32 number) (pos 0);
    zero = number == 0;
    overflow = overflow;
    carry = carry;
  };
}
