-- The operations on one operand. (PDP-11/40 Processor Handbook, "Instruction set": single operand
-- instructions.)
use Rattle.std.specs.Prelude.{ℕ, ◌+◌, ◌-◌, ◌*◌, ◌/◌, ◌%◌, ◌==◌, nat_le, Bool, true, false, not, ◌&&◌, if◌then◌else◌, pos, neg_ℤ, ◌-ℤ◌, int_lt}
use Rattle.std.specs.Int.{from_bool, int_div_euclid}
use Rattle.m11_base.specs.declared.instruction.ConditionCodes.{ConditionCodes}
use Rattle.m11_base.specs.declared.instruction.SingleOp.{SingleOp}
use Rattle.m11_base.specs.declared.instruction.SingleOp.TheVariants.{Jmp, Swab, Clr, Com, Inc, Dec, Neg, Adc, Sbc, Tst, Ror, Rol, Asr, Asl, Sxt}
use Rattle.m11_base.specs.declared.operand.Size.{Size}
use Rattle.m11_base.specs.declared.operand.Size.TheVariants.{Word, Byte}
use Rattle.m11_cpu_arithmetic.specs.declared.results.Computed.{Computed}
use Rattle.m11_base.specs.Words.{modulo}
use Rattle.m11_cpu_arithmetic.specs.Sizes.{size_limit, sign_bit, signed, overflows, complement}
use Rattle.m11_cpu_arithmetic.specs.Results.{differ, with_codes}
use Rattle.m11_cpu_arithmetic.specs.Doubles.{sum, difference}

-- a value and the condition codes, both as they were
abbrev pub unchanged : ℕ → ConditionCodes → Computed
unchanged value codes = record { value = value; codes = codes }

-- a word with its two bytes swapped, with the N and Z of the byte that is now the lower one, and V and C clear; a byte and its codes stay
-- as they were
abbrev pub swapped : Size → ℕ → ConditionCodes → Computed
swapped Word value codes = record {
  value = value % 0o400 * 0o400 + value / 0o400;
  codes = (with_codes Byte (value / 0o400) false false).codes;
}
swapped Byte value codes = unchanged value codes

-- the result, but with C as it is in `codes`
abbrev pub keeping_carry : ConditionCodes → Computed → Computed
keeping_carry codes computed = record {
  value = computed.value;
  codes = record {
    negative = computed.codes.negative;
    zero = computed.codes.zero;
    overflow = computed.codes.overflow;
    carry = codes.carry;
  };
}

-- the negative of a value: V if the exact signed negative doesn't fit the size, C unless the result is 0
abbrev pub negated : Size → ℕ → Computed
negated size value =
    let opposite = modulo (size_limit size) (neg_ℤ (pos value)) in
    with_codes size opposite (overflows size (neg_ℤ (signed size value))) (not (opposite == 0))

-- the value less the carry: V if the value was the sign bit alone and C was set, C if the value was 0 and C was set
abbrev pub less_carry : Size → ℕ → Bool → Computed
less_carry size value carry =
    let left = modulo (size_limit size) (pos value -ℤ pos (from_bool carry)) in
    with_codes size left (value == sign_bit size && carry) (value == 0 && carry)

-- a value after a shift by one place: C is `bit`, the bit shifted out, and V is set if N and C differ
abbrev pub stepped : Size → ℕ → Bool → Computed
stepped size value bit = with_codes size value (differ (int_lt (signed size value) (pos 0)) bit) bit

-- SXT: each bit of the value is N; Z is set if N is clear, V is clear, and N and C stay as they were
abbrev pub sign_filled : Size → ConditionCodes → Computed
sign_filled size codes = record {
  value = if codes.negative then size_limit size - 1 else 0;
  codes = record {
    negative = codes.negative;
    zero = not codes.negative;
    overflow = false;
    carry = codes.carry;
  };
}

-- ROR: the value shifted one place to the right, with the carry as the highest bit
abbrev pub rotated_right : Size → ℕ → Bool → Computed
rotated_right size value carry =
    stepped size (value / 2 + from_bool carry * sign_bit size) (value % 2 == 1)

-- ROL, or ASL if `carry` is false: the value shifted one place to the left, with the carry as the lowest bit
abbrev pub rotated_left : Size → ℕ → Bool → Computed
rotated_left size value carry =
    stepped size ((2 * value + from_bool carry) % size_limit size) (nat_le (sign_bit size) value)

-- ASR: half of the signed number, rounded down
abbrev pub halved : Size → ℕ → Computed
halved size value =
    stepped size (modulo (size_limit size) (int_div_euclid (signed size value) (pos 2))) (value % 2 == 1)

-- the result of an operation on its operand; `codes` are the condition codes before the operation; JMP, and SWAB of a byte, compute
-- nothing; the result of TST is stored nowhere
unfoldable pub single_result : SingleOp → Size → ℕ → ConditionCodes → Computed
single_result Jmp size value codes = unchanged value codes
single_result Swab size value codes = swapped size value codes
single_result Clr size value codes = with_codes size 0 false false
single_result Com size value codes = with_codes size (complement size value) false true
single_result Inc size value codes = keeping_carry codes (sum size value 1)
single_result Dec size value codes = keeping_carry codes (difference size value 1)
single_result Neg size value codes = negated size value
single_result Adc size value codes = sum size value (from_bool codes.carry)
single_result Sbc size value codes = less_carry size value codes.carry
single_result Tst size value codes = with_codes size value false false
single_result Ror size value codes = rotated_right size value codes.carry
single_result Rol size value codes = rotated_left size value codes.carry
single_result Asr size value codes = halved size value
single_result Asl size value codes = rotated_left size value false
single_result Sxt size value codes = sign_filled size codes
