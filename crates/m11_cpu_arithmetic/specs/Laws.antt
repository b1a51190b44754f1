-- Results and codes in terms of exact numbers: comparisons with the branches after them, double precision, products, quotients
-- and shifts. (PDP-11/40 Processor Handbook, "Instruction set": branches, double precision; "Extended instruction set".)
use Rattle.std.specs.Prelude.{ℕ, zero, suc, ◌+◌, ◌*◌, ◌%◌, ◌^◌, ◌<◌, ◌≤◌, ◌≡◌, ◌≢◌, ◌↔◌, ◌⊎◌, nat_lt, nat_le, Bool, true, false, ◌||◌, IsTrue, ℤ, pos, ◌+ℤ◌, ◌-ℤ◌, ◌*ℤ◌, ◌<ℤ◌, ◌≤ℤ◌, unsigned_abs, int_lt, ◌==◌}
use Rattle.std.specs.Int.{cast_signed, int_div_euclid, w32}
use Rattle.m11_base.specs.declared.instruction.ConditionCodes.{ConditionCodes}
use Rattle.m11_base.specs.declared.instruction.DoubleOp.TheVariants.{Add, Sub, Cmp}
use Rattle.m11_base.specs.declared.instruction.SingleOp.TheVariants.{Adc, Sbc}
use Rattle.m11_base.specs.declared.instruction.BranchOp.TheVariants.{Bne, Beq, Bge, Blt, Bgt, Ble, Bhi, Blos, Bcc, Bcs}
use Rattle.m11_base.specs.declared.operand.Size.{Size}
use Rattle.m11_base.specs.declared.operand.Size.TheVariants.{Word}
use Rattle.m11_cpu_arithmetic.specs.declared.results.Computed.{Computed}
use Rattle.m11_cpu_arithmetic.specs.declared.results.Division.{Division}
use Rattle.m11_cpu_arithmetic.specs.declared.results.Division.TheVariants.{Done, Refused}
use Rattle.m11_cpu_arithmetic.specs.declared.results.Pair.{Pair}
use Rattle.m11_base.specs.Words.{modulo}
use Rattle.m11_cpu_arithmetic.specs.Sizes.{size_limit, pair_limit, signed}
use Rattle.m11_cpu_arithmetic.specs.Doubles.{double_result}
use Rattle.m11_cpu_arithmetic.specs.Singles.{single_result}
use Rattle.m11_cpu_arithmetic.specs.Extended.{joined, product_of}
use Rattle.m11_cpu_arithmetic.specs.Branches.{is_taken}

-- ---- comparisons

-- after a comparison, each of these branches is taken if and only if the relation in its name holds between the first value and the
-- second; BLO is another name for BCS, and BHIS for BCC
pub record AreCompared (size : Size) (first second : ℕ) (codes : ConditionCodes) : Type 0 where
  pub equal : IsTrue (is_taken Beq codes) ↔ (first ≡ second)
  pub not_equal : IsTrue (is_taken Bne codes) ↔ (first ≢ second)
  pub less : IsTrue (is_taken Blt codes) ↔ (signed size first <ℤ signed size second)
  pub greater_or_equal : IsTrue (is_taken Bge codes) ↔ (signed size second ≤ℤ signed size first)
  pub greater : IsTrue (is_taken Bgt codes) ↔ (signed size second <ℤ signed size first)
  pub less_or_equal : IsTrue (is_taken Ble codes) ↔ (signed size first ≤ℤ signed size second)
  pub lower : IsTrue (is_taken Bcs codes) ↔ (first < second)
  pub higher_or_same : IsTrue (is_taken Bcc codes) ↔ (second ≤ first)
  pub higher : IsTrue (is_taken Bhi codes) ↔ (second < first)
  pub lower_or_same : IsTrue (is_taken Blos codes) ↔ (first ≤ second)

abbrev pub CompareThenBranch : Size → Type 0
CompareThenBranch size = (first second : ℕ) (codes : ConditionCodes) → first < size_limit size
    → second < size_limit size
    → AreCompared size first second (double_result Cmp size first second codes).codes

-- ---- double precision

-- the unsigned number in the 32 bits of two words
abbrev pub double_word : ℕ → ℕ → ℕ
double_word high low = high * 0o200000 + low

-- the two words together are the sum modulo 2 to the power of 32, and the sum has a carry if and only if C is set after ADC or after the
-- last ADD
pub record AreAdded (source destination : ℕ) (low middle high : Computed) : Type 0 where
  pub value : double_word high.value low.value ≡ (source + destination) % pair_limit
  pub carry : (middle.codes.carry || high.codes.carry) ≡ nat_le pair_limit (source + destination)

-- ADD of the low words, ADC to the high word of the destination and ADD of the high words together add the two numbers of 32 bits
abbrev pub Adds : ℕ → ℕ → ℕ → ℕ → ConditionCodes → Type 0
Adds source_high source_low high low codes =
    let low_sum = double_result Add Word source_low low codes in
    let carried = single_result Adc Word high low_sum.codes in
    let high_sum = double_result Add Word source_high carried.value carried.codes in
    AreAdded (double_word source_high source_low) (double_word high low) low_sum carried high_sum

-- the two words together are the difference modulo 2 to the power of 32, and there is a borrow if and only if C is set after SBC or after
-- the last SUB
pub record AreSubtracted (source destination : ℕ) (low middle high : Computed) : Type 0 where
  pub value : double_word high.value low.value ≡ modulo pair_limit (pos destination -ℤ pos source)
  pub carry : (middle.codes.carry || high.codes.carry) ≡ nat_lt destination source

-- SUB of the low words, SBC from the high word of the destination and SUB of the high words together subtract the two numbers of 32 bits
abbrev pub Subtracts : ℕ → ℕ → ℕ → ℕ → ConditionCodes → Type 0
Subtracts source_high source_low high low codes =
    let low_difference = double_result Sub Word source_low low codes in
    let carried = single_result Sbc Word high low_difference.codes in
    let high_difference = double_result Sub Word source_high carried.value carried.codes in
    AreSubtracted (double_word source_high source_low) (double_word high low) low_difference carried high_difference

-- ---- products and quotients

-- the two words of a product together are the exact product of two signed words
abbrev pub IsProduct : ℕ → ℕ → Type 0
IsProduct register source =
    joined (product_of register source).high (product_of register source).low
    ≡ signed Word register *ℤ signed Word source

-- these are the quotient, rounded towards 0, and its remainder, which is smaller in magnitude than the divisor, and is 0 or has the
-- dividend's sign
pub record IsQuotient (dividend divisor quotient remainder : ℤ) : Type 0 where
  pub whole : dividend ≡ (quotient *ℤ divisor) +ℤ remainder
  pub smaller : unsigned_abs remainder < unsigned_abs divisor
  pub sign : (remainder ≡ pos 0) ⊎ (int_lt remainder (pos 0) ≡ int_lt dividend (pos 0))

-- no two words are the quotient and the remainder
abbrev pub HasNoQuotient : ℤ → ℤ → Type 0
HasNoQuotient dividend divisor = (quotient remainder : ℕ) → quotient < 0o200000 → remainder < 0o200000
    → IsQuotient dividend divisor (signed Word quotient) (signed Word remainder) → ⊥

-- a division that is done clears V, and yields a quotient and its remainder; a refused one sets V, and its divisor is 0 or no two words
-- are its quotient and remainder
abbrev pub IsDivided : ℤ → ℤ → Division → Type 0
IsDivided dividend divisor (Done quotient remainder codes) =
    (codes.overflow ≡ false) × IsQuotient dividend divisor (signed Word quotient) (signed Word remainder)
IsDivided dividend divisor (Refused codes) =
    (codes.overflow ≡ true) × ((divisor ≡ pos 0) ⊎ HasNoQuotient dividend divisor)

-- ---- shifts

-- a word after n steps to the left: each doubles it, and drops what the word can't hold
abbrev pub steps_left : ℕ → ℕ → ℕ
steps_left zero value = value
steps_left (suc n) value = (steps_left n value + steps_left n value) % 0o200000

-- after one of the n steps the sign differs from the sign before the first step
abbrev pub SignChanges : ℕ → ℕ → Type 0
SignChanges value n = (k : ℕ) × (k ≤ n)
    × (int_lt (signed Word (steps_left k value)) (pos 0) ≢ int_lt (signed Word value) (pos 0))

-- the bit shifted out at the last of n steps to the left; clear if n is 0
abbrev pub left_last : ℕ → ℕ → Bool
left_last zero value = false
left_last (suc n) value = nat_le 0o100000 (steps_left n value)

-- this is the result of a shift of a word by n places to the left: the value times 2 to the n, modulo octal 200000; V is set if and only if
-- the sign changes at one of the steps; and C is the last bit shifted out, which is clear if n is 0
pub record IsShiftedLeft (value n : ℕ) (result : Computed) : Type 0 where
  pub value_times : result.value ≡ value * 2 ^ n % 0o200000
  pub by_steps : result.value ≡ steps_left n value
  pub sign_changes : IsTrue result.codes.overflow ↔ SignChanges value n
  pub carry : result.codes.carry ≡ left_last n value

-- a number after n steps to the right: each halves it, rounded down
abbrev pub steps_right : ℕ → ℤ → ℤ
steps_right zero number = number
steps_right (suc n) number = int_div_euclid (steps_right n number) (pos 2)

-- the bit shifted out at the last of n steps to the right; clear if n is 0
abbrev pub right_last : ℕ → ℤ → Bool
right_last zero number = false
right_last (suc n) number = modulo 2 (steps_right n number) == 1

-- this is the result of a shift of a word by n places to the right: the value, as a signed number, divided by 2 to the n and rounded down;
-- V is clear; and C is the last bit shifted out, which is clear if n is 0
pub record IsShiftedRight (value n : ℕ) (result : Computed) : Type 0 where
  pub from : (signed Word result.value *ℤ pos (2 ^ n)) ≤ℤ signed Word value
  pub to : signed Word value <ℤ ((signed Word result.value +ℤ pos 1) *ℤ pos (2 ^ n))
  pub by_steps : signed Word result.value ≡ steps_right n (signed Word value)
  pub overflow_is_clear : result.codes.overflow ≡ false
  pub carry : result.codes.carry ≡ right_last n (signed Word value)

-- ---- shifts of 32 bits

-- 32 bits after n steps to the left: each doubles them, and drops what 32 bits can't hold
abbrev pub pair_steps_left : ℕ → ℕ → ℕ
pair_steps_left zero value = value
pair_steps_left (suc n) value = (pair_steps_left n value + pair_steps_left n value) % pair_limit

-- after one of the n steps the sign differs from the sign before the first step
abbrev pub PairSignChanges : ℕ → ℕ → Type 0
PairSignChanges value n = (k : ℕ) × (k ≤ n)
    × (int_lt (cast_signed w32 (pair_steps_left k value)) (pos 0) ≢ int_lt (cast_signed w32 value) (pos 0))

-- the bit shifted out at the last of n steps to the left; clear if n is 0
abbrev pub pair_left_last : ℕ → ℕ → Bool
pair_left_last zero value = false
pair_left_last (suc n) value = nat_le 0o20000000000 (pair_steps_left n value)

-- this is the result of a shift of 32 bits by n places to the left: the value times 2 to the n, modulo 2 to the power of 32; V is set if
-- and only if the sign changes at one of the steps; and C is the last bit shifted out, which is clear if n is 0
pub record IsPairShiftedLeft (value n : ℕ) (result : Pair) : Type 0 where
  pub value_times : double_word result.high result.low ≡ value * 2 ^ n % pair_limit
  pub by_steps : double_word result.high result.low ≡ pair_steps_left n value
  pub sign_changes : IsTrue result.codes.overflow ↔ PairSignChanges value n
  pub carry : result.codes.carry ≡ pair_left_last n value

-- this is the result of a shift of 32 bits by n places to the right: the value, as a signed number, divided by 2 to the n and rounded down;
-- V is clear; and C is the last bit shifted out, which is clear if n is 0
pub record IsPairShiftedRight (value n : ℕ) (result : Pair) : Type 0 where
  pub from : (joined result.high result.low *ℤ pos (2 ^ n)) ≤ℤ cast_signed w32 value
  pub to : cast_signed w32 value <ℤ ((joined result.high result.low +ℤ pos 1) *ℤ pos (2 ^ n))
  pub by_steps : joined result.high result.low ≡ steps_right n (cast_signed w32 value)
  pub overflow_is_clear : result.codes.overflow ≡ false
  pub carry : result.codes.carry ≡ right_last n (cast_signed w32 value)
