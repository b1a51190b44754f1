-- CMP and the branches after it.
use Rattle.std.proofs.Common.{◌≡◌, sym, ◌∙◌, ap, ℕ, ◌^◌, ◌<◌, ℤ, pos, ◌-ℤ◌, ◌≤ℤ◌, ◌<ℤ◌, of_z, w8, w16, arith, Bool, true}
use Rattle.std.specs.Prelude.{int_lt, nat_lt, not, ◌||◌, ◌==◌, IsTrue, ◌↔◌}
use Rattle.std.proofs.lemmas.Bool.{eqb-true, eq-eqb}
use Rattle.std.proofs.lemmas.Bool.Decides.{nat_tests}
use Rattle.std.proofs.lemmas.Int.{ints, of_z-to_z}
use Rattle.m11_base.specs.declared.instruction.ConditionCodes.{ConditionCodes}
use Rattle.m11_base.specs.declared.instruction.DoubleOp.TheVariants.{Cmp}
use Rattle.m11_base.specs.declared.operand.Size.{Size}
use Rattle.m11_base.specs.declared.operand.Size.TheVariants.{Word, Byte}
use Rattle.m11_base.specs.Words.{modulo}
use Rattle.m11_cpu_arithmetic.specs.Sizes.{size_limit, signed, overflows, is_outside}
use Rattle.m11_cpu_arithmetic.specs.Results.{differ}
use Rattle.m11_cpu_arithmetic.specs.Doubles.{double_result}
use Rattle.m11_cpu_arithmetic.specs.Branches.{is_taken}
use Rattle.m11_cpu_arithmetic.specs.Laws.{AreCompared, CompareThenBranch}

-- N and V differ after CMP if and only if the first word is less than the second, as signed numbers
word_less : (first second : ℕ) → first < 2 ^ 16 → second < 2 ^ 16
    → differ (int_lt (signed Word (modulo 0o200000 (pos first -ℤ pos second))) (pos 0))
    (overflows Word (signed Word first -ℤ signed Word second))
    ≡ int_lt (signed Word first) (signed Word second)
word_less first second first_below second_below = grind (arith, ints, nat_tests)

byte_less : (first second : ℕ) → first < 2 ^ 8 → second < 2 ^ 8
    → differ (int_lt (signed Byte (modulo 0o400 (pos first -ℤ pos second))) (pos 0))
    (overflows Byte (signed Byte first -ℤ signed Byte second))
    ≡ int_lt (signed Byte first) (signed Byte second)
byte_less first second first_below second_below = grind (arith, ints, nat_tests)

is_less : (size : Size) (first second : ℕ) → first < size_limit size → second < size_limit size
    → differ (int_lt (signed size (modulo (size_limit size) (pos first -ℤ pos second))) (pos 0))
    (overflows size (signed size first -ℤ signed size second))
    ≡ int_lt (signed size first) (signed size second)
is_less Word = word_less
is_less Byte = byte_less

-- after CMP, Z is set if and only if the two values are equal, and C if and only if the first is lower as an unsigned number
is_same : (size : Size) (first second : ℕ) → first < size_limit size → second < size_limit size
    → (modulo (size_limit size) (pos first -ℤ pos second) == 0) ≡ (first == second)
is_same Word first second first_below second_below = grind (arith, ints, nat_tests)
is_same Byte first second first_below second_below = grind (arith, ints, nat_tests)

is_lower : (size : Size) (first second : ℕ) → first < size_limit size → second < size_limit size
    → is_outside size (pos first -ℤ pos second) ≡ nat_lt first second
is_lower size first second first_below second_below = grind (arith, ints, nat_tests)

-- values of one size are equal if they are equal as signed numbers
same_signed : (size : Size) (first second : ℕ) → first < size_limit size → second < size_limit size
    → signed size first ≡ signed size second → first ≡ second
same_signed Word first second first_below second_below same =
    sym (of_z-to_z w16 first first_below) ∙ ap (of_z w16) same ∙ of_z-to_z w16 second second_below
same_signed Byte first second first_below second_below same =
    sym (of_z-to_z w8 first first_below) ∙ ap (of_z w8) same ∙ of_z-to_z w8 second second_below

-- which relation between two signed numbers each combination of `less` and `same` reports
module _ (first second : ℤ) (less same : Bool) (less_is : less ≡ int_lt first second)
    (same_is : (same ≡ true) ↔ (first ≡ second)) where
  reports_less : IsTrue less ↔ (first <ℤ second)
  reports_less = grind (arith, ints)

  reports_greater_or_equal : IsTrue (not less) ↔ (second ≤ℤ first)
  reports_greater_or_equal = grind (arith, ints)

  reports_greater : IsTrue (not (same || less)) ↔ (second <ℤ first)
  reports_greater = grind (arith, ints)

  reports_less_or_equal : IsTrue (same || less) ↔ (first ≤ℤ second)
  reports_less_or_equal = grind (arith, ints)

relations : (size : Size) (first second : ℕ) (codes : ConditionCodes)
    → (signed size first ≡ signed size second → first ≡ second)
    → differ codes.negative codes.overflow ≡ int_lt (signed size first) (signed size second)
    → codes.zero ≡ (first == second)
    → codes.carry ≡ nat_lt first second → AreCompared size first second codes
unfolding is_taken
relations size first second codes same less zero carry =
    let same_is : (codes.zero ≡ true) ↔ (signed size first ≡ signed size second) =
    (λ e. ap (signed size) (eqb-true first second (sym zero ∙ e)), λ e. zero ∙ eq-eqb first second (same e)) in record {
      equal = grind (arith, nat_tests);
      not_equal = grind (arith, nat_tests);
      less = reports_less (signed size first) (signed size second) (differ codes.negative codes.overflow) codes.zero less
          same_is;
      greater_or_equal = reports_greater_or_equal (signed size first) (signed size second)
          (differ codes.negative codes.overflow) codes.zero less same_is;
      greater = reports_greater (signed size first) (signed size second) (differ codes.negative codes.overflow)
          codes.zero less same_is;
      less_or_equal = reports_less_or_equal (signed size first) (signed size second)
          (differ codes.negative codes.overflow) codes.zero less same_is;
      lower = grind (arith, nat_tests);
      higher_or_same = grind (arith, nat_tests);
      higher = grind (arith, nat_tests);
      lower_or_same = grind (arith, nat_tests);
    }

pub compared : (size : Size) → CompareThenBranch size
unfolding double_result
compared size first second codes first_below second_below =
    relations size first second (double_result Cmp size first second codes).codes
    (same_signed size first second first_below second_below)
    (is_less size first second first_below second_below) (is_same size first second first_below second_below)
    (is_lower size first second first_below second_below)
