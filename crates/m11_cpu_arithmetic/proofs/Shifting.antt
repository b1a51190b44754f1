-- Shifts as steps, and the exact numbers that they stand for.
use Rattle.std.proofs.Common.{◌≡◌, refl, sym, subst, ◌∙◌, ap, ℕ, zero, suc, ◌+◌, ◌*◌, ◌/◌, ◌%◌, ◌^◌, ◌<◌, ◌≤◌, ◌≢◌, inl, inr, ℤ, pos, negsuc, ◌+ℤ◌, ◌*ℤ◌, ◌≤ℤ◌, ◌<ℤ◌, neg_ℤ, w16, arith, true, false}
use Rattle.std.specs.Prelude.{nat_le, FitsSigned, int_lt, ◌==◌}
use Rattle.std.specs.Int.{int_div_euclid}
use Rattle.std.proofs.Math.Nat.{pow-suc, div-le_self}
use Rattle.std.proofs.lemmas.Nat.{div-add-mod', mod_below, pow_pos, shr-shr}
use Rattle.std.proofs.lemmas.Bool.{cases_Bool, cases_lt, le-ltb, false≢true}
use Rattle.std.proofs.lemmas.Bool.Decides.{nat_tests}
use Rattle.std.proofs.lemmas.Int.{ints}
use Rattle.m11_base.specs.declared.operand.Size.TheVariants.{Word}
use Rattle.m11_base.specs.Words.{modulo}
use Rattle.m11_cpu_arithmetic.specs.Sizes.{size_limit, signed, overflows}
use Rattle.m11_cpu_arithmetic.specs.Shifts.{places, shifted, last_bit, digit, shift_result}
use Rattle.m11_cpu_arithmetic.specs.declared.results.Computed.{Computed}
use Rattle.m11_cpu_arithmetic.specs.Results.{with_codes}
use Rattle.m11_cpu_arithmetic.specs.Laws.{steps_left, left_last, steps_right, SignChanges, IsShiftedLeft, IsShiftedRight}
use Rattle.m11_cpu_arithmetic.proofs.Exact.{held_in_word, word_again, word_holds, signed_fits}

-- a number doubled n times
abbrev pub times : ℤ → ℕ → ℤ
times number n = number *ℤ pos (2 ^ n)

pub times_none : (number : ℤ) → times number 0 ≡ number
times_none (pos a) = ap pos (omega arith)
times_none (negsuc a) = ap (λ n. neg_ℤ (pos n)) (let e : suc a * 1 ≡ suc a = omega arith in e)

pub doubled : (a n : ℕ) → a * 2 ^ suc n ≡ a * 2 ^ n + a * 2 ^ n
doubled a n = grind (arith, pow-suc)

doubled_below : (n : ℕ) → neg_ℤ (pos (n + n)) ≡ neg_ℤ (pos n) +ℤ neg_ℤ (pos n)
doubled_below n = omega (arith, ints)

-- a number doubled n + 1 times is twice the number doubled n times
pub times_more : (number : ℤ) (n : ℕ) → times number (suc n) ≡ times number n +ℤ times number n
times_more (pos a) n = ap pos (doubled a n)
times_more (negsuc a) n = ap (λ m. neg_ℤ (pos m)) (doubled (suc a) n) ∙ doubled_below (suc a * 2 ^ n)

modulo_more : (number : ℤ)
    → (modulo 0o200000 number + modulo 0o200000 number) % 0o200000 ≡ modulo 0o200000 (number +ℤ number)
modulo_more (pos a) = omega arith
modulo_more (negsuc a) = omega arith

modulo_word : (value : ℕ) → value < 0o200000 → value ≡ modulo 0o200000 (signed Word value)
modulo_word value below = grind (arith, ints, nat_tests)

-- n steps to the left give the exact number modulo octal 200000
steps_are : (value n : ℕ) → value < 0o200000 → steps_left n value ≡ modulo 0o200000 (times (signed Word value) n)
steps_are value zero below = modulo_word value below ∙ sym (ap (modulo 0o200000) (times_none (signed Word value)))
steps_are value (suc n) below =
    ap (λ m. (m + m) % 0o200000) (steps_are value n below) ∙ modulo_more (times (signed Word value) n)
    ∙ sym (ap (modulo 0o200000) (times_more (signed Word value) n))

steps_times : (value n : ℕ) → value < 0o200000 → steps_left n value ≡ value * 2 ^ n % 0o200000
steps_times value zero below = omega arith
steps_times value (suc n) below =
    let e : value * 2 ^ suc n ≡ value * 2 ^ n + value * 2 ^ n = doubled value n in
    ap (λ m. (m + m) % 0o200000) (steps_times value n below) ∙ omega arith

-- if the exact number fits a signed word, n steps to the left give it as a signed number
steps_hold : (value n : ℕ) → value < 0o200000 → overflows Word (times (signed Word value) n) ≡ false
    → signed Word (steps_left n value) ≡ times (signed Word value) n
steps_hold value n below held_in =
    ap (signed Word) (steps_are value n below)
    ∙ word_again (times (signed Word value) n) (held_in_word (times (signed Word value) n) held_in)

-- doubling keeps the sign
pub sign_of_double : (number : ℤ) → int_lt (number +ℤ number) (pos 0) ≡ int_lt number (pos 0)
sign_of_double (pos a) = le-ltb (a + a) 0 (omega arith) ∙ sym (le-ltb a 0 (omega arith))
sign_of_double (negsuc a) = refl

pub sign_of_times : (number : ℤ) (n : ℕ) → int_lt (times number n) (pos 0) ≡ int_lt number (pos 0)
sign_of_times number zero = ap (λ z. int_lt z (pos 0)) (times_none number)
sign_of_times number (suc n) =
    ap (λ z. int_lt z (pos 0)) (times_more number n) ∙ sign_of_double (times number n) ∙ sign_of_times number n

-- if the double of a number fits a signed word, the number does
held_half : (number : ℤ) → overflows Word (number +ℤ number) ≡ false → overflows Word number ≡ false
held_half number held_in = grind (arith, ints, nat_tests)

held_before : (number : ℤ) (n k : ℕ) → k ≤ n → overflows Word (times number n) ≡ false
    → overflows Word (times number k) ≡ false
held_before number zero k below held_in =
    let e : zero ≡ k = omega arith in
    let P : ℕ → Type 0 = λ m. overflows Word (times number m) ≡ false in subst P e held_in
held_before number (suc n) k below held_in =
    elim (cases_lt k (suc n)) [
      | inl less ↦ held_before number n k (omega arith)
          (held_half (times number n) (ap (overflows Word) (sym (times_more number n)) ∙ held_in))
      | inr same ↦ (let e : suc n ≡ k = omega arith in
          let P : ℕ → Type 0 = λ m. overflows Word (times number m) ≡ false in subst P e held_in)
    ]

-- if a number fits a signed word but its double doesn't, the double's sign in the word differs from the number's
turned : (number : ℤ) → FitsSigned w16 number → overflows Word (number +ℤ number) ≡ true
    → int_lt (signed Word (modulo 0o200000 (number +ℤ number))) (pos 0) ≢ int_lt number (pos 0)
turned number fits over same = grind (arith, ints, nat_tests)

changes_more : (value n : ℕ) → SignChanges value n → SignChanges value (suc n)
changes_more value n (k, below, differs) = (k, omega arith, differs)

changes : (value n : ℕ) → value < 0o200000 → overflows Word (times (signed Word value) n) ≡ true → SignChanges value n
changes value zero below over =
    absurd (false≢true (sym
    (ap (overflows Word) (times_none (signed Word value))
    ∙ word_holds (signed Word value) (signed_fits Word value below)) ∙ over))
changes value (suc n) below over =
    let number : ℤ = times (signed Word value) n in
    elim (cases_Bool (overflows Word number)) [
      | inl earlier ↦ changes_more value n (changes value n below earlier)
      | inr held_in ↦ (
        suc n,
        omega arith,
        λ same.
            turned number (held_in_word number held_in)
            (ap (overflows Word) (sym (times_more (signed Word value) n)) ∙ over)
            (ap (λ m. int_lt (signed Word m) (pos 0))
            (sym (steps_are value (suc n) below ∙ ap (modulo 0o200000) (times_more (signed Word value) n)))
            ∙ same ∙ sym (sign_of_times (signed Word value) n)),
      )
    ]

no_changes : (value n k : ℕ) → value < 0o200000 → k ≤ n → overflows Word (times (signed Word value) n) ≡ false
    → int_lt (signed Word (steps_left k value)) (pos 0) ≡ int_lt (signed Word value) (pos 0)
no_changes value n k below k_below held_in =
    ap (λ z. int_lt z (pos 0)) (steps_hold value k below (held_before (signed Word value) n k k_below held_in))
    ∙ sign_of_times (signed Word value) k

-- the result of ASH for this number of places
abbrev pub result_by : ℕ → ℤ → Computed
result_by value count =
    with_codes Word (modulo (size_limit Word) (shifted (signed Word value) count))
    (overflows Word (shifted (signed Word value) count))
    (last_bit 16 (signed Word value) count)

-- digit 16 of the double of a number is the highest of the lowest 16 digits of the number
digit_of_double : (number : ℤ) → digit (number +ℤ number) 16 ≡ nat_le 0o100000 (modulo 0o200000 number)
digit_of_double (pos a) = grind (arith, nat_tests)
digit_of_double (negsuc a) = grind (arith, nat_tests)

last_is : (value n : ℕ) → value < 0o200000 → last_bit 16 (signed Word value) (pos n) ≡ left_last n value
last_is value zero below = refl
last_is value (suc n) below =
    ap (λ z. digit z 16) (times_more (signed Word value) n) ∙ digit_of_double (times (signed Word value) n)
    ∙ ap (λ m. nat_le 0o100000 m) (sym (steps_are value n below))

left_by : (value n : ℕ) → value < 0o200000 → IsShiftedLeft value n (result_by value (pos n))
left_by value n below =
    let number : ℤ = times (signed Word value) n in record {
      value_times = sym (steps_are value n below) ∙ steps_times value n below;
      by_steps = sym (steps_are value n below);
      sign_changes = (
        changes value n below,
        λ (k, k_below, differs). elim (cases_Bool (overflows Word number)) [
          | inl over ↦ over
          | inr held_in ↦ absurd (differs (no_changes value n k below k_below held_in))
        ],
      );
      carry = last_is value n below;
    }

pub left : (value count n : ℕ) → value < 0o200000 → places count ≡ pos n
    → IsShiftedLeft value n (shift_result value count)
unfolding shift_result
left value count n below places_is =
    let P : ℤ → Type 0 = λ p. IsShiftedLeft value n (result_by value p) in
    subst P (sym places_is) (left_by value n below)

-- a quotient rounded down, times the divisor, is at most the number
pub quotient_below : (number : ℤ) (divisor : ℕ) → 0 < divisor
    → (int_div_euclid number (pos divisor) *ℤ pos divisor) ≤ℤ number
quotient_below (pos a) divisor positive =
    let split : a / divisor * divisor + a % divisor ≡ a = div-add-mod' a divisor in
    let e : a / divisor * divisor ≤ a = omega arith in
    omega (arith, ints)
quotient_below (negsuc a) divisor positive =
    let split : a / divisor * divisor + a % divisor ≡ a = div-add-mod' a divisor in
    let rest : a % divisor < divisor = mod_below a divisor positive in
    let more : suc (a / divisor) * divisor ≡ a / divisor * divisor + divisor = grind arith in
    let e : suc a ≤ suc (a / divisor) * divisor = omega arith in
    omega (arith, ints)

one_more : (q divisor : ℕ) → (negsuc q +ℤ pos 1) *ℤ pos divisor ≡ neg_ℤ (pos (q * divisor))
one_more zero divisor =
    let e : 0 * divisor ≡ 0 = omega arith in
    ap pos e ∙ sym (ap (λ n. neg_ℤ (pos n)) e)
one_more (suc q) divisor =
    let e : negsuc (suc q) +ℤ pos 1 ≡ negsuc q = omega (arith, ints) in
    ap (λ z. z *ℤ pos divisor) e

pub quotient_above : (number : ℤ) (divisor : ℕ) → 0 < divisor
    → number <ℤ ((int_div_euclid number (pos divisor) +ℤ pos 1) *ℤ pos divisor)
quotient_above (pos a) divisor positive =
    let split : a / divisor * divisor + a % divisor ≡ a = div-add-mod' a divisor in
    let rest : a % divisor < divisor = mod_below a divisor positive in
    let more : (a / divisor + 1) * divisor ≡ a / divisor * divisor + divisor = grind arith in
    let e : a < (a / divisor + 1) * divisor = omega arith in
    omega (arith, ints)
quotient_above (negsuc a) divisor positive =
    let split : a / divisor * divisor + a % divisor ≡ a = div-add-mod' a divisor in
    let e : a / divisor * divisor < suc a = omega arith in
    let below : negsuc a <ℤ neg_ℤ (pos (a / divisor * divisor)) = omega (arith, ints) in
    let P : ℤ → Type 0 = λ z. negsuc a <ℤ z in subst P (sym (one_more (a / divisor) divisor)) below

quotient_fits : (number : ℤ) (divisor : ℕ) → FitsSigned w16 number
    → FitsSigned w16 (int_div_euclid number (pos divisor))
quotient_fits (pos a) divisor fits = record { sfits = omega (arith, div-le_self a divisor, fits.sfits) }
quotient_fits (negsuc a) divisor fits = record { sfits = omega (arith, div-le_self a divisor, fits.sfits) }

floored : (value : ℕ) (divisor : ℕ) (quotient : ℤ) → value < 0o200000 → 0 < divisor
    → quotient ≡ int_div_euclid (signed Word value) (pos divisor)
    → ((signed Word (modulo 0o200000 quotient) *ℤ pos divisor) ≤ℤ signed Word value)
    × (signed Word value <ℤ ((signed Word (modulo 0o200000 quotient) +ℤ pos 1) *ℤ pos divisor))
    × (overflows Word quotient ≡ false)
    × (signed Word (modulo 0o200000 quotient) ≡ quotient)
floored value divisor quotient below positive quotient_is =
    let number : ℤ = signed Word value in
    let fits : FitsSigned w16 quotient =
    (let P : ℤ → Type 0 = λ z. FitsSigned w16 z in
    subst P (sym quotient_is) (quotient_fits number divisor (signed_fits Word value below))) in
    let again : int_div_euclid number (pos divisor) ≡ signed Word (modulo 0o200000 quotient) =
    sym quotient_is ∙ sym (word_again quotient fits) in
    let From : ℤ → Type 0 = λ z. (z *ℤ pos divisor) ≤ℤ number in
    let To : ℤ → Type 0 = λ z. number <ℤ ((z +ℤ pos 1) *ℤ pos divisor) in (
      subst From again (quotient_below number divisor positive),
      subst To again (quotient_above number divisor positive),
      word_holds quotient fits,
      word_again quotient fits,
    )

pub by_one : (number : ℤ) → number ≡ int_div_euclid number (pos 1)
by_one (pos a) = ap pos (omega arith)
by_one (negsuc a) = ap negsuc (omega arith)

pub halves : (number : ℤ) (n : ℕ)
    → int_div_euclid (int_div_euclid number (pos (2 ^ n))) (pos 2) ≡ int_div_euclid number (pos (2 ^ suc n))
halves (pos a) n = ap pos (shr-shr a n 1 ∙ ap (λ k. a / 2 ^ k) (let e : n + 1 ≡ suc n = omega arith in e))
halves (negsuc a) n = ap negsuc (shr-shr a n 1 ∙ ap (λ k. a / 2 ^ k) (let e : n + 1 ≡ suc n = omega arith in e))

-- n steps to the right are a division by 2 to the n, rounded down
pub steps_right_are : (number : ℤ) (n : ℕ) → steps_right n number ≡ int_div_euclid number (pos (2 ^ n))
steps_right_are number zero = by_one number
steps_right_are number (suc n) = ap (λ z. int_div_euclid z (pos 2)) (steps_right_are number n) ∙ halves number n

right_by : (value n : ℕ) → value < 0o200000 → IsShiftedRight value n (result_by value (neg_ℤ (pos n)))
right_by value zero below =
    let f =
    floored value 1 (times (signed Word value) 0) below (omega arith)
    (times_none (signed Word value) ∙ by_one (signed Word value)) in
    record { from = f.0; to = f.1; by_steps = f.3 ∙ times_none (signed Word value); overflow_is_clear = f.2; carry = refl }
right_by value (suc n) below =
    let number : ℤ = signed Word value in
    let f = floored value (2 ^ suc n) (int_div_euclid number (pos (2 ^ suc n))) below (pow_pos (suc n)) refl in
    record {
      from = f.0;
      to = f.1;
      by_steps = f.3 ∙ sym (steps_right_are number (suc n));
      overflow_is_clear = f.2;
      carry = ap (λ z. modulo 2 z == 1) (sym (steps_right_are number n));
    }

pub right : (value count n : ℕ) → value < 0o200000 → places count ≡ neg_ℤ (pos n)
    → IsShiftedRight value n (shift_result value count)
unfolding shift_result
right value count n below places_is =
    let P : ℤ → Type 0 = λ p. IsShiftedRight value n (result_by value p) in
    subst P (sym places_is) (right_by value n below)
