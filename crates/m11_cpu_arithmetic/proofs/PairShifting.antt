-- Shifts of 32 bits as steps, and the exact numbers that they stand for. The lemmas are those of words in Shifting.antt, with other limits.
use Rattle.std.proofs.Common.{◌≡◌, refl, sym, subst, ◌∙◌, ap, ℕ, zero, suc, ◌+◌, ◌*◌, ◌/◌, ◌%◌, ◌^◌, ◌<◌, ◌≤◌, ◌≢◌, inl, inr, ℤ, pos, negsuc, ◌+ℤ◌, ◌*ℤ◌, ◌≤ℤ◌, ◌<ℤ◌, neg_ℤ, w32, arith, rules, Bool, true, false}
use Rattle.std.specs.Prelude.{nat_le, FitsSigned, int_lt, ◌==◌, ltb, ◌||◌}
use Rattle.std.specs.Int.{cast_signed, int_div_euclid}
use Rattle.std.proofs.Math.Nat.{div-le_self}
use Rattle.std.proofs.lemmas.Nat.{pow_pos}
use Rattle.std.proofs.lemmas.Bool.{cases_Bool, cases_lt, false≢true, ltb-false}
use Rattle.std.proofs.lemmas.Bool.Decides.{nat_tests}
use Rattle.std.proofs.lemmas.Int.{ints}
use Rattle.m11_cpu_arithmetic.specs.Extended.{joined}
use Rattle.m11_base.specs.Words.{modulo}
use Rattle.m11_cpu_arithmetic.specs.Sizes.{overflows_pair, pair_limit}
use Rattle.m11_cpu_arithmetic.specs.Shifts.{places, shifted, last_bit, digit, shift_pair_result}
use Rattle.m11_cpu_arithmetic.specs.declared.results.Pair.{Pair}
use Rattle.m11_cpu_arithmetic.specs.Results.{pair_of}
use Rattle.m11_cpu_arithmetic.specs.Laws.{double_word, IsPairShiftedLeft, IsPairShiftedRight, pair_left_last, pair_steps_left, PairSignChanges}
use Rattle.m11_cpu_arithmetic.proofs.Shifting.{by_one, doubled, quotient_above, quotient_below, sign_of_times, steps_right_are, times, times_more, times_none}

-- the two words of a number, joined, are the number
whole : (number : ℕ) → double_word (number / 0o200000) (number % 0o200000) ≡ number
whole number = omega arith

pair_fits : (value : ℕ) → value < pair_limit → FitsSigned w32 (cast_signed w32 value)
pair_fits value below = search rules

or_false : (a b : Bool) → (a || b) ≡ false → a ≡ false
or_false true b e = e
or_false false b e = refl

held_in_pair : (number : ℤ) → overflows_pair number ≡ false → FitsSigned w32 number
held_in_pair (pos n) e = record { sfits = omega (arith, ltb-false 0o17777777777 n e) }
held_in_pair (negsuc n) e =
    record { sfits = omega (arith, ltb-false 0o17777777777 n (or_false (ltb 0o17777777777 n) false e)) }

pair_again : (number : ℤ) → FitsSigned w32 number → cast_signed w32 (modulo pair_limit number) ≡ number
pair_again (pos n) fits = omega (arith, ints)
pair_again (negsuc n) fits = grind (arith, ints, nat_tests)

pair_holds : (number : ℤ) → FitsSigned w32 number → overflows_pair number ≡ false
pair_holds number fits = grind (arith, ints, nat_tests)

modulo_more : (number : ℤ)
    → (modulo pair_limit number + modulo pair_limit number) % pair_limit ≡ modulo pair_limit (number +ℤ number)
modulo_more (pos a) = omega arith
modulo_more (negsuc a) = omega arith

modulo_word : (value : ℕ) → value < pair_limit → value ≡ modulo pair_limit (cast_signed w32 value)
modulo_word value below = grind (arith, ints, nat_tests)

-- n steps to the left give the exact number modulo 2 to the power of 32
steps_are : (value n : ℕ) → value < pair_limit → pair_steps_left n value ≡ modulo pair_limit (times (cast_signed w32 value) n)
steps_are value zero below = modulo_word value below ∙ sym (ap (modulo pair_limit) (times_none (cast_signed w32 value)))
steps_are value (suc n) below =
    ap (λ m. (m + m) % pair_limit) (steps_are value n below) ∙ modulo_more (times (cast_signed w32 value) n)
    ∙ sym (ap (modulo pair_limit) (times_more (cast_signed w32 value) n))

steps_times : (value n : ℕ) → value < pair_limit → pair_steps_left n value ≡ value * 2 ^ n % pair_limit
steps_times value zero below = omega arith
steps_times value (suc n) below =
    let e : value * 2 ^ suc n ≡ value * 2 ^ n + value * 2 ^ n = doubled value n in
    ap (λ m. (m + m) % pair_limit) (steps_times value n below) ∙ omega arith

-- if the exact number fits 32 bits, n steps to the left give it as a signed number
steps_hold : (value n : ℕ) → value < pair_limit → overflows_pair (times (cast_signed w32 value) n) ≡ false
    → cast_signed w32 (pair_steps_left n value) ≡ times (cast_signed w32 value) n
steps_hold value n below held_in =
    ap (cast_signed w32) (steps_are value n below)
    ∙ pair_again (times (cast_signed w32 value) n) (held_in_pair (times (cast_signed w32 value) n) held_in)

-- if the double of a number fits 32 bits, the number does
held_half : (number : ℤ) → overflows_pair (number +ℤ number) ≡ false → overflows_pair number ≡ false
held_half number held_in = grind (arith, ints, nat_tests)

held_before : (number : ℤ) (n k : ℕ) → k ≤ n → overflows_pair (times number n) ≡ false
    → overflows_pair (times number k) ≡ false
held_before number zero k below held_in =
    let e : zero ≡ k = omega arith in
    let P : ℕ → Type 0 = λ m. overflows_pair (times number m) ≡ false in subst P e held_in
held_before number (suc n) k below held_in =
    elim (cases_lt k (suc n)) [
      | inl less ↦ held_before number n k (omega arith)
          (held_half (times number n) (ap (overflows_pair) (sym (times_more number n)) ∙ held_in))
      | inr same ↦ (let e : suc n ≡ k = omega arith in
          let P : ℕ → Type 0 = λ m. overflows_pair (times number m) ≡ false in subst P e held_in)
    ]

-- if a number fits 32 bits but its double doesn't, the double's sign in 32 bits differs from the number's
turned : (number : ℤ) → FitsSigned w32 number → overflows_pair (number +ℤ number) ≡ true
    → int_lt (cast_signed w32 (modulo pair_limit (number +ℤ number))) (pos 0) ≢ int_lt number (pos 0)
turned number fits over same = grind (arith, ints, nat_tests)

changes_more : (value n : ℕ) → PairSignChanges value n → PairSignChanges value (suc n)
changes_more value n (k, below, differs) = (k, omega arith, differs)

changes : (value n : ℕ) → value < pair_limit → overflows_pair (times (cast_signed w32 value) n) ≡ true → PairSignChanges value n
changes value zero below over =
    absurd (false≢true (sym
    (ap (overflows_pair) (times_none (cast_signed w32 value))
    ∙ pair_holds (cast_signed w32 value) (pair_fits value below)) ∙ over))
changes value (suc n) below over =
    let number : ℤ = times (cast_signed w32 value) n in
    elim (cases_Bool (overflows_pair number)) [
      | inl earlier ↦ changes_more value n (changes value n below earlier)
      | inr held_in ↦ (
        suc n,
        omega arith,
        λ same.
            turned number (held_in_pair number held_in)
            (ap (overflows_pair) (sym (times_more (cast_signed w32 value) n)) ∙ over)
            (ap (λ m. int_lt (cast_signed w32 m) (pos 0))
            (sym (steps_are value (suc n) below ∙ ap (modulo pair_limit) (times_more (cast_signed w32 value) n)))
            ∙ same ∙ sym (sign_of_times (cast_signed w32 value) n)),
      )
    ]

no_changes : (value n k : ℕ) → value < pair_limit → k ≤ n → overflows_pair (times (cast_signed w32 value) n) ≡ false
    → int_lt (cast_signed w32 (pair_steps_left k value)) (pos 0) ≡ int_lt (cast_signed w32 value) (pos 0)
no_changes value n k below k_below held_in =
    ap (λ z. int_lt z (pos 0)) (steps_hold value k below (held_before (cast_signed w32 value) n k k_below held_in))
    ∙ sign_of_times (cast_signed w32 value) k

-- the result of ASHC for this number of places
abbrev pub result_by : ℕ → ℤ → Pair
result_by value count =
    pair_of (modulo (pair_limit) (shifted (cast_signed w32 value) count))
    (overflows_pair (shifted (cast_signed w32 value) count))
    (last_bit 32 (cast_signed w32 value) count)

-- digit 32 of the double of a number is the highest of the lowest 32 digits of the number
digit_of_double : (number : ℤ) → digit (number +ℤ number) 32 ≡ nat_le 0o20000000000 (modulo pair_limit number)
digit_of_double (pos a) = grind (arith, nat_tests)
digit_of_double (negsuc a) = grind (arith, nat_tests)

last_is : (value n : ℕ) → value < pair_limit → last_bit 32 (cast_signed w32 value) (pos n) ≡ pair_left_last n value
last_is value zero below = refl
last_is value (suc n) below =
    ap (λ z. digit z 32) (times_more (cast_signed w32 value) n) ∙ digit_of_double (times (cast_signed w32 value) n)
    ∙ ap (λ m. nat_le 0o20000000000 m) (sym (steps_are value n below))

left_by : (value n : ℕ) → value < pair_limit → IsPairShiftedLeft value n (result_by value (pos n))
left_by value n below =
    let number : ℤ = times (cast_signed w32 value) n in record {
      value_times = whole _ ∙ sym (steps_are value n below) ∙ steps_times value n below;
      by_steps = whole _ ∙ sym (steps_are value n below);
      sign_changes = (
        changes value n below,
        λ (k, k_below, differs). elim (cases_Bool (overflows_pair number)) [
          | inl over ↦ over
          | inr held_in ↦ absurd (differs (no_changes value n k below k_below held_in))
        ],
      );
      carry = last_is value n below;
    }

pub left : (high low count n : ℕ) → high < 0o200000 → low < 0o200000 → places count ≡ pos n
    → IsPairShiftedLeft (double_word high low) n (shift_pair_result high low count)
unfolding shift_pair_result
left high low count n high_below low_below places_is =
    let value = double_word high low in
    let P : ℤ → Type 0 = λ p. IsPairShiftedLeft value n (result_by value p) in
    subst P (sym places_is) (left_by value n (omega arith))

quotient_fits : (number : ℤ) (divisor : ℕ) → FitsSigned w32 number
    → FitsSigned w32 (int_div_euclid number (pos divisor))
quotient_fits (pos a) divisor fits = record { sfits = omega (arith, div-le_self a divisor, fits.sfits) }
quotient_fits (negsuc a) divisor fits = record { sfits = omega (arith, div-le_self a divisor, fits.sfits) }

-- the signed number in the two words that hold the lowest 32 bits of an exact number
abbrev kept : ℤ → ℤ
kept number = joined (modulo pair_limit number / 0o200000) (modulo pair_limit number % 0o200000)

kept_again : (number : ℤ) → FitsSigned w32 number → kept number ≡ number
kept_again number fits = ap (cast_signed w32) (whole (modulo pair_limit number)) ∙ pair_again number fits

floored : (value : ℕ) (divisor : ℕ) (quotient : ℤ) → value < pair_limit → 0 < divisor
    → quotient ≡ int_div_euclid (cast_signed w32 value) (pos divisor)
    → ((kept quotient *ℤ pos divisor) ≤ℤ cast_signed w32 value)
    × (cast_signed w32 value <ℤ ((kept quotient +ℤ pos 1) *ℤ pos divisor))
    × (overflows_pair quotient ≡ false)
    × (kept quotient ≡ quotient)
floored value divisor quotient below positive quotient_is =
    let number : ℤ = cast_signed w32 value in
    let fits : FitsSigned w32 quotient =
    (let P : ℤ → Type 0 = λ z. FitsSigned w32 z in
    subst P (sym quotient_is) (quotient_fits number divisor (pair_fits value below))) in
    let again : int_div_euclid number (pos divisor) ≡ kept quotient =
    sym quotient_is ∙ sym (kept_again quotient fits) in
    let From : ℤ → Type 0 = λ z. (z *ℤ pos divisor) ≤ℤ number in
    let To : ℤ → Type 0 = λ z. number <ℤ ((z +ℤ pos 1) *ℤ pos divisor) in (
      subst From again (quotient_below number divisor positive),
      subst To again (quotient_above number divisor positive),
      pair_holds quotient fits,
      kept_again quotient fits,
    )

right_by : (value n : ℕ) → value < pair_limit → IsPairShiftedRight value n (result_by value (neg_ℤ (pos n)))
right_by value zero below =
    let f =
    floored value 1 (times (cast_signed w32 value) 0) below (omega arith)
    (times_none (cast_signed w32 value) ∙ by_one (cast_signed w32 value)) in
    record { from = f.0; to = f.1; by_steps = f.3 ∙ times_none (cast_signed w32 value); overflow_is_clear = f.2; carry = refl }
right_by value (suc n) below =
    let number : ℤ = cast_signed w32 value in
    let f = floored value (2 ^ suc n) (int_div_euclid number (pos (2 ^ suc n))) below (pow_pos (suc n)) refl in
    record {
      from = f.0;
      to = f.1;
      by_steps = f.3 ∙ sym (steps_right_are number (suc n));
      overflow_is_clear = f.2;
      carry = ap (λ z. modulo 2 z == 1) (sym (steps_right_are number n));
    }

pub right : (high low count n : ℕ) → high < 0o200000 → low < 0o200000 → places count ≡ neg_ℤ (pos n)
    → IsPairShiftedRight (double_word high low) n (shift_pair_result high low count)
unfolding shift_pair_result
right high low count n high_below low_below places_is =
    let value = double_word high low in
    let P : ℤ → Type 0 = λ p. IsPairShiftedRight value n (result_by value p) in
    subst P (sym places_is) (right_by value n (omega arith))
