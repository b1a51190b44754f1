-- Products and quotients of exact numbers, and the words that hold them.
use Rattle.std.proofs.Common.{◌≡◌, refl, sym, subst, ◌∙◌, ap, ℕ, zero, suc, ◌+◌, ◌*◌, ◌/◌, ◌%◌, ◌^◌, ◌<◌, ◌≤◌, ◌≢◌, ◌⊎◌, inl, inr, ℤ, pos, negsuc, ◌+ℤ◌, ◌*ℤ◌, neg_ℤ, w16, w32, to_z, arith, Bool, true, false}
use Rattle.std.specs.Prelude.{FitsSigned, int_lt, int_div, int_rem, unsigned_abs, cond, ltb, ◌==◌}
use Rattle.std.proofs.lemmas.Bool.{cases_Bool, eqb-true, eqb-false, le-ltb, true≢false}
use Rattle.std.proofs.lemmas.Bool.Decides.{nat_tests}
use Rattle.std.proofs.lemmas.Nat.{div-mul-add}
use Rattle.std.proofs.lemmas.Int.{ints, to_z-of_z, quot-rem, rem_below, fits_signed_from_abs}
use Rattle.m11_base.specs.declared.operand.Size.TheVariants.{Word}
use Rattle.m11_base.specs.Words.{modulo}
use Rattle.m11_cpu_arithmetic.specs.Sizes.{signed, overflows}
use Rattle.m11_cpu_arithmetic.specs.Extended.{joined, product_of, division_of, divided, done, refused_by_zero, refused_quotient}
use Rattle.m11_cpu_arithmetic.specs.Laws.{IsProduct, IsDivided, IsQuotient, HasNoQuotient}
use Rattle.m11_cpu_arithmetic.proofs.Exact.{held_in_word, word_again, word_holds, product_fits, bits_held, size_at_most, signed_fits}

pub multiplied : (register source : ℕ) → register < 0o200000 → source < 0o200000 → IsProduct register source
unfolding product_of
multiplied register source register_below source_below =
    let product : ℤ = signed Word register *ℤ signed Word source in
    let fits : FitsSigned w32 product = product_fits register source register_below source_below in
    let bits : ℕ = modulo 0o40000000000 product in
    let again : bits / 0o200000 * 0o200000 + bits % 0o200000 ≡ bits = omega arith in
    ap (λ n. to_z w32 n) (again ∙ sym (bits_held product fits)) ∙ to_z-of_z w32 product fits

sign_below : (n : ℕ) → (neg_ℤ (pos n) ≡ pos 0) ⊎ (int_lt (neg_ℤ (pos n)) (pos 0) ≡ true)
sign_below zero = inl refl
sign_below (suc n) = inr refl

-- a remainder is 0 or has the sign of the dividend
sign_of_remainder : (dividend divisor : ℤ)
    → (int_rem dividend divisor ≡ pos 0) ⊎ (int_lt (int_rem dividend divisor) (pos 0) ≡ int_lt dividend (pos 0))
sign_of_remainder (pos a) divisor =
    inr (le-ltb (a % unsigned_abs divisor) 0 (omega arith) ∙ sym (le-ltb a 0 (omega arith)))
sign_of_remainder (negsuc a) divisor = sign_below (suc a % unsigned_abs divisor)

remainder_fits : (dividend divisor : ℤ) → FitsSigned w16 divisor → 0 < unsigned_abs divisor
    → FitsSigned w16 (int_rem dividend divisor)
remainder_fits dividend divisor divisor_fits nonzero =
    let below : unsigned_abs (int_rem dividend divisor) < unsigned_abs divisor = rem_below dividend divisor nonzero in
    let most : unsigned_abs divisor ≤ 2 ^ 15 = size_at_most divisor divisor_fits in
    fits_signed_from_abs w16 (int_rem dividend divisor) (omega arith)

done_divides : (dividend divisor : ℤ) → FitsSigned w16 divisor → 0 < unsigned_abs divisor
    → overflows Word (int_div dividend divisor) ≡ false
    → IsDivided dividend divisor (done (int_div dividend divisor) (int_rem dividend divisor))
done_divides dividend divisor divisor_fits nonzero held_in =
    let quotient_again : signed Word (modulo 0o200000 (int_div dividend divisor)) ≡ int_div dividend divisor =
    word_again (int_div dividend divisor) (held_in_word (int_div dividend divisor) held_in) in
    let remainder_again : signed Word (modulo 0o200000 (int_rem dividend divisor)) ≡ int_rem dividend divisor =
    word_again (int_rem dividend divisor) (remainder_fits dividend divisor divisor_fits nonzero) in (
      refl,
      record {
        whole = sym (quot-rem dividend divisor)
            ∙ ap (λ q. (q *ℤ divisor) +ℤ int_rem dividend divisor) (sym quotient_again)
            ∙ ap (λ r. (signed Word (modulo 0o200000 (int_div dividend divisor)) *ℤ divisor) +ℤ r)
            (sym remainder_again);
        smaller = let P : ℤ → Type 0 = λ r. unsigned_abs r < unsigned_abs divisor in
            subst P (sym remainder_again) (rem_below dividend divisor nonzero);
        sign = let P : ℤ → Type 0 = λ r. (r ≡ pos 0) ⊎ (int_lt r (pos 0) ≡ int_lt dividend (pos 0)) in
            subst P (sym remainder_again) (sign_of_remainder dividend divisor);
      },
    )

-- ---- there is only one quotient

div_is : (n k e m : ℕ) → m < e → n ≡ k * e + m → n / e ≡ k
div_is n k e m below n_is = ap (λ x. x / e) n_is ∙ div-mul-add k e m below

none_below : (k e m : ℕ) → m < e → k * e ≤ m → k ≡ 0
none_below zero e m below at_most = refl
none_below (suc k) e m below at_most =
    let more : suc k * e ≡ k * e + e = grind arith in
    absurd (omega arith)

not_below : (n m : ℕ) → (negsuc m ≡ pos 0) ⊎ (true ≡ ltb n 0) → ⊥
not_below n m (inl e) = cc
not_below n m (inr e) = true≢false (e ∙ le-ltb n 0 (omega arith))

is_none : (m : ℕ) → (pos m ≡ pos 0) ⊎ (ltb m 0 ≡ true) → m ≡ 0
is_none m (inl e) = cc
is_none m (inr e) = absurd (true≢false (sym e ∙ le-ltb m 0 (omega arith)))

quotient_of : (dividend divisor quotient remainder : ℤ) → IsQuotient dividend divisor quotient remainder
    → quotient ≡ int_div dividend divisor
quotient_of (pos n) divisor quotient (negsuc m) is = absurd (not_below n m is.sign)
quotient_of (pos n) (pos e) (pos k) (pos m) is =
    let w : n ≡ k * e + m = omega (arith, ints) in
    ap pos (sym (div_is n k e m is.smaller w))
quotient_of (pos n) (negsuc e) (pos k) (pos m) is =
    let w : k * suc e + n ≡ m = omega (arith, ints) in
    let none : k ≡ 0 = none_below k (suc e) m is.smaller (omega arith) in
    let z : k * suc e ≡ 0 * suc e = ap (λ x. x * suc e) none in
    ap pos none ∙ sym (ap (λ x. neg_ℤ (pos x)) (div_is n 0 (suc e) m is.smaller (omega arith)))
quotient_of (pos n) (pos e) (negsuc k) (pos m) is =
    let w : suc k * e + n ≡ m = omega (arith, ints) in
    let none : suc k ≡ 0 = none_below (suc k) e m is.smaller (omega arith) in
    absurd (omega arith)
quotient_of (pos n) (negsuc e) (negsuc k) (pos m) is =
    let w : n ≡ suc k * suc e + m = omega (arith, ints) in
    sym (ap (λ x. neg_ℤ (pos x)) (div_is n (suc k) (suc e) m is.smaller w))
quotient_of (negsuc n) (pos e) (pos k) (pos m) is = absurd (omega (arith, ints))
quotient_of (negsuc n) (negsuc e) (pos k) (pos m) is =
    let none : m ≡ 0 = is_none m is.sign in
    let w : suc n ≡ k * suc e + 0 = omega (arith, ints) in
    ap pos (sym (div_is (suc n) k (suc e) 0 (omega arith) w))
quotient_of (negsuc n) (pos e) (negsuc k) (pos m) is =
    let none : m ≡ 0 = is_none m is.sign in
    let w : suc n ≡ suc k * e + 0 = omega (arith, ints) in
    let positive : 0 < e = omega (arith, is.smaller) in
    sym (ap (λ x. neg_ℤ (pos x)) (div_is (suc n) (suc k) e 0 positive w))
quotient_of (negsuc n) (negsuc e) (negsuc k) (pos m) is = absurd (omega (arith, ints))
quotient_of (negsuc n) (pos e) (pos k) (negsuc m) is =
    let w : k * e + suc n ≡ suc m = omega (arith, ints) in
    let none : k ≡ 0 = none_below k e (suc m) is.smaller (omega arith) in
    let z : k * e ≡ 0 * e = ap (λ x. x * e) none in
    ap pos none ∙ sym (ap (λ x. neg_ℤ (pos x)) (div_is (suc n) 0 e (suc m) is.smaller (omega arith)))
quotient_of (negsuc n) (negsuc e) (pos k) (negsuc m) is =
    let w : suc n ≡ k * suc e + suc m = omega (arith, ints) in
    ap pos (sym (div_is (suc n) k (suc e) (suc m) is.smaller w))
quotient_of (negsuc n) (pos e) (negsuc k) (negsuc m) is =
    let w : suc n ≡ suc k * e + suc m = omega (arith, ints) in
    sym (ap (λ x. neg_ℤ (pos x)) (div_is (suc n) (suc k) e (suc m) is.smaller w))
quotient_of (negsuc n) (negsuc e) (negsuc k) (negsuc m) is =
    let w : suc k * suc e + suc n ≡ suc m = omega (arith, ints) in
    let none : suc k ≡ 0 = none_below (suc k) (suc e) (suc m) is.smaller (omega arith) in
    absurd (omega arith)

no_quotient : (dividend divisor : ℤ) → overflows Word (int_div dividend divisor) ≡ true → HasNoQuotient dividend divisor
no_quotient dividend divisor over quotient remainder quotient_below remainder_below is =
    let same : signed Word quotient ≡ int_div dividend divisor =
    quotient_of dividend divisor (signed Word quotient) (signed Word remainder) is in
    true≢false (sym over ∙ ap (overflows Word) (sym same)
    ∙ word_holds (signed Word quotient) (signed_fits Word quotient quotient_below))

divided_divides : (dividend divisor : ℤ) → FitsSigned w16 divisor → 0 < unsigned_abs divisor
    → IsDivided dividend divisor (divided dividend divisor)
divided_divides dividend divisor divisor_fits nonzero =
    let quotient : ℤ = int_div dividend divisor in
    let D : Bool → Type 0 =
    λ b. IsDivided dividend divisor
    (cond b (refused_quotient quotient) (done quotient (int_rem dividend divisor))) in
    elim (cases_Bool (overflows Word quotient)) [
      | inl over ↦ subst D (sym over) (refl, inr (no_quotient dividend divisor over))
      | inr held_in ↦ subst D (sym held_in) (done_divides dividend divisor divisor_fits nonzero held_in)
    ]

zero_word : (divisor : ℕ) → divisor ≡ 0 → signed Word divisor ≡ pos 0
zero_word divisor e = ap (signed Word) e

nonzero_word : (divisor : ℕ) → divisor < 0o200000 → (divisor == 0) ≡ false → 0 < unsigned_abs (signed Word divisor)
nonzero_word divisor below e =
    let nonzero : divisor ≢ 0 = eqb-false divisor 0 e in
    grind (arith, ints, nat_tests)

pub division_divides : (high low divisor : ℕ) → high < 0o200000 → low < 0o200000 → divisor < 0o200000
    → IsDivided (joined high low) (signed Word divisor) (division_of high low divisor)
unfolding division_of
division_divides high low divisor high_below low_below divisor_below =
    let D : Bool → Type 0 =
    λ b. IsDivided (joined high low) (signed Word divisor)
    (cond b refused_by_zero (divided (joined high low) (signed Word divisor))) in
    elim (cases_Bool (divisor == 0)) [
      | inl by_zero ↦ subst D (sym by_zero) (refl, inl (zero_word divisor (eqb-true divisor 0 by_zero)))
      | inr nonzero ↦ subst D (sym nonzero)
          (divided_divides (joined high low) (signed Word divisor) (signed_fits Word divisor divisor_below)
          (nonzero_word divisor divisor_below nonzero))
    ]
