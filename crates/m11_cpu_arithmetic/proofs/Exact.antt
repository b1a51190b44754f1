-- The code computes exact numbers in 32 or 64 bits, which are enough for them.
use Rattle.std.proofs.Common.{◌≡◌, refl, sym, ◌∙◌, ap, ℕ, ◌^◌, ◌<◌, ◌≤◌, ℤ, pos, negsuc, ◌+ℤ◌, ◌-ℤ◌, ◌*ℤ◌, ◌≤ℤ◌, neg_ℤ, to_z, of_z, w16, w32, w64, arith, rules, Bool, true, false}
use Rattle.std.specs.Prelude.{FitsSigned, unsigned_abs, int_div, int_rem, int_lt, cond, not, ltb, ◌||◌, ◌==◌}
use Rattle.std.proofs.lemmas.Bool.{ltb-false}
use Rattle.std.proofs.lemmas.Bool.Decides.{nat_tests}
use Rattle.std.proofs.lemmas.Int.{ints, to_z-of_z, fits_signed_mul}
use Rattle.m11_base.specs.declared.operand.Size.{Size}
use Rattle.m11_base.specs.declared.operand.Size.TheVariants.{Word, Byte}
use Rattle.m11_cpu_arithmetic.specs.declared.results.Computed.{Computed}
use Rattle.m11_cpu_arithmetic.specs.declared.results.Pair.{Pair}
use Rattle.m11_cpu_arithmetic.specs.declared.results.Division.{Division}
use Rattle.m11_base.specs.Words.{modulo}
use Rattle.m11_cpu_arithmetic.specs.Sizes.{size_limit, signed, overflows}
use Rattle.m11_cpu_arithmetic.specs.Results.{with_codes, exact_result, pair_of}
use Rattle.m11_cpu_arithmetic.specs.Doubles.{sum, difference}
use Rattle.m11_cpu_arithmetic.specs.Singles.{negated}
use Rattle.m11_cpu_arithmetic.specs.Extended.{product_of, divided, refused_quotient, done}

-- the number that 32 bits hold after a number was stored there; the same number if it fits
abbrev pub held : ℤ → ℤ
held number = to_z w32 (of_z w32 number)

pub limit_at_most : (size : Size) → size_limit size ≤ 2 ^ 16
limit_at_most Word = omega arith
limit_at_most Byte = omega arith

-- a value as a signed number fits a signed word
pub signed_fits : (size : Size) (value : ℕ) → value < size_limit size → FitsSigned w16 (signed size value)
signed_fits Word value below = search rules
signed_fits Byte value below = search rules

-- the number is at least -65,536 and at most 65,536, so that 32 bits hold the sum and the difference of two such numbers
pub record Small (number : ℤ) : Type 0 where
  pub from : negsuc 65535 ≤ℤ number
  pub to : number ≤ℤ pos 65536

small_pos : (size : Size) (value : ℕ) (a : ℤ) → value < size_limit size → a ≡ pos value → Small a
small_pos size value a below a_is =
    let limit : size_limit size ≤ 2 ^ 16 = limit_at_most size in
    record { from = omega (arith, ints); to = omega (arith, ints) }

small_signed : (size : Size) (value : ℕ) (c : ℤ) → value < size_limit size → c ≡ signed size value → Small c
small_signed size value c below c_is =
    let fits : FitsSigned w16 (signed size value) = signed_fits size value below in
    record { from = omega (arith, ints); to = omega (arith, ints) }

sum_held : (a b : ℤ) → Small a → Small b → held (held a +ℤ held b) ≡ a +ℤ b
sum_held a b small_a small_b = omega (arith, ints)

difference_held : (a b : ℤ) → Small a → Small b → held (held a -ℤ held b) ≡ a -ℤ b
difference_held a b small_a small_b = omega (arith, ints)

module _ (size : Size) (first second : ℕ) (a b c d : ℤ) (r : Computed)
    (first_below : first < size_limit size) (second_below : second < size_limit size)
    (a_is : a ≡ pos first) (b_is : b ≡ pos second) (c_is : c ≡ signed size first) (d_is : d ≡ signed size second) where
  pub sum_exact : r ≡ exact_result size (held (held a +ℤ held b)) (held (held c +ℤ held d)) → r ≡ sum size first second
  sum_exact r_is =
      let unsigned_held : held (held a +ℤ held b) ≡ a +ℤ b =
      sum_held a b (small_pos size first a first_below a_is) (small_pos size second b second_below b_is) in
      let signed_held : held (held c +ℤ held d) ≡ c +ℤ d =
      sum_held c d (small_signed size first c first_below c_is) (small_signed size second d second_below d_is) in
      r_is ∙ ap (λ z. exact_result size z (held (held c +ℤ held d)))
      (unsigned_held ∙ ap (λ z. z +ℤ b) a_is ∙ ap (λ z. pos first +ℤ z) b_is)
      ∙ ap (λ z. exact_result size (pos first +ℤ pos second) z)
      (signed_held ∙ ap (λ z. z +ℤ d) c_is ∙ ap (λ z. signed size first +ℤ z) d_is)

  pub difference_exact : r ≡ exact_result size (held (held a -ℤ held b)) (held (held c -ℤ held d))
      → r ≡ difference size first second
  difference_exact r_is =
      let unsigned_held : held (held a -ℤ held b) ≡ a -ℤ b =
      difference_held a b (small_pos size first a first_below a_is) (small_pos size second b second_below b_is) in
      let signed_held : held (held c -ℤ held d) ≡ c -ℤ d =
      difference_held c d (small_signed size first c first_below c_is) (small_signed size second d second_below d_is) in
      r_is ∙ ap (λ z. exact_result size z (held (held c -ℤ held d)))
      (unsigned_held ∙ ap (λ z. z -ℤ b) a_is ∙ ap (λ z. pos first -ℤ z) b_is)
      ∙ ap (λ z. exact_result size (pos first -ℤ pos second) z)
      (signed_held ∙ ap (λ z. z -ℤ d) c_is ∙ ap (λ z. signed size first -ℤ z) d_is)

-- 32 bits hold the negative of a small number
negated_held : (a : ℤ) → Small a → held (pos 0 -ℤ held a) ≡ neg_ℤ a
negated_held a small_a = omega (arith, ints)

module _ (size : Size) (value kept : ℕ) (a c : ℤ) (overflow : Bool) (r : Computed) (below : value < size_limit size)
    (a_is : a ≡ pos value) (c_is : c ≡ signed size value) where
  pub negated_exact : kept ≡ modulo (size_limit size) (held (pos 0 -ℤ held a))
      → overflow ≡ overflows size (held (pos 0 -ℤ held c))
      → r ≡ with_codes size kept overflow (not (kept == 0)) → r ≡ negated size value
  negated_exact kept_is overflow_is r_is =
      let unsigned_held : held (pos 0 -ℤ held a) ≡ neg_ℤ (pos value) =
      negated_held a (small_pos size value a below a_is) ∙ ap neg_ℤ a_is in
      let signed_held : held (pos 0 -ℤ held c) ≡ neg_ℤ (signed size value) =
      negated_held c (small_signed size value c below c_is) ∙ ap neg_ℤ c_is in
      r_is ∙ ap (λ n. with_codes size n overflow (not (n == 0))) (kept_is ∙ ap (modulo (size_limit size)) unsigned_held)
      ∙ ap (λ v. with_codes size (modulo (size_limit size) (neg_ℤ (pos value))) v
      (not (modulo (size_limit size) (neg_ℤ (pos value)) == 0))) (overflow_is ∙ ap (overflows size) signed_held)

-- ---- products

pub size_at_most : (number : ℤ) → FitsSigned w16 number → unsigned_abs number ≤ 2 ^ 15
size_at_most (pos n) fits = omega (arith, fits.sfits)
size_at_most (negsuc n) fits = omega (arith, fits.sfits)

word_size : (value : ℕ) → value < 2 ^ 16 → unsigned_abs (signed Word value) ≤ 2 ^ 15
word_size value below = size_at_most (signed Word value) (signed_fits Word value below)

-- if a number fits 32 bits, its bits there are the number modulo 2 to the power of 32
pub bits_held : (number : ℤ) → FitsSigned w32 number → of_z w32 number ≡ modulo 0o40000000000 number
bits_held (pos n) fits = omega (arith, fits.sfits)
bits_held (negsuc n) fits = omega (arith, fits.sfits)

pub product_fits : (register source : ℕ) → register < 2 ^ 16 → source < 2 ^ 16
    → FitsSigned w32 (signed Word register *ℤ signed Word source)
product_fits register source register_below source_below =
    fits_signed_mul w32 (signed Word register) (signed Word source) (2 ^ 15) (2 ^ 15)
    (word_size register register_below)
    (word_size source source_below) (omega arith)

module _ (register source bits : ℕ) (a b : ℤ) (overflow : Bool) (r : Pair) (register_below : register < 2 ^ 16)
    (source_below : source < 2 ^ 16)
    (a_is : a ≡ signed Word register) (b_is : b ≡ signed Word source) where
  product_held : held (held a *ℤ held b) ≡ signed Word register *ℤ signed Word source
  product_held =
      let fits_a : FitsSigned w16 (signed Word register) = signed_fits Word register register_below in
      let fits_b : FitsSigned w16 (signed Word source) = signed_fits Word source source_below in
      let held_a : held a ≡ signed Word register = omega (arith, ints) in
      let held_b : held b ≡ signed Word source = omega (arith, ints) in
      ap (λ x. held (x *ℤ held b)) held_a ∙ ap (λ y. held (signed Word register *ℤ y)) held_b
      ∙ to_z-of_z w32 (signed Word register *ℤ signed Word source)
      (product_fits register source register_below source_below)

  pub product_exact : bits ≡ of_z w32 (held (held a *ℤ held b)) → overflow ≡ overflows Word (held (held a *ℤ held b))
      → r ≡ pair_of bits false overflow → r ≡ product_of register source
  unfolding product_of
  product_exact bits_is overflow_is r_is =
      let product : ℤ = signed Word register *ℤ signed Word source in
      r_is ∙ ap (λ n. pair_of n false overflow)
      (bits_is ∙ ap (of_z w32) product_held
      ∙ bits_held product (product_fits register source register_below source_below))
      ∙ ap (λ v. pair_of (modulo 0o40000000000 product) false v) (overflow_is ∙ ap (overflows Word) product_held)

-- ---- quotients

pub divided_done : (dividend divisor quotient remainder : ℤ) (r : Division) → overflows Word quotient ≡ false
    → quotient ≡ int_div dividend divisor → remainder ≡ int_rem dividend divisor → r ≡ done quotient remainder
    → r ≡ divided dividend divisor
divided_done dividend divisor quotient remainder r no_overflow quotient_is remainder_is r_is =
    r_is ∙ ap (λ m. done quotient m) remainder_is ∙ ap (λ q. done q (int_rem dividend divisor)) quotient_is
    ∙ sym (ap (λ b. cond b (refused_quotient (int_div dividend divisor))
    (done (int_div dividend divisor) (int_rem dividend divisor)))
    (ap (overflows Word) (sym quotient_is) ∙ no_overflow))

-- if neither test of the code finds that a quotient is outside the range of a signed word, it doesn't overflow a word
pub no_overflow : (quotient : ℤ) → FitsSigned w64 quotient
    → int_lt (to_z w64 (of_z w64 quotient)) (negsuc 32767) ≡ false
    → int_lt (pos 32767) (to_z w64 (of_z w64 quotient)) ≡ false → overflows Word quotient ≡ false
no_overflow quotient fits from to =
    let same : to_z w64 (of_z w64 quotient) ≡ quotient = to_z-of_z w64 quotient fits in
    ap (λ b. b || int_lt (pos 32767) quotient) (ap (λ q. int_lt q (negsuc 32767)) (sym same) ∙ from)
    ∙ (ap (λ q. int_lt (pos 32767) q) (sym same) ∙ to)

or_false : (a b : Bool) → (a || b) ≡ false → a ≡ false
or_false true b e = e
or_false false b e = refl

-- a number that doesn't overflow a word fits a signed word
pub held_in_word : (number : ℤ) → overflows Word number ≡ false → FitsSigned w16 number
held_in_word (pos n) e = record { sfits = omega (arith, ltb-false 32767 n e) }
held_in_word (negsuc n) e = record { sfits = omega (arith, ltb-false 32767 n (or_false (ltb 32767 n) false e)) }

-- if a number fits a signed word, the word that stores it gives it back as a signed number
pub word_again : (number : ℤ) → FitsSigned w16 number → signed Word (modulo 0o200000 number) ≡ number
word_again (pos n) fits = omega (arith, ints)
word_again (negsuc n) fits = grind (arith, ints, nat_tests)

pub word_holds : (number : ℤ) → FitsSigned w16 number → overflows Word number ≡ false
word_holds number fits = grind (arith, ints, nat_tests)

module _ (dividend divisor quotient remainder : ℤ) (r : Division) (dividend_fits : FitsSigned w32 dividend)
    (divisor_fits : FitsSigned w32 divisor)
    (quotient_fits : FitsSigned w64 quotient) (remainder_fits : FitsSigned w32 remainder) where
  pub division_exact : overflows Word quotient ≡ false → quotient ≡ int_div (held dividend) (held divisor)
      → remainder ≡ int_rem (held dividend) (held divisor)
      → r ≡ done (held (to_z w64 (of_z w64 quotient))) (held remainder) → r ≡ divided dividend divisor
  division_exact held_in quotient_is remainder_is r_is =
      let in_word : FitsSigned w16 quotient = held_in_word quotient held_in in
      let quotient_held : held (to_z w64 (of_z w64 quotient)) ≡ quotient = omega (arith, ints) in
      let remainder_held : held remainder ≡ remainder = to_z-of_z w32 remainder remainder_fits in
      let dividend_held : held dividend ≡ dividend = to_z-of_z w32 dividend dividend_fits in
      let divisor_held : held divisor ≡ divisor = to_z-of_z w32 divisor divisor_fits in
      divided_done dividend divisor quotient remainder r held_in
      (quotient_is ∙ ap (λ x. int_div x (held divisor)) dividend_held ∙ ap (λ y. int_div dividend y) divisor_held)
      (remainder_is ∙ ap (λ x. int_rem x (held divisor)) dividend_held ∙ ap (λ y. int_rem dividend y) divisor_held)
      (r_is ∙ ap (λ q. done q (held remainder)) quotient_held ∙ ap (λ m. done quotient m) remainder_held)
