-- The digits of a number spell that number.
use Rattle.std.proofs.Common.{◌≡◌, ℕ, zero, suc, ◌+◌, ◌-◌, ◌*◌, ◌/◌, ◌%◌, ◌^◌, ◌<◌, ◌≤◌, Bool, true, false, List, [], ◌∷◌, ◌++◌, length, Some, refl, sym, ap, ◌∙◌, subst, arith, ltb, lit≤}
use Rattle.std.specs.Prelude.{if◌then◌else◌, slice_index}
use Rattle.std.specs.Int.RustNames.{bit_or}
use Rattle.std.proofs.Math.Nat.{div-add-mod, div-lt_iff_lt-mul, mod-lt, pow-suc, pow-zero}
use Rattle.std.proofs.lemmas.Bool.{le-leb, le-ltb, lt-leb, ltb-false, ltb-true}
use Rattle.std.proofs.lemmas.List.{length-append}
use Rattle.std.proofs.lemmas.Nat.{pow-add}
use Rattle.m11_scan.specs.Classes.{is_digit}
use Rattle.m11_unfold_rules.specs.Digits.{digits_of, last_digits}
use Rattle.m11_scan.specs.Cuts.{form_of, number_form}
use Rattle.m11_scan.specs.ErrorFlags.{flag_N, flag_T}
use Rattle.m11_scan.specs.Numbers.{base_of, has_digit_outside, number_flags, number_of, spelled}
use Rattle.m11_scan.specs.declared.radix.Radix.{Radix}
use Rattle.m11_scan.specs.declared.radix.Radix.TheVariants.{Binary, Octal, Decimal}
use Rattle.m11_scan.specs.declared.sort.Form.TheVariants.{Cut}
use Rattle.m11_scan.specs.declared.sort.Sort.TheVariants.{Number}

-- ---- the digits of a base

abbrev AreDigits : ℕ → List ℕ → Type 0
AreDigits base [] = Unit {0}
AreDigits base (digit ∷ digits) = (48 ≤ digit) × (digit < base + 48) × AreDigits base digits

digits-append : (base : ℕ) (front back : List ℕ) → AreDigits base front → AreDigits base back → AreDigits base (front ++ back)
digits-append base [] back f b = b
digits-append base (digit ∷ front) back f b = (f.0, f.1, digits-append base front back f.2 b)

-- the first digit isn't 0
abbrev Leads : List ℕ → Type 0
Leads [] = ⊥
Leads (digit ∷ digits) = digit ≡ 48 → ⊥

leads-append : (front back : List ℕ) → Leads front → Leads (front ++ back)
leads-append [] back f = absurd f
leads-append (digit ∷ front) back f = f

-- ---- the number that the digits spell

spelled-append : (base : ℕ) (front back : List ℕ)
    → spelled base (front ++ back) ≡ spelled base front * base ^ length back + spelled base back
spelled-append base [] back = omega arith
spelled-append base (digit ∷ front) back =
    rw (length-append front back, pow-add base (length front) (length back), spelled-append base front back)
    (regrouped (digit - 48) (base ^ length front) (base ^ length back) (spelled base front) (spelled base back)) where
      regrouped : (digit columns moved front back : ℕ)
          → digit * (columns * moved) + (front * moved + back) ≡ (digit * columns + front) * moved + back
      regrouped digit columns moved front back = omega arith

one_more : (base front number : ℕ) (digits : List ℕ) → spelled base digits ≡ front
    → spelled base (digits ++ (48 + number) ∷ []) ≡ base * front + number
one_more base front number digits is =
    spelled-append base digits ((48 + number) ∷ [])
    ∙ rw (pow-suc base 0, pow-zero base, is) (omega arith)

some_quotient : (base number quotient rest : ℕ) → base * quotient + rest ≡ number → rest < base → base ≤ number → 0 < quotient
some_quotient base number zero rest is low least = absurd (omega arith)
some_quotient base number (suc quotient) rest is low least = omega arith

module _ (base : ℕ) (least : 2 ≤ base) where
  -- the digits of a number, by whether it has only one
  abbrev by_size : ℕ → ℕ → Bool → List ℕ
  by_size bound number is_less =
      if is_less then (48 + number) ∷ [] else last_digits bound base (number / base) ++ (48 + number % base) ∷ []

  low : (number : ℕ) → number % base < base
  low number = mod-lt number (omega arith)

  fewer : (bound number : ℕ) → number < base ^ suc bound → number / base < base ^ bound
  fewer bound number few = (div-lt_iff_lt-mul (omega arith)).1 (subst (λ (n : ℕ). number < n) (pow-suc base bound) few)

  none : (number : ℕ) → number < base ^ 0 → number ≡ 0
  none number few = let one : number < 1 = subst (λ (n : ℕ). number < n) (pow-zero base) few in omega arith

  size_spelt : (bound number : ℕ) → spelled base (last_digits bound base (number / base)) ≡ number / base
      → (is_less : Bool) → spelled base (by_size bound number is_less) ≡ number
  size_spelt bound number spelt true = rw (pow-zero base) (omega arith)
  size_spelt bound number spelt false =
      one_more base (number / base) (number % base) (last_digits bound base (number / base)) spelt ∙ div-add-mod number base

  pub are_spelt : (bound number : ℕ) → number < base ^ bound → spelled base (last_digits bound base number) ≡ number
  are_spelt zero number few = sym (none number few)
  are_spelt (suc bound) number few =
      size_spelt bound number (are_spelt bound (number / base) (fewer bound number few)) (ltb number base)

  size_digits : (bound number : ℕ) → AreDigits base (last_digits bound base (number / base))
      → (is_less : Bool) → ltb number base ≡ is_less → AreDigits base (by_size bound number is_less)
  size_digits bound number digits true tested =
      let less = ltb-true number base tested in
      (omega arith, omega arith, tt)
  size_digits bound number digits false tested =
      let less = low number in
      digits-append base (last_digits bound base (number / base)) ((48 + number % base) ∷ []) digits (omega arith, omega arith, tt)

  pub are_digits : (bound number : ℕ) → AreDigits base (last_digits bound base number)
  are_digits zero number = tt
  are_digits (suc bound) number = size_digits bound number (are_digits bound (number / base)) (ltb number base) refl

  size_leads : (bound number : ℕ) → (0 < number / base → Leads (last_digits bound base (number / base))) → 0 < number
      → (is_less : Bool) → ltb number base ≡ is_less → Leads (by_size bound number is_less)
  size_leads bound number leads some true tested = λ zero. absurd (omega arith)
  size_leads bound number leads some false tested =
      leads-append (last_digits bound base (number / base)) ((48 + number % base) ∷ [])
      (leads (some_quotient base number (number / base) (number % base) (div-add-mod number base) (low number)
      (ltb-false number base tested)))

  pub are_leading : (bound number : ℕ) → number < base ^ bound → 0 < number → Leads (last_digits bound base number)
  are_leading zero number few some = let is = none number few in absurd (omega arith)
  are_leading (suc bound) number few some =
      size_leads bound number (are_leading bound (number / base) (fewer bound number few)) some (ltb number base) refl

-- ---- the digits as a number in a source

is_digit-true : (base digit : ℕ) → base ≤ 10 → 48 ≤ digit → digit < base + 48 → is_digit digit ≡ true
is_digit-true base digit small least most =
    rw (le-leb 48 digit least, le-leb digit 57 (omega arith))

number-form : (base : ℕ) (digits : List ℕ) → base ≤ 10 → AreDigits base digits → number_form digits ≡ Some (Cut Number)
number-form base [] small are = refl
number-form base (digit ∷ digits) small are =
    rw (is_digit-true base digit small are.0 are.1) (number-form base digits small are.2)

whole-form : (base : ℕ) (digits : List ℕ) → base ≤ 10 → AreDigits base digits → (length digits ≡ 0 → ⊥)
    → form_of digits ≡ Some (Cut Number)
whole-form base [] small are some = absurd (some refl)
whole-form base (digit ∷ digits) small are some =
    rw (is_digit-true base digit small are.0 are.1) (number-form base digits small are.2)

none-outside : (base : ℕ) (digits : List ℕ) → AreDigits base digits → has_digit_outside base digits ≡ false
none-outside base [] are = refl
none-outside base (digit ∷ digits) are = rw (lt-leb (base + 48) digit are.1) (none-outside base digits are.2)

append-some : (front : List ℕ) (digit : ℕ) → length (front ++ digit ∷ []) ≡ 0 → ⊥
append-some front digit is = absurd (omega (arith, length-append front (digit ∷ []), is))

size-some : (base bound number : ℕ) (is_less : Bool) → (length (if is_less then (48 + number) ∷ [] else
    last_digits bound base (number / base) ++ (48 + number % base) ∷ []) ≡ 0) → ⊥
size-some base bound number true is = absurd (omega arith)
size-some base bound number false is = append-some (last_digits bound base (number / base)) (48 + number % base) is

first-digit : (digits : List ℕ) → Leads digits → slice_index digits 0 ≡ 48 → ⊥
first-digit [] leads is = leads
first-digit (digit ∷ digits) leads is = leads is

-- each radix is at least 2, so a word has at most 16 digits
least_base : (radix : Radix) → 2 ≤ base_of radix
least_base Binary = lit≤ tt
least_base Octal = lit≤ tt
least_base Decimal = lit≤ tt

most_base : (radix : Radix) → base_of radix ≤ 10
most_base Binary = lit≤ tt
most_base Octal = lit≤ tt
most_base Decimal = lit≤ tt

word_fits : (radix : Radix) → 65536 ≤ base_of radix ^ 16
word_fits Binary = lit≤ tt
word_fits Octal = lit≤ tt
word_fits Decimal = lit≤ tt

module _ (radix : Radix) (number : ℕ) where
  abbrev digits : List ℕ
  digits = digits_of (base_of radix) number

  are : AreDigits (base_of radix) digits
  are = are_digits (base_of radix) (least_base radix) 16 number

  pub written-token : number < 65536 → form_of digits ≡ Some (Cut Number)
  written-token word =
      whole-form (base_of radix) digits (most_base radix) are
      (λ is. size-some (base_of radix) 15 number (ltb number (base_of radix)) is)

  fits : number < 65536 → number < base_of radix ^ 16
  fits word = let most = word_fits radix in omega arith

  pub written-value : number < 65536 → number_of radix digits ≡ number
  written-value word =
      ap (λ (b : Bool). spelled (if b then 10 else base_of radix) digits) (none-outside (base_of radix) digits are)
      ∙ are_spelt (base_of radix) (least_base radix) 16 number (fits word)

  pub written-flags : number < 65536 → number_flags radix digits ≡ 0
  written-flags word =
      ap (λ (n : ℕ). bit_or (if ltb 65535 n then flag_T else 0)
      (if has_digit_outside (base_of radix) digits then flag_N else 0)) (written-value word)
      ∙ ap (λ (b : Bool). bit_or (if b then flag_T else 0) (if has_digit_outside (base_of radix) digits then flag_N else 0))
      (le-ltb 65535 number (omega arith))
      ∙ ap (λ (b : Bool). bit_or 0 (if b then flag_N else 0)) (none-outside (base_of radix) digits are)

  pub written-first : 0 < number → number < 65536 → slice_index digits 0 ≡ 48 → ⊥
  written-first some word =
      first-digit digits (are_leading (base_of radix) (least_base radix) 16 number (fits word) some)

pub written-zero : (radix : Radix) → digits_of (base_of radix) 0 ≡ 48 ∷ []
written-zero Binary = refl
written-zero Octal = refl
written-zero Decimal = refl
