-- The digits of a number spell it, even without leading zeros.
use Rattle.std.proofs.Common.{◌≡◌, ◌∙◌, ℕ, ◌-◌, ◌*◌, ◌^◌, ◌<◌, Bool, true, false, List, [], ◌∷◌, length, refl, arith}
use Rattle.std.specs.Prelude.{◌==◌, ◌&&◌, nat_lt, if◌then◌else◌}
use Rattle.std.proofs.lemmas.Bool.{and_parts, eqb-true}
use Rattle.m11_base.specs.Octal.{octal_text, octal_value}
use Rattle.m11_base_disassembly.specs.Numbers.{number_text, significant}

spelled_by : (b : Bool) (digit : ℕ) (digits shorter : List ℕ) → (digit == 48 && nat_lt 0 (length digits)) ≡ b
    → octal_value shorter ≡ octal_value digits
    → octal_value (if b then shorter else digit ∷ digits) ≡ octal_value (digit ∷ digits)
spelled_by false digit digits shorter is e = refl
spelled_by true digit digits shorter is e =
    let zero_digit = eqb-true digit 48 (and_parts (digit == 48) (nat_lt 0 (length digits)) is).0 in
    let none : digit - 48 ≡ 0 = omega (arith, zero_digit) in
    let nothing : (digit - 48) * 8 ^ length digits ≡ 0 = rw none (omega arith) in
    omega (arith, e, nothing)

spelled : (digits : List ℕ) → octal_value (significant digits) ≡ octal_value digits
spelled [] = refl
spelled (digit ∷ digits) =
    spelled_by (digit == 48 && nat_lt 0 (length digits)) digit digits (significant digits) refl (spelled digits)

six_spelled : (number : ℕ) → number < 65536 → octal_value (octal_text number) ≡ number
six_spelled number h = omega arith

pub number_spelled : (number : ℕ) → number < 65536 → octal_value (number_text number) ≡ number
number_spelled number h = spelled (octal_text number) ∙ six_spelled number h
