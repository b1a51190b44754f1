-- The digits of a number in octal, without leading zeros, are one number in a source.
use Rattle.std.proofs.Common.{◌≡◌, ◌∙◌, ℕ, suc, ◌+◌, ◌-◌, ◌*◌, ◌/◌, ◌%◌, ◌^◌, ◌<◌, ◌≤◌, Bool, true, false, [], ◌∷◌, length, refl, ap, arith}
use Rattle.std.specs.Prelude.{◌==◌, ◌&&◌, nat_lt, if◌then◌else◌}
use Rattle.std.specs.Int.RustNames.{bit_or}
use Rattle.std.specs.List.{AllByRecursion, list_all}
use Rattle.std.proofs.lemmas.Bool.{and_parts, le-leb, le-ltb, lt-leb, ltb-true}
use Rattle.m11_base.specs.Devices.{Bytes}
use Rattle.m11_base.specs.Octal.{octal_text, octal_value}
use Rattle.m11_base_disassembly.specs.Numbers.{number_text, significant}
use Rattle.m11_base_disassembly.proofs.Spelled.{number_spelled}
use Rattle.m11_scan.specs.Classes.{is_digit}
use Rattle.m11_scan.specs.ErrorFlags.{flag_N, flag_T}
use Rattle.m11_scan.specs.Numbers.{has_digit_outside, number_flags, number_of, spelled}
use Rattle.m11_scan.specs.declared.radix.Radix.TheVariants.{Octal}

-- the characters are octal digits
abbrev pub AreOctal : Bytes → Type 0
AreOctal digits = AllByRecursion (λ digit. (48 ≤ digit) × (digit < 56)) digits

digit_octal : (n : ℕ) → (48 ≤ 48 + n % 8) × (48 + n % 8 < 56)
digit_octal n = (omega arith, omega arith)

six_octal : (number : ℕ) → AreOctal (octal_text number)
six_octal number =
    let one = λ (index : ℕ). digit_octal (number / 8 ^ index) in (one 5, (one 4, (one 3, (one 2, (one 1, (one 0, tt))))))

octal_by : (b : Bool) (digit : ℕ) (digits : Bytes) → AreOctal (digit ∷ digits) → AreOctal (significant digits)
    → AreOctal (if b then significant digits else digit ∷ digits)
octal_by true digit digits all rest = rest
octal_by false digit digits all rest = all

octal : (digits : Bytes) → AreOctal digits → AreOctal (significant digits)
octal [] all = all
octal (digit ∷ digits) all =
    octal_by (digit == 48 && nat_lt 0 (length digits)) digit digits all (octal digits all.1)

some_by : (b : Bool) (digit : ℕ) (digits : Bytes) → (digit == 48 && nat_lt 0 (length digits)) ≡ b
    → (0 < length digits → 0 < length (significant digits)) → 0 < length (if b then significant digits else digit ∷ digits)
some_by true digit digits is rest =
    rest (ltb-true 0 (length digits) (and_parts (digit == 48) (nat_lt 0 (length digits)) is).1)
some_by false digit digits is rest = omega arith

some : (digits : Bytes) → 0 < length digits → 0 < length (significant digits)
some [] none = none
some (digit ∷ digits) more =
    some_by (digit == 48 && nat_lt 0 (length digits)) digit digits refl (some digits)

are_digits : (digits : Bytes) → AreOctal digits → list_all is_digit digits ≡ true
are_digits [] all = refl
are_digits (digit ∷ digits) all =
    rw (le-leb 48 digit all.0.0, le-leb digit 57 (omega (arith, all.0.1))) (are_digits digits all.1)

none_outside : (digits : Bytes) → AreOctal digits → has_digit_outside 8 digits ≡ false
none_outside [] all = refl
none_outside (digit ∷ digits) all = rw (lt-leb 56 digit all.0.1) (none_outside digits all.1)

same_value : (digits : Bytes) → spelled 8 digits ≡ octal_value digits
same_value [] = refl
same_value (digit ∷ digits) = ap (λ n. (digit - 48) * 8 ^ length digits + n) (same_value digits)

pub text_octal : (number : ℕ) → AreOctal (number_text number)
text_octal number = octal (octal_text number) (six_octal number)

pub text_digits : (number : ℕ) → list_all is_digit (number_text number) ≡ true
text_digits number = are_digits (number_text number) (text_octal number)

pub text_some : (number : ℕ) → 0 < length (number_text number)
text_some number = some (octal_text number) (omega arith)

pub number_read : (number : ℕ) → number < 65536 → number_of Octal (number_text number) ≡ number
number_read number within =
    ap (λ b. spelled (if b then 10 else 8) (number_text number)) (none_outside (number_text number) (text_octal number))
    ∙ same_value (number_text number) ∙ number_spelled number within

pub none_flagged : (number : ℕ) → number < 65536 → number_flags Octal (number_text number) ≡ 0
none_flagged number within =
    ap (λ n. bit_or (if nat_lt 65535 n then flag_T else 0) (if has_digit_outside 8 (number_text number) then flag_N else 0))
    (number_read number within)
    ∙ ap (λ b. bit_or (if b then flag_T else 0) (if has_digit_outside 8 (number_text number) then flag_N else 0))
    (le-ltb 65535 number (omega arith))
    ∙ ap (λ b. bit_or 0 (if b then flag_N else 0)) (none_outside (number_text number) (text_octal number))

-- ---- how long a number is

shorter : (b : Bool) (digit : ℕ) (digits : Bytes) → length (significant digits) ≤ length digits
    → length (if b then significant digits else digit ∷ digits) ≤ suc (length digits)
shorter true digit digits most = omega (arith, most)
shorter false digit digits most = omega arith

significant_width : (digits : Bytes) → length (significant digits) ≤ length digits
significant_width [] = omega arith
significant_width (digit ∷ digits) =
    shorter (digit == 48 && nat_lt 0 (length digits)) digit digits (significant_width digits)

pub number_width : (number : ℕ) → length (number_text number) ≤ 6
number_width number = significant_width (octal_text number)
