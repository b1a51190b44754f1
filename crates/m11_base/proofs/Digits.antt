-- The number that octal digits spell, digit by digit.
use Rattle.std.proofs.Common.{◌≡◌, ℕ, zero, suc, ◌+◌, ◌-◌, ◌*◌, ◌^◌, ◌<◌, ◌≤◌, List, [], ◌∷◌, ◌++◌, length, take, drop, get_or, true, false, not, ◌&&◌, ◌||◌, refl, sym, ap, ◌∙◌, arith}
use Rattle.std.proofs.lemmas.List.{length-append, take_more, take-append-drop}
use Rattle.std.proofs.lemmas.Nat.{pow-add}
use Rattle.std.proofs.Math.Nat.{le-mul_of_pos_right}
use Rattle.std.specs.List.{list_all, list_any}
use Rattle.m11_base.specs.Octal.{octal_value, is_octal_digit}

regroup : (digit places moved front back : ℕ)
    → digit * (places * moved) + (front * moved + back) ≡ (digit * places + front) * moved + back
regroup digit places moved front back = omega arith

pub octal_value-append : (front back : List ℕ)
    → octal_value (front ++ back) ≡ octal_value front * 8 ^ length back + octal_value back
octal_value-append [] back = omega arith
octal_value-append (digit ∷ front) back =
    rw (length-append front back, pow-add 8 (length front) (length back), octal_value-append front back)
    (regroup (digit - 48) (8 ^ length front) (8 ^ length back) (octal_value front) (octal_value back))

-- with one more digit, the number is eight times what the digits before it spell, plus the digit's value
pub octal_value-push : (digits : List ℕ) (i : ℕ) → i < length digits
    → octal_value (take (i + 1) digits) ≡ octal_value (take i digits) * 8 + (get_or digits i 0 - 48)
octal_value-push digits i lt =
    rw (take_more digits i 0 lt, octal_value-append (take i digits) (get_or digits i 0 ∷ [])) (omega arith)

power_is_positive : (n : ℕ) → 0 < 8 ^ n
power_is_positive zero = omega arith
power_is_positive (suc n) = let before = power_is_positive n in omega arith

-- the first digits spell no greater number than all digits
pub octal_value-take : (digits : List ℕ) (i : ℕ) → octal_value (take i digits) ≤ octal_value digits
octal_value-take digits i =
    let parts = ap octal_value (sym (take-append-drop i digits)) ∙ octal_value-append (take i digits) (drop i digits) in
    let more = le-mul_of_pos_right (octal_value (take i digits)) (power_is_positive (length (drop i digits))) in
    omega arith

pub ruleset steps = (octal_value-push, octal_value-take)

-- some character isn't a digit if and only if not all are digits
pub bad_digit_among : (text : List ℕ)
    → list_any (λ character. not (is_octal_digit character)) text ≡ not (list_all is_octal_digit text)
bad_digit_among [] = refl
bad_digit_among (x ∷ xs) =
    elim (is_octal_digit x) as
    (λ v. (not v || list_any (λ character. not (is_octal_digit character)) xs)
    ≡ not (v && list_all is_octal_digit xs)) [
      | true ↦ bad_digit_among xs
      | false ↦ refl
    ]
