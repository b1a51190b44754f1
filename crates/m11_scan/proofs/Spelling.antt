-- The number that digits spell, one digit after another.
use Rattle.std.proofs.Common.{◌≡◌, ℕ, ◌+◌, ◌-◌, ◌*◌, ◌/◌, ◌%◌, ◌^◌, ◌<◌, ◌≤◌, List, [], ◌∷◌, ◌++◌, length, take, get_or, Bool, true, sym, ap, ◌∙◌, arith, inl, inr, ltb}
use Rattle.std.proofs.lemmas.Bool.{cases_lt, lt-ltb, le-ltb}
use Rattle.std.proofs.lemmas.List.{length-append, take_more, take_all}
use Rattle.std.proofs.lemmas.Nat.{div-add-mod', pow-add}
use Rattle.std.proofs.Math.Nat.{le-mul_of_pos_right, mod-eq_of_lt, mul-add-mod_self_right, pow-suc, pow-zero}
use Rattle.m11_scan.specs.Numbers.{spelled}

regroup : (digit columns moved front back : ℕ)
    → digit * (columns * moved) + (front * moved + back) ≡ (digit * columns + front) * moved + back
regroup digit columns moved front back = omega arith

spelled-append : (base : ℕ) (front back : List ℕ)
    → spelled base (front ++ back) ≡ spelled base front * base ^ length back + spelled base back
spelled-append base [] back = omega arith
spelled-append base (digit ∷ front) back =
    rw (length-append front back, pow-add base (length front) (length back), spelled-append base front back)
    (regroup (digit - 48) (base ^ length front) (base ^ length back) (spelled base front) (spelled base back))

last : (front base digit : ℕ) → front * base ^ 1 + (digit * base ^ 0 + 0) ≡ front * base + digit
last front base digit = rw (pow-suc base 0, pow-zero base) (omega arith)

-- with one more digit, the number is multiplied by the base and increased by the digit
pub spelled-push : (base : ℕ) (digits : List ℕ) (i : ℕ) → i < length digits
    → spelled base (take (i + 1) digits) ≡ spelled base (take i digits) * base + (get_or digits i 0 - 48)
spelled-push base digits i lt =
    ap (spelled base) (take_more digits i 0 lt) ∙ spelled-append base (take i digits) (get_or digits i 0 ∷ [])
    ∙ last (spelled base (take i digits)) base (get_or digits i 0 - 48)

pub spelled-all : (base : ℕ) (digits : List ℕ) → spelled base (take (length digits) digits) ≡ spelled base digits
spelled-all base digits = ap (spelled base) (take_all (length digits) digits (omega arith))

-- the number may be reduced modulo 65536 before a digit is added
pub cut_before : (s base d : ℕ) → (s % 65536 * base + d) % 65536 ≡ (s * base + d) % 65536
cut_before s base d =
    let parts : s / 65536 * 65536 + s % 65536 ≡ s = div-add-mod' s 65536 in
    let split : (s / 65536 * base) * 65536 + (s % 65536 * base + d) ≡ (s / 65536 * 65536 + s % 65536) * base + d =
    omega arith in
    sym (mul-add-mod_self_right (s / 65536 * base) 65536 (s % 65536 * base + d))
    ∙ ap (λ n. n % 65536) (split ∙ ap (λ n. n * base + d) parts)

-- the step of the loop: `s` is the number so far, and `value` is the same number modulo 65536
module _ (base s d value : ℕ) (least : 2 ≤ base) (is : value ≡ s % 65536) where
  pub next_value : (value * base + d) % 65536 ≡ (s * base + d) % 65536
  next_value = ap (λ v. (v * base + d) % 65536) is ∙ cut_before s base d

  grows : s ≤ s * base
  grows = le-mul_of_pos_right s (omega arith)

  small_is_whole : s < 65536 → value ≡ s
  small_is_whole lt = is ∙ mod-eq_of_lt lt

  -- if the reduced number passes 65535 with this digit, so does the number itself
  pub passes : 65535 < value * base + d → true ≡ ltb 65535 (s * base + d)
  passes lt = sym (lt-ltb 65535 (s * base + d) (elim (cases_lt s 65536) [
    | inl small ↦ let same = ap (λ v. v * base + d) (small_is_whole small) in omega arith
    | inr large ↦ let more = grows in omega arith
  ]))

  pub stays : value * base + d ≤ 65535 → (was : Bool) → was ≡ ltb 65535 s → was ≡ ltb 65535 (s * base + d)
  stays le was before = elim (cases_lt s 65536) [
    | inl small ↦ let same = ap (λ v. v * base + d) (small_is_whole small) in
        before ∙ le-ltb 65535 s (omega arith) ∙ sym (le-ltb 65535 (s * base + d) (omega arith))
    | inr large ↦ let more = grows in
        before ∙ lt-ltb 65535 s (omega arith) ∙ sym (lt-ltb 65535 (s * base + d) (omega arith))
  ]

pub ruleset steps = (spelled-all)
