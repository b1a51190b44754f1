-- The digits that are still to be written come before those that have been written.
use Rattle.std.proofs.Common.{◌≡◌, ◌≤◌, ◌<◌, ℕ, suc, ◌+◌, ◌/◌, ◌%◌, Bool, true, false, if◌then◌else◌, List, [], ◌∷◌, ◌++◌, sym, ap, ◌∙◌}
use Rattle.std.proofs.Math.Dec.{ltb}
use Rattle.std.proofs.Math.Nat.{mod-eq_of_lt}
use Rattle.std.proofs.lemmas.Bool.{le-ltb, lt-ltb}
use Rattle.std.proofs.lemmas.List.{append_assoc}
use Rattle.m11_unfold_rules.specs.Digits.{last_digits}

module _ (base number : ℕ) (digits whole : List ℕ) (left next : ℕ) (is : left ≡ suc next)
    (so_far : last_digits left base number ++ digits ≡ whole) where
  abbrev before : List ℕ
  before = last_digits next base (number / base)

  abbrev by_size : Bool → List ℕ
  by_size is_less = if is_less then (48 + number) ∷ [] else before ++ (48 + number % base) ∷ []

  sized : (is_less : Bool) → ltb number base ≡ is_less → by_size is_less ++ digits ≡ whole
  sized is_less tested =
      ap (λ (b : Bool). by_size b ++ digits) (sym tested)
      ∙ ap (λ (n : ℕ). last_digits n base number ++ digits) (sym is) ∙ so_far

  pub first_digit : number < base → (48 + number % base) ∷ digits ≡ whole
  first_digit less =
      ap (λ (n : ℕ). (48 + n) ∷ digits) (mod-eq_of_lt less) ∙ sized true (lt-ltb number base less)

  pub digit_before : base ≤ number → last_digits next base (number / base) ++ ((48 + number % base) ∷ digits) ≡ whole
  digit_before least =
      sym (append_assoc before ((48 + number % base) ∷ []) digits) ∙ sized false (le-ltb number base least)
