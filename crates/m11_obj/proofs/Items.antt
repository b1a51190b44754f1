-- Items that are read one after another, up to the end of the bytes.
use Rattle.std.proofs.Common.{◌≡◌, ℕ, zero, suc, ◌<◌, ◌≤◌, List, [], ◌∷◌, length, Result, Ok, Err, refl, ap, ◌∙◌, arith}
use Rattle.m11_obj.specs.declared.fault.RecordFault.{RecordFault}
use Rattle.m11_obj.specs.Reading.{◌>>=◌, items_within, items_of, checked}

bind_same : {A B : Type 0} (r : Result A RecordFault) (f g : A → Result B RecordFault)
    → ((x : A) → r ≡ Ok x → f x ≡ g x) → (r >>= f) ≡ (r >>= g)
bind_same (Ok x) f g e = e x refl
bind_same (Err fault) f g e = refl

-- each item has at least one byte
pub record Shrinks {A : Type 0} (first : List ℕ → Result (A × List ℕ) RecordFault) : Type 0 where
  pub shorter : (bytes : List ℕ) (x : A × List ℕ) → first bytes ≡ Ok x → length x.1 < length bytes

module _ {A : Type 0} (first : List ℕ → Result (A × List ℕ) RecordFault) where
  -- any two limits on the number of items yield the same items, if both are at least the number of bytes
  within_enough : (m n : ℕ) (bytes : List ℕ) → Shrinks first → length bytes ≤ m → length bytes ≤ n
      → items_within first m bytes ≡ items_within first n bytes
  unfolding items_within
  within_enough zero zero [] shrinks le below = refl
  within_enough zero (suc n) [] shrinks le below = refl
  within_enough (suc m) zero [] shrinks le below = refl
  within_enough (suc m) (suc n) [] shrinks le below = refl
  within_enough zero n (byte ∷ bytes) shrinks le below = absurd (omega arith)
  within_enough (suc m) zero (byte ∷ bytes) shrinks le below = absurd (omega arith)
  within_enough (suc m) (suc n) (byte ∷ bytes) shrinks le below =
      bind_same (first (byte ∷ bytes)) _ _ (λ x is.
      let less = shrinks.shorter (byte ∷ bytes) x is in
      ap (λ (r : Result (List A) RecordFault). r >>= λ others. Ok (x.0 ∷ others))
      (within_enough m n x.1 shrinks (omega arith) (omega arith)))

  -- if a first item is read, the items are this one and then those in the bytes after it
  pub items_step : (bytes : List ℕ) (x : A × List ℕ) → Shrinks first → first bytes ≡ Ok x
      → items_of first bytes ≡ (items_of first x.1 >>= λ others. Ok (x.0 ∷ others))
  unfolding items_of items_within
  items_step [] x shrinks is = absurd (omega (arith, shrinks.shorter [] x is))
  items_step (byte ∷ bytes) x shrinks is =
      let less = shrinks.shorter (byte ∷ bytes) x is in
      rw is (ap (λ (r : Result (List A) RecordFault). r >>= λ others. Ok (x.0 ∷ others))
      (within_enough (length bytes) (length x.1) x.1 shrinks (omega arith) (omega arith)))

  -- if the first item of some bytes has a fault, this is the fault of all items
  pub items_stop : (bytes : List ℕ) (fault : RecordFault) → 0 < length bytes → first bytes ≡ Err fault
      → items_of first bytes ≡ Err fault
  unfolding items_of items_within
  items_stop [] fault lt is = absurd (omega arith)
  items_stop (byte ∷ bytes) fault lt is = rw is refl

  pub items_none : (bytes : List ℕ) → length bytes ≤ 0 → items_of first bytes ≡ Ok []
  unfolding items_of items_within
  items_none [] le = refl
  items_none (byte ∷ bytes) le = absurd (omega arith)

  checked_more : (r : Result (List A) RecordFault) (item : A) → checked (r >>= λ others. Ok (item ∷ others)) ≡ checked r
  checked_more (Ok others) item = refl
  checked_more (Err fault) item = refl

  -- if a first item is read, the bytes after it decide whether all items are valid
  pub checked_step : (bytes : List ℕ) (x : A × List ℕ) → Shrinks first → first bytes ≡ Ok x
      → checked (items_of first bytes) ≡ checked (items_of first x.1)
  checked_step bytes x shrinks is =
      ap (λ (r : Result (List A) RecordFault). checked r) (items_step bytes x shrinks is)
      ∙ checked_more (items_of first x.1) x.0
