-- How the parts that blocks of objects and of tapes have in common are read.
use Rattle.std.proofs.Common.{◌≡◌, ℕ, ◌+◌, ◌*◌, ◌/◌, ◌%◌, ◌<◌, eqb, List, [], ◌∷◌, ◌++◌, Ok, Err, refl, ap, subst, arith, inl, inr, ◌⊎◌}
use Rattle.std.proofs.lemmas.Bool.{eqb-true}
use Rattle.m11_obj_blocks.specs.Frames.{word_bytes, closing, second_byte, word, closed}
use Rattle.m11_obj_blocks.specs.Limited.{Between, Inside, Refused, Read}
use Rattle.m11_obj_blocks.proofs.ReadSteps.{Bytes, same_eqb, chosen, done, rest_is, value_is}

abbrev refusal : {Fault A : Type 0} → Fault → List ℕ → Read Fault A
refusal said rest = Err (Refused said rest)

-- ---- the 000 after the 001

module _ {Fault : Type 0} (bad_start : Fault) where
  pub second_takes : (bytes rest : List ℕ) → second_byte bad_start bytes ≡ Ok (tt, rest) → bytes ≡ 0 ∷ rest
  second_takes [] rest e = absurd cc
  second_takes (byte ∷ bytes) rest e =
      elim (chosen (eqb byte 0) (done tt bytes) (refusal bad_start bytes) (Ok (tt, rest)) e) [
        | inl hit ↦ let zero : byte ≡ 0 = eqb-true byte 0 hit.0 in rw (zero, rest_is tt tt bytes rest hit.1) refl
        | inr miss ↦ absurd (let bad = miss.1 in cc)
      ]

  pub second_within : (bytes : List ℕ) → second_byte bad_start bytes ≡ Err Between → ⊥
  second_within [] e = cc
  second_within (byte ∷ bytes) e =
      elim (chosen (eqb byte 0) (done tt bytes) (refusal bad_start bytes) (Err Between) e) [
        | inl hit ↦ (let bad = hit.1 in cc)
        | inr miss ↦ (let bad = miss.1 in cc)
      ]

  pub second_inside : (bytes : List ℕ) → second_byte bad_start bytes ≡ Err Inside → bytes ≡ []
  second_inside [] e = refl
  second_inside (byte ∷ bytes) e =
      elim (chosen (eqb byte 0) (done tt bytes) (refusal bad_start bytes) (Err Inside) e) [
        | inl hit ↦ absurd (let bad = hit.1 in cc)
        | inr miss ↦ absurd (let bad = miss.1 in cc)
      ]

-- ---- a word

word_number : (n : ℕ) → n < 65536 → n % 256 + 256 * (n / 256 % 256) ≡ n
word_number n lt = omega arith

pub word_again : {Fault : Type 0} (n : ℕ) (rest : List ℕ) → n < 65536
    → word {Fault = Fault} (word_bytes n ++ rest) ≡ Ok (n, rest)
word_again {Fault} n rest lt = ap (λ (w : ℕ). done {Fault = Fault} w rest) (word_number n lt)

pub word_takes : {Fault : Type 0} (n : ℕ) (bytes rest : List ℕ) → Bytes bytes
    → word {Fault = Fault} bytes ≡ Ok (n, rest) → (n < 65536) × (bytes ≡ word_bytes n ++ rest) × Bytes rest
word_takes n [] rest small e = absurd cc
word_takes n (low ∷ []) rest small e = absurd cc
word_takes n (low ∷ high ∷ bytes) rest small e =
    let is : low + 256 * high ≡ n = value_is (low + 256 * high) n bytes rest e in
    let low_is : low ≡ n % 256 = omega (arith, is, small.0, small.1.0) in
    let high_is : high ≡ n / 256 % 256 = omega (arith, is, small.0, small.1.0) in
    let same : bytes ≡ rest = rest_is (low + 256 * high) n bytes rest e in
    (omega (arith, is, small.0, small.1.0), rw (← low_is, ← high_is, same) refl, subst Bytes same small.1.1)

pub word_within : {Fault : Type 0} (bytes : List ℕ) → word {Fault = Fault} bytes ≡ Err Between → ⊥
word_within [] e = cc
word_within (low ∷ []) e = cc
word_within (low ∷ high ∷ bytes) e = cc

pub word_inside : {Fault : Type 0} (bytes : List ℕ) → word {Fault = Fault} bytes ≡ Err Inside
    → (bytes ≡ []) ⊎ ((low : ℕ) × (bytes ≡ low ∷ []))
word_inside [] e = inl refl
word_inside (low ∷ []) e = inr (low, refl)
word_inside (low ∷ high ∷ bytes) e = absurd cc

-- ---- the last byte of a block

module _ {Fault A : Type 0} (bad_sum : Fault) (x : A) (total : ℕ) where
  pub closed_again : (rest : List ℕ) → closed bad_sum x total (closing total ∷ rest) ≡ Ok (x, rest)
  closed_again rest = rw (same_eqb (closing total)) refl

  pub closed_takes : (y : A) (bytes rest : List ℕ) → closed bad_sum x total bytes ≡ Ok (y, rest)
      → (x ≡ y) × (bytes ≡ closing total ∷ rest)
  closed_takes y [] rest e = absurd cc
  closed_takes y (byte ∷ bytes) rest e =
      elim (chosen (eqb byte (closing total)) (done x bytes) (refusal bad_sum bytes) (Ok (y, rest)) e) [
        | inl hit ↦ let same : byte ≡ closing total = eqb-true byte (closing total) hit.0 in
            (value_is x y bytes rest hit.1, rw (same, rest_is x y bytes rest hit.1) refl)
        | inr miss ↦ absurd (let bad = miss.1 in cc)
      ]

  pub closed_within : (bytes : List ℕ) → closed bad_sum x total bytes ≡ Err Between → ⊥
  closed_within [] e = cc
  closed_within (byte ∷ bytes) e =
      elim (chosen (eqb byte (closing total)) (done x bytes) (refusal bad_sum bytes) (Err Between) e) [
        | inl hit ↦ (let bad = hit.1 in cc)
        | inr miss ↦ (let bad = miss.1 in cc)
      ]

  pub closed_inside : (bytes : List ℕ) → closed bad_sum x total bytes ≡ Err Inside → bytes ≡ []
  closed_inside [] e = refl
  closed_inside (byte ∷ bytes) e =
      elim (chosen (eqb byte (closing total)) (done x bytes) (refusal bad_sum bytes) (Err Inside) e) [
        | inl hit ↦ absurd (let bad = hit.1 in cc)
        | inr miss ↦ absurd (let bad = miss.1 in cc)
      ]
