-- The faults of the parts that blocks of objects and of tapes have in common.
use Rattle.std.proofs.Common.{◌≡◌, ◌≢◌, ◌∙◌, ℕ, eqb, false, List, ◌∷◌, [], Err, refl, sym, ap, inl, inr}
use Rattle.std.proofs.lemmas.Bool.{ne_eqb, true≢false}
use Rattle.std.proofs.lemmas.Bool.Decides.{eqb_tells}
use Rattle.m11_obj_blocks.specs.Frames.{closing, second_byte, word, closed}
use Rattle.m11_obj_blocks.specs.Limited.{Refused, Read}
use Rattle.m11_obj_blocks.proofs.ReadSteps.{chosen, done}

abbrev pub refusal : {Fault A : Type 0} → Fault → List ℕ → Read Fault A
refusal said rest = Err (Refused said rest)

pub one_fault : {Fault A : Type 0} (f g : Fault) (xs ys : List ℕ) → refusal {A = A} f xs ≡ refusal g ys → f ≡ g
one_fault f g xs ys e = cc

pub one_rest : {Fault A : Type 0} (f g : Fault) (xs ys : List ℕ) → refusal {A = A} f xs ≡ refusal g ys → xs ≡ ys
one_rest f g xs ys e = cc

pub differs : (x y : ℕ) → eqb x y ≡ false → x ≢ y
differs x y e same = elim (eqb_tells x y) [ inl hit ↦ true≢false (sym hit.0 ∙ e) | inr miss ↦ miss.1 same ]

pub second_refuses : {Fault : Type 0} (bad_start said : Fault) (bytes rest : List ℕ)
    → second_byte bad_start bytes ≡ Err (Refused said rest)
    → (bad_start ≡ said) × ((byte : ℕ) × (byte ≢ 0) × (bytes ≡ byte ∷ rest))
second_refuses bad_start said [] rest e = absurd cc
second_refuses {Fault} bad_start said (byte ∷ bytes) rest e =
    elim (chosen (eqb byte 0) (done tt bytes) (refusal bad_start bytes) (refusal said rest) e) [
      | inl hit ↦ absurd (let bad = hit.1 in cc)
      | inr miss ↦ (
        one_fault {A = Unit {0}} bad_start said bytes rest miss.1,
        (
          byte,
          differs byte 0 miss.0,
          ap (λ (xs : List ℕ). byte ∷ xs) (one_rest {A = Unit {0}} bad_start said bytes rest miss.1),
        ),
      )
    ]

pub word_refuses : {Fault : Type 0} (said : Fault) (bytes rest : List ℕ) → word bytes ≡ Err (Refused said rest) → ⊥
word_refuses said [] rest e = cc
word_refuses said (low ∷ []) rest e = cc
word_refuses said (low ∷ high ∷ bytes) rest e = cc

pub closed_refuses : {Fault A : Type 0} (bad_sum said : Fault) (x : A) (total : ℕ) (bytes rest : List ℕ)
    → closed bad_sum x total bytes ≡ Err (Refused said rest)
    → (bad_sum ≡ said) × ((byte : ℕ) × (byte ≢ closing total) × (bytes ≡ byte ∷ rest))
closed_refuses bad_sum said x total [] rest e = absurd cc
closed_refuses {Fault} {A} bad_sum said x total (byte ∷ bytes) rest e =
    elim (chosen (eqb byte (closing total)) (done x bytes) (refusal bad_sum bytes) (refusal said rest) e) [
      | inl hit ↦ absurd (let bad = hit.1 in cc)
      | inr miss ↦ (
        one_fault {A = A} bad_sum said bytes rest miss.1,
        (
          byte,
          differs byte (closing total) miss.0,
          ap (λ (xs : List ℕ). byte ∷ xs) (one_rest {A = A} bad_sum said bytes rest miss.1),
        ),
      )
    ]

pub wrong_byte : {Fault A : Type 0} (bad_sum : Fault) (x : A) (total byte : ℕ) (rest : List ℕ) → byte ≢ closing total
    → closed bad_sum x total (byte ∷ rest) ≡ Err (Refused bad_sum rest)
wrong_byte bad_sum x total byte rest other = rw (ne_eqb byte (closing total) other) refl
