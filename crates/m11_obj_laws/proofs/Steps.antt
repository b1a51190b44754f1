-- The fault of a reading, step by step, and bytes that are cut.
use Rattle.std.proofs.Common.{◌≡◌, ◌∙◌, ◌⊎◌, ℕ, ◌/◌, ◌%◌, ◌<◌, Bool, true, false, cond, List, [], ◌∷◌, ◌++◌, length, Result, Ok, Err, refl, sym, ap, append_assoc, arith, length-append, inl, inr}
use Rattle.m11_obj_blocks.specs.Frames.{word_bytes}
use Rattle.m11_obj.specs.declared.fault.RecordFault.{RecordFault}
use Rattle.m11_obj.specs.declared.fault.RecordFault.TheVariants.{BadLength}
use Rattle.m11_obj.specs.Reading.{◌>>=◌, first_byte, first_word}
use Rattle.m11_obj_laws.specs.Faults.{IsCut}

-- ---- steps

pub bind_err : {A B : Type 0} (r : Result A RecordFault) (f : A → Result B RecordFault) (said : RecordFault)
    → (r >>= f) ≡ Err said → (r ≡ Err said) ⊎ ((x : A) × (r ≡ Ok x) × (f x ≡ Err said))
bind_err (Ok x) f said e = inr (x, refl, e)
bind_err (Err fault) f said e = inl cc

abbrev pub refusal : {A : Type 0} → RecordFault → Result A RecordFault
refusal said = Err said

pub one_fault : {A : Type 0} (f g : RecordFault) → refusal {A = A} f ≡ refusal g → f ≡ g
one_fault f g e = cc

pub guard_err : {A : Type 0} (b : Bool) (x : A) (fault said : RecordFault) → cond b (Ok x) (Err fault) ≡ Err said
    → (b ≡ false) × (fault ≡ said)
guard_err true x fault said e = absurd cc
guard_err false x fault said e = (refl, cc)

pub byte_refuses : (said : RecordFault) (bytes : List ℕ) → first_byte bytes ≡ Err said
    → (BadLength ≡ said) × (bytes ≡ [])
byte_refuses said [] e = (cc, refl)
byte_refuses said (byte ∷ rest) e = absurd cc

pub word_refuses : (said : RecordFault) (bytes : List ℕ) → first_word bytes ≡ Err said
    → (BadLength ≡ said) × (length bytes < 2)
unfolding first_word
word_refuses said [] e = (cc, omega arith)
word_refuses said (low ∷ []) e = (cc, omega arith)
word_refuses said (low ∷ high ∷ rest) e = absurd cc

pub word_ends : (bytes : List ℕ) → length bytes < 2 → first_word bytes ≡ Err BadLength
unfolding first_word
word_ends [] lt = refl
word_ends (low ∷ []) lt = refl
word_ends (low ∷ high ∷ rest) lt = absurd (omega arith)

-- ---- cuts

-- a proper prefix of a text is also one of a longer text
pub cut_before : (written others bytes : List ℕ) → IsCut written bytes → IsCut (written ++ others) bytes
cut_before written others bytes c = record {
  missing = c.missing ++ others;
  some = omega (arith, c.some, length-append c.missing others);
  split = ap (λ (xs : List ℕ). xs ++ others) c.split ∙ append_assoc bytes c.missing others;
}

-- a proper prefix stays one if the same bytes come before both
pub cut_after : (front written bytes : List ℕ) → IsCut written bytes → IsCut (front ++ written) (front ++ bytes)
cut_after front written bytes c = record {
  missing = c.missing;
  some = c.some;
  split = ap (λ (xs : List ℕ). front ++ xs) c.split ∙ sym (append_assoc front bytes c.missing);
}

-- the empty text is a proper prefix of any other
pub cut_at_once : (byte : ℕ) (others : List ℕ) → IsCut (byte ∷ others) []
cut_at_once byte others = record { missing = byte ∷ others; some = omega arith; split = refl }

-- fewer than two bytes are a proper prefix of the two bytes of a word below 256
pub word_cut : (bytes : List ℕ) → (length bytes < 2) → ((byte : ℕ) → (bytes ≡ byte ∷ []) → byte < 256)
    → (word : ℕ) × (word < 256) × IsCut (word_bytes word) bytes
word_cut [] lt small = (0, omega arith, cut_at_once 0 (0 ∷ []))
word_cut (low ∷ []) lt small =
    let l : low < 256 = small low refl in
    let first : low % 256 ≡ low = omega arith in
    let split : word_bytes low ≡ low ∷ (low / 256 % 256) ∷ [] = ap (λ (n : ℕ). n ∷ (low / 256 % 256) ∷ []) first in
    (low, l, record { missing = (low / 256 % 256) ∷ []; some = omega arith; split = split })
word_cut (low ∷ high ∷ rest) lt small = absurd (omega arith)
