-- Bytes after a fault don't mend it.
use Rattle.std.proofs.Common.{◌≡◌, ◌∙◌, ℕ, zero, suc, ◌≤◌, List, [], ◌∷◌, ◌++◌, length, Result, Ok, Err, refl, ap, arith, length-append, inl, inr}
use Rattle.m11_obj.specs.Reading.{◌>>=◌, content_after, content_of, entries_of, first_entry, first_relocation, first_type, first_word, items_of, items_within, record_kind_of, relocations_of}
use Rattle.m11_obj.specs.Records.{Gsd, Relocations, Text}
use Rattle.m11_obj.specs.declared.fault.RecordFault.{RecordFault}
use Rattle.m11_obj.specs.declared.fault.RecordFault.TheVariants.{BadLength}
use Rattle.m11_obj.specs.declared.records.RecordKind.{RecordKind}
use Rattle.m11_obj.specs.declared.records.RecordKind.TheVariants as kind
use Rattle.m11_obj_laws.proofs.Longer.{Extends, between_extends, entry_extends, relocation_extends, then_extends, word_extends}

type_extends : (bytes more : List ℕ) → Extends (first_type bytes) (first_type (bytes ++ more)) more
unfolding first_type
type_extends bytes more =
    then_extends (first_word bytes) (first_word (bytes ++ more)) (λ code. record_kind_of code.0 >>= λ type. Ok (type, code.1)) more
    (word_extends bytes more)
    (λ code. between_extends (record_kind_of code.0) (λ type. Ok (type, code.1)) (λ type. Ok (type, code.1 ++ more)) more
    (λ type. inr refl))

-- a step that can't fail leaves the fault of the step before it
fault_before : {A B : Type 0} (r : Result A RecordFault) (f : A → B) (fault : RecordFault) → (r >>= λ x. Ok (f x)) ≡ Err fault
    → r ≡ Err fault
fault_before (Ok x) f fault e = absurd cc
fault_before (Err said) f fault e = cc

module _ (fault : RecordFault) (other : fault ≡ BadLength → ⊥) (more : List ℕ) where
  -- a fault of two steps, other than a missing byte, is their fault with more bytes after them too
  step_fault : {A B : Type 0} (r longer : Result (A × List ℕ) RecordFault) (f g : A × List ℕ → Result B RecordFault)
      → Extends r longer more → ((x : A × List ℕ) → f x ≡ Err fault → g (x.0, x.1 ++ more) ≡ Err fault)
      → (r >>= f) ≡ Err fault → (longer >>= g) ≡ Err fault
  step_fault (Ok x) longer f g (inl early) after e = absurd cc
  step_fault {A} (Ok x) longer f g (inr same) after e =
      ap (λ (r : Result (A × List ℕ) RecordFault). r >>= g) same ∙ after x e
  step_fault (Err said) longer f g (inl early) after e = absurd (other cc)
  step_fault {A} (Err said) longer f g (inr same) after e =
      ap (λ (r : Result (A × List ℕ) RecordFault). r >>= g) same ∙ (let said_is : said ≡ fault = cc in ap (λ (x : RecordFault). Err x) said_is)

  module _ {A : Type 0} (first : List ℕ → Result (A × List ℕ) RecordFault)
      (extends : (bytes : List ℕ) → Extends (first bytes) (first (bytes ++ more)) more) where
    within_fault : (n m : ℕ) (bytes : List ℕ) → n ≤ m → items_within first n bytes ≡ Err fault
        → items_within first m (bytes ++ more) ≡ Err fault
    unfolding items_within
    within_fault zero m bytes le e = absurd cc
    within_fault (suc n) m [] le e = absurd cc
    within_fault (suc n) zero (byte ∷ bytes) le e = absurd (omega arith)
    within_fault (suc n) (suc m) (byte ∷ bytes) le e =
        step_fault (first (byte ∷ bytes)) (first (byte ∷ (bytes ++ more)))
        (λ item. items_within first n item.1 >>= λ others. Ok (item.0 ∷ others))
        (λ item. items_within first m item.1 >>= λ others. Ok (item.0 ∷ others)) (extends (byte ∷ bytes))
        (λ item later.
        ap (λ (r : Result (List A) RecordFault). r >>= λ others. Ok (item.0 ∷ others))
        (within_fault n m item.1 (omega arith)
        (fault_before (items_within first n item.1) (λ others. item.0 ∷ others) fault later))) e

    items_fault : (bytes : List ℕ) → items_of first bytes ≡ Err fault → items_of first (bytes ++ more) ≡ Err fault
    unfolding items_of
    items_fault bytes e = within_fault (length bytes) (length (bytes ++ more)) bytes (omega (arith, length-append bytes more)) e

  after_fault : (type : RecordKind) (bytes : List ℕ) → content_after type bytes ≡ Err fault
      → content_after type (bytes ++ more) ≡ Err fault
  unfolding content_after entries_of relocations_of
  after_fault kind.Gsd bytes e =
      ap (λ r. r >>= λ entries. Ok (Gsd entries))
      (items_fault first_entry (λ given. entry_extends given more) bytes
      (fault_before (items_of first_entry bytes) (λ entries. Gsd entries) fault e))
  after_fault kind.EndOfGsd bytes e = absurd cc
  after_fault kind.Text bytes e =
      step_fault (first_word bytes) (first_word (bytes ++ more)) (λ address. Ok (Text address.0 address.1))
      (λ address. Ok (Text address.0 address.1)) (word_extends bytes more) (λ address none. absurd cc) e
  after_fault kind.Relocations bytes e =
      ap (λ r. r >>= λ relocations. Ok (Relocations relocations))
      (items_fault first_relocation (λ given. relocation_extends given more) bytes
      (fault_before (items_of first_relocation bytes) (λ relocations. Relocations relocations) fault e))
  after_fault kind.InternalSymbols bytes e = absurd cc
  after_fault kind.EndOfModule bytes e = absurd cc

pub not_mended : (fault : RecordFault) (beginning following : List ℕ) → (fault ≡ BadLength → ⊥) → content_of beginning ≡ Err fault
    → content_of (beginning ++ following) ≡ Err fault
unfolding content_of
not_mended fault beginning following other e =
    step_fault fault other following (first_type beginning) (first_type (beginning ++ following))
    (λ type. content_after type.0 type.1) (λ type. content_after type.0 type.1) (type_extends beginning following)
    (λ type later. after_fault fault other following type.0 type.1 later) e
