-- The fault of a directory is that of the first entry with one, after whole entries.
use Rattle.std.proofs.Common.{◌≡◌, ◌∙◌, ℕ, zero, suc, ◌<◌, List, [], ◌∷◌, ◌++◌, length, Result, Ok, Err, refl, sym, ap, append_assoc, arith, inl, inr}
use Rattle.std.specs.List.{flat_map, AllByRecursion}
use Rattle.m11_obj.specs.declared.fault.RecordFault.{RecordFault}
use Rattle.m11_obj.specs.Reading.{◌>>=◌, items_within, items_of}
use Rattle.m11_obj.proofs.Items.{Shrinks, items_step, items_stop}
use Rattle.m11_obj.proofs.ReadBack.{Bytes, EachReads}
use Rattle.m11_obj_laws.proofs.Steps.{bind_err}

module _ {A : Type 0} (first : List ℕ → Result (A × List ℕ) RecordFault) (write : A → List ℕ) (P : A → Type 0) where
  -- the bytes consist of whole items, and then of bytes from which reading an item fails with this fault
  pub record StopsAfter (said : RecordFault) (bytes : List ℕ) : Type 0 where
    pub items : List A
    pub rest : List ℕ
    pub fit : AllByRecursion P items
    pub some : 0 < length rest
    pub are : Bytes rest
    pub stop : first rest ≡ Err said
    pub is : bytes ≡ flat_map write items ++ rest

  stops_within : (said : RecordFault) (n : ℕ) (bytes : List ℕ) → EachReads first write P → Shrinks first → Bytes bytes
      → items_within first n bytes ≡ Err said → StopsAfter said bytes
  unfolding items_within
  stops_within said zero bytes each shrinks are e = absurd cc
  stops_within said (suc n) [] each shrinks are e = absurd cc
  stops_within said (suc n) (byte ∷ bytes) each shrinks are e =
      elim (bind_err (first (byte ∷ bytes))
      (λ item. items_within first n item.1 >>= λ others. Ok (item.0 ∷ others)) said e) [
        | inl early ↦ record {
          items = [];
          rest = byte ∷ bytes;
          fit = tt;
          some = omega arith;
          are = are;
          stop = early;
          is = refl;
        }
        | inr a ↦
            let here = each.at (byte ∷ bytes) a.0 are a.1 in
            elim (bind_err (items_within first n a.0.1) (λ others. Ok (a.0.0 ∷ others)) said a.2) [
              | inl late ↦
                  let more = stops_within said n a.0.1 each shrinks here.begins.following late in
                  record {
                    items = a.0.0 ∷ more.items;
                    rest = more.rest;
                    fit = (here.fits, more.fit);
                    some = more.some;
                    are = more.are;
                    stop = more.stop;
                    is = here.begins.is ∙ ap (λ (xs : List ℕ). write a.0.0 ++ xs) more.is
                        ∙ sym (append_assoc (write a.0.0) (flat_map write more.items) more.rest);
                  }
              | inr b ↦ absurd (let bad = b.2 in cc)
            ]
      ]

  pub stops_of : (said : RecordFault) (bytes : List ℕ) → EachReads first write P → Shrinks first → Bytes bytes
      → items_of first bytes ≡ Err said → StopsAfter said bytes
  unfolding items_of
  stops_of said bytes each shrinks are e = stops_within said (length bytes) bytes each shrinks are e

  -- each item can be read from the bytes written for it
  pub record EachAgain : Type 0 where
    pub at : (x : A) (rest : List ℕ) → P x → first (write x ++ rest) ≡ Ok (x, rest)

  pub stopped_after : (said : RecordFault) (items : List A) (rest : List ℕ) → EachAgain → Shrinks first
      → AllByRecursion P items → 0 < length rest → first rest ≡ Err said
      → items_of first (flat_map write items ++ rest) ≡ Err said
  stopped_after said [] rest again shrinks fit some e = items_stop first rest said some e
  stopped_after said (x ∷ items) rest again shrinks fit some e =
      let others : List ℕ = flat_map write items ++ rest in
      let split : flat_map write (x ∷ items) ++ rest ≡ write x ++ others =
      append_assoc (write x) (flat_map write items) rest in
      ap (items_of first) split
      ∙ items_step first (write x ++ others) (x, others) shrinks (again.at x others fit.0)
      ∙ ap (λ (r : Result (List A) RecordFault). r >>= λ xs. Ok (x ∷ xs))
      (stopped_after said items rest again shrinks fit.1 some e)
