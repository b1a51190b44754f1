-- The bytes of a created file are stored at the first index with its path.
use Rattle.std.proofs.Common.{◌≡◌, ◌∙◌, sym, ap, refl, ℕ, ◌+◌, ◌<◌, zero, suc, Bool, true, false, cond, List, [], ◌∷◌, map, Option, Some, None, position, length, arith, slice_index_or, slice_set}
use Rattle.std.proofs.lemmas.Iterator.Adapters.{position_from-zero}
use Rattle.std.proofs.lemmas.List.Quantifiers.{position-Some}
use Rattle.std.specs.List.{position_from}
use Rattle.m11_base_files.specs.Opens.{stored_among}
use Rattle.m11_base_files.specs.MemoryFiles.{has_path, made_of}
use Rattle.m11_base_files.specs.declared.memory_files.MadeFile.{MadeFile}

kept_there : (path : List ℕ) (made : List MadeFile) (index : ℕ) (d file : MadeFile) (text : Option (List ℕ))
    → made_of file ≡ record (made_of (slice_index_or made index d)) { kept = text } → index < length made
    → has_path path (slice_index_or made index d) ≡ true
    → ((k : ℕ) → k < index → has_path path (slice_index_or made k d) ≡ false)
    → map made_of (slice_set made index file) ≡ stored_among path text (map made_of made)
kept_there path [] index d file text is lt here before = absurd (omega arith)
kept_there path (first ∷ more) zero d file text is lt here before =
    rw here (ap (λ written. written ∷ map made_of more) is)
kept_there path (first ∷ more) (suc index) d file text is lt here before =
    rw (before 0 (omega arith))
    (ap (λ rest. made_of first ∷ rest)
    (kept_there path more index d file text is (omega arith) here (λ k under. before (suc k) (omega arith))))

pub kept_at : (path : List ℕ) (made : List MadeFile) (index : ℕ) (d file : MadeFile) (text : Option (List ℕ))
    → made_of file ≡ record (made_of (slice_index_or made index d)) { kept = text }
    → position (has_path path) made ≡ Some index
    → map made_of (slice_set made index file) ≡ stored_among path text (map made_of made)
kept_at path made index d file text is found =
    let first = position-Some (has_path path) made index d found in
    kept_there path made index d file text is first.0 first.1 first.2

-- if no index is found, the test fails at this one, and no later index is found
none_of : (here : Bool) (i : ℕ) (rest : Option ℕ) → cond here (Some i) rest ≡ None
    → (here ≡ false) × (rest ≡ None)
none_of true i rest h = cc
none_of false i rest h = (refl, h)

none_from : (path : List ℕ) (made : List MadeFile) (text : Option (List ℕ)) (i : ℕ)
    → position_from (has_path path) i made ≡ None → map made_of made ≡ stored_among path text (map made_of made)
none_from path [] text i absent = refl
none_from path (first ∷ more) text i absent =
    let others = none_of (has_path path first) i (position_from (has_path path) (i + 1) more) absent in
    rw (others.0) (ap (λ rest. made_of first ∷ rest) (none_from path more text (i + 1) others.1))

pub not_kept : (path : List ℕ) (made : List MadeFile) (text : Option (List ℕ)) → position (has_path path) made ≡ None
    → map made_of made ≡ stored_among path text (map made_of made)
not_kept path made text absent =
    none_from path made text 0 (sym (position_from-zero (has_path path) made) ∙ absent)
