-- The walk over relocations: the first of those that are left, and those after it.
use Rattle.std.proofs.Common.{◌≡◌, ◌≢◌, ℕ, zero, suc, ◌+◌, ◌-◌, ◌*◌, ◌≤◌, List, [], ◌∷◌, length, drop, Some, None, Result, Ok, Err, refl, sym, ap, subst, ◌∙◌, arith, length-drop}
use Rattle.std.specs.Prelude.{is_ok, slice_get}
use Rattle.std.specs.Result.{result_unwrap_or}
use Rattle.m11_obj.specs.declared.fault.RecordFault.{RecordFault}
use Rattle.m11_obj.specs.declared.relocations.Relocation.{Relocation}
use Rattle.m11_obj.specs.declared.records.RecordKind.{RecordKind}
use Rattle.m11_obj.specs.declared.records.RecordKind.TheVariants as kind
use Rattle.m11_obj.specs.Records.{Content, Gsd, EndOfGsd, Text, Relocations, InternalSymbols, EndOfModule}
use Rattle.m11_obj.specs.Reading.{◌>>=◌, items_within, items_of, first_relocation, relocations_of, content_after, content_of, kind_in, record_kind, relocations_in, record_relocations, AreRelocations, relocations_left}
use Rattle.m11_obj.proofs.FieldsOf.{done, ok_is, bind_ok, parts_of}
use Rattle.m11_obj.proofs.Items.{items_step, items_stop, items_none}
use Rattle.m11_obj.proofs.Steps.{relocation_length, relocation_shrinks}

-- the relocations in `bytes` are this one and then those in `rest`, all of which are valid
pub record Walks (bytes : List ℕ) (relocation : Relocation) (rest : List ℕ) : Type 0 where
  pub are : AreRelocations rest
  pub left : relocations_left bytes ≡ relocation ∷ relocations_left rest

pub walks_by : (bytes : List ℕ) (relocation : Relocation) (rest : List ℕ) (r : Result (List Relocation) RecordFault)
    → AreRelocations bytes → relocations_of rest ≡ r
    → relocations_of bytes ≡ (r >>= λ others. Ok (relocation ∷ others)) → Walks bytes relocation rest
walks_by bytes relocation rest (Ok others) are following is = record {
  are = ap (λ (q : Result (List Relocation) RecordFault). is_ok q) following;
  left = ap (λ (q : Result (List Relocation) RecordFault). result_unwrap_or q []) is
      ∙ ap (λ (q : Result (List Relocation) RecordFault). relocation ∷ result_unwrap_or q []) (sym following);
}
walks_by bytes relocation rest (Err fault) are following is =
    let no = sym are ∙ ap (λ (q : Result (List Relocation) RecordFault). is_ok q) is in absurd cc

pub walks : (bytes : List ℕ) (relocation : Relocation) (rest : List ℕ) → AreRelocations bytes
    → first_relocation bytes ≡ Ok (relocation, rest) → Walks bytes relocation rest
unfolding relocations_of
walks bytes relocation rest are first =
    walks_by bytes relocation rest (relocations_of rest) are refl
    (items_step first_relocation bytes (relocation, rest) relocation_shrinks first)

pub walk_ends : (bytes : List ℕ) (fault : RecordFault) → AreRelocations bytes → first_relocation bytes ≡ Err fault
    → relocations_left bytes ≡ []
unfolding relocations_of
walk_ends [] fault are first =
    ap (λ (q : Result (List Relocation) RecordFault). result_unwrap_or q [])
    (items_none first_relocation [] (omega arith))
walk_ends (byte ∷ bytes) fault are first =
    let stopped = items_stop first_relocation (byte ∷ bytes) fault (omega arith) first in
    let no = sym are ∙ ap (λ (q : Result (List Relocation) RecordFault). is_ok q) stopped in absurd cc

-- the empty list of bytes is valid as relocations
pub none_are : AreRelocations []
unfolding relocations_of
none_are =
    ap (λ (q : Result (List Relocation) RecordFault). is_ok q) (items_none first_relocation [] (omega arith))

pub none_left : relocations_left [] ≡ []
unfolding relocations_of
none_left =
    ap (λ (q : Result (List Relocation) RecordFault). result_unwrap_or q [])
    (items_none first_relocation [] (omega arith))

-- ---- by index

-- the relocations in `rest`, which are valid, are those in `bytes` without the first `count`
pub record Passed (bytes rest : List ℕ) (count : ℕ) : Type 0 where
  pub are : AreRelocations rest
  pub same : (k : ℕ) → slice_get (relocations_left rest) k ≡ slice_get (relocations_left bytes) (k + count)

pub passed_none : (bytes : List ℕ) → AreRelocations bytes → Passed bytes bytes 0
passed_none bytes are =
    record { are = are; same = λ k. ap (λ (n : ℕ). slice_get (relocations_left bytes) n) (omega arith) }

pub passed_more : (bytes rest following : List ℕ) (relocation : Relocation) (count : ℕ) → Passed bytes rest count
    → first_relocation rest ≡ Ok (relocation, following) → Passed bytes following (count + 1)
passed_more bytes rest following relocation count passed first =
    let step = walks rest relocation following passed.are first in record {
      are = step.are;
      same = λ k.
          let here : slice_get (relocations_left rest) (suc k) ≡ slice_get (relocations_left following) k =
          ap (λ (xs : List Relocation). slice_get xs (suc k)) step.left in
          sym here ∙ passed.same (suc k) ∙ ap (λ (n : ℕ). slice_get (relocations_left bytes) n) (omega arith);
    }

pub passed_found : (bytes rest following : List ℕ) (relocation : Relocation) (index : ℕ) → Passed bytes rest index
    → first_relocation rest ≡ Ok (relocation, following) → Some relocation ≡ slice_get (relocations_left bytes) index
passed_found bytes rest following relocation index passed first =
    let step = walks rest relocation following passed.are first in
    let here : slice_get (relocations_left rest) 0 ≡ Some relocation =
    ap (λ (xs : List Relocation). slice_get xs 0) step.left in
    sym here ∙ passed.same 0 ∙ ap (λ (n : ℕ). slice_get (relocations_left bytes) n) (omega arith)

pub passed_end : (bytes rest : List ℕ) (fault : RecordFault) (count index : ℕ) → Passed bytes rest count
    → count ≤ index → first_relocation rest ≡ Err fault → None ≡ slice_get (relocations_left bytes) index
passed_end bytes rest fault count index passed le first =
    let here : slice_get (relocations_left rest) (index - count) ≡ None =
    ap (λ (xs : List Relocation). slice_get xs (index - count)) (walk_ends rest fault passed.are first) in
    sym here ∙ passed.same (index - count) ∙ ap (λ (n : ℕ). slice_get (relocations_left bytes) n) (omega arith)

-- ---- in a record

-- relocations have at least two bytes each
within_few : (n : ℕ) (bytes : List ℕ) (relocations : List Relocation)
    → items_within first_relocation n bytes ≡ Ok relocations → 2 * length relocations ≤ length bytes
unfolding items_within
within_few zero bytes relocations e = let none = ok_is [] relocations e in omega (arith, ap length none)
within_few (suc n) [] relocations e = let none = ok_is [] relocations e in omega (arith, ap length none)
within_few (suc n) (byte ∷ bytes) relocations e =
    let a =
    bind_ok (first_relocation (byte ∷ bytes))
    (λ first. items_within first_relocation n first.1 >>= λ others. Ok (first.0 ∷ others)) relocations e in
    let b = bind_ok (items_within first_relocation n a.0.1) (λ others. Ok (a.0.0 ∷ others)) relocations a.2 in
    let less = relocation_length (byte ∷ bytes) a.0 a.1 in
    let others = within_few n a.0.1 b.0 b.1 in
    omega (arith, ap length (ok_is (a.0.0 ∷ b.0) relocations b.2))

few : (bytes : List ℕ) (relocations : List Relocation) → relocations_of bytes ≡ Ok relocations
    → 2 * length relocations ≤ length bytes
unfolding relocations_of items_of
few bytes relocations e = within_few (length bytes) bytes relocations e

pub record HasRelocations (bytes : List ℕ) : Type 0 where
  pub enough : 2 ≤ length bytes
  pub few : 2 * length (record_relocations bytes) + 2 ≤ length bytes
  pub are : AreRelocations (drop 2 bytes)
  pub left : relocations_left (drop 2 bytes) ≡ record_relocations bytes

relocation_parts : (bytes : List ℕ) (relocations : List Relocation) → content_of bytes ≡ Ok (Relocations relocations)
    → HasRelocations bytes
unfolding content_after
relocation_parts bytes relocations e =
    let p = parts_of bytes (Relocations relocations) e in
    let says : content_after kind.Relocations p.rest ≡ Ok (Relocations relocations) =
    subst (λ (k : RecordKind). content_after k p.rest ≡ Ok (Relocations relocations)) (sym p.same) p.says in
    let a = bind_ok (relocations_of p.rest) (λ rs. Ok (Relocations rs)) (Relocations relocations) says in
    let same : a.0 ≡ relocations = (let both : done (Relocations a.0) ≡ done (Relocations relocations) = a.2 in cc) in
    let found : relocations_of (drop 2 bytes) ≡ Ok relocations =
    ap relocations_of (sym p.takes.following) ∙ a.1 ∙ ap (λ (rs : List Relocation). done rs) same in
    record {
      enough = p.takes.enough;
      few = omega (
        arith,
        few (drop 2 bytes) relocations found,
        length-drop 2 bytes,
        p.takes.enough,
        ap length (ap relocations_in e),
      );
      are = ap (λ (q : Result (List Relocation) RecordFault). is_ok q) found;
      left = ap (λ (q : Result (List Relocation) RecordFault). result_unwrap_or q []) found ∙ sym (ap relocations_in e);
    }

has_by_kind : (bytes : List ℕ) (r : Result Content RecordFault) → content_of bytes ≡ r
    → (r >>= λ content. Ok (kind_in content)) ≡ Ok kind.Relocations → HasRelocations bytes
has_by_kind bytes (Ok (Relocations relocations)) is e = relocation_parts bytes relocations is
has_by_kind bytes (Ok (Gsd entries)) is e = absurd cc
has_by_kind bytes (Ok EndOfGsd) is e = absurd cc
has_by_kind bytes (Ok (Text address text)) is e = absurd cc
has_by_kind bytes (Ok InternalSymbols) is e = absurd cc
has_by_kind bytes (Ok EndOfModule) is e = absurd cc
has_by_kind bytes (Err fault) is e = absurd cc

pub has_relocations : (bytes : List ℕ) → record_kind bytes ≡ Ok kind.Relocations → HasRelocations bytes
has_relocations bytes e = has_by_kind bytes (content_of bytes) refl e

none_by_kind : (r : Result Content RecordFault) (k : RecordKind) → (r >>= λ content. Ok (kind_in content)) ≡ Ok k
    → k ≢ kind.Relocations → relocations_in r ≡ []
none_by_kind (Ok (Relocations relocations)) k e ne =
    absurd (ne (sym (let both : done kind.Relocations ≡ done k = e in cc)))
none_by_kind (Ok (Gsd entries)) k e ne = refl
none_by_kind (Ok EndOfGsd) k e ne = refl
none_by_kind (Ok (Text address text)) k e ne = refl
none_by_kind (Ok InternalSymbols) k e ne = refl
none_by_kind (Ok EndOfModule) k e ne = refl
none_by_kind (Err fault) k e ne = refl

pub no_relocations : (bytes : List ℕ) (k : RecordKind) → record_kind bytes ≡ Ok k → k ≢ kind.Relocations
    → record_relocations bytes ≡ []
no_relocations bytes k e ne = none_by_kind (content_of bytes) k e ne
