-- Relocations that are still to be read: the next of them, and what they are if all can be read.
use Rattle.std.proofs.Common.{◌≡◌, ℕ, ◌<◌, ◌≤◌, true, List, [], ◌∷◌, length, Result, Ok, Err, refl, sym, ap, subst, ◌∙◌}
use Rattle.std.specs.Prelude.{is_ok}
use Rattle.std.specs.Result.{result_unwrap_or}
use Rattle.m11_obj.specs.declared.fault.RecordFault.{RecordFault}
use Rattle.m11_obj.specs.declared.relocations.Relocation.{Relocation}
use Rattle.m11_obj.specs.Contents.{unread_content}
use Rattle.m11_obj.specs.Records.{Content, Relocations}
use Rattle.m11_obj.specs.Reading.{◌>>=◌, AreRelocations, checked, first_relocation, relocations_left, relocations_of}
use Rattle.m11_obj.proofs.Items.{items_none, items_step, items_stop}
use Rattle.m11_obj.proofs.Steps.{relocation_shrinks}
use Rattle.m11_obj.proofs.Walks.{walks_by}

abbrev Found : Type 0
Found = Result (List Relocation) RecordFault

-- ---- the next

pub none_next : {seen : List ℕ} (bytes : List ℕ) → bytes ≡ seen → length bytes ≤ 0 → relocations_of seen ≡ Ok []
unfolding relocations_of
none_next {seen} bytes is le = ap relocations_of (sym is) ∙ items_none first_relocation bytes le

pub fault_next : {seen : List ℕ} (bytes : List ℕ) (fault : RecordFault) → bytes ≡ seen → 0 < length bytes
    → first_relocation bytes ≡ Err fault → relocations_of seen ≡ Err fault
unfolding relocations_of
fault_next {seen} bytes fault is lt first =
    ap relocations_of (sym is) ∙ items_stop first_relocation bytes fault lt first

abbrev One : List ℕ → List ℕ → Relocation → Type 0
One bytes rest relocation =
    (relocations_of bytes ≡ (relocations_of rest >>= λ others. Ok (relocation ∷ others))) × (length rest < length bytes)

pub one_next : {seen : List ℕ} (bytes rest : List ℕ) (relocation : Relocation) → bytes ≡ seen
    → first_relocation bytes ≡ Ok (relocation, rest) → One seen rest relocation
unfolding relocations_of
one_next {seen} bytes rest relocation is first =
    let P : List ℕ → Type 0 = λ xs. One xs rest relocation in
    subst P is (
      items_step first_relocation bytes (relocation, rest) relocation_shrinks first,
      relocation_shrinks.shorter bytes (relocation, rest) first,
    )

-- ---- whether all that are left are relocations

ok_checked : (found : Found) → is_ok (checked found) ≡ is_ok found
ok_checked (Ok relocations) = refl
ok_checked (Err fault) = refl

-- if all bytes are relocations, and checking the remaining ones has the same result, the remaining ones are relocations
pub are_left : (bytes all : List ℕ) → checked (relocations_of bytes) ≡ checked (relocations_of all)
    → AreRelocations all → AreRelocations bytes
are_left bytes all e are =
    sym (ok_checked (relocations_of bytes)) ∙ ap (λ (r : Result (Unit {0}) RecordFault). is_ok r) e
    ∙ ok_checked (relocations_of all) ∙ are

more_checked : (found : Found) (relocation : Relocation)
    → checked (found >>= λ others. Ok (relocation ∷ others)) ≡ checked found
more_checked (Ok others) relocation = refl
more_checked (Err fault) relocation = refl

-- checking the bytes has the same result with or without the next relocation, which is valid
pub checked_next : (bytes rest : List ℕ) (relocation : Relocation)
    → relocations_of bytes ≡ (relocations_of rest >>= λ others. Ok (relocation ∷ others))
    → checked (relocations_of bytes) ≡ checked (relocations_of rest)
checked_next bytes rest relocation e =
    ap (λ (r : Found). checked r) e ∙ more_checked (relocations_of rest) relocation

-- the relocations that are left are the next one and those after it
pub left_next : (bytes rest : List ℕ) (relocation : Relocation) → AreRelocations bytes
    → relocations_of bytes ≡ (relocations_of rest >>= λ others. Ok (relocation ∷ others))
    → relocations_left bytes ≡ relocation ∷ relocations_left rest
left_next bytes rest relocation are e = (walks_by bytes relocation rest (relocations_of rest) are refl e).left

pub left_none : (bytes : List ℕ) → relocations_of bytes ≡ Ok [] → relocations_left bytes ≡ []
left_none bytes e = ap (λ (r : Found). result_unwrap_or r []) e

pub checked_none : (bytes : List ℕ) → relocations_of bytes ≡ Ok [] → checked (relocations_of bytes) ≡ Ok tt
checked_none bytes e = ap (λ (r : Found). checked r) e

pub are_where_checked : (bytes : List ℕ) (done : Unit {0}) → checked (relocations_of bytes) ≡ Ok done → AreRelocations bytes
are_where_checked bytes done e =
    sym (ok_checked (relocations_of bytes)) ∙ ap (λ (r : Result (Unit {0}) RecordFault). is_ok r) e

-- ---- the record of them

record_by : (found : Found) → is_ok found ≡ true
    → ◌≡◌ {A = Result Content RecordFault} (found >>= λ relocations. Ok (Relocations relocations))
    (Ok (Relocations (result_unwrap_or found [])))
record_by (Ok relocations) are = refl
record_by (Err fault) are = absurd cc

pub record_read : (bytes : List ℕ) → AreRelocations bytes → unread_content bytes ≡ Ok (Relocations (relocations_left bytes))
record_read bytes are = record_by (relocations_of bytes) are

fault_by : (found : Found) (fault : RecordFault) → checked found ≡ Err fault
    → ◌≡◌ {A = Result Content RecordFault} (found >>= λ relocations. Ok (Relocations relocations)) (Err fault)
fault_by (Ok relocations) fault e = absurd cc
fault_by (Err other) fault e = let same : other ≡ fault = cc in ap (λ (f : RecordFault). Err f) same

pub record_refused : (bytes : List ℕ) (fault : RecordFault) → checked (relocations_of bytes) ≡ Err fault
    → unread_content bytes ≡ Err fault
record_refused bytes fault e = fault_by (relocations_of bytes) fault e
