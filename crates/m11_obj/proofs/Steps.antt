-- Directory entries and relocations, one after another: each has at least one byte.
use Rattle.std.proofs.Common.{◌≡◌, ℕ, ◌+◌, ◌%◌, ◌<◌, ◌≤◌, List, length, Result, Ok, Err, ap, ◌∙◌, arith, length-drop}
use Rattle.std.specs.Prelude.{nat_le}
use Rattle.m11_obj.specs.declared.fault.RecordFault.{RecordFault}
use Rattle.m11_obj.specs.declared.gsd.GsdEntry.{GsdEntry}
use Rattle.m11_obj.specs.declared.records.RecordKind.{RecordKind}
use Rattle.m11_obj.specs.declared.relocations.Target.{Target}
use Rattle.m11_obj.specs.declared.relocations.Relocation.{Relocation}
use Rattle.m11_obj.specs.Reading.{◌>>=◌, first_byte, first_word, first_name, first_entry, first_type, entries_of, Form, Nothing, Constant, Name, NameAndConstant, form_of, first_target, first_relocation, relocations_of, checked}
use Rattle.m11_obj.proofs.FieldsOf.{Takes, done, ok_is, bind_ok, byte_takes, word_takes, name_takes, entry_takes, type_takes}
use Rattle.m11_obj.proofs.Items.{Shrinks, checked_step, items_stop, items_none}

takes_length : (count : ℕ) (bytes rest : List ℕ) → Takes count bytes rest → length rest + count ≡ length bytes
takes_length count bytes rest takes =
    omega (arith, takes.enough, ap length takes.following ∙ length-drop count bytes)

ok_length : {A : Type 0} (x y : A × List ℕ) → done x ≡ done y → length x.1 ≡ length y.1
ok_length {A} x y e = ap (λ (p : A × List ℕ). length p.1) (ok_is x y e)

-- ---- the type

pub type_length : (bytes : List ℕ) (x : RecordKind × List ℕ) → first_type bytes ≡ Ok x → length x.1 + 2 ≡ length bytes
type_length bytes x is = takes_length 2 bytes x.1 (type_takes bytes x is)

-- ---- entries

pub entry_length : (bytes : List ℕ) (x : GsdEntry × List ℕ) → first_entry bytes ≡ Ok x → length x.1 + 8 ≡ length bytes
entry_length bytes x is = takes_length 8 bytes x.1 (entry_takes bytes x is)

pub entry_shrinks : Shrinks first_entry
entry_shrinks = record { shorter = λ bytes x is. omega (arith, entry_length bytes x is) }

-- ---- relocations

target_length : (form : Form) (bytes : List ℕ) (x : Target × List ℕ) → first_target form bytes ≡ Ok x
    → length x.1 ≤ length bytes
unfolding first_target
target_length (Nothing target) bytes x e = omega (arith, ok_length (target, bytes) x e)
target_length (Constant target) bytes x e =
    let constant = bind_ok (first_word bytes) (λ constant. Ok (target constant.0, constant.1)) x e in
    omega (
      arith,
      takes_length 2 bytes constant.0.1 (word_takes bytes constant.0 constant.1),
      ok_length (target constant.0.0, constant.0.1) x constant.2,
    )
target_length (Name target) bytes x e =
    let name = bind_ok (first_name bytes) (λ name. Ok (target name.0, name.1)) x e in
    omega (
      arith,
      takes_length 4 bytes name.0.1 (name_takes bytes name.0 name.1),
      ok_length (target name.0.0, name.0.1) x name.2,
    )
target_length (NameAndConstant target) bytes x e =
    let name =
    bind_ok (first_name bytes)
    (λ name. first_word name.1 >>= λ constant. Ok (target name.0 constant.0, constant.1)) x e in
    let constant = bind_ok (first_word name.0.1) (λ constant. Ok (target name.0.0 constant.0, constant.1)) x name.2 in
    omega (
      arith,
      takes_length 4 bytes name.0.1 (name_takes bytes name.0 name.1),
      takes_length 2 name.0.1 constant.0.1 (word_takes name.0.1 constant.0 constant.1),
      ok_length (target name.0.0 constant.0.0, constant.0.1) x constant.2,
    )

abbrev pub relocation_of : ℕ → ℕ → Target → Relocation
relocation_of code displacement target =
    record { is_byte = nat_le 128 code; displacement = displacement; target = target }

pub relocation_length : (bytes : List ℕ) (x : Relocation × List ℕ) → first_relocation bytes ≡ Ok x
    → length x.1 + 2 ≤ length bytes
unfolding first_relocation
relocation_length bytes x e =
    let code =
    bind_ok (first_byte bytes)
    (λ code. form_of (nat_le 128 code.0) (code.0 % 128) >>= λ form. first_byte code.1 >>=
    λ displacement. first_target form displacement.1 >>= λ target. Ok
    (relocation_of code.0 displacement.0 target.0, target.1)) x e in
    let form =
    bind_ok (form_of (nat_le 128 code.0.0) (code.0.0 % 128))
    (λ form. first_byte code.0.1 >>= λ displacement. first_target form displacement.1 >>= λ target. Ok
    (relocation_of code.0.0 displacement.0 target.0, target.1)) x code.2 in
    let displacement =
    bind_ok (first_byte code.0.1)
    (λ displacement. first_target form.0 displacement.1 >>= λ target. Ok
    (relocation_of code.0.0 displacement.0 target.0, target.1)) x form.2 in
    let target =
    bind_ok (first_target form.0 displacement.0.1)
    (λ target. Ok (relocation_of code.0.0 displacement.0.0 target.0, target.1)) x displacement.2 in
    omega (
      arith,
      takes_length 1 bytes code.0.1 (byte_takes bytes code.0 code.1),
      takes_length 1 code.0.1 displacement.0.1 (byte_takes code.0.1 displacement.0 displacement.1),
      target_length form.0 displacement.0.1 target.0 target.1,
      ok_length (relocation_of code.0.0 displacement.0.0 target.0.0, target.0.1) x target.2,
    )

pub relocation_shrinks : Shrinks first_relocation
relocation_shrinks =
    record { shorter = λ bytes x is. omega (arith, relocation_length bytes x is) }

-- ---- the checks

pub entries_checked : (bytes : List ℕ) (entry : GsdEntry) (rest : List ℕ) → first_entry bytes ≡ Ok (entry, rest)
    → checked (entries_of bytes) ≡ checked (entries_of rest)
unfolding entries_of
entries_checked bytes entry rest is = checked_step first_entry bytes (entry, rest) entry_shrinks is

pub relocations_checked : (bytes : List ℕ) (relocation : Relocation) (rest : List ℕ)
    → first_relocation bytes ≡ Ok (relocation, rest) → checked (relocations_of bytes) ≡ checked (relocations_of rest)
unfolding relocations_of
relocations_checked bytes relocation rest is =
    checked_step first_relocation bytes (relocation, rest) relocation_shrinks is

pub entries_stop : (bytes : List ℕ) (fault : RecordFault) → 0 < length bytes → first_entry bytes ≡ Err fault
    → checked (entries_of bytes) ≡ Err fault
unfolding entries_of
entries_stop bytes fault lt is =
    ap (λ (r : Result (List GsdEntry) RecordFault). checked r) (items_stop first_entry bytes fault lt is)

pub relocations_stop : (bytes : List ℕ) (fault : RecordFault) → 0 < length bytes → first_relocation bytes ≡ Err fault
    → checked (relocations_of bytes) ≡ Err fault
unfolding relocations_of
relocations_stop bytes fault lt is =
    ap (λ (r : Result (List Relocation) RecordFault). checked r) (items_stop first_relocation bytes fault lt is)

pub entries_end : (bytes : List ℕ) → length bytes ≤ 0 → checked (entries_of bytes) ≡ Ok tt
unfolding entries_of
entries_end bytes le =
    ap (λ (r : Result (List GsdEntry) RecordFault). checked r) (items_none first_entry bytes le)

pub relocations_end : (bytes : List ℕ) → length bytes ≤ 0 → checked (relocations_of bytes) ≡ Ok tt
unfolding relocations_of
relocations_end bytes le =
    ap (λ (r : Result (List Relocation) RecordFault). checked r) (items_none first_relocation bytes le)
