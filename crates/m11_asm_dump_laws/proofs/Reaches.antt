-- Targets that branches and SOB of a disassembly reach, and their offsets.
use Rattle.std.proofs.Common.{◌≡◌, ◌∙◌, ℕ, ℤ, ◌+◌, ◌-◌, ◌*◌, ◌/◌, ◌%◌, ◌≤◌, ◌<◌, Bool, true, false, inl, inr, refl, ap, arith}
use Rattle.std.specs.Prelude.{◌==◌, ◌&&◌, ◌||◌, not, nat_le, nat_lt, FitsSigned, if◌then◌else◌}
use Rattle.std.specs.Int.{cast_signed, cast_unsigned, w8, w16}
use Rattle.std.proofs.lemmas.Bool.{cases_Bool, eq-eqb, le-leb, ltb-false, ltb-true}
use Rattle.std.proofs.lemmas.Int.{ints}
use Rattle.m11_base_disassembly.specs.Instructions.{branch_target, loop_target}
use Rattle.m11_scan_expressions.specs.Quantities.{absolute}
use Rattle.m11_asm_rules.specs.Branches.{back, branch_offset, branch_reaches, in_reach, loop_offset, loop_reaches}
use Rattle.m11_asm_rules.specs.Relocations.{distance, is_moved}
use Rattle.m11_asm_rules.specs.Tables.{Table}

-- ---- distances in reach

or_true : (b : Bool) → (b || true) ≡ true
or_true true = refl
or_true false = refl

reach_forward : (bytes : ℕ) → bytes % 2 ≡ 0 → bytes ≤ 0o376 → in_reach bytes ≡ true
reach_forward bytes even most = rw (eq-eqb (bytes % 2) 0 even, le-leb bytes 0o376 most) refl

reach_backward : (bytes : ℕ) → bytes % 2 ≡ 0 → 0o177400 ≤ bytes → in_reach bytes ≡ true
reach_backward bytes even least =
    rw (eq-eqb (bytes % 2) 0 even, le-leb 0o177400 bytes least) (or_true (nat_le bytes 0o376))

-- ---- branches

forward : (offset : ℤ) → FitsSigned w8 offset → cast_unsigned w8 offset < 128 → cast_unsigned w16 offset ≡ cast_unsigned w8 offset
forward offset fits small = omega (arith, ints)

backward : (offset : ℤ) → FitsSigned w8 offset → 128 ≤ cast_unsigned w8 offset
    → cast_unsigned w16 offset ≡ cast_unsigned w8 offset + 65280
backward offset fits large = omega (arith, ints)

offset_within : (offset : ℤ) → FitsSigned w8 offset → cast_unsigned w8 offset < 256
offset_within offset fits = omega (arith, ints)

-- the distance of a branch's target, and the offset that it has in words
record Branches (location : ℕ) (offset : ℤ) : Type 0 where
  reach : in_reach (distance location (branch_target location offset)) ≡ true
  words : distance location (branch_target location offset) / 2 % 256 ≡ cast_unsigned w8 offset

far_forward : (location u v : ℕ) → location < 65536 → u < 128 → v ≡ u → distance location ((location + 2 + 2 * v) % 65536) ≡ 2 * u
far_forward location u v within small e = omega arith

far_backward : (location u v : ℕ) → location < 65536 → 128 ≤ u → u < 256 → v ≡ u + 65280
    → distance location ((location + 2 + 2 * v) % 65536) ≡ 2 * u + 65024
far_backward location u v within large small e = omega arith

half_forward : (u : ℕ) → u < 128 → 2 * u / 2 % 256 ≡ u
half_forward u small = omega arith

half_backward : (u : ℕ) → u < 256 → (2 * u + 65024) / 2 % 256 ≡ u
half_backward u small = omega arith

branches_forward : (location : ℕ) (offset : ℤ) → location < 65536 → FitsSigned w8 offset → cast_unsigned w8 offset < 128
    → Branches location offset
branches_forward location offset within fits small =
    let u : ℕ = cast_unsigned w8 offset in
    let far : distance location (branch_target location offset) ≡ 2 * u =
    far_forward location u (cast_unsigned w16 offset) within small (forward offset fits small) in
    record {
      reach = ap in_reach far ∙ reach_forward (2 * u) (omega arith) (omega arith);
      words = ap (λ n. n / 2 % 256) far ∙ half_forward u small;
    }

branches_backward : (location : ℕ) (offset : ℤ) → location < 65536 → FitsSigned w8 offset → 128 ≤ cast_unsigned w8 offset
    → Branches location offset
branches_backward location offset within fits large =
    let u : ℕ = cast_unsigned w8 offset in
    let small : u < 256 = offset_within offset fits in
    let far : distance location (branch_target location offset) ≡ 2 * u + 65024 =
    far_backward location u (cast_unsigned w16 offset) within large small (backward offset fits large) in
    record {
      reach = ap in_reach far ∙ reach_backward (2 * u + 65024) (omega arith) (omega arith);
      words = ap (λ n. n / 2 % 256) far ∙ half_backward u small;
    }

branches : (location : ℕ) (offset : ℤ) → location < 65536 → FitsSigned w8 offset → Branches location offset
branches location offset within fits =
    elim (cases_Bool (nat_lt (cast_unsigned w8 offset) 128)) [
      | inl is ↦ branches_forward location offset within fits (ltb-true (cast_unsigned w8 offset) 128 is)
      | inr is ↦ branches_backward location offset within fits (ltb-false (cast_unsigned w8 offset) 128 is)
    ]

same_offset : (offset : ℤ) → FitsSigned w8 offset → cast_signed w8 (cast_unsigned w8 offset) ≡ offset
same_offset offset fits = omega (arith, ints)

-- in an absolute section a branch reaches the target of its offset
module _ (table : Table) (still : is_moved table ≡ false) (location : ℕ) (within : location < 65536) where
  module _ (offset : ℤ) (fits : FitsSigned w8 offset) (address : ℕ) (is : address ≡ branch_target location offset) where
    pub branch_reached : branch_reaches table location (absolute address 0) ≡ true
    branch_reached =
        ap (λ b. not b && in_reach (distance location address)) still
        ∙ ap (λ n. in_reach (distance location n)) is ∙ (branches location offset within fits).reach

    pub branch_counted : cast_signed w8 (branch_offset table location (absolute address 0)) ≡ offset
    branch_counted =
        ap (λ b. cast_signed w8 (if b then distance location address / 2 % 256 else 0)) branch_reached
        ∙ ap (λ n. cast_signed w8 (distance location n / 2 % 256)) is
        ∙ ap (cast_signed w8) (branches location offset within fits).words
        ∙ same_offset offset fits

  -- ---- SOB

  far_back : (location count : ℕ) → location < 65536 → count < 64
      → (65536 - (((location + 65538 - 2 * count) % 65536 + 131072 - (location + 2)) % 65536)) % 65536 ≡ 2 * count
  far_back location count within few = omega arith

  module _ (count : ℕ) (few : count < 64) (address : ℕ) (is : address ≡ loop_target location count) where
    back_is : back location address ≡ 2 * count
    back_is = ap (back location) is ∙ far_back location count within few

    pub loop_reached : loop_reaches table location (absolute address 0) ≡ true
    loop_reached =
        let even : 2 * count % 2 ≡ 0 = omega arith in
        ap (λ b. not b && (back location address % 2 == 0 && nat_le (back location address) 0o176)) still
        ∙ ap (λ n. n % 2 == 0 && nat_le n 0o176) back_is
        ∙ ap (λ b. b && nat_le (2 * count) 0o176) (eq-eqb (2 * count % 2) 0 even)
        ∙ le-leb (2 * count) 0o176 (omega arith)

    pub loop_counted : loop_offset table location (absolute address 0) ≡ count
    loop_counted =
        let half : 2 * count / 2 ≡ count = omega arith in
        ap (λ b. if b then back location address / 2 else 0) loop_reached ∙ ap (λ n. n / 2) back_is ∙ half
