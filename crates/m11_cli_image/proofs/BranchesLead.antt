-- A branch or SOB within reach of its target goes there.
use Rattle.std.proofs.Common.{◌≡◌, ◌∙◌, ℕ, ◌+◌, ◌-◌, ◌*◌, ◌/◌, ◌<◌, ◌≤◌, ◌%◌, ◌==◌, Bool, true, false, not, ◌&&◌, if◌then◌else◌, refl, sym, ap, arith, true≢false}
use Rattle.std.specs.Prelude.{◌||◌, nat_le}
use Rattle.std.proofs.lemmas.Bool.Decides.{nat_tests}
use Rattle.m11_base.specs.Rad50.{Name}
use Rattle.m11_base.proofs.SameNames.{same_name_equal}
use Rattle.m11_link_text.specs.Relocation.{following, modulo}
use Rattle.m11_asm_rules.specs.Branches.{back, branch_offset, branch_reaches, in_reach, loop_offset, loop_reaches}
use Rattle.m11_asm_rules.specs.Relocations.{distance, is_here, is_moved}
use Rattle.m11_asm_rules.specs.Tables.{Table, section_name}
use Rattle.m11_scan_expressions.specs.declared.kinds.Kind.{Kind}
use Rattle.m11_scan_expressions.specs.declared.kinds.Kind.TheVariants as kind
use Rattle.m11_scan_expressions.specs.Quantities.{Quantity}
use Rattle.m11_cli_image.specs.Addresses.{Addresses}
use Rattle.m11_cli_image.specs.Branching.{branch_distance, loop_distance}
use Rattle.m11_cli_image.specs.Lines.{address_in}
use Rattle.m11_cli_image.specs.Targets.{target, target_by}

both : (b c : Bool) → (b && c) ≡ true → (b ≡ true) × (c ≡ true)
both true c e = (refl, e)
both false c e = absurd (true≢false (sym e))

-- ---- numbers

even_number : (d : ℕ) → (d % 2 == 0) ≡ true → d % 2 ≡ 0
even_number d e = grind (arith, nat_tests)

near : (d : ℕ) → nat_le d 254 ≡ true → d ≤ 254
near d e = grind (arith, nat_tests)

far : (d : ℕ) → nat_le 65280 d ≡ true → 65280 ≤ d
far d e = grind (arith, nat_tests)

forward : (d : ℕ) → d % 2 ≡ 0 → d ≤ 254 → branch_distance (d / 2 % 256) ≡ d
forward d even low =
    let small : d / 2 % 256 ≤ 127 = omega arith in
    let test : nat_le (d / 2 % 256) 127 ≡ true = grind (arith, nat_tests) in
    let double : d / 2 % 256 * 2 ≡ d = omega arith in
    ap (λ (b : Bool). if b then d / 2 % 256 * 2 else d / 2 % 256 * 2 + 65024) test ∙ double

backward : (d : ℕ) → d < 65536 → d % 2 ≡ 0 → 65280 ≤ d → branch_distance (d / 2 % 256) ≡ d
backward d word even high =
    let large : 127 < d / 2 % 256 = omega arith in
    let test : nat_le (d / 2 % 256) 127 ≡ false = grind (arith, nat_tests) in
    let double : d / 2 % 256 * 2 + 65024 ≡ d = omega arith in
    ap (λ (b : Bool). if b then d / 2 % 256 * 2 else d / 2 % 256 * 2 + 65024) test ∙ double

reached : (d : ℕ) → d < 65536 → (low : Bool) → nat_le d 254 ≡ low → (d % 2 == 0) ≡ true → (low || nat_le 65280 d) ≡ true
    → branch_distance (d / 2 % 256) ≡ d
reached d word true e even some = forward d (even_number d even) (near d e)
reached d word false e even some = backward d word (even_number d even) (far d some)

-- if a distance is within reach of a branch, the offset made from it has this distance
distance_again : (d : ℕ) → d < 65536 → in_reach d ≡ true → branch_distance (d / 2 % 256) ≡ d
distance_again d word reach =
    let split = both (d % 2 == 0) (nat_le d 254 || nat_le 65280 d) reach in
    reached d word (nat_le d 254) refl split.0 split.1

-- the distance from the location after the code leads to the target
leads : (base location number : ℕ) → location < 65536
    → (((base + location) % 65536 + 2) % 65536 + (number + 131072 - (location + 2)) % 65536) % 65536 ≡ (base + number) % 65536
leads base location number low = omega arith

word_distance : (location number : ℕ) → distance location number < 65536
word_distance location number = omega arith

from_zero : (number : ℕ) → 0 + number ≡ number
from_zero number = omega arith

-- ---- targets in the section of a line

module _ (program : Addresses) (source : ℕ) (table : Table)
    (absolute : is_moved table ≡ false → program.base source (section_name table) ≡ 0) where
  abbrev base : ℕ
  base = program.base source (section_name table)

  at_zero : (number : ℕ) (moves : Bool) → is_moved table ≡ moves → not moves ≡ true → modulo (base + number) ≡ modulo number
  at_zero number true e h = absurd (true≢false (sym h))
  at_zero number false e h = ap (λ (from : ℕ). modulo (from + number)) (absolute e) ∙ ap modulo (from_zero number)

  twice : (number : ℕ) → number % 65536 ≡ number % 65536 % 65536
  twice number = omega arith

  here : (number : ℕ) (sort : Kind) → is_here table sort ≡ true → modulo (base + number) ≡ modulo (target_by program source number sort)
  here number kind.Absolute e = at_zero number (is_moved table) refl e
  here number kind.Register e = at_zero number (is_moved table) refl e
  here number (kind.Section name) e =
      ap (λ (n : Name). modulo (program.base source n + number)) (sym (same_name_equal name (section_name table) e))
      ∙ twice (program.base source name + number)
  here number (kind.Reference name) e = absurd (true≢false (sym e))

  pub branch_leads : (location : ℕ) (value : Quantity) → location < 65536 → branch_reaches table location value ≡ true
      → modulo (following (address_in program source (section_name table) location) + branch_distance (branch_offset table location value))
      ≡ modulo (target program source value)
  branch_leads location value low reach =
      let split = both (is_here table value.kind) (in_reach (distance location value.number)) reach in
      ap (λ (b : Bool). modulo (following (address_in program source (section_name table) location)
      + branch_distance (if b then distance location value.number / 2 % 256 else 0))) reach
      ∙ (ap (λ (d : ℕ). modulo (following (address_in program source (section_name table) location) + d))
      (distance_again (distance location value.number) (word_distance location value.number) split.1)
      ∙ (leads base location value.number low ∙ here value.number value.kind split.0))

  -- ---- SOB

  back_again : (d : ℕ) → d < 65536 → ((65536 - d) % 65536) % 2 ≡ 0 → ((65536 - d) % 65536) ≤ 126
      → (65536 - (65536 - d) % 65536 / 2 * 2) % 65536 ≡ d % 65536
  back_again d word even small = omega arith

  small_back : (n : ℕ) → nat_le n 126 ≡ true → n ≤ 126
  small_back n e = grind (arith, nat_tests)

  add_back : (from some other : ℕ) → some % 65536 ≡ other % 65536 → (from + some) % 65536 ≡ (from + other) % 65536
  add_back from some other e = omega arith

  pub loop_leads : (location : ℕ) (value : Quantity) → location < 65536 → loop_reaches table location value ≡ true
      → modulo (following (address_in program source (section_name table) location) + loop_distance (loop_offset table location value))
      ≡ modulo (target program source value)
  loop_leads location value low reach =
      let split = both (is_here table value.kind) (back location value.number % 2 == 0 && nat_le (back location value.number) 0o176) reach in
      let inner = both (back location value.number % 2 == 0) (nat_le (back location value.number) 0o176) split.1 in
      ap (λ (b : Bool). modulo (following (address_in program source (section_name table) location)
      + loop_distance (if b then back location value.number / 2 else 0))) reach
      ∙ (add_back (following (address_in program source (section_name table) location)) (loop_distance (back location value.number / 2))
      (distance location value.number)
      (back_again (distance location value.number) (word_distance location value.number)
      (even_number (back location value.number) inner.0) (small_back (back location value.number) inner.1))
      ∙ (leads base location value.number low ∙ here value.number value.kind split.0))
