-- The word of each value locates its target.
use Rattle.std.proofs.Common.{◌≡◌, ℕ, ◌+◌, ◌-◌, ◌<◌, ◌%◌, Bool, true, false, refl, ap, arith}
use Rattle.m11_obj_blocks.specs.Frames.{word_bytes}
use Rattle.m11_link_text.specs.Findings.{Findings}
use Rattle.m11_link_text.specs.Relocation.{following, less, modulo}
use Rattle.m11_obj.specs.declared.pieces.PieceContent.TheVariants.{Word}
use Rattle.m11_asm_rules.specs.Relocations.{Here, InObject, InSection, Origin, Zero, is_moved, origin_of, relocation_by, row_of, stored, stored_as}
use Rattle.m11_asm_rules.specs.Tables.{Table}
use Rattle.m11_scan_expressions.specs.Quantities.{Quantity}
use Rattle.m11_asm_laws.specs.Linked.{linked_bytes}
use Rattle.m11_asm_laws.specs.Targets.{AreWords, LiesAt, address_of, stored_address}
use Rattle.m11_asm_laws.proofs.Rows.{displaced_global_row, displaced_section_row, global_row, section_row}

-- the distance between two locations of one section doesn't change when the section moves
same_distance : (own location number linked_location : ℕ) → location < 65536 → number < 65536 → linked_location ≡ (own + location) % 65536
    → (number + 131072 - (location + 2)) % 65536 ≡ ((own + number) % 65536 + (65536 - (linked_location + 2) % 65536)) % 65536
same_distance own location number linked_location within known e = omega arith

at_zero : (own location number linked_location : ℕ) → location < 65536 → number < 65536 → linked_location ≡ (own + location) % 65536 → own ≡ 0
    → (number + 131072 - (location + 2)) % 65536 ≡ (number % 65536 + (65536 - (linked_location + 2) % 65536)) % 65536
at_zero own location number linked_location within known e f = omega arith

itself : (number : ℕ) → number < 65536 → number ≡ number % 65536
itself number known = omega arith

module _ (found : Findings) (index own linked_location location number : ℕ) (words : AreWords found) (within : location < 65536)
    (known : number < 65536) (lies : linked_location ≡ modulo (own + location)) where
  pub tells : (origin : Origin) (is_relative moves : Bool) → (moves ≡ false → own ≡ 0)
      → linked_bytes found index own linked_location (Word (stored_as is_relative (relocation_by is_relative moves (row_of origin)) location number))
      ≡ word_bytes (stored_address is_relative linked_location (address_of found index own origin number))
  tells Here false moves absolute = refl
  tells Here true true absolute = ap word_bytes (same_distance own location number linked_location within known lies)
  tells Here true false absolute = ap word_bytes (same_distance own location number linked_location within known lies)
  tells Zero false moves absolute = ap word_bytes (itself number known)
  tells Zero true true absolute = ap (λ (n : ℕ). word_bytes (less n (following linked_location))) (itself number known)
  tells Zero true false absolute = ap word_bytes (at_zero own location number linked_location within known lies (absolute refl))
  tells (InSection name) false moves absolute = section_row found index own linked_location false name number words
  tells (InSection name) true true absolute = displaced_section_row found index own linked_location false name number words
  tells (InSection name) true false absolute = displaced_section_row found index own linked_location false name number words
  tells (InObject name) false moves absolute = global_row found index own linked_location false name number words
  tells (InObject name) true true absolute = displaced_global_row found index own linked_location false name number words
  tells (InObject name) true false absolute = displaced_global_row found index own linked_location false name number words

pub values_lie : (found : Findings) (index own linked_location location : ℕ) (table : Table) (is_relative : Bool)
    (value : Quantity) → AreWords found → LiesAt table own location linked_location → value.number < 65536
    → linked_bytes found index own linked_location (Word (stored table is_relative location value))
    ≡ word_bytes (stored_address is_relative linked_location (address_of found index own (origin_of table value.kind) value.number))
values_lie found index own linked_location location table is_relative value words lies known =
    tells found index own linked_location location value.number words lies.within known lies.moved (origin_of table value.kind)
    is_relative (is_moved table) lies.absolute
