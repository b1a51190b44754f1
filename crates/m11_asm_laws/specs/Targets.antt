-- The addresses of a source's values in a linked program. (MACRO-11 Language Reference Manual, "Relocation and linking".)
use Rattle.std.specs.Prelude.{◌≡◌, ℕ, ◌+◌, ◌<◌, Bool, true, false}
use Rattle.m11_base.specs.Rad50.{Name}
use Rattle.m11_link_text.specs.Findings.{Findings}
use Rattle.m11_link_text.specs.Relocation.{following, less, modulo, symbol}
use Rattle.m11_asm_rules.specs.Relocations.{Here, InObject, InSection, Origin, Zero, is_moved}
use Rattle.m11_asm_rules.specs.Tables.{Table}

-- the address of a number relative to an origin, modulo 65536
abbrev pub address_of : Findings → ℕ → ℕ → Origin → ℕ → ℕ
address_of found module_index own Here number = modulo (own + number)
address_of found module_index own Zero number = modulo number
address_of found module_index own (InSection name) number = modulo (found.base module_index name + number)
address_of found module_index own (InObject name) number = modulo (symbol found name + number)

-- the address as it is stored: in a relative operand (true) as its distance from the location after the word, modulo 65536; otherwise
-- unchanged
abbrev pub stored_address : Bool → ℕ → ℕ → ℕ
stored_address true linked_location address = less address (following linked_location)
stored_address false linked_location address = address

-- bases and the values of globals are below 65536
pub record AreWords (found : Findings) : Type 0 where
  pub bases : (module_index : ℕ) (name : Name) → found.base module_index name < 65536
  pub values : (name : Name) → symbol found name < 65536

-- a location in the section of a line, in a section contribution with this base, has this linked location, modulo 65536; the base of an ABS
-- section is 0
pub record LiesAt (table : Table) (own location linked_location : ℕ) : Type 0 where
  pub within : location < 65536
  pub moved : linked_location ≡ modulo (own + location)
  pub absolute : is_moved table ≡ false → own ≡ 0
