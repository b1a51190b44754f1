-- The value that the symbol table shows for a name. (MACRO-11 Language Reference Manual, "Table of contents and symbol table". That the
-- last definition of the first pass counts, and that ` = ` marks every defined name that isn't a label, are this project's own choices.)
use Rattle.std.specs.Prelude.{ℕ, List, Option, Some, None}
use Rattle.m11_asm_listing.specs.declared.symbol_table.SymbolValue.{SymbolValue}
use Rattle.m11_asm_listing.specs.declared.symbol_table.SymbolValue.TheVariants as shown
use Rattle.m11_asm_rules.specs.declared.definitions.Definition.{Definition}
use Rattle.m11_asm_rules.specs.declared.definitions.Standing.TheVariants.{Known, Unknown}
use Rattle.m11_asm_rules.specs.declared.sections.Section.{Section}
use Rattle.m11_asm_rules.specs.Sections.{number_of}
use Rattle.m11_scan_expressions.specs.declared.kinds.Kind.{Kind}
use Rattle.m11_scan_expressions.specs.declared.kinds.Kind.TheVariants as kind

-- a known value of this kind, as the symbol table shows it: a location with the number of its section, a register, or an absolute number.
-- The table always has that section. No definition has the kind of a reference, since a name without a definition is unknown in an
-- assignment
abbrev pub known_value : List Section → ℕ → Kind → SymbolValue
known_value sections number (kind.Section name) = elim (number_of name sections) [
  | Some section ↦ shown.Relocatable number section
  | None ↦ shown.Absolute number
]
known_value sections number kind.Register = shown.Register number
known_value sections number _ = shown.Absolute number

-- the value that the symbol table shows for a name, from its last definition; unknown without a definition
abbrev pub symbol_value : List Section → Option Definition → SymbolValue
symbol_value sections None = shown.Unknown
symbol_value sections (Some definition) = elim (definition.standing) [
  | Known number counted ↦ known_value sections number counted
  | Unknown ↦ shown.Unknown
]
