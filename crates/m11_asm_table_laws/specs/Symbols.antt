-- The values of symbols in a line, from what the lines before it have said. (MACRO-11 Language Reference Manual, "Symbols", "Local symbols"
-- and "Current location counter". This project's own: a definition is firm or not.)
use Rattle.std.specs.Prelude.{ℕ, Bool, true, Option, Some, None, option_map}
use Rattle.m11_scan.specs.ErrorFlags.{flag_if}
use Rattle.m11_scan_expressions.specs.Expressions.{KnownSymbols, known_by}
use Rattle.m11_scan_expressions.specs.Quantities.{Quantity, absolute}
use Rattle.m11_scan_expressions.specs.declared.names.Symbol.{Symbol}
use Rattle.m11_scan_expressions.specs.declared.names.Symbol.TheVariants as symbol
use Rattle.m11_unfold_rules.specs.Definedness.{flag_U}
use Rattle.m11_asm_rules.specs.Definitions.{firm_part, has_key, last_definition}
use Rattle.m11_asm_rules.specs.Meanings.{Map, flag_D, is_firm_in, quantity_of}
use Rattle.m11_asm_rules.specs.declared.definitions.Definition.{Definition}
use Rattle.m11_asm_rules.specs.declared.definitions.Key.{Key}
use Rattle.m11_asm_rules.specs.declared.definitions.Key.TheVariants.{Named, Numbered}
use Rattle.m11_asm_table_laws.specs.Places.{Place, kind_here}
use Rattle.m11_asm_table_laws.specs.Said.{Said, block, is_doubly_defined, last_said}

-- ---- keys

-- the value of a key without a definition: 0, flagged U
abbrev pub unknown : Quantity
unknown = absolute 0 flag_U

-- the value by a definition, flagged D if the key is doubly defined; `other` without a definition
abbrev pub given_by : Bool → Quantity → Option Definition → Quantity
given_by is_double other None = other
given_by is_double other (Some definition) = quantity_of (flag_if is_double flag_D) definition.standing

-- the value of a key by its last definition before the line, or else by the map of the source
abbrev pub meaning : Map → Said → Key → Quantity
meaning map said key =
    given_by (is_doubly_defined key said)
    (given_by (has_key key map.doubly_defined) unknown (last_definition key map.definitions)) (last_said key said)

-- the value of a key by its last definition before the line, if that is firm
abbrev pub firm_meaning : Said → Key → Quantity
firm_meaning said key = given_by (is_doubly_defined key said) unknown (option_map firm_part (last_said key said))

-- ---- symbols

-- the value of a symbol, where `.` is this location, and keys have these values
abbrev pub symbol_value : Place → Said → ℕ → (Key → Quantity) → Symbol → Quantity
symbol_value place said here means (symbol.Ordinary name) = means (Named name)
symbol_value place said here means (symbol.Local number) = means (Numbered (block place said) number)
symbol_value place said here means symbol.Counter = record { number = here; kind = kind_here place; flags = 0 }

abbrev pub known : Place → Said → ℕ → (Key → Quantity) → KnownSymbols
known place said here means = known_by place.radix (symbol_value place said here means)

-- the firm symbols, on which sizes and locations depend
abbrev pub firm : Place → Said → ℕ → KnownSymbols
firm place said here = known place said here (firm_meaning said)

-- whether a symbol is firm: its last definition is, or the symbol is `.`
abbrev pub is_firm : Place → Said → Symbol → Bool
is_firm place said (symbol.Ordinary name) = is_firm_in (last_said (Named name) said)
is_firm place said (symbol.Local number) = is_firm_in (last_said (Numbered (block place said) number) said)
is_firm place said symbol.Counter = true
