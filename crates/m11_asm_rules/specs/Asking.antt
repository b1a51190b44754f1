-- The context of looking up a symbol, and the steps of the lookup. (MACRO-11 Language Reference Manual, "Symbols" and "Current location
-- counter".)
use Rattle.std.specs.Prelude.{ℕ, Bool, Option, Some, None}
use Rattle.m11_scan.specs.ErrorFlags.{flag_if}
use Rattle.m11_scan_expressions.specs.declared.kinds.Kind.{Kind}
use Rattle.m11_scan_expressions.specs.Quantities.{Quantity}
use Rattle.m11_asm_rules.specs.declared.definitions.Definition.{Definition}
use Rattle.m11_asm_rules.specs.declared.meanings.Context.{Context}
use Rattle.m11_asm_rules.specs.Meanings.{Map, flag_D, quantity_of}
use Rattle.m11_asm_rules.specs.Tables.{Table}

-- what the value of a symbol depends on: the map, the table, the kind of place where the symbol is used, and the location that is `.`
pub record LookupContext : Type 0 where
  pub map : Map
  pub context : Context
  pub table : Table
  pub location : ℕ

abbrev pub asked : Map → Context → Table → ℕ → LookupContext
asked map context table location = record { map = map; context = context; table = table; location = location }

-- a context in which only firm symbols are known: the table, and the location that is `.`
pub record FirmContext : Type 0 where
  pub table : Table
  pub location : ℕ

abbrev pub firm_asked : Table → ℕ → FirmContext
firm_asked table location = record { table = table; location = location }

-- the value of `.`: this location, of this kind
abbrev pub counted : ℕ → Kind → Quantity
counted location kind = record { number = location; kind = kind; flags = 0 }

-- the value of a definition, flagged D if its key is doubly defined; `other` if there is no definition
abbrev pub given_by : Bool → Quantity → Option Definition → Quantity
given_by is_doubly_defined other (Some definition) = quantity_of (flag_if is_doubly_defined flag_D) definition.standing
given_by is_doubly_defined other None = other
