-- The value of a symbol in a line: that of its last definition before the line, or else that of its final definition in the whole source.
-- (MACRO-11 Language Reference Manual, "Symbols", "Local symbols" and "Current location counter".)
use Rattle.std.specs.Prelude.{◌≡◌, ℕ, Bool, true, false, List, [], ◌∷◌, Option, Some, None, ⊤}
use Rattle.std.specs.Int.RustNames.{bit_or}
use Rattle.std.specs.Option.{option_map_or}
use Rattle.m11_base.specs.Rad50.{Name}
use Rattle.m11_unfold_rules.specs.Definedness.{flag_U}
use Rattle.m11_scan_expressions.specs.Expressions as expressions
use Rattle.m11_scan.specs.ErrorFlags.{flag_if}
use Rattle.m11_scan_expressions.specs.declared.kinds.Kind.TheVariants.{Reference}
use Rattle.m11_scan_expressions.specs.declared.names.Symbol.{Symbol}
use Rattle.m11_scan_expressions.specs.declared.names.Symbol.TheVariants.{Ordinary, Local, Counter}
use Rattle.m11_scan_expressions.specs.Quantities.{Quantity, absolute}
pub use Rattle.m11_asm_rules.specs.declared.meanings.Context.{Context}
pub use Rattle.m11_asm_rules.specs.declared.meanings.Context.TheVariants.{MayBeGlobal, LocalOnly}
use Rattle.m11_asm_rules.specs.Definitions.{Definition, Definitions, Key, Keys, Named, Numbered, Standing, Known, Unknown, has_key, last_definition, no_definitions, no_keys}
use Rattle.m11_asm_rules.specs.Tables.{Table, firm_table, kind_here}

-- the final definitions of a whole source, the keys that it defines doubly, and the names that it makes global
pub record Map : Type 0 where
  pub definitions : Definitions
  pub doubly_defined : Keys
  pub globals : List Name

abbrev pub empty_map : Map
empty_map = record { definitions = no_definitions; doubly_defined = no_keys; globals = [] }

-- the map of a source, from the table after its lines
abbrev pub map_of : Table → Map
map_of table = record { definitions = table.definitions; doubly_defined = table.doubly_defined; globals = table.globals }

-- the set with the flag D alone
abbrev pub flag_D : ℕ
flag_D = 0o4

-- a known number with these flags; if the value is unknown, 0 with these flags and U
abbrev pub quantity_of : ℕ → Standing → Quantity
quantity_of flags (Known number kind) = record { number = number; kind = kind; flags = flags }
quantity_of flags Unknown = absolute 0 (bit_or flags flag_U)

-- the value of a symbol without a definition: a reference to another object, if the symbol is a name and a reference is allowed; otherwise
-- 0, flagged U
abbrev pub undefined : Context → Symbol → Quantity
undefined MayBeGlobal (Ordinary name) = record { number = 0; kind = Reference name; flags = 0 }
undefined context symbol = absolute 0 flag_U

-- the value of a definition, flagged D if its key is doubly defined; `other` if there is no definition
abbrev pub defined_or : Key → Keys → Quantity → Option Definition → Quantity
defined_or key doubly_defined other (Some definition) =
    quantity_of (flag_if (has_key key doubly_defined) flag_D) definition.standing
defined_or key doubly_defined other None = other

-- the value of a key by its last definition before the line, or else by its definition in the map, flagged D if the key is doubly defined
-- there; `other` if there is neither
abbrev pub meaning_of : Map → Quantity → Table → Key → Quantity
meaning_of map other table key =
    defined_or key table.doubly_defined (defined_or key map.doubly_defined other (last_definition key map.definitions))
    (last_definition key table.definitions)

-- the value of a symbol, where `.` is this location
abbrev pub value_of_symbol : Map → Context → Table → ℕ → Symbol → Quantity
value_of_symbol map context table location (Ordinary name) =
    meaning_of map (undefined context (Ordinary name)) table (Named name)
value_of_symbol map context table location (Local number) =
    meaning_of map (undefined context (Local number)) table (Numbered table.modes.block number)
value_of_symbol map context table location Counter = record { number = location; kind = kind_here table; flags = 0 }

abbrev pub known_at : Map → Context → Table → ℕ → expressions.KnownSymbols
known_at map context table location =
    expressions.known_by table.modes.radix (value_of_symbol map context table location)

-- the symbols on which sizes, locations, conditions and repeats depend: `.`, and those with a firm definition in the preceding lines; any
-- other symbol counts as 0, flagged U
abbrev pub firm_known : Table → ℕ → expressions.KnownSymbols
firm_known table location = known_at empty_map LocalOnly (firm_table table) location

-- ---- firm symbols

abbrev pub is_firm_in : Option Definition → Bool
is_firm_in found = option_map_or (λ (definition : Definition). definition.is_firm) found false

-- whether a symbol is firm: its last definition before the line is firm, or the symbol is `.`
abbrev pub is_firm : Table → Symbol → Bool
is_firm table (Ordinary name) = is_firm_in (last_definition (Named name) table.definitions)
is_firm table (Local number) = is_firm_in (last_definition (Numbered table.modes.block number) table.definitions)
is_firm table Counter = true

abbrev pub AreFirm : Table → List Symbol → Type 0
AreFirm table [] = ⊤
AreFirm table (symbol ∷ symbols) = (is_firm table symbol ≡ true) × AreFirm table symbols
