-- The maps that solve the equation of a source: if its lines are placed under such a map, they have the map's labels and firm values.
-- (MACRO-11 Language Reference Manual, "Symbols and expressions". This project's own: one map has to serve both passes over a source.)
use Rattle.std.specs.Prelude.{◌≡◌, ◌||◌, Bool, if◌then◌else◌, List, Option, Some, None}
use Rattle.std.specs.Option.{is_some}
use Rattle.m11_unfold_rules.specs.Unfolding.{UnfoldedLine}
use Rattle.m11_asm_rules.specs.Definitions.{Definition, Definitions, Key, firm_part, last_definition}
use Rattle.m11_asm_rules.specs.Meanings.{Map}
use Rattle.m11_asm_rules.specs.Placements.{table_after}

-- whether a definition is a label's, or has a firm value
abbrev pub is_label_or_firm : Definition → Bool
is_label_or_firm definition = is_some definition.label || definition.is_firm

-- a label with its section and its location, or a firm value; none for any other definition, or without one
abbrev pub label_or_value : Option Definition → Option Definition
label_or_value (Some definition) = if is_label_or_firm definition then Some (firm_part definition) else None
label_or_value None = None

-- the label or the firm value of a key, from its last definition; none if it has neither
abbrev pub label_or_value_of : Key → Definitions → Option Definition
label_or_value_of key definitions = label_or_value (last_definition key definitions)

-- a map solves the equation of a source if the placement under it has the same labels and firm values as the map
abbrev pub Solves : Map → List UnfoldedLine → Type 0
Solves map lines = (key : Key)
    → label_or_value_of key map.definitions ≡ label_or_value_of key (table_after map lines).definitions

-- two maps have the same labels and the same firm values
abbrev pub AreAlike : Map → Map → Type 0
AreAlike one other = (key : Key) → label_or_value_of key one.definitions ≡ label_or_value_of key other.definitions
