-- Definitions by assignments. (MACRO-11 Language Reference Manual, "Direct assignment statements". This project's own: a label's name
-- can't be assigned; and an assignment is firm if all the symbols of its expression are.)
use Rattle.std.specs.Prelude.{Bool, if◌then◌else◌, List, None}
use Rattle.std.specs.List.{list_all}
use Rattle.m11_unfold_rules.specs.Definedness.{is_defined}
use Rattle.m11_scan_expressions.specs.Expressions.{symbols, value}
use Rattle.m11_scan_expressions.specs.Tokens.{Expression}
use Rattle.m11_scan_expressions.specs.declared.names.Symbol.{Symbol}
use Rattle.m11_scan_expressions.specs.Quantities.{Quantity}
use Rattle.m11_asm_rules.specs.Definitions.{Definition, Key, Standing, Known, Unknown, is_labelled}
use Rattle.m11_asm_rules.specs.Labels.{with_definition, with_doubly_defined}
use Rattle.m11_asm_rules.specs.Meanings.{LocalOnly, Map, is_firm, known_at}
use Rattle.m11_asm_rules.specs.Tables.{Table, location}

-- the value that a definition gets: the value of its expression, or unknown if the expression has an unknown symbol
abbrev pub standing_of : Quantity → Standing
standing_of value = if is_defined value then Known value.number value.kind else Unknown

abbrev pub all_firm : Table → List Symbol → Bool
all_firm table symbols = list_all (is_firm table) symbols

-- the definition of a name by an expression: the value of the expression under the map; the definition is firm if all symbols of the
-- expression are
abbrev pub assigned : Map → Table → Expression → Definition
assigned map table tokens = record {
  standing = standing_of (value (known_at map LocalOnly table (location table)) tokens);
  is_firm = all_firm table (symbols tokens);
  label = None;
}

-- the table after an assignment; an assignment to a label's name only makes the label doubly defined
abbrev pub with_assigned : Key → Definition → Table → Table
with_assigned key definition table =
    if is_labelled key table.definitions then with_doubly_defined key table else with_definition key definition table
