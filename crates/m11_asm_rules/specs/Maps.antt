-- The map that the code's map represents: the final values of the names of a source. (MACRO-11 Language Reference Manual, "Symbols".)
use Rattle.std.specs.Prelude.{Option, Some, None}
use Rattle.m11_asm_rules.specs.Meanings.{Map, empty_map, map_of}
use Rattle.m11_asm_rules.specs.Tables.{Table}

-- the map of a table; without a table, the empty one
abbrev pub map_by : Option Table → Map
map_by (Some table) = map_of table
map_by None = empty_map
