-- The placement of a whole source: its live lines, one after another. The second pass uses the final values of names from the first.
-- (MACRO-11 Language Reference Manual, "Symbols and expressions" and "General assembler directives".)
use Rattle.std.specs.Prelude.{ℕ, List, [], ◌∷◌, fold}
use Rattle.m11_obj.specs.declared.pieces.Piece.{Piece}
use Rattle.m11_unfold_rules.specs.Unfolding.{UnfoldedLine}
use Rattle.m11_asm_rules.specs.Lines.{after_line, flags, pieces}
use Rattle.m11_asm_rules.specs.Meanings.{Map, empty_map, map_of}
use Rattle.m11_asm_rules.specs.Tables.{Table, first_table}

-- the table after some lines, from the table before them
abbrev pub after_lines : Map → Table → List UnfoldedLine → Table
after_lines map table lines = fold (after_line map) table lines

-- the table after these lines, if they are the first of a source
abbrev pub table_after : Map → List UnfoldedLine → Table
table_after map lines = after_lines map first_table lines

-- the map of a source, from the table after its placement under the empty map
abbrev pub program_map : List UnfoldedLine → Map
program_map lines = map_of (table_after empty_map lines)

-- ---- placed lines

-- a placed line: the table before it, its pieces and its flags
pub record LinePlacement : Type 0 where
  pub before : Table
  pub pieces : List Piece
  pub flags : ℕ

abbrev pub placed : Map → Table → UnfoldedLine → LinePlacement
placed map table given =
    record { before = table; pieces = pieces map table given; flags = flags map table given }

abbrev pub placed_from : Map → Table → List UnfoldedLine → List LinePlacement
placed_from map table [] = []
placed_from map table (given ∷ lines) = placed map table given ∷ placed_from map (after_line map table given) lines

-- the placed lines of a source
abbrev pub placement : Map → List UnfoldedLine → List LinePlacement
placement map lines = placed_from map first_table lines
