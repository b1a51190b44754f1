-- A second pass over the lines of a first one. (This project's own.)
use Rattle.std.specs.Prelude.{ℕ, List}
use Rattle.m11_scan_statements.specs.Labels.{labels_at}
use Rattle.m11_asm_passes.specs.Lines.{NumberedLine, givens, table_at}
use Rattle.m11_asm_rules.specs.Meanings.{Map}
use Rattle.m11_asm_rules.specs.Placements.{program_map}
use Rattle.m11_asm_lines.specs.Moved.{moved_flags}

-- the map that a first pass with these live lines makes
abbrev pub map_from : List NumberedLine → Map
map_from lines = program_map (givens lines)

-- P if a line, placed after these lines, defines a label that isn't at the same location in the map
abbrev pub moved_after : Map → List NumberedLine → NumberedLine → ℕ
moved_after map before one =
    moved_flags map one.given.live.line.text (table_at map before) (labels_at one.given.live.line.text)
