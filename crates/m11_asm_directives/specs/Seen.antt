-- The code's lists of the parts of a text, as the definitions represent them. (MACRO-11 Language Reference Manual, ".ASCII directive".)
use Rattle.std.specs.Prelude.{ℕ, List, ◌++◌}
use Rattle.m11_asm_rules.specs.Elements.{ListAt}
use Rattle.m11_scan_statements.specs.declared.parts.Part.{Part}
use Rattle.m11_asm_directives.specs.declared.parts.Parts.{Parts}

abbrev pub parts_of : List Part → ℕ → ListAt Part
parts_of list end = record { list = list; end = end }

abbrev pub parts_model : Parts → ListAt Part
parts_model parts = parts_of parts.list.items parts.end

-- parts put before others; they end where the others end
abbrev pub parts_then : List Part → ListAt Part → ListAt Part
parts_then list more = parts_of (list ++ more.list) more.end
