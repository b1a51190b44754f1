use Rattle.std.proofs.Common.{◌∙◌, map, sym}
use Rattle.m11_base_disassembly.specs.Lines.{lines_of}
use Rattle.m11_base_disassembly.specs.ListedLines.{line_of}
use Rattle.m11_base_disassembly.proofs.FoundLines.{one_listed}
use Rattle.m11_base_disassembly.proofs.listed_lines.listed_lines.Goals as goal

pub lines-preserved : goal.lines-preserved
lines-preserved c =
    one_listed (lines_of c.args.text.now) (lines_of c.lines.rest.now) c.first_line.result.0.now (lines_of c.first_line.result.1.now)
    (map line_of c.lines.lines.items) (map line_of c.add_line.new.lines.items) c.lines.invariant c.first_line.ensures.lines
    (sym c.is_table.ensures ∙ c.if-is_table.false) c.in_ok-add_line.ensures
