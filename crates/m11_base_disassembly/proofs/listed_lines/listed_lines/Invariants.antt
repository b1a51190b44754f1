use Rattle.std.proofs.Common.{◌≡◌, ◌++◌, length, map}
use Rattle.m11_base_disassembly.specs.Lines.{lines_of}
use Rattle.m11_base_disassembly.specs.ListedLines.{line_of, listed_lines}
use Rattle.m11_base_disassembly.proofs.listed_lines.listed_lines.Given as goal

abbrev pub invariant-lines : goal.invariant-lines
invariant-lines l = listed_lines (lines_of l.text) ≡ map line_of l.lines.items ++ listed_lines (lines_of l.rest)

abbrev pub decreases-lines : goal.decreases-lines
decreases-lines l = length l.rest
