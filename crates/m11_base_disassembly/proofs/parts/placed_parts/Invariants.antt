use Rattle.std.proofs.Common.{◌≡◌, ◌++◌, length}
use Rattle.m11_base_disassembly.specs.Lines.{lines_of}
use Rattle.m11_base_disassembly.specs.ListedLines.{placed_parts}
use Rattle.m11_base_disassembly.proofs.parts.placed_parts.Given as goal

abbrev pub invariant-lines : goal.invariant-lines
invariant-lines l = placed_parts l.own (lines_of l.sections) ≡ l.parts.items ++ placed_parts l.rest (lines_of l.lines)

abbrev pub decreases-lines : goal.decreases-lines
decreases-lines l = length l.lines
