use Rattle.std.proofs.Common.{◌≡◌, ◌++◌, length}
use Rattle.m11_base_disassembly.specs.Lines.{lines_of}
use Rattle.m11_base_disassembly.specs.ListedLines.{listed_parts}
use Rattle.m11_base_disassembly.proofs.parts.listed_parts.Given as goal

abbrev pub invariant-lines : goal.invariant-lines
invariant-lines l = listed_parts l.bottom (lines_of l.sections) ≡ l.parts.items ++ listed_parts l.base (lines_of l.rest)

abbrev pub decreases-lines : goal.decreases-lines
decreases-lines l = length l.rest
