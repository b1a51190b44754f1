use Rattle.std.proofs.Common.{◌≡◌, length}
use Rattle.m11_base_disassembly.specs.Lines.{lines_after, lines_of}
use Rattle.m11_base_disassembly.proofs.lines.after_line.Given as goal

abbrev pub invariant-lines : goal.invariant-lines
invariant-lines l = lines_after l.word (lines_of l.fn.text) ≡ lines_after l.word (lines_of l.rest)

abbrev pub decreases-lines : goal.decreases-lines
decreases-lines l = length l.rest
