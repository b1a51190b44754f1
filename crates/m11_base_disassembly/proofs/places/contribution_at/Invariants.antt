use Rattle.std.proofs.Common.{◌≡◌, length}
use Rattle.m11_base_disassembly.specs.Lines.{lines_of}
use Rattle.m11_base_disassembly.specs.Places.{contribution_at}
use Rattle.m11_base_disassembly.proofs.places.contribution_at.Given as goal

abbrev pub invariant-lines : goal.invariant-lines
invariant-lines l = contribution_at l.number (lines_of l.sections) l.own ≡ contribution_at l.number (lines_of l.lines) l.rest

abbrev pub decreases-lines : goal.decreases-lines
decreases-lines l = length l.lines
