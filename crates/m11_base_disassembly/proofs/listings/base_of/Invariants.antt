use Rattle.std.proofs.Common.{◌≡◌, length}
use Rattle.m11_base_disassembly.specs.Lines.{lines_of}
use Rattle.m11_base_disassembly.specs.Listings.{base_of}
use Rattle.m11_base_disassembly.proofs.listings.base_of.Given as goal

abbrev pub invariant-lines : goal.invariant-lines
invariant-lines l = base_of l.bottom l.number (lines_of l.sections) ≡ base_of l.base l.number (lines_of l.rest)

abbrev pub decreases-lines : goal.decreases-lines
decreases-lines l = length l.rest
