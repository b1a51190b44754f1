use Rattle.std.proofs.Common.{◌≡◌, length}
use Rattle.m11_base_disassembly.specs.Contributions.{contributions_in}
use Rattle.m11_base_disassembly.specs.Lines.{lines_of}
use Rattle.m11_base_disassembly.proofs.FoundContributions.{with_contributions}
use Rattle.m11_base_disassembly.proofs.contributions.contributions_in.Given as goal

abbrev pub invariant-lines : goal.invariant-lines
invariant-lines l = contributions_in (lines_of l.fn.lines) ≡ with_contributions l.found.items (contributions_in (lines_of l.rest))

abbrev pub decreases-lines : goal.decreases-lines
decreases-lines l = length l.rest
