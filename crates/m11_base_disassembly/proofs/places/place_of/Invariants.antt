use Rattle.std.proofs.Common.{◌≡◌, List, ◌++◌, length}
use Rattle.m11_base_disassembly.specs.Lines.{lines_of}
use Rattle.m11_base_disassembly.specs.Places.{place_of}
use Rattle.m11_base_disassembly.specs.declared.contributions.Contribution.{Contribution}
use Rattle.m11_base_disassembly.proofs.FoundContributions.{with_others}
use Rattle.m11_base_disassembly.proofs.places.place_of.Given as goal

abbrev pub invariant-contributions : goal.invariant-contributions
invariant-contributions l = (done : List Contribution) × (l.contributions ≡ done ++ l.own)
    × (place_of (lines_of l.sections) l.contributions ≡ with_others done (place_of (lines_of l.sections) l.own))

abbrev pub decreases-contributions : goal.decreases-contributions
decreases-contributions l = length l.own
