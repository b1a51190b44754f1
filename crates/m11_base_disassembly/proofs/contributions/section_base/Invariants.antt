use Rattle.std.proofs.Common.{◌≡◌, length}
use Rattle.m11_base_disassembly.specs.Contributions.{section_base}
use Rattle.m11_base_disassembly.proofs.contributions.section_base.Given as goal

abbrev pub invariant-contributions : goal.invariant-contributions
invariant-contributions l = section_base l.section l.base l.contributions ≡ section_base l.section l.base l.rest

abbrev pub decreases-contributions : goal.decreases-contributions
decreases-contributions l = length l.rest
