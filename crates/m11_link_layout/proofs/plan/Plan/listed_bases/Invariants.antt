use Rattle.std.proofs.Common.{◌≡◌, ◌++◌, drop}
use Rattle.m11_link_layout.specs.Plan.{contribution_bases}
use Rattle.m11_link_layout.proofs.plan.Plan.listed_bases.Given as goal

abbrev pub invariant-contributions : goal.invariant-contributions
invariant-contributions l = l.listed.items ++ drop l.index (contribution_bases l.self) ≡ contribution_bases l.self
