use Rattle.std.proofs.Common.{◌≡◌, ◌++◌, drop}
use Rattle.m11_link_layout.specs.Plan.{definition_values}
use Rattle.m11_link_layout.proofs.plan.Plan.listed_values.Given as goal

abbrev pub invariant-globals : goal.invariant-globals
invariant-globals l = l.listed.items ++ drop l.index (definition_values l.self) ≡ definition_values l.self
