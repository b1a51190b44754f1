use Rattle.std.proofs.Common.{◌≡◌, ◌++◌, drop}
use Rattle.m11_link_layout.specs.Plan.{planned_globals}
use Rattle.m11_link_load_map.proofs.text.globals_of.Given as goal

abbrev pub invariant-globals : goal.invariant-globals
invariant-globals l = l.globals.items ++ drop l.index (planned_globals l.plan) ≡ planned_globals l.plan
