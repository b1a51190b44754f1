use Rattle.std.proofs.Common.{sym, ◌∙◌}
use Rattle.m11_cpu_quick.proofs.singles.single_of_any.Goals as goal

pub single_by_use-requires-clause-usage : goal.single_by_use-requires-clause-usage
single_by_use-requires-clause-usage c = sym c.use_by_single.ensures ∙ c.in-Some.is
