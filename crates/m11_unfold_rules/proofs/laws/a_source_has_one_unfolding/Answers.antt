use Rattle.m11_unfold_rules.proofs.OneUnfolding.{compared, one_end}
use Rattle.m11_unfold_rules.proofs.laws.a_source_has_one_unfolding.Goals as goal

pub returns-clause-compared : goal.returns-clause-compared
returns-clause-compared c = compared

pub returns-clause-ended : goal.returns-clause-ended
returns-clause-ended c = one_end
