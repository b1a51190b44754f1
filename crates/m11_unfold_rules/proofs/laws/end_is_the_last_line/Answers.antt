use Rattle.m11_unfold_rules.proofs.Ending.{rests, stays}
use Rattle.m11_unfold_rules.proofs.laws.end_is_the_last_line.Goals as goal

pub returns-clause-rests : goal.returns-clause-rests
returns-clause-rests c = rests

pub returns-clause-stays : goal.returns-clause-stays
returns-clause-stays c = stays
