use Rattle.m11_unfold_rules.proofs.RepeatedBodies.{repeated, with_characters, with_list}
use Rattle.m11_unfold_rules.proofs.laws.repeats_give_their_rounds.Goals as goal

pub returns-clause-counted : goal.returns-clause-counted
returns-clause-counted c = repeated

pub returns-clause-listed : goal.returns-clause-listed
returns-clause-listed c = with_list

pub returns-clause-spelled : goal.returns-clause-spelled
returns-clause-spelled c = with_characters
