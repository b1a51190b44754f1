use Rattle.m11_unfold.proofs.Sources.{acts_on, begins, feeds, of_longer, reaches}
use Rattle.m11_unfold.proofs.laws.the_calls_unfold_the_source.Goals as goal

pub returns-clause-begins : goal.returns-clause-begins
returns-clause-begins c = begins

pub returns-clause-feeds : goal.returns-clause-feeds
returns-clause-feeds c = feeds

pub returns-clause-steps : goal.returns-clause-steps
returns-clause-steps c = reaches

pub returns-clause-acts : goal.returns-clause-acts
returns-clause-acts c = acts_on

pub returns-clause-longer : goal.returns-clause-longer
returns-clause-longer c = of_longer
