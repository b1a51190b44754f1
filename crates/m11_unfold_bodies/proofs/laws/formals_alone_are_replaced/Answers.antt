use Rattle.m11_unfold_bodies.proofs.Whole.{two_joined, unchanged}
use Rattle.m11_unfold_bodies.proofs.laws.formals_alone_are_replaced.Goals as goal

pub returns-clause-unchanged : goal.returns-clause-unchanged
returns-clause-unchanged c = unchanged

pub returns-clause-joins : goal.returns-clause-joins
returns-clause-joins c = two_joined
