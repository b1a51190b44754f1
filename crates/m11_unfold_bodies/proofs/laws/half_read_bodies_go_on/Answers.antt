use Rattle.m11_unfold_bodies.proofs.Whole.{goes_on, grown}
use Rattle.m11_unfold_bodies.proofs.laws.half_read_bodies_go_on.Goals as goal

pub returns-clause-grows : goal.returns-clause-grows
returns-clause-grows c = grown

pub returns-clause-cuts : goal.returns-clause-cuts
returns-clause-cuts c = goes_on
