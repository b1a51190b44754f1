use Rattle.m11_unfold_laws.proofs.Bodies.{closed, ended_open, left_open}
use Rattle.m11_unfold_laws.proofs.laws.a_body_ends_at_its_close_by_nesting_alone.Goals as goal

pub returns-clause-closed : goal.returns-clause-closed
returns-clause-closed c = closed

pub returns-clause-ended : goal.returns-clause-ended
returns-clause-ended c = ended_open

pub returns-clause-left : goal.returns-clause-left
returns-clause-left c = left_open
