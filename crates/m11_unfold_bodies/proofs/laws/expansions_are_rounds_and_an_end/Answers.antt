use Rattle.m11_unfold_bodies.proofs.Whole.{no_line, one_round}
use Rattle.m11_unfold_bodies.proofs.laws.expansions_are_rounds_and_an_end.Goals as goal

pub returns-clause-rounds : goal.returns-clause-rounds
returns-clause-rounds c = λ formals actuals rounds body mark left. one_round formals mark left actuals rounds body

pub returns-clause-empty : goal.returns-clause-empty
returns-clause-empty c = λ formals rounds mark left. no_line formals mark left rounds
