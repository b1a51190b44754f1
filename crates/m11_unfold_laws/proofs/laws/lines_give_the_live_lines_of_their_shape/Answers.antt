use Rattle.m11_unfold_laws.proofs.Wholes.{ends, expands, goes_on}
use Rattle.m11_unfold_laws.proofs.laws.lines_give_the_live_lines_of_their_shape.Goals as goal

pub returns-clause-onwards : goal.returns-clause-onwards
returns-clause-onwards c = goes_on

pub returns-clause-expanded : goal.returns-clause-expanded
returns-clause-expanded c = expands

pub returns-clause-ended : goal.returns-clause-ended
returns-clause-ended c = ends
