use Rattle.m11_unfold_laws.proofs.Worked.{as_worked, unfolds_so}
use Rattle.m11_unfold_laws.proofs.cases.two_calls_with_a_repeat_are_as_worked.Goals as goal

pub returns-clause-shape : goal.returns-clause-shape
returns-clause-shape c = as_worked

pub returns-clause-lines : goal.returns-clause-lines
returns-clause-lines c = unfolds_so
