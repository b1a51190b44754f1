use Rattle.m11_cpu_arithmetic.proofs.PairShifting as pair
use Rattle.m11_cpu_arithmetic.proofs.Shifting.{left, right}
use Rattle.m11_cpu_arithmetic.proofs.laws.arithmetic_shifts.Goals as goal

pub returns-clause-left : goal.returns-clause-left
returns-clause-left c = left

pub returns-clause-right : goal.returns-clause-right
returns-clause-right c = right

pub returns-clause-pair_left : goal.returns-clause-pair_left
returns-clause-pair_left c = pair.left

pub returns-clause-pair_right : goal.returns-clause-pair_right
returns-clause-pair_right c = pair.right
