use Rattle.m11_cpu_arithmetic.proofs.DoublePrecision.{added}
use Rattle.m11_cpu_arithmetic.proofs.laws.double_precision_addition.Goals as goal

pub returns : goal.returns
returns c = added
