use Rattle.m11_cpu_arithmetic.proofs.DoublePrecision.{subtracted}
use Rattle.m11_cpu_arithmetic.proofs.laws.double_precision_subtraction.Goals as goal

pub returns : goal.returns
returns c = subtracted
