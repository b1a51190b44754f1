use Rattle.m11_cpu_arithmetic.proofs.Dividing.{multiplied}
use Rattle.m11_cpu_arithmetic.proofs.laws.multiplication.Goals as goal

pub returns : goal.returns
returns c = multiplied
