use Rattle.m11_cpu_arithmetic.proofs.Dividing.{division_divides}
use Rattle.m11_cpu_arithmetic.proofs.laws.division.Goals as goal

pub returns : goal.returns
returns c = division_divides
