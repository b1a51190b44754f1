use Rattle.m11_cpu_arithmetic.proofs.Casts.{left_exact}
use Rattle.m11_cpu_arithmetic.proofs.shifts.moved_left.Goals as goal

pub returns : goal.returns
returns c = left_exact c.args.number c.args.count c.requires.number c.requires.count
