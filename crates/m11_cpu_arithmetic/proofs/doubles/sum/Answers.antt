use Rattle.m11_cpu_arithmetic.proofs.Exact.{sum_exact}
use Rattle.m11_cpu_arithmetic.proofs.doubles.sum.Goals as goal

pub returns : goal.returns
returns c =
    sum_exact c.args.size c.args.first c.args.second c.from.result c.from-2.result c.signed.result c.signed-2.result c.exact_result.result
    c.requires.first c.requires.second c.from.ensures c.from-2.ensures c.signed.ensures c.signed-2.ensures c.exact_result.ensures
