use Rattle.m11_cpu_arithmetic.proofs.Exact.{negated_exact}
use Rattle.m11_cpu_arithmetic.proofs.singles.negated.Goals as goal

pub returns : goal.returns
returns c =
    negated_exact c.args.size c.args.value c.kept-opposite.result c.from.result c.signed.result c.overflows-overflow.result
    c.with_codes.result c.requires c.from.ensures c.signed.ensures c.kept-opposite.ensures.value c.overflows-overflow.ensures c.with_codes.ensures
