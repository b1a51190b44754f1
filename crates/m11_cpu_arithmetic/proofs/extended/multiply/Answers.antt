use Rattle.m11_cpu_arithmetic.proofs.Exact.{product_exact}
use Rattle.m11_cpu_arithmetic.proofs.extended.multiply.Goals as goal

pub returns : goal.returns
returns c =
    product_exact c.args.register c.args.source c.cast_unsigned.result c.signed.result c.signed-2.result c.overflows.result c.pair_of.result
    c.ranges.register.fits c.ranges.source.fits c.signed.ensures c.signed-2.ensures c.cast_unsigned.ensures c.overflows.ensures c.pair_of.ensures
