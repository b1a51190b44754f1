use Rattle.std.proofs.Common.{rules}
use Rattle.m11_cpu_quick.proofs.StepsMade.{product_acts}
use Rattle.m11_cpu_quick.proofs.arms.product.Goals as goal

pub returns-clause-some : goal.returns-clause-some
returns-clause-some c =
    product_acts _ _ _ c.requires.operation_is
    (rw (c.of_bits-register.ensures, c.of_bits-operand.ensures) at c.in_ok-after.ensures.some)

pub multiply-requires-clause-general : goal.multiply-requires-clause-general
multiply-requires-clause-general c = rw c.of_bits-register.ensures (search rules)
