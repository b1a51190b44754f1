use Rattle.m11_base_writes.proofs.Putting.{to_the_product}
use Rattle.m11_base_writes.proofs.outputs.put_product.Goals as goal

pub returns : goal.returns
returns g c = λ report messages.
    to_the_product g.E.OutputFault.stop _ _ report messages _ _ _ c.of_output.ensures c.put_or_fail.ensures
