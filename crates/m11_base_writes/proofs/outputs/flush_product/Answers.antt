use Rattle.m11_base_writes.proofs.Putting.{to_the_product}
use Rattle.m11_base_writes.proofs.outputs.flush_product.Goals as goal

pub returns-clause-writes : goal.returns-clause-writes
returns-clause-writes g c = λ report messages.
    to_the_product g.E.OutputFault.stop _ _ report messages _ _ _ c.of_output.ensures c.flush_or_fail.ensures.puts
