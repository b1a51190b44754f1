use Rattle.m11_base_writes.proofs.Putting.{to_the_messages}
use Rattle.m11_base_writes.proofs.outputs.put_message.Goals as goal

pub returns-clause-writes : goal.returns-clause-writes
returns-clause-writes g c = λ product report.
    to_the_messages g.E.OutputFault.stop product report _ _ _ _ _ c.of_output.ensures c.put_or_fail.ensures
