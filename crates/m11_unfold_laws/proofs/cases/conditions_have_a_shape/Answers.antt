use Rattle.m11_unfold_laws.proofs.PlainBlocks.{failing, holding}
use Rattle.m11_unfold_laws.proofs.cases.conditions_have_a_shape.Goals as goal

pub returns-clause-holds : goal.returns-clause-holds
returns-clause-holds c = holding

pub returns-clause-fails : goal.returns-clause-fails
returns-clause-fails c = failing
