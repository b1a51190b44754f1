use Rattle.m11_unfold_laws.proofs.PlainBlocks.{calls}
use Rattle.m11_unfold_laws.proofs.cases.calls_have_a_shape.Goals as goal

pub returns : goal.returns
returns c = calls
