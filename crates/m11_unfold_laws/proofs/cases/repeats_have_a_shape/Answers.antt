use Rattle.m11_unfold_laws.proofs.PlainBlocks.{repeats}
use Rattle.m11_unfold_laws.proofs.cases.repeats_have_a_shape.Goals as goal

pub returns : goal.returns
returns c = repeats
