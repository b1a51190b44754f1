use Rattle.m11_unfold_laws.proofs.PlainBlocks.{plain}
use Rattle.m11_unfold_laws.proofs.cases.other_lines_have_a_shape.Goals as goal

pub returns : goal.returns
returns c = plain
