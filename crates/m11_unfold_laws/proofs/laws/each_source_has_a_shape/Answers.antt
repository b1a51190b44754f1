use Rattle.m11_unfold_laws.proofs.ReadParts.{has_shape}
use Rattle.m11_unfold_laws.proofs.laws.each_source_has_a_shape.Goals as goal

pub returns : goal.returns
returns c = has_shape
