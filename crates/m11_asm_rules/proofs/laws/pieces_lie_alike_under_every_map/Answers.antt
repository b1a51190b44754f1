use Rattle.m11_asm_rules.proofs.PieceSizes.{shapes_alike}
use Rattle.m11_asm_rules.proofs.laws.pieces_lie_alike_under_every_map.Goals as goal

pub returns : goal.returns
returns c = shapes_alike
