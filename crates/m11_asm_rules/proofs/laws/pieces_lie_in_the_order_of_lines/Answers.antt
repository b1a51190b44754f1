use Rattle.m11_asm_rules.proofs.PiecesInOrder.{in_order}
use Rattle.m11_asm_rules.proofs.laws.pieces_lie_in_the_order_of_lines.Goals as goal

pub returns : goal.returns
returns c = in_order
