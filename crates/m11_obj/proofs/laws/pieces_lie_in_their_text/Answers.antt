use Rattle.m11_obj.proofs.InTexts.{lies_in_text}
use Rattle.m11_obj.proofs.laws.pieces_lie_in_their_text.Goals as goal

pub returns : goal.returns
returns c = lies_in_text
