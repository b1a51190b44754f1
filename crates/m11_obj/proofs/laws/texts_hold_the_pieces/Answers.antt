use Rattle.m11_obj.proofs.InTexts.{holds_pieces}
use Rattle.m11_obj.proofs.laws.texts_hold_the_pieces.Goals as goal

pub returns : goal.returns
returns c = holds_pieces
