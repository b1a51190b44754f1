use Rattle.m11_link_laws.proofs.MovingLaws.{text_moves}
use Rattle.m11_link_laws.proofs.moving.moving_the_bottom_moves_texts.Goals as goal

pub returns-clause-address : goal.returns-clause-address
returns-clause-address c = text_moves
