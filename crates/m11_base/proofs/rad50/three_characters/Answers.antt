use Rattle.m11_base.proofs.Characters.{packed_again}
use Rattle.m11_base.proofs.rad50.three_characters.Goals as goal

pub returns-clause-again : goal.returns-clause-again
returns-clause-again c =
    packed_again c.args.word _ _ _ c.requires c.character_of.ensures c.character_of-2.ensures c.character_of-3.ensures
