use Rattle.m11_unfold_bodies.proofs.Words.{word_replaced}
use Rattle.m11_unfold_bodies.proofs.laws.a_formal_gives_way_with_a_quote_on_each_side.Goals as goal

pub returns : goal.returns
returns c = word_replaced
