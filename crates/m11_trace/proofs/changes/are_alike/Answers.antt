use Rattle.m11_trace.proofs.Alike.{eight_alike}
use Rattle.m11_trace.proofs.changes.are_alike.Goals as goal

pub returns : goal.returns
returns c =
    eight_alike _ _ _ _ _ _ _ _ _ _ _ c.word.ensures c.word-2.ensures c.word-3.ensures c.word-4.ensures c.word-5.ensures c.word-6.ensures
    c.word-7.ensures c.word-8.ensures
