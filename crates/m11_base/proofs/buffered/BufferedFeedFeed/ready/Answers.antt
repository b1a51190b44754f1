use Rattle.m11_base.proofs.Fronts.{front_begins}
use Rattle.m11_base.proofs.buffered.BufferedFeedFeed.ready.Goals as goal

pub returns-clause-begins : goal.returns-clause-begins
returns-clause-begins g c = rw c.buffer-shown.ensures (front_begins _ _ _ _)
