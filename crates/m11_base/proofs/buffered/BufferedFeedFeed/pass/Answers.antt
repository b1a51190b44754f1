use Rattle.m11_base.proofs.Fronts.{front_passed}
use Rattle.m11_base.proofs.buffered.BufferedFeedFeed.pass.Goals as goal

pub returns-clause-passes : goal.returns-clause-passes
returns-clause-passes g c = front_passed _ _ _ _ _ _ _ c.requires c.consume.ensures.bytes
