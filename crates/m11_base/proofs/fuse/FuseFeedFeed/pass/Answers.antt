use Rattle.m11_base.proofs.Fuses.{passes_through_fuse}
use Rattle.m11_base.proofs.fuse.FuseFeedFeed.pass.Goals as goal

pub returns-clause-passes : goal.returns-clause-passes
returns-clause-passes g c = rw (← c.self.view_is)
    (passes_through_fuse _ _ _ _ _ _ (rw (← c.self.view_is) at c.requires) c.pass.ensures.passes)
