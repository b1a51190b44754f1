use Rattle.std.proofs.Common.{◌≢◌, ◌≤◌, arith}
use Rattle.m11_base.specs.Devices.{last_count}
use Rattle.m11_base.proofs.Fuses.{gives_through_fuse}
use Rattle.m11_base.proofs.fuse.FuseFeedFeed.next.Goals as goal

pub returns-else-is_err-clause-gives : goal.returns-else-is_err-clause-gives
returns-else-is_err-clause-gives g c =
    let within : g.F.Feed.faults c.self.inside.feed ≤ c.self.inside.faults = c.self.invariant in
    let unfailed : g.F.Feed.faults c.self.inside.feed ≢ last_count = λ e. omega (arith, c.self.ranges) in
    rw (← c.self.view_is) (gives_through_fuse _ _ unfailed _ _ _ _ (omega arith) c.next-returned.ensures.gives)
