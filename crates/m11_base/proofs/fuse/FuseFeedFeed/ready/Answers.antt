use Rattle.std.proofs.Common.{◌≤◌, arith}
use Rattle.m11_base.proofs.Fuses.{begins_through_fuse}
use Rattle.m11_base.proofs.fuse.FuseFeedFeed.ready.Goals as goal

pub returns-clause-begins : goal.returns-clause-begins
returns-clause-begins g c =
    let few : c.min.result ≤ c.self.inside.calls = omega (arith, c.min.ensures) in
    rw (← c.self.view_is) (begins_through_fuse _ _ _ _ few c.ready-shown.ensures.begins)
