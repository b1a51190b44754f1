use Rattle.m11_unfold_rules.proofs.Following.{follows}
use Rattle.m11_unfold_rules.proofs.laws.unfoldings_follow_each_other.Goals as goal

pub returns : goal.returns
returns c = follows
