use Rattle.m11_unfold_rules.proofs.Constructs.{exits}
use Rattle.m11_unfold_rules.proofs.laws.exits_leave_what_follows_the_call.Goals as goal

pub returns : goal.returns
returns c = exits
