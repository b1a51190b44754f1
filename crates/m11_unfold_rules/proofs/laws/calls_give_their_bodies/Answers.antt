use Rattle.m11_unfold_rules.proofs.Calls.{called}
use Rattle.m11_unfold_rules.proofs.laws.calls_give_their_bodies.Goals as goal

pub returns : goal.returns
returns c = called
