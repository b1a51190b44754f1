use Rattle.std.proofs.Common.{length}
use Rattle.m11_unfold_bodies.proofs.Pieces.{SoFar}
use Rattle.m11_unfold_bodies.proofs.substitution.push_replaced.Given as goal

abbrev pub invariant-pieces : goal.invariant-pieces
invariant-pieces l = SoFar l.formals l.actuals l.text l.rest l.is_after l.line

abbrev pub decreases-pieces : goal.decreases-pieces
decreases-pieces l = length l.rest
