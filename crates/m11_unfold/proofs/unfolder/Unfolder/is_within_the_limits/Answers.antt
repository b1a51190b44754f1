use Rattle.std.proofs.Common.{subst}
use Rattle.m11_unfold.specs.Kept.{IsKept}
use Rattle.m11_unfold.specs.Unfolder.{UnfolderState}
use Rattle.m11_unfold.proofs.unfolder.Unfolder.is_within_the_limits.Goals as goal

pub returns : goal.returns
returns c = let P : UnfolderState → Type 0 = λ u. IsKept u.stage in subst P c.self.view_is c.self.invariant
