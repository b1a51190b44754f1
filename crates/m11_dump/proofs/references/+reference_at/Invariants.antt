use Rattle.std.proofs.Common.{length}
use Rattle.m11_dump.proofs.references.+reference_at.Given as goal

abbrev pub decreases-reference_at : goal.decreases-reference_at
decreases-reference_at l = length l.places.now
