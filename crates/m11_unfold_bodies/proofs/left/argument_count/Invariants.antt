use Rattle.std.proofs.Common.{◌≡◌, length, None}
use Rattle.m11_unfold_bodies.specs.Frames.{count_from}
use Rattle.m11_unfold_bodies.proofs.left.argument_count.Given as goal

abbrev pub invariant-frames : goal.invariant-frames
invariant-frames l = count_from l.count l.rest ≡ count_from None l.frames

abbrev pub decreases-frames : goal.decreases-frames
decreases-frames l = length l.rest
