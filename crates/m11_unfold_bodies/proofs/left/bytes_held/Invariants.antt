use Rattle.std.proofs.Common.{◌≡◌, ◌≤◌, ◌+◌, ◌*◌, length}
use Rattle.m11_unfold_bodies.specs.Frames.{bytes_from}
use Rattle.m11_unfold_bodies.proofs.left.bytes_held.Given as goal

abbrev pub invariant-frames : goal.invariant-frames
invariant-frames l = record {
  sum : bytes_from l.bytes l.rest ≡ bytes_from 0 l.frames;
  within : l.bytes + 4294967295 * length l.rest ≤ 68719476720;
}

abbrev pub decreases-frames : goal.decreases-frames
decreases-frames l = length l.rest
