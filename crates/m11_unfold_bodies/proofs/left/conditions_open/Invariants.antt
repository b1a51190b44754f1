use Rattle.std.proofs.Common.{◌≡◌, ◌≤◌, ◌+◌, ◌*◌, length}
use Rattle.m11_unfold_bodies.specs.Frames.{conditions_from}
use Rattle.m11_unfold_bodies.proofs.left.conditions_open.Given as goal

abbrev pub invariant-frames : goal.invariant-frames
invariant-frames l = record {
  sum : conditions_from l.count l.rest ≡ conditions_from 0 l.frames;
  within : l.count + 32 * length l.rest ≤ 512;
}

abbrev pub decreases-frames : goal.decreases-frames
decreases-frames l = length l.rest
