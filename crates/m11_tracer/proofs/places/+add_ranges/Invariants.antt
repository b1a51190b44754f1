use Rattle.std.proofs.Common.{length}
use Rattle.m11_tracer.proofs.places.+add_ranges.Given as goal

abbrev pub decreases-add_ranges : goal.decreases-add_ranges
decreases-add_ranges l = length l.named.now
