use Rattle.std.proofs.Common.{length}
use Rattle.m11_trace.proofs.ranges.+put_ranges.Given as goal

abbrev pub decreases-put_ranges : goal.decreases-put_ranges
decreases-put_ranges g l = length l.ranges.now
