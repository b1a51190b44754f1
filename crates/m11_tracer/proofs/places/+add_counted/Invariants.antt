use Rattle.std.proofs.Common.{length}
use Rattle.m11_tracer.proofs.places.+add_counted.Given as goal

abbrev pub decreases-add_counted : goal.decreases-add_counted
decreases-add_counted l = length l.named.now
