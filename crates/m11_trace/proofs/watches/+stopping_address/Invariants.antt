use Rattle.std.proofs.Common.{length}
use Rattle.m11_trace.proofs.watches.+stopping_address.Given as goal

abbrev pub decreases-stopping_address : goal.decreases-stopping_address
decreases-stopping_address l = length l.watches.now
