use Rattle.std.proofs.Common.{length}
use Rattle.m11_suite.proofs.escapes.unescaped.Given as goal

abbrev pub decreases-bytes : goal.decreases-bytes
decreases-bytes l = length l.rest
