use Rattle.std.proofs.Common.{◌≡◌, length}
use Rattle.m11_scan.specs.Skipped.{has_unkept}
use Rattle.m11_scan.proofs.skipped.has_unkept.Given as goal

abbrev pub invariant-bytes : goal.invariant-bytes
invariant-bytes l = has_unkept l.rest ≡ has_unkept l.text

abbrev pub decreases-bytes : goal.decreases-bytes
decreases-bytes l = length l.rest
