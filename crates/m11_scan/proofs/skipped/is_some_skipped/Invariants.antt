use Rattle.std.proofs.Common.{◌≡◌, length}
use Rattle.m11_scan.specs.Skipped.{has_skipped}
use Rattle.m11_scan.proofs.skipped.is_some_skipped.Given as goal

abbrev pub invariant-pieces : goal.invariant-pieces
invariant-pieces l = has_skipped l.rest ≡ has_skipped l.text

abbrev pub decreases-pieces : goal.decreases-pieces
decreases-pieces l = length l.rest
