use Rattle.std.proofs.Common.{◌≡◌, []}
use Rattle.m11_scan_tests.proofs.tests.unfolding.unfold.Given as goal

-- before each line of the source, nothing is left to unfold
abbrev pub invariant-source : goal.invariant-source
invariant-source l = l.unfolder.stage.left ≡ []
