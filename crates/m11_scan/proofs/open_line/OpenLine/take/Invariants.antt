use Rattle.std.proofs.Common.{length}
use Rattle.m11_scan.proofs.Runs.{SoFar}
use Rattle.m11_scan.proofs.open_line.OpenLine.take.Given as goal

abbrev pub invariant-runs : goal.invariant-runs
invariant-runs l = SoFar l.bytes l.rest l.initial.self l.self

abbrev pub decreases-runs : goal.decreases-runs
decreases-runs l = length l.rest
