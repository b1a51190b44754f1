use Rattle.std.proofs.Common.{ℕ, List}
use Rattle.m11_scan.specs.Sources.{source, Took}
use Rattle.m11_scan.proofs.sources.read_source.Given as goal

abbrev pub invariant-bytes : goal.invariant-bytes
invariant-bytes g l = (given : List ℕ) × Took l.may_begin
    (source (g.F.Feed.text l.initial.feed) (g.F.Feed.faults l.initial.feed) l.initial.bytes_left l.initial.line)
    (source (g.F.Feed.text l.feed) (g.F.Feed.faults l.feed) l.bytes_left l.line) given

abbrev pub decreases-bytes : goal.decreases-bytes
decreases-bytes g l = g.F.Feed.left l.feed
