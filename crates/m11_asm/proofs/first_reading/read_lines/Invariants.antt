use Rattle.std.proofs.Common.{◌≡◌, [], None}
use Rattle.m11_asm.specs.First.{FirstAfter}
use Rattle.m11_asm.proofs.FirstLines.{FirstSoFar}
use Rattle.m11_asm.proofs.first_reading.read_lines.Given as goal

abbrev pub invariant-lines : goal.invariant-lines
invariant-lines g l = record {
  sound : l.reader.fault ≡ None;
  so_far : FirstAfter [] l.initial.first
      → FirstSoFar g.F.Feed.text g.F.Feed.faults l.initial.feeds l.feeds l.reader l.first;
}

abbrev pub decreases-lines : goal.decreases-lines
decreases-lines g l = l.reader.lines_left
