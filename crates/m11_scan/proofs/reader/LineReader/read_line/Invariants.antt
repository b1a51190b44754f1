use Rattle.std.proofs.Common.{◌≡◌, ◌-◌, length}
use Rattle.m11_scan.specs.Reader.{position, position_at}
use Rattle.m11_scan.proofs.Seeking.{Seeks}
use Rattle.m11_scan.proofs.reader.LineReader.read_line.Given as goal

abbrev pub invariant-sources : goal.invariant-sources
invariant-sources g l = record {
  seeks : Seeks (position g.F.Feed.text g.F.Feed.faults l.fn.feeds l.fn.self)
      (position_at g.F.Feed.text g.F.Feed.faults l.feeds l.self-inside.source l.self-inside.bytes_left
      l.self-inside.lines_left) l.self-inside.line;
  kept : l.self-inside.fault ≡ l.fn.self.fault;
}

abbrev pub decreases-sources : goal.decreases-sources
decreases-sources g l = length l.initial.feeds - l.self-inside.source
