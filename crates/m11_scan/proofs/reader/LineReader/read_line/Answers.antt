use Rattle.std.proofs.Common.{refl, sym, ap, subst, ◌∙◌, get_or}
use Rattle.m11_scan.specs.OpenLine.{OpenLine}
use Rattle.m11_scan.specs.Reader.{LineReading, position, position_at}
use Rattle.m11_scan.proofs.Seeking.{Seeks, begins, fault_met, line_feed_met, room_for_line, end_met, end_passed, all_ended}
use Rattle.m11_scan.proofs.reader.LineReader.read_line.Goals as goal

pub sources-init : goal.sources-init
sources-init g c =
    let here = position_at g.F.Feed.text g.F.Feed.faults c.args.feeds.now c.self.inside.source c.self.inside.bytes_left
    c.self.inside.lines_left in
    let P : OpenLine → Type 0 = λ line. Seeks here here line in
    let Q : LineReading → Type 0 = λ r. Seeks (position g.F.Feed.text g.F.Feed.faults c.args.feeds.now r) here
    c.clear.new.self in
    record {
      seeks = subst Q c.self.view_is (subst P (sym c.clear.ensures) (begins here));
      kept = ap (λ (r : LineReading). r.fault) c.self.view_is;
    }

pub returns-in-Err-clause-reads : goal.returns-in-Err-clause-reads
returns-in-Err-clause-reads g c =
    fault_met g.F.Feed.text g.F.Feed.faults c.sources.feeds c.sources.self-inside.source c.sources-test.true
    c.index-feeds-self.result (get_or c.sources.feeds c.sources.self-inside.source c.index-feeds-self.result)
    c.read_source.new.feed refl (position g.F.Feed.text g.F.Feed.faults c.args.feeds.now c.args.self.now)
    c.sources.self-inside.bytes_left c.read_source.new.bytes_left c.sources.self-inside.lines_left c.sources.self-inside.line
    c.read_source.new.line c.sources.invariant.seeks c.in-Err.fault c.in-Err.ensures

pub returns-in-Ok-LineFeed-clause-reads : goal.returns-in-Ok-LineFeed-clause-reads
returns-in-Ok-LineFeed-clause-reads g c =
    line_feed_met g.F.Feed.text g.F.Feed.faults c.sources.feeds c.sources.self-inside.source c.sources-test.true
    c.index-feeds-self.result (get_or c.sources.feeds c.sources.self-inside.source c.index-feeds-self.result)
    c.read_source.new.feed refl (position g.F.Feed.text g.F.Feed.faults c.args.feeds.now c.args.self.now)
    c.sources.self-inside.bytes_left c.read_source.new.bytes_left c.sources.self-inside.lines_left c.sources.self-inside.line
    c.read_source.new.line c.sources.invariant.seeks c.read_source.new.line.kept
    (rw c.in-Ok-LineFeed.field-0-is at c.in-Ok-LineFeed.ensures) refl

pub overflow_sub-self-then-not-is_unbegun : goal.overflow_sub-self-then-not-is_unbegun
overflow_sub-self-then-not-is_unbegun g c =
    room_for_line g.F.Feed.text g.F.Feed.faults c.sources.feeds c.sources.self-inside.source c.sources-test.true
    c.index-feeds-self.result (get_or c.sources.feeds c.sources.self-inside.source c.index-feeds-self.result)
    c.read_source.new.feed refl (position g.F.Feed.text g.F.Feed.faults c.args.feeds.now c.args.self.now)
    c.sources.self-inside.bytes_left c.read_source.new.bytes_left c.sources.self-inside.lines_left c.sources.self-inside.line
    c.read_source.new.line c.sources.invariant.seeks (rw c.in-Ok-SourceEnd.field-0-is at c.in-Ok-SourceEnd.ensures)
    (sym c.is_unbegun.ensures ∙ c.if-not-is_unbegun.true)

pub returns-then-not-is_unbegun-clause-reads : goal.returns-then-not-is_unbegun-clause-reads
returns-then-not-is_unbegun-clause-reads g c =
    end_met g.F.Feed.text g.F.Feed.faults c.sources.feeds c.sources.self-inside.source c.sources-test.true
    c.index-feeds-self.result (get_or c.sources.feeds c.sources.self-inside.source c.index-feeds-self.result)
    c.read_source.new.feed refl (position g.F.Feed.text g.F.Feed.faults c.args.feeds.now c.args.self.now)
    c.sources.self-inside.bytes_left c.read_source.new.bytes_left c.sources.self-inside.lines_left c.sources.self-inside.line
    c.read_source.new.line c.sources.invariant.seeks (rw c.in-Ok-SourceEnd.field-0-is at c.in-Ok-SourceEnd.ensures)
    c.append_return.new.self.kept (sym c.is_unbegun.ensures ∙ c.if-not-is_unbegun.true)
    (ap (λ (l : OpenLine). l.kept) c.append_return.ensures)

pub sources-preserved : goal.sources-preserved
sources-preserved g c = record {
  seeks = end_passed g.F.Feed.text g.F.Feed.faults c.sources.feeds c.sources.self-inside.source c.sources-test.true
      c.index-feeds-self.result (get_or c.sources.feeds c.sources.self-inside.source c.index-feeds-self.result)
      c.read_source.new.feed refl (position g.F.Feed.text g.F.Feed.faults c.args.feeds.now c.args.self.now)
      c.sources.self-inside.bytes_left c.read_source.new.bytes_left c.sources.self-inside.lines_left c.sources.self-inside.line
      c.read_source.new.line c.sources.invariant.seeks (rw c.in-Ok-SourceEnd.field-0-is at c.in-Ok-SourceEnd.ensures)
      (sym c.is_unbegun.ensures ∙ c.if-not-is_unbegun.false);
  kept = c.sources.invariant.kept;
}

pub returns-clause-reads : goal.returns-clause-reads
returns-clause-reads g c =
    all_ended g.F.Feed.text g.F.Feed.faults c.sources.feeds c.sources.self-inside.source c.sources.self-inside.bytes_left
    c.sources.self-inside.lines_left (position g.F.Feed.text g.F.Feed.faults c.args.feeds.now c.args.self.now)
    c.sources.self-inside.line c.sources.invariant.seeks c.sources-test.false
