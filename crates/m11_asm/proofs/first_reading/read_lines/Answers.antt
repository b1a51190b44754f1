use Rattle.std.proofs.Common.{◌∙◌, [], Some, Ok, ap, sym, subst}
use Rattle.m11_scan.specs.Line.{SourceLine}
use Rattle.m11_scan.specs.Reader.{LineReading, ReadsNext, position}
use Rattle.m11_asm.proofs.FirstLines.{first_ended, first_goes_on, first_read, first_refuses, first_stops}
use Rattle.m11_asm.proofs.LinesRead.{reader_begins}
use Rattle.m11_asm.proofs.first_reading.read_lines.Goals as goal

pub lines-init : goal.lines-init
lines-init g c = record {
  sound = ap (λ (r : LineReading). r.fault) c.new-reader.ensures;
  so_far = λ stands. record {
    source = [];
    read = reader_begins g.F.Feed.text g.F.Feed.faults c.args.feeds.now c.new-reader.result c.new-reader.ensures;
    stands = stands;
  };
}

pub returns-then-has_ended : goal.returns-then-has_ended
returns-then-has_ended g c = λ stands.
    first_ended g.F.Feed.text g.F.Feed.faults c.args.feeds.now c.lines.feeds c.lines.reader c.lines.first
    (c.lines.invariant.so_far stands) (sym c.has_ended.ensures ∙ c.if-has_ended.true)

pub lines-preserved : goal.lines-preserved
lines-preserved g c = record {
  sound = c.in-Ok-true.ensures.keeps;
  so_far = λ stands.
      let so = c.lines.invariant.so_far stands in
      let P : SourceLine → Type 0 = λ l. ReadsNext (position g.F.Feed.text g.F.Feed.faults c.lines.feeds c.lines.reader)
      (position g.F.Feed.text g.F.Feed.faults c.next.new.feeds c.next.new.self) (Ok (Some l)) in
      first_goes_on g.F.Feed.text g.F.Feed.faults c.args.feeds.now c.lines.feeds c.lines.reader c.lines.first so
      (sym c.has_ended.ensures ∙ c.if-has_ended.false) c.next.new.feeds c.next.new.self c.line.result.now
      (subst P (sym c.line.ensures) (rw c.in-Ok-true.field-0-test at (c.in-Ok-true.ensures.reads c.lines.invariant.sound))) c.in-Ok-true.ensures.keeps
      c.line-in-Ok-true.new.self (c.in_ok-line-in-Ok-true.ensures.takes so.source so.stands);
}

pub returns-in_err-line-in-Ok-true : goal.returns-in_err-line-in-Ok-true
returns-in_err-line-in-Ok-true g c = λ stands.
    let so = c.lines.invariant.so_far stands in
    let P : SourceLine → Type 0 = λ l. ReadsNext (position g.F.Feed.text g.F.Feed.faults c.lines.feeds c.lines.reader)
    (position g.F.Feed.text g.F.Feed.faults c.next.new.feeds c.next.new.self) (Ok (Some l)) in
    first_refuses g.F.Feed.text g.F.Feed.faults c.args.feeds.now c.lines.feeds c.lines.reader c.lines.first so
    (sym c.has_ended.ensures ∙ c.if-has_ended.false) c.next.new.feeds c.next.new.self c.line.result.now
    (subst P (sym c.line.ensures) (rw c.in-Ok-true.field-0-test at (c.in-Ok-true.ensures.reads c.lines.invariant.sound))) c.in-Ok-true.ensures.keeps
    c.line-in-Ok-true.new.self c.in_err-line-in-Ok-true.field-0.0 c.from_residual.result (c.in_err-line-in-Ok-true.ensures.takes so.source so.stands)
    c.from_residual.ensures.1

pub returns-in-Ok-false : goal.returns-in-Ok-false
returns-in-Ok-false g c = λ stands.
    first_read g.F.Feed.text g.F.Feed.faults c.args.feeds.now c.lines.feeds c.lines.reader c.lines.first
    (c.lines.invariant.so_far stands) (sym c.has_ended.ensures ∙ c.if-has_ended.false) c.next.new.feeds c.next.new.self
    (rw c.in-Ok-false.field-0-test at (c.in-Ok-false.ensures.reads c.lines.invariant.sound))

pub returns-in-Err : goal.returns-in-Err
returns-in-Err g c = λ stands.
    first_stops g.F.Feed.text g.F.Feed.faults c.args.feeds.now c.lines.feeds c.lines.reader c.lines.first
    (c.lines.invariant.so_far stands) (sym c.has_ended.ensures ∙ c.if-has_ended.false) c.next.new.feeds c.next.new.self
    c.in-Err.fault c.from.result c.from.ensures (c.in-Err.ensures.reads c.lines.invariant.sound)
