use Rattle.std.proofs.Common.{◌∙◌, [], Some, Ok, ap, sym, subst}
use Rattle.std.proofs.lemmas.Result.{err_from_is_err_and}
use Rattle.m11_scan.specs.Line.{SourceLine}
use Rattle.m11_scan.specs.Reader.{LineReading, ReadsNext, position}
use Rattle.m11_base_writes.specs.Outputs.{outputs_of}
use Rattle.m11_asm.proofs.LinesRead.{reader_begins}
use Rattle.m11_asm.proofs.SecondLines.{second_ended, second_goes_on, second_read, second_refuses, second_stops}
use Rattle.m11_asm.proofs.second_reading.put_lines.Goals as goal

pub lines-init : goal.lines-init
lines-init g c = record {
  sound = ap (λ (r : LineReading). r.fault) c.new-reader.ensures;
  so_far = λ program old stands. record {
    source = [];
    read = reader_begins g.F.Feed.text g.F.Feed.faults c.args.feeds.now c.new-reader.result c.new-reader.ensures;
    stands = stands;
  };
}

pub returns-then-has_ended : goal.returns-then-has_ended
returns-then-has_ended g c = λ program old stands.
    second_ended g.F.Feed.text g.F.Feed.faults program old c.args.feeds.now c.lines.feeds c.lines.reader
    (outputs_of g.S.Sink g.T.Sink g.U.Sink c.lines.object c.lines.listing c.lines.messages) c.lines.second
    (c.lines.invariant.so_far program old stands) (sym c.has_ended.ensures ∙ c.if-has_ended.true)

pub lines-preserved : goal.lines-preserved
lines-preserved g c = record {
  sound = c.in-Ok-true.ensures.keeps;
  so_far = λ program old stands.
      let so = c.lines.invariant.so_far program old stands in
      let P : SourceLine → Type 0 = λ l. ReadsNext (position g.F.Feed.text g.F.Feed.faults c.lines.feeds c.lines.reader)
      (position g.F.Feed.text g.F.Feed.faults c.next.new.feeds c.next.new.self) (Ok (Some l)) in
      second_goes_on g.F.Feed.text g.F.Feed.faults program old c.args.feeds.now c.lines.feeds c.lines.reader
      (outputs_of g.S.Sink g.T.Sink g.U.Sink c.lines.object c.lines.listing c.lines.messages) c.lines.second so
      (sym c.has_ended.ensures ∙ c.if-has_ended.false) c.next.new.feeds c.next.new.self c.line.result.now
      (subst P (sym c.line.ensures) (rw c.in-Ok-true.field-0-test at (c.in-Ok-true.ensures.reads c.lines.invariant.sound))) c.in-Ok-true.ensures.keeps
      (outputs_of g.S.Sink g.T.Sink g.U.Sink c.line-in-Ok-true.new.object c.line-in-Ok-true.new.listing c.line-in-Ok-true.new.messages)
      c.line-in-Ok-true.new.self (c.in_ok-line-in-Ok-true.ensures.takes program so.source old so.stands);
}

pub returns-in_err-line-in-Ok-true : goal.returns-in_err-line-in-Ok-true
returns-in_err-line-in-Ok-true g c = λ program old stands.
    let r = c.from_residual in
    let p = err_from_is_err_and r.result r.ensures.1 in
    let so = c.lines.invariant.so_far program old stands in
    let P : SourceLine → Type 0 = λ l. ReadsNext (position g.F.Feed.text g.F.Feed.faults c.lines.feeds c.lines.reader)
    (position g.F.Feed.text g.F.Feed.faults c.next.new.feeds c.next.new.self) (Ok (Some l)) in
    rw (p.1, p.2) (second_refuses g.F.Feed.text g.F.Feed.faults program old c.args.feeds.now c.lines.feeds c.lines.reader
    (outputs_of g.S.Sink g.T.Sink g.U.Sink c.lines.object c.lines.listing c.lines.messages) c.lines.second so
    (sym c.has_ended.ensures ∙ c.if-has_ended.false) c.next.new.feeds c.next.new.self c.line.result.now
    (subst P (sym c.line.ensures) (rw c.in-Ok-true.field-0-test at (c.in-Ok-true.ensures.reads c.lines.invariant.sound))) c.in-Ok-true.ensures.keeps
    (outputs_of g.S.Sink g.T.Sink g.U.Sink c.line-in-Ok-true.new.object c.line-in-Ok-true.new.listing c.line-in-Ok-true.new.messages)
    c.line-in-Ok-true.new.self _ (c.in_err-line-in-Ok-true.ensures.takes program so.source old so.stands))

pub returns-in-Ok-false : goal.returns-in-Ok-false
returns-in-Ok-false g c = λ program old stands.
    second_read g.F.Feed.text g.F.Feed.faults program old c.args.feeds.now c.lines.feeds c.lines.reader
    (outputs_of g.S.Sink g.T.Sink g.U.Sink c.lines.object c.lines.listing c.lines.messages) c.lines.second
    (c.lines.invariant.so_far program old stands) (sym c.has_ended.ensures ∙ c.if-has_ended.false) c.next.new.feeds c.next.new.self
    (rw c.in-Ok-false.field-0-test at (c.in-Ok-false.ensures.reads c.lines.invariant.sound))

pub returns-in-Err : goal.returns-in-Err
returns-in-Err g c = λ program old stands.
    second_stops g.F.Feed.text g.F.Feed.faults program old c.args.feeds.now c.lines.feeds c.lines.reader
    (outputs_of g.S.Sink g.T.Sink g.U.Sink c.lines.object c.lines.listing c.lines.messages) c.lines.second
    (c.lines.invariant.so_far program old stands) (sym c.has_ended.ensures ∙ c.if-has_ended.false) c.next.new.feeds c.next.new.self
    c.in-Err.fault c.from.result c.from.ensures (c.in-Err.ensures.reads c.lines.invariant.sound)
