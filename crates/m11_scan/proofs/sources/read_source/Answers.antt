use Rattle.std.proofs.Common.{Ok, ◌++◌, ◌∷◌, [], refl}
use Rattle.m11_scan.specs.declared.sources.LineEnd.TheVariants.{LineFeed}
use Rattle.m11_scan.specs.Sources.{source}
use Rattle.m11_scan.proofs.SourceSteps.{took_then, stops_then, byte_taken, line_feed_taken, refused}
use Rattle.m11_scan.proofs.sources.read_source.Goals as goal

pub returns-then-read_ready : goal.returns-then-read_ready
returns-then-read_ready g c =
    stops_then c.args.may_begin (source (g.F.Feed.text c.args.feed.now) (g.F.Feed.faults c.args.feed.now) c.args.bytes_left.now c.args.line.now)
    (source (g.F.Feed.text c.bytes.feed) (g.F.Feed.faults c.bytes.feed) c.bytes.bytes_left c.bytes.line)
    (source (g.F.Feed.text c.read_ready.new.feed) (g.F.Feed.faults c.read_ready.new.feed) c.read_ready.new.bytes_left
    c.read_ready.new.line) (Ok LineFeed) c.bytes.invariant.0 c.bytes.invariant.1
    (rw c.if-read_ready.true at c.read_ready.ensures.took)

pub returns-in-Err : goal.returns-in-Err
returns-in-Err g c =
    let ready = rw c.if-read_ready.false at c.read_ready.ensures.took in
    record {
      middle = source (g.F.Feed.text c.read_ready.new.feed) (g.F.Feed.faults c.read_ready.new.feed) c.read_ready.new.bytes_left
          c.read_ready.new.line;
      given = c.bytes.invariant.0 ++ ready.0;
      took = took_then c.args.may_begin (source (g.F.Feed.text c.args.feed.now) (g.F.Feed.faults c.args.feed.now) c.args.bytes_left.now c.args.line.now)
          (source (g.F.Feed.text c.bytes.feed) (g.F.Feed.faults c.bytes.feed) c.bytes.bytes_left c.bytes.line)
          (source (g.F.Feed.text c.read_ready.new.feed) (g.F.Feed.faults c.read_ready.new.feed) c.read_ready.new.bytes_left
          c.read_ready.new.line) c.bytes.invariant.0 ready.0 c.bytes.invariant.1 ready.1;
      last = (c.in-Err.ensures.gives, c.in-Err.ensures.counts, refl {a = c.read_ready.new.bytes_left});
    }

pub returns-in-Ok-None : goal.returns-in-Ok-None
returns-in-Ok-None g c =
    let ready = rw c.if-read_ready.false at c.read_ready.ensures.took in
    record {
      middle = source (g.F.Feed.text c.read_ready.new.feed) (g.F.Feed.faults c.read_ready.new.feed) c.read_ready.new.bytes_left
          c.read_ready.new.line;
      given = c.bytes.invariant.0 ++ ready.0;
      took = took_then c.args.may_begin (source (g.F.Feed.text c.args.feed.now) (g.F.Feed.faults c.args.feed.now) c.args.bytes_left.now c.args.line.now)
          (source (g.F.Feed.text c.bytes.feed) (g.F.Feed.faults c.bytes.feed) c.bytes.bytes_left c.bytes.line)
          (source (g.F.Feed.text c.read_ready.new.feed) (g.F.Feed.faults c.read_ready.new.feed) c.read_ready.new.bytes_left
          c.read_ready.new.line) c.bytes.invariant.0 ready.0 c.bytes.invariant.1 ready.1;
      last = (rw c.in-Ok-None.field-0-is at c.in-Ok-None.ensures.gives, c.in-Ok-None.ensures.counts, refl {a = c.read_ready.new.bytes_left}, refl {a = c.read_ready.new.line});
    }

pub returns-in-Ok-true : goal.returns-in-Ok-true
returns-in-Ok-true g c =
    let ready = rw c.if-read_ready.false at c.read_ready.ensures.took in
    record {
      middle = source (g.F.Feed.text c.read_ready.new.feed) (g.F.Feed.faults c.read_ready.new.feed) c.read_ready.new.bytes_left
          c.read_ready.new.line;
      given = c.bytes.invariant.0 ++ ready.0;
      took = took_then c.args.may_begin (source (g.F.Feed.text c.args.feed.now) (g.F.Feed.faults c.args.feed.now) c.args.bytes_left.now c.args.line.now)
          (source (g.F.Feed.text c.bytes.feed) (g.F.Feed.faults c.bytes.feed) c.bytes.bytes_left c.bytes.line)
          (source (g.F.Feed.text c.read_ready.new.feed) (g.F.Feed.faults c.read_ready.new.feed) c.read_ready.new.bytes_left
          c.read_ready.new.line) c.bytes.invariant.0 ready.0 c.bytes.invariant.1 ready.1;
      last = line_feed_taken c.args.may_begin (g.F.Feed.text c.read_ready.new.feed) (g.F.Feed.text c.next.new.self) (g.F.Feed.faults c.read_ready.new.feed)
          (g.F.Feed.faults c.next.new.self) c.read_ready.new.bytes_left c.consume_byte.new.bytes_left c.read_ready.new.line
          c.consume_byte.new.line c.in-Ok-Some.byte (rw c.in-Ok-Some.field-0-is at c.in-Ok-Some.ensures.gives)
          c.in-Ok-Some.ensures.counts (rw c.in-Ok-true.field-0-test at c.in-Ok-true.ensures);
    }

pub bytes-preserved : goal.bytes-preserved
bytes-preserved g c =
    let ready = rw c.if-read_ready.false at c.read_ready.ensures.took in (
      (c.bytes.invariant.0 ++ ready.0) ++ c.in-Ok-Some.byte ∷ [],
      took_then c.args.may_begin (source (g.F.Feed.text c.args.feed.now) (g.F.Feed.faults c.args.feed.now) c.args.bytes_left.now c.args.line.now)
          (source (g.F.Feed.text c.read_ready.new.feed) (g.F.Feed.faults c.read_ready.new.feed) c.read_ready.new.bytes_left
          c.read_ready.new.line)
          (source (g.F.Feed.text c.next.new.self) (g.F.Feed.faults c.next.new.self) c.consume_byte.new.bytes_left c.consume_byte.new.line)
          (c.bytes.invariant.0 ++ ready.0) (c.in-Ok-Some.byte ∷ [])
          (took_then c.args.may_begin (source (g.F.Feed.text c.args.feed.now) (g.F.Feed.faults c.args.feed.now) c.args.bytes_left.now c.args.line.now) (source (g.F.Feed.text c.bytes.feed) (g.F.Feed.faults c.bytes.feed) c.bytes.bytes_left c.bytes.line) (source (g.F.Feed.text c.read_ready.new.feed) (g.F.Feed.faults c.read_ready.new.feed) c.read_ready.new.bytes_left
          c.read_ready.new.line) c.bytes.invariant.0 ready.0 c.bytes.invariant.1 ready.1)
          (byte_taken c.args.may_begin (g.F.Feed.text c.read_ready.new.feed) (g.F.Feed.text c.next.new.self) (g.F.Feed.faults c.read_ready.new.feed)
          (g.F.Feed.faults c.next.new.self) c.read_ready.new.bytes_left c.consume_byte.new.bytes_left c.read_ready.new.line
          c.consume_byte.new.line c.in-Ok-Some.byte (rw c.in-Ok-Some.field-0-is at c.in-Ok-Some.ensures.gives)
          c.in-Ok-Some.ensures.counts (rw c.in-Ok-false.field-0-test at c.in-Ok-false.ensures)),
    )

pub returns-in-Err-consume_byte : goal.returns-in-Err-consume_byte
returns-in-Err-consume_byte g c =
    let ready = rw c.if-read_ready.false at c.read_ready.ensures.took in
    record {
      middle = source (g.F.Feed.text c.read_ready.new.feed) (g.F.Feed.faults c.read_ready.new.feed) c.read_ready.new.bytes_left
          c.read_ready.new.line;
      given = c.bytes.invariant.0 ++ ready.0;
      took = took_then c.args.may_begin (source (g.F.Feed.text c.args.feed.now) (g.F.Feed.faults c.args.feed.now) c.args.bytes_left.now c.args.line.now)
          (source (g.F.Feed.text c.bytes.feed) (g.F.Feed.faults c.bytes.feed) c.bytes.bytes_left c.bytes.line)
          (source (g.F.Feed.text c.read_ready.new.feed) (g.F.Feed.faults c.read_ready.new.feed) c.read_ready.new.bytes_left
          c.read_ready.new.line) c.bytes.invariant.0 ready.0 c.bytes.invariant.1 ready.1;
      last = refused c.args.may_begin (g.F.Feed.text c.read_ready.new.feed) (g.F.Feed.text c.next.new.self) (g.F.Feed.faults c.read_ready.new.feed)
          (g.F.Feed.faults c.next.new.self) c.read_ready.new.bytes_left c.consume_byte.new.bytes_left c.read_ready.new.line
          c.consume_byte.new.line c.in-Ok-Some.byte (rw c.in-Ok-Some.field-0-is at c.in-Ok-Some.ensures.gives)
          c.in-Ok-Some.ensures.counts c.in-Err-consume_byte.fault c.in-Err-consume_byte.ensures;
    }
