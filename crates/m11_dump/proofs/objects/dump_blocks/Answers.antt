use Rattle.std.proofs.Common.{[], ◌∷◌, ◌++◌, refl}
use Rattle.std.proofs.lemmas.Result.{err_from_is_err_and}
use Rattle.m11_obj_blocks.specs.Limited.{most_bytes, position}
use Rattle.m11_base_writes.specs.States.{output_of}
use Rattle.m11_dump.proofs.Reading.{block_refused, block_taken, block_stops, dump_begins, dump_ends, reads_on, room_falls}
use Rattle.m11_dump.specs.Objects.{open_parts}
use Rattle.m11_dump.proofs.objects.dump_blocks.Goals as goal

pub reading-init : goal.reading-init
reading-init g c = rw c.new-reader.ensures (record {
  reads = refl;
  contents = [];
  dumping = dump_begins c.args.view (position (g.F.Feed.text c.args.feed.now) (g.F.Feed.faults c.args.feed.now) most_bytes)
      (output_of g.S.Sink c.args.sink.now) _ c.args.rules.now refl refl refl refl c.requires;
})

pub reading-smaller : goal.reading-smaller
reading-smaller g c =
    let reads = rw (c.reading.invariant.reads, c.in-Ok-true.field-0-test) at c.in-Ok-true.ensures.reads in
    room_falls (position (g.F.Feed.text c.reading.feed) (g.F.Feed.faults c.reading.feed) c.reading.reader.room)
    (position (g.F.Feed.text c.next_into.new.feed) (g.F.Feed.faults c.next_into.new.feed) c.next_into.new.self.room)
    c.next_into.new.block.items reads

pub reading-preserved : goal.reading-preserved
reading-preserved g c =
    let reads = rw (c.reading.invariant.reads, c.in-Ok-true.field-0-test) at c.in-Ok-true.ensures.reads in record {
      reads = reads_on c.next_into.new.self.has_failed c.in-Ok-true.field-0 c.in-Ok-true.ensures.fails;
      contents = c.reading.invariant.contents ++ c.next_into.new.block.items ∷ [];
      dumping = block_taken c.args.view (position (g.F.Feed.text c.args.feed.now) (g.F.Feed.faults c.args.feed.now) most_bytes)
          (position (g.F.Feed.text c.reading.feed) (g.F.Feed.faults c.reading.feed) c.reading.reader.room)
          (output_of g.S.Sink c.args.sink.now) (output_of g.S.Sink c.reading.sink) c.reading.stand c.reading.rules c.reading.invariant.contents
          c.reading.invariant.dumping
          (position (g.F.Feed.text c.next_into.new.feed) (g.F.Feed.faults c.next_into.new.feed) c.next_into.new.self.room)
          c.next_into.new.block.items reads (output_of g.S.Sink c.accept_block.new.sink) c.bytes_read-read.result c.accept_block.new.rules
          _ (c.in_ok-stand-in-Ok-true.ensures (open_parts [] c.reading.invariant.contents) c.reading.invariant.dumping.judged);
    }

pub returns-in_err-stand-in-Ok-true : goal.returns-in_err-stand-in-Ok-true
returns-in_err-stand-in-Ok-true g c =
    let r = c.from_residual in
    let p = err_from_is_err_and r.result r.ensures.1 in
    rw (p.1, p.2)
    (let reads = rw (c.reading.invariant.reads, c.in-Ok-true.field-0-test) at c.in-Ok-true.ensures.reads in (
      c.next_into.new.self.room,
      block_stops c.args.view (position (g.F.Feed.text c.args.feed.now) (g.F.Feed.faults c.args.feed.now) most_bytes)
          (position (g.F.Feed.text c.reading.feed) (g.F.Feed.faults c.reading.feed) c.reading.reader.room)
          (output_of g.S.Sink c.args.sink.now) (output_of g.S.Sink c.reading.sink) c.reading.stand c.reading.rules c.reading.invariant.contents
          c.reading.invariant.dumping
          (position (g.F.Feed.text c.next_into.new.feed) (g.F.Feed.faults c.next_into.new.feed) c.next_into.new.self.room)
          c.next_into.new.block.items reads (output_of g.S.Sink c.accept_block.new.sink) c.bytes_read-read.result
          c.accept_block.new.rules _ c.bytes_read-read.ensures
          (c.in_err-stand-in-Ok-true.ensures (open_parts [] c.reading.invariant.contents) c.reading.invariant.dumping.judged),
    ))

pub returns-in-Ok-false : goal.returns-in-Ok-false
returns-in-Ok-false g c =
    let stops = rw (c.reading.invariant.reads, c.in-Ok-false.field-0-test) at c.in-Ok-false.ensures.reads in (
      c.next_into.new.self.room,
      dump_ends c.args.view (position (g.F.Feed.text c.args.feed.now) (g.F.Feed.faults c.args.feed.now) most_bytes)
          (position (g.F.Feed.text c.reading.feed) (g.F.Feed.faults c.reading.feed) c.reading.reader.room)
          (output_of g.S.Sink c.args.sink.now) (output_of g.S.Sink c.reading.sink) c.reading.stand c.reading.rules c.reading.invariant.contents
          c.reading.invariant.dumping
          (position (g.F.Feed.text c.next_into.new.feed) (g.F.Feed.faults c.next_into.new.feed) c.next_into.new.self.room)
          (output_of g.S.Sink c.end_object.new.sink) c.bytes_read-read-in-Ok-false.result c.end_object.result
          c.bytes_read-read-in-Ok-false.ensures stops
          (c.end_object.ensures (open_parts [] c.reading.invariant.contents) c.reading.invariant.dumping.judged),
    )

pub returns-in-Err : goal.returns-in-Err
returns-in-Err g c =
    let stops = rw c.reading.invariant.reads at c.in-Err.ensures.reads in (
      c.next_into.new.self.room,
      block_refused c.args.view (position (g.F.Feed.text c.args.feed.now) (g.F.Feed.faults c.args.feed.now) most_bytes)
          (position (g.F.Feed.text c.reading.feed) (g.F.Feed.faults c.reading.feed) c.reading.reader.room)
          (output_of g.S.Sink c.args.sink.now) (output_of g.S.Sink c.reading.sink) c.reading.stand c.reading.rules c.reading.invariant.contents
          c.reading.invariant.dumping
          (position (g.F.Feed.text c.next_into.new.feed) (g.F.Feed.faults c.next_into.new.feed) c.next_into.new.self.room)
          (output_of g.S.Sink c.stopped.new.sink) c.in-Err.fault c.placed-said.result c.stopped.result c.fault_byte.result
          c.bytes_read-read-in-Err.result c.placed-said.ensures c.fault_byte.ensures c.bytes_read-read-in-Err.ensures stops c.stopped.ensures,
    )
