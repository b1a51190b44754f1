use Rattle.std.proofs.Common.{◌∙◌, ℕ, ◌+◌, [], ◌∷◌, ◌++◌, refl, ap, arith}
use Rattle.std.proofs.lemmas.Result.{err_from_is_err_and}
use Rattle.m11_obj_blocks.specs.Limited.{most_bytes, position}
use Rattle.m11_base_writes.specs.States.{output_of}
use Rattle.m11_dump.proofs.Listing.{blocks_fit, listing_begins, listing_ends, listing_over, listing_refused, listing_stops, listing_taken}
use Rattle.m11_dump.proofs.Reading.{reads_on, room_falls}
use Rattle.m11_dump.proofs.libraries.list_blocks.Goals as goal

pub reading-init : goal.reading-init
reading-init g c = rw c.new-reader.ensures (record {
  reads = refl;
  contents = [];
  listing = listing_begins c.args.first (position (g.F.Feed.text c.args.feed.now) (g.F.Feed.faults c.args.feed.now) most_bytes)
      (output_of g.S.Sink c.args.sink.now) refl;
})

pub reading-smaller : goal.reading-smaller
reading-smaller g c =
    let reads = rw (c.reading.invariant.reads, c.in-Ok-true.field-0-test) at c.in-Ok-true.ensures.reads in
    room_falls (position (g.F.Feed.text c.reading.feed) (g.F.Feed.faults c.reading.feed) c.reading.reader.room)
    (position (g.F.Feed.text c.next_into.new.feed) (g.F.Feed.faults c.next_into.new.feed) c.next_into.new.self.room)
    c.next_into.new.block.items reads

pub reading-preserved : goal.reading-preserved
reading-preserved g c =
    let reads = rw (c.reading.invariant.reads, c.in-Ok-true.field-0-test) at c.in-Ok-true.ensures.reads in record {
      reads = reads_on c.next_into.new.self.has_failed c.in-Ok-true.field-0 c.in-Ok-true.ensures.fails;
      contents = c.reading.invariant.contents ++ c.next_into.new.block.items ∷ [];
      listing = listing_taken c.args.first c.reading.stage
          (position (g.F.Feed.text c.args.feed.now) (g.F.Feed.faults c.args.feed.now) most_bytes)
          (position (g.F.Feed.text c.reading.feed) (g.F.Feed.faults c.reading.feed) c.reading.reader.room)
          (output_of g.S.Sink c.args.sink.now) (output_of g.S.Sink c.reading.sink) c.reading.blocks c.reading.invariant.contents
          c.reading.invariant.listing
          (position (g.F.Feed.text c.next_into.new.feed) (g.F.Feed.faults c.next_into.new.feed) c.next_into.new.self.room)
          c.next_into.new.block.items reads (output_of g.S.Sink c.accept_block.new.sink) (c.args.before + c.bytes_read.result)
          c.in_ok-stage-in-Ok-true.stage c.in_ok-stage-in-Ok-true.ensures;
    }

pub returns-in_err-stage-in-Ok-true : goal.returns-in_err-stage-in-Ok-true
returns-in_err-stage-in-Ok-true g c = λ front all.
    let r = c.from_residual in
    let p = err_from_is_err_and r.result r.ensures.1 in
    rw (p.1, p.2)
    (let reads = rw (c.reading.invariant.reads, c.in-Ok-true.field-0-test) at c.in-Ok-true.ensures.reads in (
      c.next_into.new.self.room,
      listing_refused c.args.first c.reading.stage
          (position (g.F.Feed.text c.args.feed.now) (g.F.Feed.faults c.args.feed.now) most_bytes)
          (position (g.F.Feed.text c.reading.feed) (g.F.Feed.faults c.reading.feed) c.reading.reader.room)
          (output_of g.S.Sink c.args.sink.now) (output_of g.S.Sink c.reading.sink) c.reading.blocks c.reading.invariant.contents
          c.reading.invariant.listing front c.args.before all
          (position (g.F.Feed.text c.next_into.new.feed) (g.F.Feed.faults c.next_into.new.feed) c.next_into.new.self.room)
          c.next_into.new.block.items reads (output_of g.S.Sink c.accept_block.new.sink) (c.args.before + c.bytes_read.result)
          (ap (λ (n : ℕ). c.args.before + n) c.bytes_read.ensures) _ c.in_err-stage-in-Ok-true.ensures,
    ))

pub accept_block-requires : goal.accept_block-requires
accept_block-requires g c =
    blocks_fit c.args.first c.reading.stage
    (position (g.F.Feed.text c.args.feed.now) (g.F.Feed.faults c.args.feed.now) most_bytes)
    (position (g.F.Feed.text c.reading.feed) (g.F.Feed.faults c.reading.feed) c.reading.reader.room)
    (output_of g.S.Sink c.args.sink.now) (output_of g.S.Sink c.reading.sink) c.reading.blocks c.reading.invariant.contents
    c.reading.invariant.listing

pub overflow_add-blocks : goal.overflow_add-blocks
overflow_add-blocks g c =
    let fit = blocks_fit c.args.first c.reading.stage
    (position (g.F.Feed.text c.args.feed.now) (g.F.Feed.faults c.args.feed.now) most_bytes)
    (position (g.F.Feed.text c.reading.feed) (g.F.Feed.faults c.reading.feed) c.reading.reader.room)
    (output_of g.S.Sink c.args.sink.now) (output_of g.S.Sink c.reading.sink) c.reading.blocks c.reading.invariant.contents
    c.reading.invariant.listing in
    omega (arith, fit)

pub placed-requires : goal.placed-requires
placed-requires g c =
    blocks_fit c.args.first c.reading.stage
    (position (g.F.Feed.text c.args.feed.now) (g.F.Feed.faults c.args.feed.now) most_bytes)
    (position (g.F.Feed.text c.reading.feed) (g.F.Feed.faults c.reading.feed) c.reading.reader.room)
    (output_of g.S.Sink c.args.sink.now) (output_of g.S.Sink c.reading.sink) c.reading.blocks c.reading.invariant.contents
    c.reading.invariant.listing

pub placed-requires-in-Err : goal.placed-requires-in-Err
placed-requires-in-Err g c =
    blocks_fit c.args.first c.reading.stage
    (position (g.F.Feed.text c.args.feed.now) (g.F.Feed.faults c.args.feed.now) most_bytes)
    (position (g.F.Feed.text c.reading.feed) (g.F.Feed.faults c.reading.feed) c.reading.reader.room)
    (output_of g.S.Sink c.args.sink.now) (output_of g.S.Sink c.reading.sink) c.reading.blocks c.reading.invariant.contents
    c.reading.invariant.listing

pub returns-in-Over : goal.returns-in-Over
returns-in-Over g c = λ front all. (
  c.reading.reader.room,
  listing_over c.args.first c.reading.stage
      (position (g.F.Feed.text c.args.feed.now) (g.F.Feed.faults c.args.feed.now) most_bytes)
      (position (g.F.Feed.text c.reading.feed) (g.F.Feed.faults c.reading.feed) c.reading.reader.room)
      (output_of g.S.Sink c.args.sink.now) (output_of g.S.Sink c.reading.sink) c.reading.blocks c.reading.invariant.contents
      c.reading.invariant.listing front c.args.before all c.in-Over.is,
)

pub returns-in-Ok-false : goal.returns-in-Ok-false
returns-in-Ok-false g c = λ front all. (
  c.next_into.new.self.room,
  listing_ends c.args.first c.reading.stage
      (position (g.F.Feed.text c.args.feed.now) (g.F.Feed.faults c.args.feed.now) most_bytes)
      (position (g.F.Feed.text c.reading.feed) (g.F.Feed.faults c.reading.feed) c.reading.reader.room)
      (output_of g.S.Sink c.args.sink.now) (output_of g.S.Sink c.reading.sink) c.reading.blocks c.reading.invariant.contents
      c.reading.invariant.listing front c.args.before all
      (position (g.F.Feed.text c.next_into.new.feed) (g.F.Feed.faults c.next_into.new.feed) c.next_into.new.self.room)
      c.placed.result c.from.result
      (rw (c.reading.invariant.reads, c.in-Ok-false.field-0-test) at c.in-Ok-false.ensures.reads)
      (c.from.ensures ∙ ap (λ (n : ℕ). c.args.before + n) c.bytes_read-in-Ok-false.ensures) c.placed.ensures,
)

pub returns-in-Err : goal.returns-in-Err
returns-in-Err g c = λ front all. (
  c.next_into.new.self.room,
  listing_stops c.args.first c.reading.stage
      (position (g.F.Feed.text c.args.feed.now) (g.F.Feed.faults c.args.feed.now) most_bytes)
      (position (g.F.Feed.text c.reading.feed) (g.F.Feed.faults c.reading.feed) c.reading.reader.room)
      (output_of g.S.Sink c.args.sink.now) (output_of g.S.Sink c.reading.sink) c.reading.blocks c.reading.invariant.contents
      c.reading.invariant.listing front c.args.before all
      (position (g.F.Feed.text c.next_into.new.feed) (g.F.Feed.faults c.next_into.new.feed) c.next_into.new.self.room)
      c.in-Err.fault c.placed-in-Err.result (c.args.before + c.bytes_read-in-Err.result) c.fault_byte.result
      (rw c.reading.invariant.reads at c.in-Err.ensures.reads) (ap (λ (n : ℕ). c.args.before + n) c.bytes_read-in-Err.ensures)
      c.fault_byte.ensures c.placed-in-Err.ensures,
)
