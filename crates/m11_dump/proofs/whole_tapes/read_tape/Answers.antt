use Rattle.std.proofs.Common.{◌≡◌, Ok, Err, refl, arith}
use Rattle.m11_obj_blocks.specs.Limited.{most_bytes, position}
use Rattle.m11_obj_blocks.specs.declared.tape_part.TapePart.TheVariants.{Data, Start}
use Rattle.m11_dump.proofs.ReadingBlocks.{none_read}
use Rattle.m11_dump.proofs.ReadingWhole.{block_added, block_stops, push_stops, reading_ends, reading_stops}
use Rattle.m11_dump.specs.declared.whole_tapes.WholeTape.{WholeTape}
use Rattle.m11_dump.proofs.whole_tapes.read_tape.Goals as goal

pub parts-init : goal.parts-init
parts-init g c = rw (c.new-reader.ensures, c.new-read.ensures.items)
    (none_read (position (g.F.Feed.text c.args.feed.now) (g.F.Feed.faults c.args.feed.now) most_bytes) refl)

pub parts-preserved : goal.parts-preserved
parts-preserved g c =
    let is : c.next.result ≡ Ok (Data c.in-Ok-Data.address c.in-Ok-Data.count) = cc in
    let fits = rw c.in-Ok-Data.field-0-is at c.in-Ok-Data.ensures.fits in
    rw c.in-Ok-push.ensures.items (block_added (position (g.F.Feed.text c.args.feed.now) (g.F.Feed.faults c.args.feed.now) most_bytes)
    (position (g.F.Feed.text c.parts.feed) (g.F.Feed.faults c.parts.feed) c.parts.reader.room)
    c.parts.reader.stage c.parts.read.items c.parts.invariant c.len-passed.result (omega (arith, c.len-passed.ensures))
    (position (g.F.Feed.text c.next.new.feed) (g.F.Feed.faults c.next.new.feed) c.next.new.self.room) c.next.new.self.stage
    c.next.result c.next.ensures.reads
    c.in-Ok-Data.address c.in-Ok-Data.count is
    (position (g.F.Feed.text c.read_block.new.feed) (g.F.Feed.faults c.read_block.new.feed) c.read_block.new.reader.room)
    c.in-Ok.block.bytes.items c.read_block.new.reader.stage fits.0 c.in-Ok.ensures.reads c.in-Ok.block
    c.in-Ok.ensures.address refl)

pub returns-in-Err-push : goal.returns-in-Err-push
returns-in-Err-push g c =
    let is : c.next.result ≡ Ok (Data c.in-Ok-Data.address c.in-Ok-Data.count) = cc in
    let fits = rw c.in-Ok-Data.field-0-is at c.in-Ok-Data.ensures.fits in (
      c.read_block.new.reader.room,
      push_stops (position (g.F.Feed.text c.args.feed.now) (g.F.Feed.faults c.args.feed.now) most_bytes)
          (position (g.F.Feed.text c.parts.feed) (g.F.Feed.faults c.parts.feed) c.parts.reader.room)
          c.parts.reader.stage c.parts.read.items c.parts.invariant c.len-passed.result (omega (arith, c.len-passed.ensures))
          (position (g.F.Feed.text c.next.new.feed) (g.F.Feed.faults c.next.new.feed) c.next.new.self.room) c.next.new.self.stage
          c.next.result c.next.ensures.reads
          c.in-Ok-Data.address c.in-Ok-Data.count is
          (position (g.F.Feed.text c.read_block.new.feed) (g.F.Feed.faults c.read_block.new.feed) c.read_block.new.reader.room)
          c.in-Ok.block.bytes.items c.read_block.new.reader.stage fits.0 c.in-Ok.ensures.reads c.placed_after.result c.placed_after.ensures,
    )

pub returns-in-Err-read_block : goal.returns-in-Err-read_block
returns-in-Err-read_block g c =
    let is : c.next.result ≡ Ok (Data c.in-Ok-Data.address c.in-Ok-Data.count) = cc in (
      c.read_block.new.reader.room,
      block_stops (position (g.F.Feed.text c.args.feed.now) (g.F.Feed.faults c.args.feed.now) most_bytes)
          (position (g.F.Feed.text c.parts.feed) (g.F.Feed.faults c.parts.feed) c.parts.reader.room)
          c.parts.reader.stage c.parts.read.items c.parts.invariant c.len-passed.result (omega (arith, c.len-passed.ensures))
          (position (g.F.Feed.text c.next.new.feed) (g.F.Feed.faults c.next.new.feed) c.next.new.self.room) c.next.new.self.stage
          c.next.result c.next.ensures.reads
          c.in-Ok-Data.address c.in-Ok-Data.count is
          (position (g.F.Feed.text c.read_block.new.feed) (g.F.Feed.faults c.read_block.new.feed) c.read_block.new.reader.room)
          c.in-Err-read_block.fault c.placed_after-in-Err-read_block.result c.in-Err-read_block.ensures.reads
          c.placed_after-in-Err-read_block.ensures,
    )

pub returns-in-Ok-Start : goal.returns-in-Ok-Start
returns-in-Ok-Start g c =
    let is : c.next.result ≡ Ok (Start c.in-Ok-Start.start) = cc in
    let whole : WholeTape = record { blocks = c.parts.read; start = c.in-Ok-Start.start } in (
      c.next.new.self.room,
      reading_ends (position (g.F.Feed.text c.args.feed.now) (g.F.Feed.faults c.args.feed.now) most_bytes)
          (position (g.F.Feed.text c.parts.feed) (g.F.Feed.faults c.parts.feed) c.parts.reader.room)
          c.parts.reader.stage whole c.parts.invariant
          (position (g.F.Feed.text c.next.new.feed) (g.F.Feed.faults c.next.new.feed) c.next.new.self.room) c.next.new.self.stage
          c.next.result c.next.ensures.reads is,
    )

pub returns-in-Err : goal.returns-in-Err
returns-in-Err g c =
    let is : c.next.result ≡ Err c.in-Err.fault = cc in
    let number = rw c.bytes_read-end.ensures at c.blocks_before-before.ensures in (
      c.next.new.self.room,
      reading_stops (position (g.F.Feed.text c.args.feed.now) (g.F.Feed.faults c.args.feed.now) most_bytes)
          (position (g.F.Feed.text c.parts.feed) (g.F.Feed.faults c.parts.feed) c.parts.reader.room)
          c.parts.reader.stage c.parts.read.items c.parts.invariant c.len-passed.result (omega (arith, c.len-passed.ensures))
          (position (g.F.Feed.text c.next.new.feed) (g.F.Feed.faults c.next.new.feed) c.next.new.self.room) c.next.new.self.stage
          c.next.result c.next.ensures.reads
          c.in-Err.fault is c.blocks_before-before.result c.placed_after-in-Err.result number c.placed_after-in-Err.ensures,
    )
