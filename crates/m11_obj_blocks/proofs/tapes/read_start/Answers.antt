use Rattle.m11_obj_blocks.specs.Limited.{position}
use Rattle.std.proofs.Common.{refl}
use Rattle.m11_obj_blocks.specs.Tapes.{start}
use Rattle.m11_obj_blocks.proofs.TapeParts.{one_front, other_front}
use Rattle.m11_obj_blocks.proofs.StartReads.{byte_passed, start_read, start_ends, start_fails, start_passes}
use Rattle.m11_obj_blocks.proofs.tapes.read_start.Goals as goal

pub skipped-preserved : goal.skipped-preserved
skipped-preserved g c =
    let i = c.skipped.invariant in
    byte_passed start refl (position (g.F.Feed.text c.args.feed.now) (g.F.Feed.faults c.args.feed.now) c.args.room.now)
    (position (g.F.Feed.text c.skipped.feed) (g.F.Feed.faults c.skipped.feed) c.skipped.room)
    (position (g.F.Feed.text c.next_byte.new.feed) (g.F.Feed.faults c.next_byte.new.feed) c.next_byte.new.room)
    i.0 i.1 i.2 c.in-Ok.field-0 (other_front _ c.in-Ok.field-0-test.1) c.in-Ok.ensures

pub returns-in-Ok-eq1 : goal.returns-in-Ok-eq1
returns-in-Ok-eq1 g c =
    let i = c.skipped.invariant in
    start_read start refl (position (g.F.Feed.text c.args.feed.now) (g.F.Feed.faults c.args.feed.now) c.args.room.now)
    (position (g.F.Feed.text c.skipped.feed) (g.F.Feed.faults c.skipped.feed) c.skipped.room)
    (position (g.F.Feed.text c.next_byte.new.feed) (g.F.Feed.faults c.next_byte.new.feed) c.next_byte.new.room)
    i.0 i.1 i.2 c.in-Ok-eq1.field-0 (one_front _ c.in-Ok-eq1.field-0-test) c.in-Ok-eq1.ensures

pub returns-in-Err-End : goal.returns-in-Err-End
returns-in-Err-End g c =
    let i = c.skipped.invariant in
    start_ends start refl (position (g.F.Feed.text c.args.feed.now) (g.F.Feed.faults c.args.feed.now) c.args.room.now)
    (position (g.F.Feed.text c.skipped.feed) (g.F.Feed.faults c.skipped.feed) c.skipped.room)
    (position (g.F.Feed.text c.next_byte.new.feed) (g.F.Feed.faults c.next_byte.new.feed) c.next_byte.new.room)
    i.0 i.1 i.2 (rw c.in-Err-End.field-0-is at c.in-Err-End.ensures)

pub returns-in-Err-Device : goal.returns-in-Err-Device
returns-in-Err-Device g c =
    let i = c.skipped.invariant in
    start_fails start refl (position (g.F.Feed.text c.args.feed.now) (g.F.Feed.faults c.args.feed.now) c.args.room.now)
    (position (g.F.Feed.text c.skipped.feed) (g.F.Feed.faults c.skipped.feed) c.skipped.room)
    (position (g.F.Feed.text c.next_byte.new.feed) (g.F.Feed.faults c.next_byte.new.feed) c.next_byte.new.room)
    i.0 i.1 i.2 (rw c.in-Err-Device.field-0-is at c.in-Err-Device.ensures)

pub returns-in-Err-TooMuch : goal.returns-in-Err-TooMuch
returns-in-Err-TooMuch g c =
    let i = c.skipped.invariant in
    start_passes start refl (position (g.F.Feed.text c.args.feed.now) (g.F.Feed.faults c.args.feed.now) c.args.room.now)
    (position (g.F.Feed.text c.skipped.feed) (g.F.Feed.faults c.skipped.feed) c.skipped.room)
    (position (g.F.Feed.text c.next_byte.new.feed) (g.F.Feed.faults c.next_byte.new.feed) c.next_byte.new.room)
    i.0 i.1 i.2 (rw c.in-Err-TooMuch.field-0-is at c.in-Err-TooMuch.ensures)
