use Rattle.m11_obj_blocks.specs.Limited.{position}
use Rattle.std.proofs.Common.{refl}
use Rattle.m11_obj_blocks.specs.declared.block_fault.BlockFault.TheVariants as fault
use Rattle.m11_obj_blocks.specs.Blocks.{start}
use Rattle.m11_obj_blocks.proofs.BlockParts.{zero_front, one_front, other_front}
use Rattle.m11_obj_blocks.proofs.StartReads.{byte_passed, start_read, start_refused, start_ends, start_fails, start_passes}
use Rattle.m11_obj_blocks.proofs.blocks.read_start.Goals as goal

pub zeros-preserved : goal.zeros-preserved
zeros-preserved g c =
    let i = c.zeros.invariant in
    byte_passed start refl (position (g.F.Feed.text c.args.feed.now) (g.F.Feed.faults c.args.feed.now) c.args.room.now)
    (position (g.F.Feed.text c.zeros.feed) (g.F.Feed.faults c.zeros.feed) c.zeros.room)
    (position (g.F.Feed.text c.next_byte.new.feed) (g.F.Feed.faults c.next_byte.new.feed) c.next_byte.new.room)
    i.0 i.1 i.2 c.in-Ok-eq0.field-0 (zero_front _ c.in-Ok-eq0.field-0-test) c.in-Ok-eq0.ensures

pub returns-in-Ok-eq1 : goal.returns-in-Ok-eq1
returns-in-Ok-eq1 g c =
    let i = c.zeros.invariant in
    start_read start refl (position (g.F.Feed.text c.args.feed.now) (g.F.Feed.faults c.args.feed.now) c.args.room.now)
    (position (g.F.Feed.text c.zeros.feed) (g.F.Feed.faults c.zeros.feed) c.zeros.room)
    (position (g.F.Feed.text c.next_byte.new.feed) (g.F.Feed.faults c.next_byte.new.feed) c.next_byte.new.room)
    i.0 i.1 i.2 c.in-Ok-eq1.field-0 (one_front _ c.in-Ok-eq1.field-0-test) c.in-Ok-eq1.ensures

pub returns-in-Ok : goal.returns-in-Ok
returns-in-Ok g c =
    let i = c.zeros.invariant in
    start_refused start refl (position (g.F.Feed.text c.args.feed.now) (g.F.Feed.faults c.args.feed.now) c.args.room.now)
    (position (g.F.Feed.text c.zeros.feed) (g.F.Feed.faults c.zeros.feed) c.zeros.room)
    (position (g.F.Feed.text c.next_byte.new.feed) (g.F.Feed.faults c.next_byte.new.feed) c.next_byte.new.room)
    i.0 i.1 i.2 c.in-Ok.field-0 fault.BadStart (other_front _ c.in-Ok.field-0-test.0.1 c.in-Ok.field-0-test.1) c.in-Ok.ensures

pub returns-in-Err-End : goal.returns-in-Err-End
returns-in-Err-End g c =
    let i = c.zeros.invariant in
    start_ends start refl (position (g.F.Feed.text c.args.feed.now) (g.F.Feed.faults c.args.feed.now) c.args.room.now)
    (position (g.F.Feed.text c.zeros.feed) (g.F.Feed.faults c.zeros.feed) c.zeros.room)
    (position (g.F.Feed.text c.next_byte.new.feed) (g.F.Feed.faults c.next_byte.new.feed) c.next_byte.new.room)
    i.0 i.1 i.2 (rw c.in-Err-End.field-0-is at c.in-Err-End.ensures)

pub returns-in-Err-Device : goal.returns-in-Err-Device
returns-in-Err-Device g c =
    let i = c.zeros.invariant in
    start_fails start refl (position (g.F.Feed.text c.args.feed.now) (g.F.Feed.faults c.args.feed.now) c.args.room.now)
    (position (g.F.Feed.text c.zeros.feed) (g.F.Feed.faults c.zeros.feed) c.zeros.room)
    (position (g.F.Feed.text c.next_byte.new.feed) (g.F.Feed.faults c.next_byte.new.feed) c.next_byte.new.room)
    i.0 i.1 i.2 (rw c.in-Err-Device.field-0-is at c.in-Err-Device.ensures)

pub returns-in-Err-TooMuch : goal.returns-in-Err-TooMuch
returns-in-Err-TooMuch g c =
    let i = c.zeros.invariant in
    start_passes start refl (position (g.F.Feed.text c.args.feed.now) (g.F.Feed.faults c.args.feed.now) c.args.room.now)
    (position (g.F.Feed.text c.zeros.feed) (g.F.Feed.faults c.zeros.feed) c.zeros.room)
    (position (g.F.Feed.text c.next_byte.new.feed) (g.F.Feed.faults c.next_byte.new.feed) c.next_byte.new.room)
    i.0 i.1 i.2 (rw c.in-Err-TooMuch.field-0-is at c.in-Err-TooMuch.ensures)
