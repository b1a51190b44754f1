use Rattle.std.proofs.Common.{refl}
use Rattle.m11_obj_blocks.specs.Limited.{most_bytes, position}
use Rattle.m11_dump.proofs.LibraryStarts.{kept, seeking_begins, seeking_found, seeking_lacks, seeking_more, seeking_stops}
use Rattle.m11_dump.proofs.library_start.seek.Goals as goal

pub bytes-init : goal.bytes-init
bytes-init g c = rw c.new-window.ensures (seeking_begins (position (g.F.Feed.text c.args.feed.now) (g.F.Feed.faults c.args.feed.now) most_bytes) refl)

pub returns-in-Err-clause-seeks : goal.returns-in-Err-clause-seeks
returns-in-Err-clause-seeks g c = (
  c.next_byte.new.room,
  seeking_stops (position (g.F.Feed.text c.args.feed.now) (g.F.Feed.faults c.args.feed.now) most_bytes)
      (position (g.F.Feed.text c.bytes.feed) (g.F.Feed.faults c.bytes.feed) c.bytes.room) c.bytes.window.items c.bytes.invariant
      c.bytes.found.items (position (g.F.Feed.text c.next_byte.new.feed) (g.F.Feed.faults c.next_byte.new.feed) c.next_byte.new.room)
      c.in-Err.fault c.unfound.result c.in-Err.ensures c.unfound.ensures,
)

pub returns-in-Ok-true-clause-seeks : goal.returns-in-Ok-true-clause-seeks
returns-in-Ok-true-clause-seeks g c = (
  c.next_byte.new.room,
  seeking_found (position (g.F.Feed.text c.args.feed.now) (g.F.Feed.faults c.args.feed.now) most_bytes)
      (position (g.F.Feed.text c.bytes.feed) (g.F.Feed.faults c.bytes.feed) c.bytes.room) c.bytes.window.items c.bytes.invariant
      (position (g.F.Feed.text c.next_byte.new.feed) (g.F.Feed.faults c.next_byte.new.feed) c.next_byte.new.room) c.in-Ok.byte
      c.keep.new.window.items c.in-Ok.ensures
      (kept c.bytes.window.items c.keep.new.window.items c.in-Ok.byte c.keep.ensures.room c.keep.ensures.full c.keep.ensures.fits)
      c.find_block.new.found.items c.saturating_sub.result
      (rw (c.deref.ensures.0, c.in-Ok-true.field-0-test) at c.in-Ok-true.ensures.ends) c.saturating_sub.ensures,
)

pub bytes-preserved : goal.bytes-preserved
bytes-preserved g c =
    seeking_more (position (g.F.Feed.text c.args.feed.now) (g.F.Feed.faults c.args.feed.now) most_bytes)
    (position (g.F.Feed.text c.bytes.feed) (g.F.Feed.faults c.bytes.feed) c.bytes.room) c.bytes.window.items c.bytes.invariant
    (position (g.F.Feed.text c.next_byte.new.feed) (g.F.Feed.faults c.next_byte.new.feed) c.next_byte.new.room) c.in-Ok.byte
    c.keep.new.window.items c.in-Ok.ensures
    (kept c.bytes.window.items c.keep.new.window.items c.in-Ok.byte c.keep.ensures.room c.keep.ensures.full c.keep.ensures.fits)
    (rw (c.deref.ensures.0, c.in-Ok-false.field-0-test) at c.in-Ok-false.ensures.none)

pub returns-in-Err-find_block-clause-seeks : goal.returns-in-Err-find_block-clause-seeks
returns-in-Err-find_block-clause-seeks g c = (
  c.next_byte.new.room,
  seeking_lacks (position (g.F.Feed.text c.args.feed.now) (g.F.Feed.faults c.args.feed.now) most_bytes)
      (position (g.F.Feed.text c.bytes.feed) (g.F.Feed.faults c.bytes.feed) c.bytes.room) c.bytes.window.items c.bytes.invariant
      (position (g.F.Feed.text c.next_byte.new.feed) (g.F.Feed.faults c.next_byte.new.feed) c.next_byte.new.room) c.in-Ok.byte
      c.keep.new.window.items c.in-Ok.ensures
      (kept c.bytes.window.items c.keep.new.window.items c.in-Ok.byte c.keep.ensures.room c.keep.ensures.full c.keep.ensures.fits)
      c.find_block.new.found.items c.unfound-in-Err-find_block.result c.unfound-in-Err-find_block.ensures,
)
