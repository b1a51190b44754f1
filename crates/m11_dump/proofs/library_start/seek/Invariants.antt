use Rattle.m11_obj_blocks.specs.Limited.{most_bytes, position}
use Rattle.m11_dump.proofs.LibraryStarts.{Seeking}
use Rattle.m11_dump.proofs.library_start.seek.Given as goal

abbrev pub invariant-bytes : goal.invariant-bytes
invariant-bytes g l = Seeking (position (g.F.Feed.text l.initial.feed) (g.F.Feed.faults l.initial.feed) most_bytes)
    (position (g.F.Feed.text l.feed) (g.F.Feed.faults l.feed) l.room) l.window.items

abbrev pub decreases-bytes : goal.decreases-bytes
decreases-bytes g l = l.room
