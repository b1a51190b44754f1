use Rattle.m11_obj_blocks.specs.Limited.{most_bytes, position}
use Rattle.m11_dump.proofs.ReadingBlocks.{HaveRead}
use Rattle.m11_dump.specs.WholeTapes.{blocks_of}
use Rattle.m11_dump.proofs.whole_tapes.read_tape.Given as goal

abbrev pub invariant-parts : goal.invariant-parts
invariant-parts g l = HaveRead (position (g.F.Feed.text l.initial.feed) (g.F.Feed.faults l.initial.feed) most_bytes)
    (position (g.F.Feed.text l.feed) (g.F.Feed.faults l.feed) l.reader.room) l.reader.stage (blocks_of l.read.items)

abbrev pub decreases-parts : goal.decreases-parts
decreases-parts g l = l.reader.room
