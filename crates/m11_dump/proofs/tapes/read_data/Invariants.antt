use Rattle.m11_obj_blocks.specs.Limited.{position}
use Rattle.m11_dump.proofs.Taping.{Taking}
use Rattle.m11_dump.proofs.tapes.read_data.Given as goal

abbrev pub invariant-bytes : goal.invariant-bytes
invariant-bytes g l = Taking (position (g.F.Feed.text l.initial.feed) (g.F.Feed.faults l.initial.feed) l.initial.reader.room)
    (position (g.F.Feed.text l.feed) (g.F.Feed.faults l.feed) l.reader.room) l.address l.count l.index l.reader.stage l.bytes.items
