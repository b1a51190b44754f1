use Rattle.std.proofs.Common.{ℕ, List}
use Rattle.m11_obj_blocks.specs.Limited.{position}
use Rattle.m11_cpu.proofs.DataPut.{Taking}
use Rattle.m11_cpu.proofs.loading.load_block.Given as goal

abbrev pub invariant-bytes : goal.invariant-bytes
invariant-bytes g l = (taken : List ℕ)
    × Taking (position (g.F.Feed.text l.initial.feed) (g.F.Feed.faults l.initial.feed) l.initial.reader.room) (position (g.F.Feed.text l.feed) (g.F.Feed.faults l.feed) l.reader.room)
    l.initial.memory l.memory l.address l.count l.index l.reader.stage taken
