use Rattle.std.proofs.Common.{ℕ, List}
use Rattle.m11_obj_blocks.specs.Limited.{position, most_bytes}
use Rattle.m11_cpu.proofs.TapePut.{Loading}
use Rattle.m11_cpu.proofs.loading.load_tape.Given as goal

abbrev pub invariant-parts : goal.invariant-parts
invariant-parts g l = (blocks : List (ℕ × List ℕ))
    × Loading (position (g.F.Feed.text l.initial.feed) (g.F.Feed.faults l.initial.feed) most_bytes) (position (g.F.Feed.text l.feed) (g.F.Feed.faults l.feed) l.reader.room)
    l.initial.memory l.memory l.reader.stage blocks

abbrev pub decreases-parts : goal.decreases-parts
decreases-parts g l = l.reader.room
