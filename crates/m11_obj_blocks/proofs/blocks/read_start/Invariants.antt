use Rattle.std.proofs.Common.{◌≡◌, ℕ, List, ◌++◌}
use Rattle.m11_obj_blocks.specs.Limited.{position, Took}
use Rattle.m11_obj_blocks.specs.Blocks.{start}
use Rattle.m11_obj_blocks.proofs.blocks.read_start.Given as goal

abbrev pub invariant-zeros : goal.invariant-zeros
invariant-zeros g l = (zeros : List ℕ)
    × Took (position (g.F.Feed.text l.initial.feed) (g.F.Feed.faults l.initial.feed) l.initial.room)
    (position (g.F.Feed.text l.feed) (g.F.Feed.faults l.feed) l.room) zeros
    × ((rest : List ℕ) → start (zeros ++ rest) ≡ start rest)

abbrev pub decreases-zeros : goal.decreases-zeros
decreases-zeros g l = l.room
