use Rattle.std.proofs.Common.{◌≡◌, ℕ, List, ◌++◌}
use Rattle.m11_obj_blocks.specs.Limited.{position, Took}
use Rattle.m11_obj_blocks.specs.Tapes.{start}
use Rattle.m11_obj_blocks.proofs.tapes.read_start.Given as goal

abbrev pub invariant-skipped : goal.invariant-skipped
invariant-skipped g l = (others : List ℕ)
    × Took (position (g.F.Feed.text l.initial.feed) (g.F.Feed.faults l.initial.feed) l.initial.room)
    (position (g.F.Feed.text l.feed) (g.F.Feed.faults l.feed) l.room) others
    × ((rest : List ℕ) → start (others ++ rest) ≡ start rest)

abbrev pub decreases-skipped : goal.decreases-skipped
decreases-skipped g l = l.room
