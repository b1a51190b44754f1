use Rattle.std.proofs.Common.{◌≤◌, ◌-◌, length}
use Rattle.m11_obj_blocks.specs.Limited.{position, Took}
use Rattle.m11_obj_blocks.proofs.blocks.read_content.Given as goal

abbrev pub invariant-parts : goal.invariant-parts
invariant-parts g l =
    Took (position (g.F.Feed.text l.initial.feed) (g.F.Feed.faults l.initial.feed) l.initial.room)
    (position (g.F.Feed.text l.feed) (g.F.Feed.faults l.feed) l.room) l.content.items
    × (length l.content.items ≤ l.count)

abbrev pub decreases-parts : goal.decreases-parts
decreases-parts g l = l.count - length l.content.items
