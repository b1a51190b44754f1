use Rattle.std.proofs.Common.{◌≡◌, ◌-◌, length}
use Rattle.m11_base.specs.Feed.{GivesBytes}
use Rattle.m11_base_disassembly.proofs.maps.read_text.Given as goal

abbrev pub invariant-bytes : goal.invariant-bytes
invariant-bytes g l = GivesBytes (g.F.Feed.text l.fn.feed) (g.F.Feed.text l.feed) l.text.items
    × (g.F.Feed.faults l.feed ≡ g.F.Feed.faults l.fn.feed)

abbrev pub decreases-bytes : goal.decreases-bytes
decreases-bytes g l = 16777217 - length l.text.items
