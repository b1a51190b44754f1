use Rattle.std.proofs.Common.{ℕ, List}
use Rattle.m11_obj_blocks.specs.Limited.{most_bytes, position}
use Rattle.m11_base_writes.specs.States.{output_of}
use Rattle.m11_dump.proofs.Taping.{Taping}
use Rattle.m11_dump.specs.Tapes.{tape_view}
use Rattle.m11_dump.proofs.tapes.dump_tape.Given as goal

abbrev pub invariant-parts : goal.invariant-parts
invariant-parts g l = (blocks : List (ℕ × List ℕ))
    × Taping (tape_view l.view l.symbols) (position (g.F.Feed.text l.initial.feed) (g.F.Feed.faults l.initial.feed) most_bytes)
    (position (g.F.Feed.text l.feed) (g.F.Feed.faults l.feed) l.reader.room)
    (output_of g.S.Sink l.initial.sink) (output_of g.S.Sink l.sink) l.reader.stage l.passed l.held blocks

abbrev pub decreases-parts : goal.decreases-parts
decreases-parts g l = l.reader.room
