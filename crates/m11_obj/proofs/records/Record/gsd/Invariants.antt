use Rattle.std.proofs.Common.{◌≡◌, ◌+◌, ◌*◌, ◌++◌, length, take}
use Rattle.m11_obj_blocks.specs.Frames.{word_bytes}
use Rattle.m11_obj.specs.Gsd.{entries_bytes, EntriesFit}
use Rattle.m11_obj.proofs.records.Record.gsd.Given as goal

abbrev pub invariant-loop-entry : goal.invariant-loop-entry
invariant-loop-entry l =
    (l.content.items ≡ word_bytes 1 ++ entries_bytes (take l.entry-index l.entries))
    × (length l.content.items ≡ 2 + 8 * l.entry-index)
    × EntriesFit (take l.entry-index l.entries)
