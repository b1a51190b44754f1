use Rattle.std.proofs.Common.{◌≡◌, ◌++◌, take}
use Rattle.m11_obj_blocks.specs.Frames.{word_bytes}
use Rattle.m11_obj.specs.Relocations.{relocations_bytes, RelocationsFit}
use Rattle.m11_obj.proofs.records.Record.relocations.Given as goal

abbrev pub invariant-loop-relocation : goal.invariant-loop-relocation
invariant-loop-relocation l =
    (l.content.items ≡ word_bytes 4 ++ relocations_bytes (take l.relocation-index l.relocations))
    × RelocationsFit (take l.relocation-index l.relocations)
