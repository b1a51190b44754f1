use Rattle.std.proofs.Common.{◌≡◌, None, length, replicate}
use Rattle.m11_dump.specs.WholeTapes.{blocks_of}
use Rattle.m11_dump_source.specs.Memory.{after_blocks}
use Rattle.m11_dump_source.proofs.memory.memory_after.Given as goal

abbrev pub invariant-each : goal.invariant-each
invariant-each l = record {
  cells : after_blocks (blocks_of l.rest) l.memory.items ≡ after_blocks (blocks_of l.blocks) (replicate l.count None);
  long : length l.memory.items ≡ l.count;
}

abbrev pub decreases-each : goal.decreases-each
decreases-each l = length l.rest
