use Rattle.std.proofs.Common.{◌≡◌, length, take}
use Rattle.m11_dump_source.specs.Memory.{with_bytes}
use Rattle.m11_dump_source.proofs.memory.store.Given as goal

abbrev pub invariant-bytes : goal.invariant-bytes
invariant-bytes l = record {
  held : l.memory ≡ with_bytes l.address (take l.index l.bytes) l.initial.memory;
  long : length l.memory ≡ length l.initial.memory;
}
