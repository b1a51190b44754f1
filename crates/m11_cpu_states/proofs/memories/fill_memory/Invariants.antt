use Rattle.std.proofs.Common.{◌≡◌, length, take}
use Rattle.m11_cpu_states.proofs.memories.fill_memory.Given as goal

abbrev pub invariant-bytes : goal.invariant-bytes
invariant-bytes l = (length l.memory ≡ l.size) × (take l.address l.memory ≡ take l.address l.bytes)
