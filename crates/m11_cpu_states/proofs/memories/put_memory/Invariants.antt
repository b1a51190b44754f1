use Rattle.std.proofs.Common.{◌≡◌, ◌≤◌, ◌++◌, length, take}
use Rattle.m11_cpu_states.proofs.memories.put_memory.Given as goal

abbrev pub invariant-bytes : goal.invariant-bytes
invariant-bytes l = (l.address ≤ length l.memory) × (l.to.items ≡ l.fn.to.items ++ take l.address l.memory)
