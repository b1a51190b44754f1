use Rattle.std.proofs.Common.{◌≡◌, ◌++◌, take}
use Rattle.m11_cpu_machine.specs.Memory.{bytes_of}
use Rattle.m11_cpu_states.proofs.heads.put_registers.Given as goal

abbrev pub invariant-loop-register : goal.invariant-loop-register
invariant-loop-register l = l.to.items ≡ l.fn.to.items ++ bytes_of (take l.register-index l.registers)
