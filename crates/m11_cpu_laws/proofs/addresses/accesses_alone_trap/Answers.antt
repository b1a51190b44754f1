use Rattle.m11_cpu_laws.proofs.InstructionsTrap.{code_traps, instruction_traps}
use Rattle.m11_cpu_laws.proofs.addresses.accesses_alone_trap.Goals as goal

pub returns-clause-code : goal.returns-clause-code
returns-clause-code c = code_traps

pub returns-clause-instruction : goal.returns-clause-instruction
returns-clause-instruction c = instruction_traps
