-- The machine: memory, eight registers, the processor status, the console's receiver and transmitter, and the lasting stop.
-- (PDP-11/40 Processor Handbook, "Central processor"; for the console SIMH PDP-11 manual.)
use Rattle.std.specs.Prelude.{ℕ, ◌+◌, ◌*◌, ◌%◌, ◌==◌, Bool, false, if◌then◌else◌, None, length, replicate, slice_index, slice_set}
use Rattle.m11_base.specs.declared.instruction.ConditionCodes.{ConditionCodes}
use Rattle.m11_base.specs.Operand.{register_number}
use Rattle.m11_base.specs.declared.operand.Register.{Register}
use Rattle.m11_cpu_machine.specs.Memory.{byte_at}
use Rattle.m11_cpu_machine.specs.Status.{psw_of, status_of}
use Rattle.m11_cpu_machine.specs.declared.machine.Machine.{Machine}
use Rattle.m11_cpu_machine.specs.declared.addressing.OperandLocation.{OperandLocation}
use Rattle.m11_cpu_machine.specs.declared.addressing.OperandLocation.TheVariants.{InRegister, InMemory}

-- the machine before anything is loaded, with this many words of memory: everything is 0 or clear
unfoldable pub new_machine : ℕ → Machine
new_machine words = record {
  memory = replicate (2 * words) 0;
  registers = replicate 8 0;
  status = status_of 0;
  receiver = record { byte = 0; is_done = false; is_enabled = false; has_ended = false };
  transmitter = record { is_enabled = false };
  stopped = None;
}

abbrev pub memory_size : Machine → ℕ
memory_size m = length m.memory

abbrev pub byte_in : ℕ → Machine → ℕ
byte_in address m = byte_at m.memory address

abbrev pub psw_in : Machine → ℕ
psw_in m = psw_of m.status

abbrev pub register_of : Register → Machine → ℕ
register_of register m = slice_index m.registers (register_number register)

abbrev pub with_register : Register → ℕ → Machine → Machine
with_register register value m = record m { registers = slice_set m.registers (register_number register) value }

-- this many bytes are added to a register, modulo octal 200000
abbrev pub advanced : Register → ℕ → Machine → Machine
advanced register bytes m = with_register register ((register_of register m + bytes) % 0o200000) m

abbrev pub with_condition_codes : ConditionCodes → Machine → Machine
with_condition_codes codes m = record m { status = record m.status { codes = codes } }

-- whether the location is the processor status word
abbrev pub is_status : OperandLocation → Bool
is_status (InRegister register) = false
is_status (InMemory address) = address == 0o177776

-- the machine with the condition codes of an instruction that has stored its result in this location; if the location is the processor
-- status word, that word stays as it was written
abbrev pub finished : OperandLocation → ConditionCodes → Machine → Machine
finished location codes m = if is_status location then m else with_condition_codes codes m
