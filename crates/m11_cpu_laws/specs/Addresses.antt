-- Addresses at which there is neither memory nor a register, and the traps and stops that they cause. (PDP-11/40 Processor Handbook,
-- "Processor traps", JMP, JSR; SIMH PDP-11 manual, console terminal. Stopping the machine if a trap's own push finds nothing is this
-- project's own choice.)
use Rattle.std.specs.Prelude.{◌≡◌, ℕ, ◌-◌, ◌%◌, ◌==◌, Bool, true, false, not, ◌&&◌, ◌||◌, nat_lt, List, None, Result, Ok, Err}
use Rattle.m11_base.specs.declared.instruction.Insn.{Insn}
use Rattle.m11_base.specs.declared.operand.Mode.TheVariants as mode
use Rattle.m11_base.specs.declared.operand.Operand.{Operand}
use Rattle.m11_cpu_machine.specs.Dialogue.{Comes, Dialogue, Exchange, Leads}
use Rattle.m11_cpu_machine.specs.Execution.{execute}
use Rattle.m11_cpu_machine.specs.Machine.{memory_size}
use Rattle.m11_cpu_machine.specs.Steps.{instruction}
use Rattle.m11_cpu_machine.specs.Traps.{trap}
use Rattle.m11_cpu_machine.specs.declared.abort.Abort.{Abort}
use Rattle.m11_cpu_machine.specs.declared.abort.Abort.TheVariants.{Traps, Stops}
use Rattle.m11_cpu_machine.specs.declared.abort.Vector.{Vector}
use Rattle.m11_cpu_machine.specs.declared.abort.Vector.TheVariants.{BusError, Reserved, Breakpoint, InputOutput, Emulator, Trap}
use Rattle.m11_cpu_machine.specs.declared.execution.Ending.{Ending}
use Rattle.m11_cpu_machine.specs.declared.execution.Ending.TheVariants as ending
use Rattle.m11_cpu_machine.specs.declared.machine.Machine.{Machine}
use Rattle.m11_cpu_machine.specs.declared.stop.Stop.TheVariants.{Halt, Limit, Wait, StackFault, NoStart, InputFault, OutputFault}
use Rattle.m11_cpu_machine.specs.declared.stop.Turn.{Turn}
use Rattle.m11_cpu_machine.specs.declared.stop.Turn.TheVariants.{Next, Stopped}
use Rattle.m11_cpu_laws.specs.Exchanges.{ComesWithin}
use Rattle.m11_cpu_laws.specs.Failures.{device_stop}
use Rattle.m11_cpu_laws.specs.Writes.{push_address, stack_deepened}

-- ---- addresses

-- whether one of the five registers above memory has this address: the four of the console, and the processor status word
abbrev pub has_register : ℕ → Bool
has_register address =
    address == 0o177560 || (address == 0o177562 || (address == 0o177564 || (address == 0o177566
    || address == 0o177776)))

abbrev pub is_in_memory : ℕ → Machine → Bool
is_in_memory address m = nat_lt address (memory_size m)

-- whether there is no word at this address: it is odd, or is neither in memory nor that of a register
abbrev pub no_word_at : ℕ → Machine → Bool
no_word_at address m = address % 2 == 1 || (not (is_in_memory address m) && not (has_register address))

-- whether there is no byte at this address: it is neither in memory nor in the word of a register
abbrev pub no_byte_at : ℕ → Machine → Bool
no_byte_at address m = not (is_in_memory address m) && not (has_register (address - address % 2))

-- ---- traps

-- whether an abort is the trap through 4
abbrev pub is_through_4 : Abort → Bool
is_through_4 (Traps BusError) = true
is_through_4 (Traps Reserved) = false
is_through_4 (Traps Breakpoint) = false
is_through_4 (Traps InputOutput) = false
is_through_4 (Traps Emulator) = false
is_through_4 (Traps Trap) = false
is_through_4 (Stops stop) = false

abbrev pub traps_through_4 : {A : Type 0} → Result A Abort → Bool
traps_through_4 (Ok value) = false
traps_through_4 (Err abort) = is_through_4 abort

-- a load or a store, whatever it exchanges, traps through 4 if and only if `bad`, the test of its address, holds
abbrev pub TrapsWhere : {A : Type 0} → Bool → Dialogue (Result A Abort × Machine) → Type 0
TrapsWhere {A = A} bad access = (exchanges : List Exchange) (came : Result A Abort) (m' : Machine)
    → Leads access exchanges (came, m') → traps_through_4 came ≡ bad

-- if this operand is a register, this instruction, JMP or JSR, traps through 10 and changes nothing
abbrev pub TrapsThrough10 : Insn → Operand → Machine → Type 0
TrapsThrough10 code operand m = operand.mode ≡ mode.Register → execute code m ≡ Comes (Err (Traps Reserved), m)

-- ---- the pushes of a trap

abbrev pub is_stack_fault : Turn → Bool
is_stack_fault Next = false
is_stack_fault (Stopped Halt) = false
is_stack_fault (Stopped Limit) = false
is_stack_fault (Stopped Wait) = false
is_stack_fault (Stopped StackFault) = true
is_stack_fault (Stopped NoStart) = false
is_stack_fault (Stopped InputFault) = false
is_stack_fault (Stopped OutputFault) = false

-- whether one of the two pushes of a trap finds no word
abbrev pub cannot_push : Machine → Bool
cannot_push m = no_word_at (push_address m) m || no_word_at (push_address (stack_deepened m)) m

-- if no device fails at a trap's pushes, the trap stops with STACK FAULT if and only if a push finds no word
abbrev pub TrapFaults : Vector → Machine → Type 0
TrapFaults vector m = (exchanges : List Exchange) (turn : Turn) (m' : Machine)
    → Leads (trap vector m) exchanges (turn, m') → device_stop turn ≡ None
    → is_stack_fault turn ≡ cannot_push m

-- a trap taken by the machine that the instruction left stops with STACK FAULT, and there is no word for one of the trap's pushes
pub record TrapFaulted (left : Machine) (exchanges : List Exchange) (m' : Machine) : Type 0 where
  pub vector : Vector
  pub trapped : Leads (trap vector left) exchanges (Stopped StackFault, m')
  pub no_word : cannot_push left ≡ true

-- what follows the instruction of a step is a trap that stops with STACK FAULT and finds no word for a push
pub record StepFaulted (m : Machine) (exchanges : List Exchange) (m' : Machine) : Type 0 where
  pub came : Result Ending Abort
  pub left : Machine
  pub executed : ComesWithin (instruction m) exchanges (came, left)
  pub by_trap : TrapFaulted left executed.rest m'

-- whether a trap follows an instruction and finds no word for a push: the instruction's own trap, or a trace trap if the instruction
-- leaves T set and isn't RTT, HALT or WAIT
abbrev pub cannot_trap : Result Ending Abort → Machine → Bool
cannot_trap (Ok ending.Next) left = left.status.trace && cannot_push left
cannot_trap (Ok ending.Untraced) left = false
cannot_trap (Ok ending.Halts) left = false
cannot_trap (Ok ending.Waits) left = false
cannot_trap (Err (Traps vector)) left = cannot_push left
cannot_trap (Err (Stops stop)) left = false

-- a step that no device stops ends with STACK FAULT if and only if a trap follows its instruction and finds no word for a push
pub record StepFaults (m : Machine) (exchanges : List Exchange) (turn : Turn) : Type 0 where
  pub came : Result Ending Abort
  pub left : Machine
  pub executed : ComesWithin (instruction m) exchanges (came, left)
  pub faults : device_stop turn ≡ None → is_stack_fault turn ≡ cannot_trap came left
