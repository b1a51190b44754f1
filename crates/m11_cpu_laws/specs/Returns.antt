-- The return from calls and traps. (PDP-11/40 Processor Handbook, "Instruction set": JSR, RTS, RTI; "Processor traps".)
use Rattle.std.specs.Prelude.{◌≡◌, ℕ, ◌+◌, ◌%◌, ◌<◌, ◌==◌, Bool, true, false, ◌&&◌, List, length, None, Option, Some, Ok}
use Rattle.m11_base.specs.Instructions.{instruction_of}
use Rattle.m11_base.specs.Operand.{register_number}
use Rattle.m11_base.specs.declared.instruction.BareOp.TheVariants.{Rti, Bpt, Iot}
use Rattle.m11_base.specs.declared.instruction.Insn.{Insn}
use Rattle.m11_base.specs.declared.instruction.Insn.TheVariants as insn
use Rattle.m11_base.specs.declared.instruction.NumberOp.TheVariants.{Emt, Trap}
use Rattle.m11_base.specs.declared.instruction.RegisterOp.TheVariants.{Jsr}
use Rattle.m11_base.specs.declared.operand.Mode.{Mode}
use Rattle.m11_base.specs.declared.operand.Mode.TheVariants as mode
use Rattle.m11_base.specs.declared.operand.Operand.{Operand}
use Rattle.m11_base.specs.declared.operand.Register.{Register}
use Rattle.m11_base.specs.declared.operand.Register.TheVariants.{Sp, Pc}
use Rattle.m11_cpu_machine.specs.Dialogue.{Comes, Exchange, Leads}
use Rattle.m11_cpu_machine.specs.Jumps.{target}
use Rattle.m11_cpu_machine.specs.Machine.{advanced, memory_size, psw_in, register_of}
use Rattle.m11_cpu_machine.specs.Memory.{word_at}
use Rattle.m11_cpu_machine.specs.Steps.{step}
use Rattle.m11_cpu_machine.specs.Traps.{trap, vector_address}
use Rattle.m11_cpu_machine.specs.declared.abort.Vector.{Vector}
use Rattle.m11_cpu_machine.specs.declared.abort.Vector.TheVariants as vector
use Rattle.m11_cpu_machine.specs.declared.machine.Machine.{Machine}
use Rattle.m11_cpu_machine.specs.declared.stop.Turn.TheVariants.{Next}
use Rattle.m11_cpu_laws.specs.Writes.{MakesSteps, push_address, stack_deepened}

-- ---- machines that run a program

-- the machine has no lasting stop, T is clear, and its eight registers contain words
pub record IsRunning (m : Machine) : Type 0 where
  pub not_stopped : MakesSteps m
  pub not_traced : m.status.trace ≡ false
  pub registers : length m.registers ≡ 8
  pub words : (register : Register) → register_of register m < 0o200000

-- there is a word of memory at this address
abbrev pub IsWordInside : ℕ → Machine → Type 0
IsWordInside address m = (address % 2 ≡ 0) × (address + 1 < memory_size m)

-- the code of this instruction is in memory at the program counter
abbrev pub IsAt : Insn → Machine → Type 0
IsAt code m = IsWordInside (register_of Pc m) m × (instruction_of (word_at m.memory (register_of Pc m)) ≡ code)

-- ---- calls

abbrev pub is_stepping : Mode → Bool
is_stepping mode.Register = false
is_stepping mode.RegisterDeferred = false
is_stepping mode.Autoincrement = true
is_stepping mode.AutoincrementDeferred = true
is_stepping mode.Autodecrement = true
is_stepping mode.AutodecrementDeferred = true
is_stepping mode.Index = false
is_stepping mode.IndexDeferred = false

-- whether the operand's mode increments or decrements this register
abbrev pub steps : Operand → Register → Bool
steps operand register = is_stepping operand.mode && (register_number operand.register == register_number register)

-- the number of bytes by which a call with an autoincrement mode of this register advances the program counter
abbrev pub over_forward : Register → ℕ
over_forward Pc = 4
over_forward other = 2

-- the number of bytes by which a call with an autodecrement mode of this register advances the program counter
abbrev pub over_back : Register → ℕ
over_back Pc = 0
over_back other = 2

-- the number of bytes by which a call with this operand advances the program counter: past its code, and past an index word or an address
-- after it, minus the bytes by which the mode decrements the program counter
abbrev pub length_by : Mode → Register → ℕ
length_by mode.Register register = 2
length_by mode.RegisterDeferred register = 2
length_by mode.Autoincrement register = over_forward register
length_by mode.AutoincrementDeferred register = over_forward register
length_by mode.Autodecrement register = over_back register
length_by mode.AutodecrementDeferred register = over_back register
length_by mode.Index register = 4
length_by mode.IndexDeferred register = 4

abbrev pub call_length : Operand → ℕ
call_length operand = length_by operand.mode operand.register

-- the machine's next instruction is a call through this register, one of the registers 0 to 5; the operand's mode changes neither that
-- register nor the stack pointer, and the push goes to memory
pub record IsCall (register : Register) (operand : Operand) (m : Machine) : Type 0 where
  pub running : IsRunning m
  pub code : IsAt (insn.Register Jsr register operand) m
  pub linked : register_number register < 6
  pub link_not_stepped : steps operand register ≡ false
  pub stack_not_stepped : steps operand Sp ≡ false
  pub pushed : IsWordInside (push_address m) m

-- one more step leads to the word after the call, and the register and the stack pointer are as before
pub record CallIsOver (register : Register) (operand : Operand) (m called : Machine) : Type 0 where
  pub returned : Machine
  pub in_one_step : step called ≡ Comes (Next, returned)
  pub counter : register_of Pc returned ≡ (register_of Pc m + call_length operand) % 0o200000
  pub link : register_of register returned ≡ register_of register m
  pub stack : register_of Sp returned ≡ register_of Sp m

-- the call goes to this address, and returns if RTS with the call's register is there after the push
pub record CallReturns (register : Register) (operand : Operand) (m : Machine) (exchanges : List Exchange)
    (address : ℕ) : Type 0 where
  pub called : Machine
  pub in_one_step : Leads (step m) exchanges (Next, called)
  pub counter : register_of Pc called ≡ address
  pub comes_back : IsAt (insn.Rts register) called → CallIsOver register operand m called

-- a call goes to its operand's address, which is formed after the code is read, and returns as `CallReturns` says
abbrev pub CallsReturn : Register → Operand → Machine → Type 0
CallsReturn register operand m = (exchanges : List Exchange) (address : ℕ) (formed : Machine)
    → IsCall register operand m → Leads (target operand (advanced Pc 2 m)) exchanges (Ok address, formed)
    → CallReturns register operand m exchanges address

-- some machine makes a call as `IsCall` describes it, and the call's target is formed without an exchange with the console
pub record CallIsMade : Type 0 where
  pub register : Register
  pub operand : Operand
  pub machine : Machine
  pub address : ℕ
  pub formed : Machine
  pub is_call : IsCall register operand machine
  pub target_formed : target operand (advanced Pc 2 machine) ≡ Comes (Ok address, formed)

-- the machine's next instruction is a call that saves no register: JSR PC; the operand's mode doesn't change the stack pointer, and the
-- push goes to memory
pub record IsPlainCall (operand : Operand) (m : Machine) : Type 0 where
  pub running : IsRunning m
  pub code : IsAt (insn.Register Jsr Pc operand) m
  pub stack_not_stepped : steps operand Sp ≡ false
  pub pushed : IsWordInside (push_address m) m

-- one more step leads to the word after the call, and the stack pointer is as before
pub record PlainCallIsOver (operand : Operand) (m called : Machine) : Type 0 where
  pub returned : Machine
  pub in_one_step : step called ≡ Comes (Next, returned)
  pub counter : register_of Pc returned ≡ (register_of Pc m + call_length operand) % 0o200000
  pub stack : register_of Sp returned ≡ register_of Sp m

-- the call goes to this address, and returns if RTS PC is there after the push
pub record PlainCallReturns (operand : Operand) (m : Machine) (exchanges : List Exchange) (address : ℕ) : Type 0 where
  pub called : Machine
  pub in_one_step : Leads (step m) exchanges (Next, called)
  pub counter : register_of Pc called ≡ address
  pub comes_back : IsAt (insn.Rts Pc) called → PlainCallIsOver operand m called

abbrev pub PlainCallsReturn : Operand → Machine → Type 0
PlainCallsReturn operand m = (exchanges : List Exchange) (address : ℕ) (formed : Machine)
    → IsPlainCall operand m → Leads (target operand (advanced Pc 2 m)) exchanges (Ok address, formed)
    → PlainCallReturns operand m exchanges address

pub record PlainCallIsMade : Type 0 where
  pub operand : Operand
  pub machine : Machine
  pub address : ℕ
  pub formed : Machine
  pub is_call : IsPlainCall operand machine
  pub target_formed : target operand (advanced Pc 2 machine) ≡ Comes (Ok address, formed)

-- ---- traps

-- both pushes of a trap go to memory
abbrev pub HasRoom : Machine → Type 0
HasRoom m = IsWordInside (push_address m) m × IsWordInside (push_address (stack_deepened m)) m

-- one more step leads back to this program counter, and the processor status word and the stack pointer are as before
pub record TrapIsOver (counter_before : ℕ) (m trapped : Machine) : Type 0 where
  pub returned : Machine
  pub in_one_step : step trapped ≡ Comes (Next, returned)
  pub counter : register_of Pc returned ≡ counter_before
  pub status : psw_in returned ≡ psw_in m
  pub stack : register_of Sp returned ≡ register_of Sp m

-- the program counter and the processor status word are those of the vector; of the latter only the low byte is loaded
pub record IsTrapped (vector : Vector) (trapped : Machine) : Type 0 where
  pub counter : register_of Pc trapped ≡ word_at trapped.memory (vector_address vector)
  pub status : psw_in trapped ≡ word_at trapped.memory (vector_address vector + 2) % 256

-- a trap through this vector returns if RTI is at the vector's program counter after the pushes
pub record TrapReturns (vector : Vector) (m : Machine) : Type 0 where
  pub trapped : Machine
  pub traps : trap vector m ≡ Comes (Next, trapped)
  pub by_vector : IsTrapped vector trapped
  pub comes_back : IsAt (insn.Bare Rti) trapped → TrapIsOver (register_of Pc m) m trapped

-- the vector of an instruction that always traps; None for any other
abbrev pub vector_of : Insn → Option Vector
vector_of (insn.Bare Bpt) = Some vector.Breakpoint
vector_of (insn.Bare Iot) = Some vector.InputOutput
vector_of (insn.Number Emt number) = Some vector.Emulator
vector_of (insn.Number Trap number) = Some vector.Trap
vector_of (insn.Reserved word) = Some vector.Reserved
vector_of other = None

-- a step of an instruction that always traps goes through its vector; if RTI is at the vector's program counter after the pushes, one more
-- step returns to the word after the instruction
pub record TrapInstructionReturns (vector : Vector) (m : Machine) : Type 0 where
  pub trapped : Machine
  pub in_one_step : step m ≡ Comes (Next, trapped)
  pub by_vector : IsTrapped vector trapped
  pub comes_back : IsAt (insn.Bare Rti) trapped → TrapIsOver ((register_of Pc m + 2) % 0o200000) m trapped

abbrev pub TrapInstructionsReturn : Insn → Vector → Machine → Type 0
TrapInstructionsReturn code vector m = IsRunning m → IsAt code m → vector_of code ≡ Some vector → HasRoom m
    → TrapInstructionReturns vector m
