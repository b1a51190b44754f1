-- The bytes of memory that an instruction and its traps may write; all others are unchanged. (PDP-11/40 Processor Handbook, "Instruction
-- set": the operation of each instruction; "Processor traps".)
use Rattle.std.specs.Prelude.{◌≡◌, ◌≢◌, ℕ, ◌+◌, ◌%◌, Bool, true, false, if◌then◌else◌, List, [], ◌∷◌, ◌++◌, ⊤, None, Result, Ok, Err}
use Rattle.m11_base.specs.Instructions.{instruction_of}
use Rattle.m11_base.specs.declared.instruction.DoubleOp.{DoubleOp}
use Rattle.m11_base.specs.declared.instruction.DoubleOp.TheVariants.{Mov, Cmp, Bit, Bic, Bis, Add, Sub}
use Rattle.m11_base.specs.declared.instruction.Insn.{Insn}
use Rattle.m11_base.specs.declared.instruction.Insn.TheVariants as insn
use Rattle.m11_base.specs.declared.instruction.RegisterOp.TheVariants.{Jsr, Xor}
use Rattle.m11_base.specs.declared.instruction.SingleOp.{SingleOp}
use Rattle.m11_base.specs.declared.instruction.SingleOp.TheVariants.{Jmp, Swab, Clr, Com, Inc, Dec, Neg, Adc, Sbc, Tst, Ror, Rol, Asr, Asl, Sxt}
use Rattle.m11_base.specs.declared.operand.Operand.{Operand}
use Rattle.m11_base.specs.declared.operand.Register.TheVariants.{Sp}
use Rattle.m11_base.specs.declared.operand.Size.{Size}
use Rattle.m11_base.specs.declared.operand.Size.TheVariants.{Word, Byte}
use Rattle.m11_cpu_machine.specs.Acts.{Act, ◌>>=◌}
use Rattle.m11_cpu_machine.specs.Dialogue.{Comes, Exchange}
use Rattle.m11_cpu_machine.specs.Jumps.{target}
use Rattle.m11_cpu_machine.specs.Machine.{byte_in, memory_size, register_of, with_register}
use Rattle.m11_cpu_machine.specs.Addressing.{fetch_operand, location_of, next_word}
use Rattle.m11_cpu_machine.specs.Steps.{instruction}
use Rattle.m11_cpu_machine.specs.declared.abort.Abort.{Abort}
use Rattle.m11_cpu_machine.specs.declared.abort.Abort.TheVariants.{Traps, Stops}
use Rattle.m11_cpu_machine.specs.declared.execution.Ending.{Ending}
use Rattle.m11_cpu_machine.specs.declared.execution.Ending.TheVariants as ending
use Rattle.m11_cpu_machine.specs.declared.machine.Machine.{Machine}
use Rattle.m11_cpu_machine.specs.declared.addressing.OperandLocation.{OperandLocation}
use Rattle.m11_cpu_machine.specs.declared.addressing.OperandLocation.TheVariants.{InRegister, InMemory}
use Rattle.m11_cpu_laws.specs.Exchanges.{ComesWithin}

-- ---- bytes that are unchanged

-- an address, or the number of a register, differs from all of these
abbrev pub IsNoneOf : ℕ → List ℕ → Type 0
IsNoneOf address [] = ⊤
IsNoneOf address (other ∷ others) = (address ≢ other) × IsNoneOf address others

-- the size of memory is unchanged, and so is every byte except those at these addresses
pub record StaysBut (written : List ℕ) (old new : Machine) : Type 0 where
  pub size : memory_size new ≡ memory_size old
  pub bytes : (address : ℕ) → IsNoneOf address written → byte_in address new ≡ byte_in address old

-- at most the registers and the console of the machine have changed
pub record IsElseAsBefore (old new : Machine) : Type 0 where
  pub memory : new.memory ≡ old.memory
  pub status : new.status ≡ old.status
  pub stopped : new.stopped ≡ old.stopped

-- the machine has no lasting stop
abbrev pub MakesSteps : Machine → Type 0
MakesSteps m = m.stopped ≡ None

-- ---- addresses of bytes

abbrev pub word_bytes : ℕ → List ℕ
word_bytes address = address ∷ (address + 1) ∷ []

-- the addresses of a location's bytes: two or one in memory, none in a register
abbrev pub location_bytes : OperandLocation → Size → List ℕ
location_bytes (InRegister register) size = []
location_bytes (InMemory address) Word = word_bytes address
location_bytes (InMemory address) Byte = address ∷ []

-- the address that a push writes to: that of the word below the stack pointer, modulo octal 200000; the push sets the stack pointer to it
abbrev pub push_address : Machine → ℕ
push_address m = (register_of Sp m + 0o177776) % 0o200000

abbrev pub stack_deepened : Machine → Machine
stack_deepened m = with_register Sp (push_address m) m

-- the addresses of the bytes of the word that JSR pushes, and of the two words that a trap pushes
abbrev pub one_pushed : Machine → List ℕ
one_pushed m = word_bytes (push_address m)

abbrev pub two_pushed : Machine → List ℕ
two_pushed m = one_pushed m ++ one_pushed (stack_deepened m)

-- ---- the destination of an instruction

-- whether an operation stores its result: all do but CMP and BIT
abbrev pub stores_double : DoubleOp → Bool
stores_double Mov = true
stores_double Cmp = false
stores_double Bit = false
stores_double Bic = true
stores_double Bis = true
stores_double Add = true
stores_double Sub = true

-- whether an operation stores its result: all do but JMP, which has none, and TST
abbrev pub stores_single : SingleOp → Bool
stores_single Jmp = false
stores_single Swab = true
stores_single Clr = true
stores_single Com = true
stores_single Inc = true
stores_single Dec = true
stores_single Neg = true
stores_single Adc = true
stores_single Sbc = true
stores_single Tst = false
stores_single Ror = true
stores_single Rol = true
stores_single Asr = true
stores_single Asl = true
stores_single Sxt = true

-- forms the address of an operand, and yields the addresses of the operand's bytes
abbrev pub operand_bytes : Operand → Size → Act (List ℕ)
operand_bytes operand size = location_of operand size >>= λ location m. Comes (Ok (location_bytes location size), m)

abbrev pub no_bytes : Act (List ℕ)
no_bytes m = Comes (Ok [], m)

-- yields the addresses of the bytes that an instruction may write: those of its destination, whose address is formed after a source
-- is fetched; and for JSR those of the word that it pushes after its target is formed; the other instructions write at most registers, the
-- processor status word and the console
abbrev pub destination_bytes : Insn → Act (List ℕ)
destination_bytes (insn.Double operation size source destination) =
    if stores_double operation then (fetch_operand source size >>= λ value. operand_bytes destination size)
    else no_bytes
destination_bytes (insn.Extended operation register source) = no_bytes
destination_bytes (insn.Register Jsr register operand) = target operand >>= λ address m. Comes (Ok (one_pushed m), m)
destination_bytes (insn.Register Xor register operand) = operand_bytes operand Word
destination_bytes (insn.Sob register words) = no_bytes
destination_bytes (insn.Single operation size operand) =
    if stores_single operation then operand_bytes operand size else no_bytes
destination_bytes (insn.Rts register) = no_bytes
destination_bytes (insn.Number operation number) = no_bytes
destination_bytes (insn.Bare operation) = no_bytes
destination_bytes (insn.Condition operation named) = no_bytes
destination_bytes (insn.Branch operation words) = no_bytes
destination_bytes (insn.Reserved word) = no_bytes

-- reads the word at the program counter, and yields the addresses of the bytes that its instruction may write
unfoldable pub written_bytes : Act (List ℕ)
written_bytes = next_word >>= λ word. destination_bytes (instruction_of word)

-- ---- a step

-- the addresses of the bytes that an instruction may have written; none if it was aborted
abbrev pub written_by : {A : Type 0} → Result A Abort → Result (List ℕ) Abort → List ℕ
written_by (Ok done) (Ok bytes) = bytes
written_by (Ok done) (Err abort) = []
written_by (Err abort) bytes = []

-- the addresses of the bytes that the trap after an instruction pushes: the instruction's own trap, or a trace trap if the instruction
-- leaves T set and isn't RTT, HALT or WAIT; none if no trap follows
abbrev pub pushed_after : Result Ending Abort → Machine → List ℕ
pushed_after (Ok ending.Next) m = if m.status.trace then two_pushed m else []
pushed_after (Ok ending.Untraced) m = []
pushed_after (Ok ending.Halts) m = []
pushed_after (Ok ending.Waits) m = []
pushed_after (Err (Traps vector)) m = two_pushed m
pushed_after (Err (Stops stop)) m = []

-- if an instruction is aborted, at most registers and the console have changed
abbrev pub AbortLeaves : {A : Type 0} → Result A Abort → Machine → Machine → Type 0
AbortLeaves (Ok done) m n = ⊤
AbortLeaves (Err abort) m n = IsElseAsBefore m n

-- a step writes at most the destination of its instruction, and then the words that its trap pushes; the console's replies in this
-- step determine the address of the destination and the outcome of the instruction
pub record StepWrites (m : Machine) (exchanges : List Exchange) (m' : Machine) : Type 0 where
  pub destination : Result (List ℕ) Abort × Machine
  pub executed : Result Ending Abort × Machine
  pub is_destination : ComesWithin (written_bytes m) exchanges destination
  pub is_executed : ComesWithin (instruction m) exchanges executed
  pub by_instruction : StaysBut (written_by executed.0 destination.0) m executed.1
  pub by_abort : AbortLeaves executed.0 m executed.1
  pub by_trap : StaysBut (pushed_after executed.0 executed.1) executed.1 m'
  pub by_step : StaysBut (written_by executed.0 destination.0 ++ pushed_after executed.0 executed.1) m m'
