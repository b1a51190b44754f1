-- The registers that an instruction and its traps may change; all others are unchanged. (PDP-11/40 Processor Handbook, "Addressing modes",
-- "Instruction set", "Processor traps".)
use Rattle.std.specs.Prelude.{◌≡◌, ℕ, Bool, true, false, ◌||◌, if◌then◌else◌, List, [], ◌∷◌, ◌++◌, Result, Ok, Err}
use Rattle.m11_base.specs.Instructions.{instruction_of}
use Rattle.m11_base.specs.Operand.{register_number}
use Rattle.m11_base.specs.declared.instruction.BareOp.TheVariants.{Rti, Rtt}
use Rattle.m11_base.specs.declared.instruction.ExtendedOp.{ExtendedOp}
use Rattle.m11_base.specs.declared.instruction.ExtendedOp.TheVariants.{Mul, Div, Ash, Ashc}
use Rattle.m11_base.specs.declared.instruction.Insn.{Insn}
use Rattle.m11_base.specs.declared.instruction.Insn.TheVariants as insn
use Rattle.m11_base.specs.declared.instruction.NumberOp.TheVariants.{Mark}
use Rattle.m11_base.specs.declared.instruction.RegisterOp.TheVariants.{Jsr, Xor}
use Rattle.m11_base.specs.declared.operand.Mode.{Mode}
use Rattle.m11_base.specs.declared.operand.Mode.TheVariants as mode
use Rattle.m11_base.specs.declared.operand.Operand.{Operand}
use Rattle.m11_base.specs.declared.operand.Register.{Register}
use Rattle.m11_base.specs.declared.operand.Register.TheVariants.{Pc, R5, Sp}
use Rattle.m11_cpu_machine.specs.Dialogue.{Exchange}
use Rattle.m11_cpu_machine.specs.Extended.{low_word_of}
use Rattle.m11_cpu_machine.specs.Machine.{register_of}
use Rattle.m11_cpu_machine.specs.Addressing.{next_word}
use Rattle.m11_cpu_machine.specs.Steps.{instruction}
use Rattle.m11_cpu_machine.specs.declared.abort.Abort.{Abort}
use Rattle.m11_cpu_machine.specs.declared.abort.Abort.TheVariants.{Traps, Stops}
use Rattle.m11_cpu_machine.specs.declared.execution.Ending.{Ending}
use Rattle.m11_cpu_machine.specs.declared.execution.Ending.TheVariants as ending
use Rattle.m11_cpu_machine.specs.declared.machine.Machine.{Machine}
use Rattle.m11_cpu_laws.specs.Exchanges.{ComesWithin}
use Rattle.m11_cpu_laws.specs.Returns.{is_stepping}
use Rattle.m11_cpu_laws.specs.Writes.{IsNoneOf, stores_double, stores_single}

-- all registers are unchanged except the program counter and those with these numbers
pub record RegistersStay (changed : List ℕ) (old new : Machine) : Type 0 where
  pub stays : (register : Register) → IsNoneOf (register_number register) (register_number Pc ∷ changed)
      → register_of register new ≡ register_of register old

-- a list with the number of the register that an operand's mode increments or decrements; empty if the mode does neither
abbrev pub stepped : Operand → List ℕ
stepped operand = if is_stepping operand.mode then register_number operand.register ∷ [] else []

-- whether the operand in this mode is the register itself, so that a result for the operand is stored in the register
abbrev pub is_direct : Mode → Bool
is_direct mode.Register = true
is_direct other = false

abbrev pub stepped_or_stored : Operand → List ℕ
stepped_or_stored operand =
    if is_direct operand.mode || is_stepping operand.mode then register_number operand.register ∷ [] else []

abbrev pub by_destination : Bool → Operand → List ℕ
by_destination stores operand = if stores then stepped_or_stored operand else stepped operand

-- the numbers of the registers in which an extended instruction with the register R may store its result: for MUL, DIV and ASHC these are
-- R and the register of the low word, whose number is that of R with the lowest bit set; for ASH only R
abbrev pub by_extended : ExtendedOp → Register → List ℕ
by_extended Mul register = register_number register ∷ register_number (low_word_of register) ∷ []
by_extended Div register = register_number register ∷ register_number (low_word_of register) ∷ []
by_extended Ash register = register_number register ∷ []
by_extended Ashc register = register_number register ∷ register_number (low_word_of register) ∷ []

abbrev pub changed_by : Insn → List ℕ
changed_by (insn.Double operation size source destination) =
    stepped source ++ by_destination (stores_double operation) destination
changed_by (insn.Extended operation register source) = stepped source ++ by_extended operation register
changed_by (insn.Register Jsr register operand) =
    stepped operand ++ (register_number register ∷ register_number Sp ∷ [])
changed_by (insn.Register Xor register operand) = stepped_or_stored operand
changed_by (insn.Sob register words) = register_number register ∷ []
changed_by (insn.Single operation size operand) = by_destination (stores_single operation) operand
changed_by (insn.Rts register) = register_number register ∷ register_number Sp ∷ []
changed_by (insn.Number Mark number) = register_number R5 ∷ register_number Sp ∷ []
changed_by (insn.Bare Rti) = register_number Sp ∷ []
changed_by (insn.Bare Rtt) = register_number Sp ∷ []
changed_by other = []

-- the numbers of the registers, besides the program counter, that an instruction may change after its code was read; none if no code could
-- be read
abbrev pub changed_by_code : Result ℕ Abort → List ℕ
changed_by_code (Ok word) = changed_by (instruction_of word)
changed_by_code (Err abort) = []

-- a list with the number of the stack pointer if a trap follows an instruction: the instruction's own trap, or a trace trap if the
-- instruction leaves T set and isn't RTT, HALT or WAIT; empty if no trap follows
abbrev pub changed_after : Result Ending Abort → Machine → List ℕ
changed_after (Ok ending.Next) m = if m.status.trace then register_number Sp ∷ [] else []
changed_after (Ok ending.Untraced) m = []
changed_after (Ok ending.Halts) m = []
changed_after (Ok ending.Waits) m = []
changed_after (Err (Traps vector)) m = register_number Sp ∷ []
changed_after (Err (Stops stop)) m = []

-- a step changes at most the program counter, the registers that its instruction changes, even an aborted one, and then those that its
-- trap changes
pub record StepRegisters (m : Machine) (exchanges : List Exchange) (m' : Machine) : Type 0 where
  pub fetched : Result ℕ Abort × Machine
  pub executed : Result Ending Abort × Machine
  pub is_fetched : ComesWithin (next_word m) exchanges fetched
  pub is_executed : ComesWithin (instruction m) exchanges executed
  pub by_instruction : RegistersStay (changed_by_code fetched.0) m executed.1
  pub by_trap : RegistersStay (changed_after executed.0 executed.1) executed.1 m'
  pub by_step : RegistersStay (changed_by_code fetched.0 ++ changed_after executed.0 executed.1) m m'
