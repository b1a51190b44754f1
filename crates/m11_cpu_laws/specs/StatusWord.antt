-- The processor status word: what a store at its address changes, and what RTI, RTT and traps load. (PDP-11/40 Processor Handbook,
-- "Processor status word", "Trace trap", RTI, RTT. Three things are this project's own: that a store leaves T unchanged, that it overrides
-- the instruction's condition codes, and that it is ignored at the odd byte.)
use Rattle.std.specs.Prelude.{◌≡◌, ℕ, ◌+◌, ◌≤◌, Bool, true, false, List, ◌++◌, Ok}
use Rattle.m11_base.specs.declared.instruction.BareOp.{BareOp}
use Rattle.m11_base.specs.declared.instruction.BareOp.TheVariants.{Rti, Rtt}
use Rattle.m11_base.specs.declared.instruction.DoubleOp.{DoubleOp}
use Rattle.m11_base.specs.declared.instruction.Insn.{Insn}
use Rattle.m11_base.specs.declared.instruction.Insn.TheVariants as insn
use Rattle.m11_base.specs.declared.instruction.RegisterOp.TheVariants.{Jsr, Xor}
use Rattle.m11_base.specs.declared.instruction.SingleOp.{SingleOp}
use Rattle.m11_base.specs.declared.operand.Operand.{Operand}
use Rattle.m11_base.specs.declared.operand.Register.{Register}
use Rattle.m11_base.specs.declared.operand.Register.TheVariants.{Pc}
use Rattle.m11_base.specs.declared.operand.Size.{Size}
use Rattle.m11_base.specs.declared.operand.Size.TheVariants.{Word, Byte}
use Rattle.m11_cpu_arithmetic.specs.Doubles.{double_result, exclusive_or_result}
use Rattle.m11_cpu_arithmetic.specs.Singles.{single_result}
use Rattle.m11_cpu_arithmetic.specs.declared.results.Computed.{Computed}
use Rattle.m11_cpu_machine.specs.Addressing.{fetch_operand, location_of}
use Rattle.m11_cpu_machine.specs.Dialogue.{Exchange, Leads}
use Rattle.m11_cpu_machine.specs.Execution.{execute}
use Rattle.m11_cpu_machine.specs.Jumps.{pop, target}
use Rattle.m11_cpu_machine.specs.Machine.{memory_size, psw_in, register_of, with_condition_codes, with_register}
use Rattle.m11_cpu_machine.specs.Memory.{word_at}
use Rattle.m11_cpu_machine.specs.Status.{status_of, status_written}
use Rattle.m11_cpu_machine.specs.Traps.{trap, vector_address}
use Rattle.m11_cpu_machine.specs.declared.abort.Vector.{Vector}
use Rattle.m11_cpu_machine.specs.declared.addressing.OperandLocation.TheVariants.{InMemory}
use Rattle.m11_cpu_machine.specs.declared.execution.Ending.{Ending}
use Rattle.m11_cpu_machine.specs.declared.execution.Ending.TheVariants as ending
use Rattle.m11_cpu_machine.specs.declared.machine.Machine.{Machine}
use Rattle.m11_cpu_machine.specs.declared.stop.Turn.TheVariants.{Next}
use Rattle.m11_cpu_laws.specs.Writes.{push_address, stack_deepened, stores_double, stores_single}

-- memory ends at or below octal 160000, where the addresses of device registers begin
abbrev pub EndsBeforeDevices : Machine → Type 0
EndsBeforeDevices m = memory_size m ≤ 0o160000

-- ---- the machine after an instruction whose destination is the status word

-- the machine whose status is this word, but with T as before; nothing else changes, so the condition codes are those of the word
abbrev pub with_status_word : ℕ → Machine → Machine
with_status_word word m = record m { status = status_written word m.status }

-- after these exchanges, an instruction ends, and the machine is then `left`
abbrev pub EndsAs : Insn → Machine → List Exchange → Machine → Type 0
EndsAs code m exchanges left = Leads (execute code m) exchanges (Ok ending.Next, left)

-- an instruction with a destination at this address, which computes `result` from the value there, leaves the machine as follows: a result
-- stored at 177776 becomes the whole status word except T; a byte stored at 177777 is ignored, the byte there reads as 0, and the condition
-- codes are those of the result
pub record AtStatus (result : ℕ → Computed) (size : Size) (address : ℕ) (formed : Machine) (Leaves : Machine → Type 0) : Type 0
  where
    pub stored : address ≡ 0o177776 → Leaves (with_status_word (result (psw_in formed)).value formed)
    pub ignored : address ≡ 0o177777 → size ≡ Byte → Leaves (with_condition_codes (result 0).codes formed)

-- `AtStatus` holds of double operand instructions that store a result, once the source is fetched and the address of the
-- destination is formed
abbrev pub DoublesAtStatus : DoubleOp → Size → Operand → Operand → Machine → Type 0
DoublesAtStatus operation size source destination m =
    (first second : List Exchange) (value address : ℕ) (n formed : Machine) → stores_double operation ≡ true
    → Leads (fetch_operand source size m) first (Ok value, n)
    → Leads (location_of destination size n) second (Ok (InMemory address), formed) → EndsBeforeDevices formed
    → AtStatus (λ read. double_result operation size value read formed.status.codes) size address formed
    (EndsAs (insn.Double operation size source destination) m (first ++ second))

-- `AtStatus` holds of single operand instructions that store a result, once the address of the operand is formed
abbrev pub SinglesAtStatus : SingleOp → Size → Operand → Machine → Type 0
SinglesAtStatus operation size operand m =
    (exchanges : List Exchange) (address : ℕ) (formed : Machine) → stores_single operation ≡ true
    → Leads (location_of operand size m) exchanges (Ok (InMemory address), formed) → EndsBeforeDevices formed
    → AtStatus (λ read. single_result operation size read formed.status.codes) size address formed
    (EndsAs (insn.Single operation size operand) m exchanges)

-- `AtStatus` holds of XOR, which operates on words only, once the address of the destination is formed
abbrev pub ExclusivesAtStatus : Register → Operand → Machine → Type 0
ExclusivesAtStatus register operand m =
    (exchanges : List Exchange) (address : ℕ) (formed : Machine)
    → Leads (location_of operand Word m) exchanges (Ok (InMemory address), formed) → EndsBeforeDevices formed
    → AtStatus (λ read. exclusive_or_result (register_of register m) read formed.status.codes) Word address formed
    (EndsAs (insn.Register Xor register operand) m exchanges)

-- if the push of JSR goes to the status word, the pushed register becomes the whole status word except T, and JSR jumps to the address of
-- its operand
abbrev pub CallsAtStatus : Register → Operand → Machine → Type 0
CallsAtStatus register operand m =
    (exchanges : List Exchange) (address : ℕ) (formed : Machine)
    → Leads (target operand m) exchanges (Ok address, formed) → push_address formed ≡ 0o177776 → EndsBeforeDevices formed
    → EndsAs (insn.Register Jsr register operand) m exchanges
    (with_register Pc address (with_register register (register_of Pc (stack_deepened formed))
    (with_status_word (register_of register formed) (stack_deepened formed))))

-- ---- T

-- whether an instruction loads T: only RTI and RTT do
abbrev pub loads_trace : Insn → Bool
loads_trace (insn.Bare Rti) = true
loads_trace (insn.Bare Rtt) = true
loads_trace other = false

-- the ending of RTI and of RTT
abbrev pub return_ending : BareOp → Ending
return_ending Rtt = ending.Untraced
return_ending other = ending.Next

abbrev pub is_return : BareOp → Bool
is_return Rti = true
is_return Rtt = true
is_return other = false

-- RTI and RTT load the whole status from the second word that they pop
abbrev pub ReturnsLoad : BareOp → Machine → Type 0
ReturnsLoad operation m =
    (first second : List Exchange) (address word : ℕ) (n o : Machine) → is_return operation ≡ true
    → Leads (pop m) first (Ok address, n) → Leads (pop (with_register Pc address n)) second (Ok word, o)
    → Leads (execute (insn.Bare operation) m) (first ++ second)
    (Ok (return_ending operation), record o { status = status_of word })

-- a trap loads the status from the second word of its vector
abbrev pub TrapsLoad : Vector → Machine → Type 0
TrapsLoad vector m = (exchanges : List Exchange) (trapped : Machine) → Leads (trap vector m) exchanges (Next, trapped)
    → trapped.status ≡ status_of (word_at trapped.memory (vector_address vector + 2))
