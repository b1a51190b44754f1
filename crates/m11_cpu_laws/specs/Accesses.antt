-- The addresses that each instruction accesses, in order; an instruction traps through 4 if and only if it finds nothing at one of them.
-- (PDP-11/40 Processor Handbook, "Addressing modes", "Instruction set", "Processor traps".)
use Rattle.std.specs.Prelude.{◌≡◌, ℕ, ◌+◌, ◌*◌, ◌%◌, Bool, true, List, [], ◌∷◌, ◌++◌, length, Result, Ok, Err, ◌⊎◌}
use Rattle.m11_base.specs.declared.instruction.BareOp.TheVariants.{Rti, Rtt}
use Rattle.m11_base.specs.declared.instruction.Insn.{Insn}
use Rattle.m11_base.specs.declared.instruction.Insn.TheVariants as insn
use Rattle.m11_base.specs.declared.instruction.NumberOp.TheVariants.{Mark}
use Rattle.m11_base.specs.declared.instruction.RegisterOp.TheVariants.{Jsr, Xor}
use Rattle.m11_base.specs.declared.instruction.SingleOp.TheVariants.{Jmp}
use Rattle.m11_base.specs.declared.operand.Mode.{Mode}
use Rattle.m11_base.specs.declared.operand.Mode.TheVariants as mode
use Rattle.m11_base.specs.declared.operand.Operand.{Operand}
use Rattle.m11_base.specs.declared.operand.Register.{Register}
use Rattle.m11_base.specs.declared.operand.Register.TheVariants.{Sp, Pc}
use Rattle.m11_base.specs.declared.operand.Size.{Size}
use Rattle.m11_base.specs.declared.operand.Size.TheVariants.{Word, Byte}
use Rattle.m11_cpu_machine.specs.Acts.{Act, ◌>>=◌}
use Rattle.m11_cpu_machine.specs.Addressing.{fetch_operand, indexed, location_of, next_word, stepped_back}
use Rattle.m11_cpu_machine.specs.Dialogue.{Comes, Dialogue, Exchange, Leads}
use Rattle.m11_cpu_machine.specs.Execution.{execute}
use Rattle.m11_cpu_machine.specs.Jumps.{address_of, pop, target}
use Rattle.m11_cpu_machine.specs.Machine.{register_of}
use Rattle.m11_cpu_machine.specs.declared.abort.Abort.{Abort}
use Rattle.m11_cpu_machine.specs.declared.abort.Abort.TheVariants.{Traps}
use Rattle.m11_cpu_machine.specs.declared.abort.Vector.TheVariants.{BusError}
use Rattle.m11_cpu_machine.specs.declared.machine.Machine.{Machine}
use Rattle.m11_cpu_laws.specs.Addresses.{no_byte_at, no_word_at}
use Rattle.m11_cpu_laws.specs.Writes.{push_address}

-- ---- accesses

-- an access to a word or a byte; `address` does everything that the instruction does before the access, and yields the address of
-- the access
pub record Access : Type 0 where
  pub size : Size
  pub address : Act ℕ

-- an access to a word, before which nothing is done: its address is a function of the machine
abbrev pub word_at_first : (Machine → ℕ) → Access
word_at_first of = record { size = Word; address = λ m. Comes (Ok (of m), m) }

-- these accesses, with this act before each of them
abbrev pub after_act : {A : Type 0} → Act A → List Access → List Access
after_act act [] = []
after_act act (access ∷ accesses) =
    record { size = access.size; address = act >>= λ x. access.address } ∷ after_act act accesses

-- the accesses that lead to the address of an operand: none; a pointer; an index word; or an index word, and the pointer at its sum with
-- the register
abbrev pub pointers_by : Mode → Register → List Access
pointers_by mode.Register register = []
pointers_by mode.RegisterDeferred register = []
pointers_by mode.Autoincrement register = []
pointers_by mode.AutoincrementDeferred register = word_at_first (register_of register) ∷ []
pointers_by mode.Autodecrement register = []
pointers_by mode.AutodecrementDeferred register = word_at_first (stepped_back register 2) ∷ []
pointers_by mode.Index register = word_at_first (register_of Pc) ∷ []
pointers_by mode.IndexDeferred register =
    word_at_first (register_of Pc)
    ∷ record { size = Word; address = indexed register >>= λ address n. Comes (Ok address, n) } ∷ []

abbrev pub pointers : Operand → List Access
pointers operand = pointers_by operand.mode operand.register

-- the accesses of an operand: those that lead to its address, and the operand itself unless it is a register
abbrev pub operand_accesses : Operand → Size → List Access
operand_accesses operand size =
    pointers operand ++ record { size = size; address = location_of operand size >>= address_of } ∷ []

-- the accesses of an instruction after its code is read; a destination is one access, whether it is read, written or both
abbrev pub accesses_of : Insn → List Access
accesses_of (insn.Double operation size source destination) =
    operand_accesses source size ++ after_act (fetch_operand source size) (operand_accesses destination size)
accesses_of (insn.Extended operation register source) = operand_accesses source Word
accesses_of (insn.Register Jsr register operand) =
    pointers operand ++ after_act (target operand) (word_at_first push_address ∷ [])
accesses_of (insn.Register Xor register operand) = operand_accesses operand Word
accesses_of (insn.Single Jmp size operand) = pointers operand
accesses_of (insn.Single operation size operand) = operand_accesses operand size
accesses_of (insn.Rts register) = word_at_first (register_of Sp) ∷ []
accesses_of (insn.Number Mark number) = word_at_first (λ m. (register_of Pc m + number * 2) % 0o200000) ∷ []
accesses_of (insn.Bare Rti) = word_at_first (register_of Sp) ∷ after_act pop (word_at_first (register_of Sp) ∷ [])
accesses_of (insn.Bare Rtt) = word_at_first (register_of Sp) ∷ after_act pop (word_at_first (register_of Sp) ∷ [])
accesses_of other = []

-- ---- accesses that trap

-- whether there is nothing at an address for an access of this size
abbrev pub is_nothing : Size → ℕ → Machine → Bool
is_nothing Word address m = no_word_at address m
is_nothing Byte address m = no_byte_at address m

-- these exchanges lead to the access, and nothing is at its address
pub record FindsNothing (access : Access) (m : Machine) (exchanges : List Exchange) : Type 0 where
  pub address : ℕ
  pub before : Machine
  pub leads_here : Leads (access.address m) exchanges (Ok address, before)
  pub nothing : is_nothing access.size address before ≡ true

abbrev pub SomeFindsNothing : List Access → Machine → List Exchange → Type 0
SomeFindsNothing [] m exchanges = ⊥
SomeFindsNothing (access ∷ accesses) m exchanges = FindsNothing access m exchanges ⊎ SomeFindsNothing accesses m exchanges

-- after these exchanges, a dialogue ends with the trap through 4, and the machine is then `left`
abbrev pub EndsAt4 : {A : Type 0} → Dialogue (Result A Abort × Machine) → List Exchange → Machine → Type 0
EndsAt4 {A = A} d exchanges left = Leads {A = Result A Abort × Machine} d exchanges (Err (Traps BusError), left)

-- a dialogue traps through 4 if and only if one of these accesses finds nothing
pub record TrapsAtThese {A : Type 0} (d : Dialogue (Result A Abort × Machine)) (accesses : List Access) (m : Machine) : Type 0
  where
    pub only : (exchanges : List Exchange) (left : Machine) → EndsAt4 d exchanges left
        → SomeFindsNothing accesses m exchanges
    pub each : (exchanges : List Exchange) → SomeFindsNothing accesses m exchanges
        → (left : Machine) × EndsAt4 d exchanges left

-- an instruction of a machine with eight registers, once its code is read, traps through 4 if and only if one of its accesses finds
-- nothing
abbrev pub InstructionTraps : Insn → Machine → Type 0
InstructionTraps code m = length m.registers ≡ 8 → TrapsAtThese (execute code m) (accesses_of code) m

-- reading the code traps through 4 if and only if the access to the word at the program counter finds nothing
abbrev pub CodeTraps : Machine → Type 0
CodeTraps m = TrapsAtThese (next_word m) (word_at_first (register_of Pc) ∷ []) m
