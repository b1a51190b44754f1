-- The bytes that a store of a result may write: those of its location.
use Rattle.std.proofs.Common.{◌≡◌, ℕ, ◌%◌, Bool, true, false, cond, List, [], ◌∷◌, Option, Some, None, Result, Ok, refl, sym, subst}
use Rattle.m11_base.specs.declared.instruction.ConditionCodes.{ConditionCodes}
use Rattle.m11_base.specs.declared.instruction.DoubleOp.{DoubleOp}
use Rattle.m11_base.specs.declared.instruction.DoubleOp.TheVariants.{Mov}
use Rattle.m11_base.specs.declared.instruction.SingleOp.{SingleOp}
use Rattle.m11_base.specs.declared.operand.Size.{Size}
use Rattle.m11_base.specs.declared.operand.Size.TheVariants.{Word, Byte}
use Rattle.m11_cpu_arithmetic.specs.Doubles.{double_result}
use Rattle.m11_cpu_arithmetic.specs.declared.results.Computed.{Computed}
use Rattle.m11_cpu_machine.specs.Access.{is_inside, is_odd, send, sent, store_byte, store_device, store_odd, store_register, store_word}
use Rattle.m11_cpu_machine.specs.Acts.{Act, ◌>>=◌}
use Rattle.m11_cpu_machine.specs.Console.{device_at}
use Rattle.m11_cpu_machine.specs.Dialogue.{Comes}
use Rattle.m11_cpu_machine.specs.DoubleOperands.{change_double, change_exclusive, move_to, store_moved}
use Rattle.m11_cpu_machine.specs.Machine.{finished, is_status, with_condition_codes}
use Rattle.m11_cpu_machine.specs.Addressing.{fetch, store_result, store}
use Rattle.m11_cpu_machine.specs.SingleOperands.{change_at}
use Rattle.m11_cpu_laws.specs.Writes.{location_bytes, word_bytes, written_by}
use Rattle.m11_cpu_machine.specs.declared.abort.Abort.{Abort}
use Rattle.m11_cpu_machine.specs.declared.console.DeviceRegister.{DeviceRegister}
use Rattle.m11_cpu_machine.specs.declared.console.DeviceRegister.TheVariants.{ReceiverStatus, ReceiverBuffer, TransmitterStatus, TransmitterBuffer, ProcessorStatus}
use Rattle.m11_cpu_machine.specs.declared.machine.Machine.{Machine}
use Rattle.m11_cpu_machine.specs.declared.addressing.OperandLocation.{OperandLocation}
use Rattle.m11_cpu_machine.specs.declared.addressing.OperandLocation.TheVariants.{InRegister, InMemory}
use Rattle.m11_cpu_laws.proofs.MemoryPreserved.{fetch_quiet, Kept, kept_byte, kept_same, kept_word, Same}
use Rattle.m11_cpu_laws.proofs.Parts.{Always, at_bind, at_comes, at_cond, at_sends}

-- ---- writes after a known destination

-- at most these bytes are written, and none if the act is aborted
abbrev pub Stores : {A : Type 0} → List ℕ → List ℕ → Result A Abort × Machine → Type 0
Stores bytes memory y = Kept (written_by y.0 (Ok bytes)) memory y.1.memory

-- the same for the bytes that the first outcome yields; none if it is an abort
abbrev pub Writes : {A : Type 0} → List ℕ → Result (List ℕ) Abort × Machine → Result A Abort × Machine → Type 0
Writes memory z y = Kept (written_by y.0 z.0) memory y.1.memory

stores_none : {A : Type 0} (bytes memory : List ℕ) (y : Result A Abort × Machine) → Same memory y.1
    → Stores bytes memory y
stores_none bytes memory y e = kept_same (written_by y.0 (Ok bytes)) memory y.1.memory e

-- a store to a device writes no byte of memory
module _ (bytes memory : List ℕ) where
  sent_stores : (taken : Bool) (m : Machine) → Same memory m → Always (sent taken m) (λ y. Stores bytes memory y)
  sent_stores true m e = at_comes (kept_same _ memory m.memory e)
  sent_stores false m e = at_comes (kept_same _ memory m.memory e)

  device_stores : (register : Option DeviceRegister) (v : ℕ) (m : Machine) → Same memory m
      → Always (store_register register v m) (λ y. Stores bytes memory y)
  unfolding send
  device_stores (Some ReceiverStatus) v m e = at_comes (kept_same _ memory m.memory e)
  device_stores (Some ReceiverBuffer) v m e = at_comes (kept_same _ memory m.memory e)
  device_stores (Some TransmitterStatus) v m e = at_comes (kept_same _ memory m.memory e)
  device_stores (Some TransmitterBuffer) v m e = at_sends (λ taken. sent_stores taken m e)
  device_stores (Some ProcessorStatus) v m e = at_comes (kept_same _ memory m.memory e)
  device_stores None v m e = at_comes (kept_same _ memory m.memory e)

pub word_stores : (address v : ℕ) (memory : List ℕ) (m : Machine) → Same memory m
    → Always (store_word address v m) (λ y. Stores (word_bytes address) memory y)
unfolding store_word store_device
word_stores address v memory m e =
    at_cond (is_odd address) (at_comes (kept_same _ memory m.memory e))
    (at_cond (is_inside address m) (at_comes (kept_word address v memory m.memory e))
    (device_stores (word_bytes address) memory (device_at address) v m e))

byte_stores : (address v : ℕ) (memory : List ℕ) (m : Machine) → Same memory m
    → Always (store_byte address v m) (λ y. Stores (address ∷ []) memory y)
unfolding store_byte store_device
byte_stores address v memory m e =
    at_cond (is_inside address m) (at_comes (kept_byte address v memory m.memory e))
    (at_cond (is_odd address) (at_comes (stores_none (address ∷ []) memory (store_odd address, m) e))
    (device_stores (address ∷ []) memory (device_at address) v m e))

location_stores : (location : OperandLocation) (size : Size) (v : ℕ) (memory : List ℕ) (m : Machine) → Same memory m
    → Always (store location size v m) (λ y. Stores (location_bytes location size) memory y)
unfolding store
location_stores (InRegister register) Word v memory m e = at_comes (kept_same _ memory m.memory e)
location_stores (InRegister register) Byte v memory m e = at_comes (kept_same _ memory m.memory e)
location_stores (InMemory address) Word v memory m e = word_stores address v memory m e
location_stores (InMemory address) Byte v memory m e = byte_stores address (v % 256) memory m e

moved_stores : (location : OperandLocation) (size : Size) (v : ℕ) (memory : List ℕ) (m : Machine) → Same memory m
    → Always (store_moved location size v m) (λ y. Stores (location_bytes location size) memory y)
unfolding store_moved
moved_stores (InRegister register) Word v memory m e = location_stores (InRegister register) Word v memory m e
moved_stores (InRegister register) Byte v memory m e = at_comes (kept_same _ memory m.memory e)
moved_stores (InMemory address) size v memory m e = location_stores (InMemory address) size v memory m e

-- setting the condition codes after a store leaves memory unchanged
finished_memory : (test : Bool) (codes : ConditionCodes) (m : Machine)
    → (cond test m (with_condition_codes codes m)).memory ≡ m.memory
finished_memory true codes m = refl
finished_memory false codes m = refl

abbrev closing : OperandLocation → ConditionCodes → Unit {0} → Act (Unit {0})
closing location codes done n = Comes (Ok tt, finished location codes n)

finishes : (act : Act (Unit {0})) (location : OperandLocation) (codes : ConditionCodes) (m : Machine) (bytes memory : List ℕ)
    → Always (act m) (λ y. Stores bytes memory y)
    → Always ((act >>= closing location codes) m) (λ y. Stores bytes memory y)
finishes act location codes m bytes memory a =
    at_bind act (closing location codes) m (λ y. Stores bytes memory y) (λ y. Stores bytes memory y) a (λ e n k. k)
    (λ u n k.
    let P : List ℕ → Type 0 = λ content. Kept bytes memory content in
    at_comes (subst P (sym (finished_memory (is_status location) codes n)) k))

pub result_stores : (location : OperandLocation) (size : Size) (computed : Computed) (memory : List ℕ) (m : Machine)
    → Same memory m
    → Always (store_result location size computed m) (λ y. Stores (location_bytes location size) memory y)
unfolding store_result
result_stores location size computed memory m e =
    finishes (store location size computed.value) location computed.codes m (location_bytes location size) memory
    (location_stores location size computed.value memory m e)

pub move_stores : (location : OperandLocation) (size : Size) (source : ℕ) (memory : List ℕ) (m : Machine) → Same memory m
    → Always (move_to location size source m) (λ y. Stores (location_bytes location size) memory y)
unfolding move_to
move_stores location size source memory m e =
    finishes (store_moved location size source) location (double_result Mov size source 0 m.status.codes).codes m
    (location_bytes location size) memory (moved_stores location size source memory m e)

-- an operation that reads its location first writes at most the location's bytes, if the rest of the operation does
changes : (location : OperandLocation) (size : Size) (next : ℕ → Act (Unit {0})) (memory : List ℕ) (m : Machine) → Same memory m
    → ((value : ℕ) (n : Machine) → Same memory n → Always (next value n)
    (λ y. Stores (location_bytes location size) memory y))
    → Always ((fetch location size >>= next) m) (λ y. Stores (location_bytes location size) memory y)
changes location size next memory m e k =
    at_bind (fetch location size) next m (λ y. Same memory y.1) (λ y. Stores (location_bytes location size) memory y)
    (fetch_quiet memory location size m e) (λ abort n f. kept_same _ memory n.memory f) k

pub double_stores : (operation : DoubleOp) (location : OperandLocation) (size : Size) (source : ℕ) (memory : List ℕ)
    (m : Machine) → Same memory m
    → Always (change_double operation location size source m) (λ y. Stores (location_bytes location size) memory y)
unfolding change_double
double_stores operation location size source memory m e =
    changes location size _ memory m e (λ value n f. result_stores location size _ memory n f)

pub exclusive_stores : (source : ℕ) (location : OperandLocation) (memory : List ℕ) (m : Machine) → Same memory m
    → Always (change_exclusive source location m) (λ y. Stores (location_bytes location Word) memory y)
unfolding change_exclusive
exclusive_stores source location memory m e =
    changes location Word _ memory m e (λ value n f. result_stores location Word _ memory n f)

pub single_stores : (operation : SingleOp) (size : Size) (location : OperandLocation) (memory : List ℕ) (m : Machine)
    → Same memory m
    → Always (change_at operation size location m) (λ y. Stores (location_bytes location size) memory y)
unfolding change_at
single_stores operation size location memory m e =
    changes location size _ memory m e (λ value n f. result_stores location size _ memory n f)
