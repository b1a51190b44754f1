-- An aborted instruction has changed at most registers and the console.
use Rattle.std.proofs.Common.{ℕ, ◌+◌, ◌*◌, ◌%◌, Bool, true, false, Option, Some, None, Result, Ok, Err, refl}
use Rattle.std.specs.Prelude.{⊤}
use Rattle.m11_base.specs.Instructions.{instruction_of}
use Rattle.m11_base.specs.declared.instruction.BareOp.{BareOp}
use Rattle.m11_base.specs.declared.instruction.BareOp.TheVariants.{Halt, Wait, Rti, Bpt, Iot, Reset, Rtt}
use Rattle.m11_base.specs.declared.instruction.DoubleOp.{DoubleOp}
use Rattle.m11_base.specs.declared.instruction.ExtendedOp.{ExtendedOp}
use Rattle.m11_base.specs.declared.instruction.Insn.{Insn}
use Rattle.m11_base.specs.declared.instruction.Insn.TheVariants as insn
use Rattle.m11_base.specs.declared.instruction.NumberOp.{NumberOp}
use Rattle.m11_base.specs.declared.instruction.NumberOp.TheVariants.{Mark, Emt, Trap}
use Rattle.m11_base.specs.declared.instruction.RegisterOp.TheVariants.{Jsr, Xor}
use Rattle.m11_base.specs.declared.instruction.SingleOp.{SingleOp}
use Rattle.m11_base.specs.declared.operand.Operand.{Operand}
use Rattle.m11_base.specs.declared.operand.Register.{Register}
use Rattle.m11_base.specs.declared.operand.Register.TheVariants.{Pc, R5, Sp}
use Rattle.m11_base.specs.declared.operand.Size.{Size}
use Rattle.m11_base.specs.declared.operand.Size.TheVariants.{Word, Byte}
use Rattle.m11_cpu_arithmetic.specs.declared.results.Computed.{Computed}
use Rattle.m11_cpu_machine.specs.Access.{is_inside, is_odd, send, sent, store_byte, store_device, store_odd, store_register, store_word}
use Rattle.m11_cpu_machine.specs.Acts.{Act, ◌>>=◌}
use Rattle.m11_cpu_machine.specs.Console.{device_at}
use Rattle.m11_cpu_machine.specs.DestinationUse.{use_by_double, use_by_single}
use Rattle.m11_cpu_machine.specs.DoubleOperands.{double_by, change_double, change_exclusive, double, double_at, exclusive_or, move_to, store_moved, compare}
use Rattle.m11_cpu_machine.specs.Execution.{execute, numbered, on_register, then_next, bare, return_from_trap}
use Rattle.m11_cpu_machine.specs.Extended.{extended}
use Rattle.m11_cpu_machine.specs.Jumps.{call, enter, push, return_by, target, jump, mark, pop}
use Rattle.m11_cpu_machine.specs.Machine.{register_of, with_register}
use Rattle.m11_cpu_machine.specs.Addressing.{fetch, fetch_operand, next_word, location_of, store_result, store, back}
use Rattle.m11_cpu_machine.specs.SingleOperands.{single_by, change_at, change_single, single, write, test_operand}
use Rattle.m11_cpu_machine.specs.Steps.{instruction}
use Rattle.m11_cpu_laws.specs.Writes.{AbortLeaves, IsElseAsBefore}
use Rattle.m11_cpu_machine.specs.declared.abort.Abort.{Abort}
use Rattle.m11_cpu_machine.specs.declared.console.DeviceRegister.{DeviceRegister}
use Rattle.m11_cpu_machine.specs.declared.console.DeviceRegister.TheVariants.{ReceiverStatus, ReceiverBuffer, TransmitterStatus, TransmitterBuffer, ProcessorStatus}
use Rattle.m11_cpu_machine.specs.declared.console.Receiver.{Receiver}
use Rattle.m11_cpu_machine.specs.declared.destination_use.DestinationUse.{DestinationUse}
use Rattle.m11_cpu_machine.specs.declared.destination_use.DestinationUse.TheVariants as use_of
use Rattle.m11_cpu_machine.specs.declared.machine.Machine.{Machine}
use Rattle.m11_cpu_machine.specs.declared.addressing.OperandLocation.{OperandLocation}
use Rattle.m11_cpu_machine.specs.declared.addressing.OperandLocation.TheVariants.{InRegister, InMemory}
use Rattle.m11_cpu_laws.proofs.AddressesLeave.{code_keeps, fetch_keeps, jump_target_keeps, operand_keeps, pop_keeps, source_keeps}
use Rattle.m11_cpu_laws.proofs.Parts.{Always, at_bind, at_comes, at_cond, at_map, at_sends, Keeps}

abbrev LeftBy : {A : Type 0} → (Machine → Type 0) → Result A Abort → Machine → Type 0
LeftBy I (Ok done) n = ⊤
LeftBy I (Err abort) n = I n

-- if the act was aborted, `I` holds for the machine that it left
abbrev Leaves : {A : Type 0} → (Machine → Type 0) → Result A Abort × Machine → Type 0
Leaves I y = LeftBy I y.0 y.1

left_by : {A : Type 0} (I : Machine → Type 0) (r : Result A Abort) (n : Machine) → I n → LeftBy I r n
left_by I (Ok done) n i = tt
left_by I (Err abort) n i = i

-- if a part keeps `I`, and the parts after it leave `I` if they are aborted, so do all of them together
kept_first : {A B : Type 0} (I : Machine → Type 0) (act : Act A) (next : A → Act B) (m : Machine) → Keeps I (act m)
    → ((x : A) (n : Machine) → I n → Always (next x n) (λ y. Leaves I y))
    → Always ((act >>= next) m) (λ y. Leaves I y)
kept_first I act next m k ok = at_bind act next m (λ y. I y.1) (λ y. Leaves I y) k (λ e n i. i) ok

-- the same if the first part leaves `I` if it is aborted, and the parts after it do so from any machine
left_last : {A B : Type 0} (I : Machine → Type 0) (act : Act A) (next : A → Act B) (m : Machine)
    → Always (act m) (λ y. Leaves I y) → ((x : A) (n : Machine) → Always (next x n) (λ y. Leaves I y))
    → Always ((act >>= next) m) (λ y. Leaves I y)
left_last I act next m a ok = at_bind act next m (λ y. Leaves I y) (λ y. Leaves I y) a (λ e n i. i) (λ x n t. ok x n)

-- ---- stores

module _ (I : Machine → Type 0) where
  sent_leaves : (taken : Bool) (m : Machine) → I m → Always (sent taken m) (λ y. Leaves I y)
  sent_leaves true m i = at_comes tt
  sent_leaves false m i = at_comes i

  device_leaves : (register : Option DeviceRegister) (v : ℕ) (m : Machine) → I m
      → Always (store_register register v m) (λ y. Leaves I y)
  unfolding send
  device_leaves (Some ReceiverStatus) v m i = at_comes tt
  device_leaves (Some ReceiverBuffer) v m i = at_comes tt
  device_leaves (Some TransmitterStatus) v m i = at_comes tt
  device_leaves (Some TransmitterBuffer) v m i = at_sends (λ taken. sent_leaves taken m i)
  device_leaves (Some ProcessorStatus) v m i = at_comes tt
  device_leaves None v m i = at_comes i

  word_leaves : (address v : ℕ) (m : Machine) → I m → Always (store_word address v m) (λ y. Leaves I y)
  unfolding store_word store_device
  word_leaves address v m i =
      at_cond (is_odd address) (at_comes i)
      (at_cond (is_inside address m) (at_comes tt) (device_leaves (device_at address) v m i))

  byte_leaves : (address v : ℕ) (m : Machine) → I m → Always (store_byte address v m) (λ y. Leaves I y)
  unfolding store_byte store_device
  byte_leaves address v m i =
      at_cond (is_inside address m) (at_comes tt)
      (at_cond (is_odd address) (at_comes (left_by I (store_odd address) m i))
      (device_leaves (device_at address) v m i))

  location_leaves : (location : OperandLocation) (size : Size) (v : ℕ) (m : Machine) → I m
      → Always (store location size v m) (λ y. Leaves I y)
  unfolding store
  location_leaves (InRegister register) Word v m i = at_comes tt
  location_leaves (InRegister register) Byte v m i = at_comes tt
  location_leaves (InMemory address) Word v m i = word_leaves address v m i
  location_leaves (InMemory address) Byte v m i = byte_leaves address (v % 256) m i

  moved_leaves : (location : OperandLocation) (size : Size) (v : ℕ) (m : Machine) → I m
      → Always (store_moved location size v m) (λ y. Leaves I y)
  unfolding store_moved
  moved_leaves (InRegister register) Word v m i = location_leaves (InRegister register) Word v m i
  moved_leaves (InRegister register) Byte v m i = at_comes tt
  moved_leaves (InMemory address) size v m i = location_leaves (InMemory address) size v m i

  move_leaves : (location : OperandLocation) (size : Size) (source : ℕ) (m : Machine) → I m
      → Always (move_to location size source m) (λ y. Leaves I y)
  unfolding move_to
  move_leaves location size source m i =
      left_last I (store_moved location size source) _ m (moved_leaves location size source m i) (λ u n. at_comes tt)

  result_leaves : (location : OperandLocation) (size : Size) (computed : Computed) (m : Machine) → I m
      → Always (store_result location size computed m) (λ y. Leaves I y)
  unfolding store_result
  result_leaves location size computed m i =
      left_last I (store location size computed.value) _ m (location_leaves location size computed.value m i)
      (λ u n. at_comes tt)

-- ---- instructions

module _ (I : Machine → Type 0) (receives : (n : Machine) (r : Receiver) → I n → I (record n { receiver = r }))
    (puts : (register : Register) (n : Machine) (v : ℕ) → I n → I (with_register register v n)) where
  compare_leaves : (operation : DoubleOp) (location : OperandLocation) (size : Size) (source : ℕ) (m : Machine) → I m
      → Always (compare operation location size source m) (λ y. Leaves I y)
  unfolding compare
  compare_leaves operation location size source m i =
      kept_first I (fetch location size) _ m (fetch_keeps I receives puts location size m i) (λ value n j. at_comes tt)

  double_leaves : (operation : DoubleOp) (location : OperandLocation) (size : Size) (source : ℕ) (m : Machine) → I m
      → Always (change_double operation location size source m) (λ y. Leaves I y)
  unfolding change_double
  double_leaves operation location size source m i =
      kept_first I (fetch location size) _ m (fetch_keeps I receives puts location size m i)
      (λ value n j. result_leaves I location size _ n j)

  use_leaves : (how : DestinationUse) (operation : DoubleOp) (size : Size) (source : ℕ) (location : OperandLocation)
      (m : Machine) → I m
      → Always (double_by how operation size source location m) (λ y. Leaves I y)
  use_leaves use_of.Writes operation size source location m i = move_leaves I location size source m i
  use_leaves use_of.Reads operation size source location m i = compare_leaves operation location size source m i
  use_leaves use_of.Changes operation size source location m i = double_leaves operation location size source m i

  doubles_leave : (operation : DoubleOp) (size : Size) (source destination : Operand) (m : Machine) → I m
      → Always (double operation size source destination m) (λ y. Leaves I y)
  unfolding double double_at
  doubles_leave operation size source destination m i =
      kept_first I (fetch_operand source size) _ m (source_keeps I receives puts source size m i)
      (λ value n j. kept_first I (location_of destination size) (double_at operation size value) n
      (operand_keeps I receives puts destination size n j)
      (λ location o k. use_leaves (use_by_double operation) operation size value location o k))

  exclusive_leaves : (register : Register) (operand : Operand) (m : Machine) → I m
      → Always (exclusive_or register operand m) (λ y. Leaves I y)
  unfolding exclusive_or change_exclusive
  exclusive_leaves register operand m i =
      kept_first I (location_of operand Word) (change_exclusive (register_of register m)) m
      (operand_keeps I receives puts operand Word m i)
      (λ location n j. kept_first I (fetch location Word) _ n (fetch_keeps I receives puts location Word n j)
      (λ value o k. result_leaves I location Word _ o k))

  single_use_leaves : (how : Option DestinationUse) (operation : SingleOp) (size : Size) (operand : Operand)
      (m : Machine) → I m
      → Always (single_by how operation size operand m) (λ y. Leaves I y)
  unfolding jump write test_operand change_single change_at
  single_use_leaves None operation size operand m i =
      kept_first I (target operand) _ m (jump_target_keeps I receives puts operand m i) (λ address n j. at_comes tt)
  single_use_leaves (Some use_of.Writes) operation size operand m i =
      kept_first I (location_of operand size) _ m (operand_keeps I receives puts operand size m i)
      (λ location n j. result_leaves I location size _ n j)
  single_use_leaves (Some use_of.Reads) operation size operand m i =
      kept_first I (fetch_operand operand size) _ m (source_keeps I receives puts operand size m i)
      (λ value n j. at_comes tt)
  single_use_leaves (Some use_of.Changes) operation size operand m i =
      kept_first I (location_of operand size) (change_at operation size) m (operand_keeps I receives puts operand size m i)
      (λ location n j. kept_first I (fetch location size) _ n (fetch_keeps I receives puts location size n j)
      (λ value o k. result_leaves I location size _ o k))

  call_leaves : (register : Register) (operand : Operand) (m : Machine) → I m
      → Always (call register operand m) (λ y. Leaves I y)
  unfolding call enter push
  call_leaves register operand m i =
      kept_first I (target operand) (enter register) m (jump_target_keeps I receives puts operand m i)
      (λ address n j. left_last I (push (register_of register n)) _ n
      (word_leaves I (back Sp 2 n).0 (register_of register n) (back Sp 2 n).1 (puts Sp n _ j)) (λ u o. at_comes tt))

  extended_leaves : (operation : ExtendedOp) (register : Register) (source : Operand) (m : Machine) → I m
      → Always (extended operation register source m) (λ y. Leaves I y)
  unfolding extended
  extended_leaves operation register source m i =
      kept_first I (fetch_operand source Word) _ m (source_keeps I receives puts source Word m i)
      (λ value n j. at_comes tt)

  return_leaves : (register : Register) (m : Machine) → I m → Always (return_by register m) (λ y. Leaves I y)
  unfolding return_by
  return_leaves register m i =
      let n = with_register Pc (register_of register m) m in
      kept_first I pop _ n (pop_keeps I receives puts n (puts Pc m _ i)) (λ word o j. at_comes tt)

  mark_leaves : (words : ℕ) (m : Machine) → I m → Always (mark words m) (λ y. Leaves I y)
  unfolding mark
  mark_leaves words m i =
      let cut = with_register Sp ((register_of Pc m + words * 2) % 0o200000) m in
      let n = with_register Pc (register_of R5 cut) cut in
      kept_first I pop _ n (pop_keeps I receives puts n (puts Pc cut _ (puts Sp m _ i))) (λ word o j. at_comes tt)

  number_leaves : (operation : NumberOp) (number : ℕ) (m : Machine) → I m
      → Always (numbered operation number m) (λ y. Leaves I y)
  unfolding numbered
  number_leaves Mark number m i = mark_leaves number m i
  number_leaves Emt number m i = at_comes i
  number_leaves Trap number m i = at_comes i

  from_trap_leaves : (m : Machine) → I m → Always (return_from_trap m) (λ y. Leaves I y)
  unfolding return_from_trap
  from_trap_leaves m i =
      kept_first I pop _ m (pop_keeps I receives puts m i)
      (λ address n j. kept_first I pop _ (with_register Pc address n)
      (pop_keeps I receives puts (with_register Pc address n) (puts Pc n address j)) (λ bits o k. at_comes tt))

  bare_leaves : (operation : BareOp) (m : Machine) → I m → Always (bare operation m) (λ y. Leaves I y)
  unfolding bare
  bare_leaves Halt m i = at_comes tt
  bare_leaves Wait m i = at_comes tt
  bare_leaves Rti m i = left_last I return_from_trap _ m (from_trap_leaves m i) (λ u n. at_comes tt)
  bare_leaves Rtt m i = left_last I return_from_trap _ m (from_trap_leaves m i) (λ u n. at_comes tt)
  bare_leaves Bpt m i = at_comes i
  bare_leaves Iot m i = at_comes i
  bare_leaves Reset m i = at_comes tt

  next_leaves : (act : Act (Unit {0})) (m : Machine) → Always (act m) (λ y. Leaves I y)
      → Always (then_next act m) (λ y. Leaves I y)
  next_leaves act m a = left_last I act _ m a (λ u n. at_comes tt)

  execute_leaves : (code : Insn) (m : Machine) → I m → Always (execute code m) (λ y. Leaves I y)
  unfolding execute on_register single
  execute_leaves (insn.Double operation size source destination) m i =
      next_leaves (double operation size source destination) m (doubles_leave operation size source destination m i)
  execute_leaves (insn.Extended operation register source) m i =
      next_leaves (extended operation register source) m (extended_leaves operation register source m i)
  execute_leaves (insn.Register Jsr register operand) m i =
      next_leaves (call register operand) m (call_leaves register operand m i)
  execute_leaves (insn.Register Xor register operand) m i =
      next_leaves (exclusive_or register operand) m (exclusive_leaves register operand m i)
  execute_leaves (insn.Sob register words) m i = at_comes tt
  execute_leaves (insn.Single operation size operand) m i =
      next_leaves (single operation size operand) m
      (single_use_leaves (use_by_single operation) operation size operand m i)
  execute_leaves (insn.Rts register) m i = next_leaves (return_by register) m (return_leaves register m i)
  execute_leaves (insn.Number operation number) m i = next_leaves (numbered operation number) m
      (number_leaves operation number m i)
  execute_leaves (insn.Bare operation) m i = bare_leaves operation m i
  execute_leaves (insn.Condition operation named) m i = at_comes tt
  execute_leaves (insn.Branch operation words) m i = at_comes tt
  execute_leaves (insn.Reserved word) m i = at_comes i

  instruction_leaves : (m : Machine) → I m → Always (instruction m) (λ y. Leaves I y)
  unfolding instruction
  instruction_leaves m i =
      kept_first I next_word _ m (code_keeps I receives puts m i) (λ word n j. execute_leaves (instruction_of word) n j)

left_as : {A : Type 0} (m : Machine) (r : Result A Abort) (n : Machine) → LeftBy (IsElseAsBefore m) r n
    → AbortLeaves r m n
left_as m (Ok done) n t = tt
left_as m (Err abort) n t = t

pub abort_leaves : (m : Machine) → Always (instruction m) (λ y. AbortLeaves y.0 m y.1)
abort_leaves m =
    at_map (instruction_leaves (IsElseAsBefore m)
    (λ n r i. record { memory = i.memory; status = i.status; stopped = i.stopped })
    (λ register n v i. record { memory = i.memory; status = i.status; stopped = i.stopped })
    m (record { memory = refl; status = refl; stopped = refl })) (λ y t. left_as m y.0 y.1 t)
