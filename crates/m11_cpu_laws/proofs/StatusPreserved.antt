-- The instructions that leave T unchanged, and the status that traps load.
use Rattle.std.proofs.Common.{◌≡◌, ℕ, ◌+◌, ◌%◌, ◌==◌, Bool, true, false, cond, Option, Some, None, Result, Ok, Err, refl, ◌∙◌}
use Rattle.std.specs.Prelude.{ℤ, List, ⊤}
use Rattle.m11_base.specs.declared.instruction.BareOp.{BareOp}
use Rattle.m11_base.specs.declared.instruction.BareOp.TheVariants.{Halt, Wait, Rti, Bpt, Iot, Reset, Rtt}
use Rattle.m11_base.specs.declared.instruction.BranchOp.{BranchOp}
use Rattle.m11_base.specs.declared.instruction.ConditionCodes.{ConditionCodes}
use Rattle.m11_base.specs.declared.instruction.DoubleOp.{DoubleOp}
use Rattle.m11_base.specs.declared.instruction.DoubleOp.TheVariants.{Mov, Cmp, Bit, Bic, Bis, Add, Sub}
use Rattle.m11_base.specs.declared.instruction.ExtendedOp.{ExtendedOp}
use Rattle.m11_base.specs.declared.instruction.ExtendedOp.TheVariants.{Mul, Div, Ash, Ashc}
use Rattle.m11_base.specs.declared.instruction.Insn.{Insn}
use Rattle.m11_base.specs.declared.instruction.Insn.TheVariants as insn
use Rattle.m11_base.specs.declared.instruction.NumberOp.TheVariants.{Mark, Emt, Trap}
use Rattle.m11_base.specs.declared.instruction.RegisterOp.TheVariants.{Jsr, Xor}
use Rattle.m11_base.specs.declared.instruction.SingleOp.{SingleOp}
use Rattle.m11_base.specs.declared.instruction.SingleOp.TheVariants.{Jmp, Swab, Clr, Com, Inc, Dec, Neg, Adc, Sbc, Tst, Ror, Rol, Asr, Asl, Sxt}
use Rattle.m11_base.specs.declared.operand.Operand.{Operand}
use Rattle.m11_base.specs.declared.operand.Register.{Register}
use Rattle.m11_base.specs.declared.operand.Register.TheVariants.{Sp}
use Rattle.m11_base.specs.declared.operand.Size.{Size}
use Rattle.m11_base.specs.declared.operand.Size.TheVariants.{Word, Byte}
use Rattle.m11_cpu_arithmetic.specs.Branches.{is_taken}
use Rattle.m11_cpu_arithmetic.specs.Extended.{division_of}
use Rattle.m11_cpu_arithmetic.specs.declared.results.Computed.{Computed}
use Rattle.m11_cpu_arithmetic.specs.declared.results.Division.{Division}
use Rattle.m11_cpu_arithmetic.specs.declared.results.Division.TheVariants.{Done, Refused}
use Rattle.m11_cpu_machine.specs.Access.{is_inside, is_odd, send, sent, store_byte, store_device, store_register, store_word}
use Rattle.m11_cpu_machine.specs.Acts.{Act}
use Rattle.m11_cpu_machine.specs.Addressing.{back, fetch, fetch_operand, location_of, store_result, store}
use Rattle.m11_cpu_machine.specs.Console.{device_at}
use Rattle.m11_cpu_machine.specs.Dialogue.{Exchange, Leads}
use Rattle.m11_cpu_machine.specs.DoubleOperands.{change_double, change_exclusive, compare, double, double_at, exclusive_or, move_to, store_moved}
use Rattle.m11_cpu_machine.specs.Execution.{bare, execute, numbered, on_register, then_next}
use Rattle.m11_cpu_machine.specs.Extended.{after_division, extended, extended_by, low_word_of}
use Rattle.m11_cpu_machine.specs.Jumps.{branched, call, counted_down, enter, jump, mark, pop, push, return_by, target}
use Rattle.m11_cpu_machine.specs.Machine.{finished, is_status, register_of, with_condition_codes}
use Rattle.m11_cpu_machine.specs.SingleOperands.{change_at, change_single, single, test_operand, write}
use Rattle.m11_cpu_machine.specs.Status.{status_of}
use Rattle.m11_cpu_machine.specs.Memory.{word_at}
use Rattle.m11_cpu_machine.specs.Traps.{push_state, trap, trap_pushed, vector_address}
use Rattle.m11_cpu_machine.specs.declared.abort.Abort.{Abort}
use Rattle.m11_cpu_machine.specs.declared.abort.Abort.TheVariants.{Traps, Stops}
use Rattle.m11_cpu_machine.specs.declared.abort.Vector.{Vector}
use Rattle.m11_cpu_machine.specs.declared.addressing.OperandLocation.{OperandLocation}
use Rattle.m11_cpu_machine.specs.declared.addressing.OperandLocation.TheVariants.{InRegister, InMemory}
use Rattle.m11_cpu_machine.specs.declared.console.DeviceRegister.{DeviceRegister}
use Rattle.m11_cpu_machine.specs.declared.console.DeviceRegister.TheVariants.{ReceiverStatus, ReceiverBuffer, TransmitterStatus, TransmitterBuffer, ProcessorStatus}
use Rattle.m11_cpu_machine.specs.declared.execution.Ending.{Ending}
use Rattle.m11_cpu_machine.specs.declared.machine.Machine.{Machine}
use Rattle.m11_cpu_machine.specs.declared.stop.LastingStop.TheVariants.{StackFault, InputFault, OutputFault}
use Rattle.m11_cpu_machine.specs.declared.stop.Turn.{Turn}
use Rattle.m11_cpu_machine.specs.declared.stop.Turn.TheVariants.{Next}
use Rattle.m11_cpu_laws.specs.StatusWord.{loads_trace, TrapsLoad}
use Rattle.m11_cpu_laws.proofs.AddressesLeave.{fetch_keeps, jump_target_keeps, operand_keeps, pop_keeps, source_keeps}
use Rattle.m11_cpu_laws.proofs.Parts.{Always, at_after, at_comes, at_cond, at_sends, Keeps, keeps_bind}
use Rattle.m11_cpu_laws.proofs.TracesFollow.{whatever}

either_trace : (test : Bool) (m n : Machine) → m.status.trace ≡ n.status.trace
    → (cond test m n).status.trace ≡ n.status.trace
either_trace true m n e = e
either_trace false m n e = refl

module _ (t : Bool) where
  abbrev pub Traces : Machine → Type 0
  Traces n = n.status.trace ≡ t

  -- ---- stores

  sent_traces : (taken : Bool) (m : Machine) → Traces m → Keeps Traces (sent taken m)
  sent_traces true m i = at_comes i
  sent_traces false m i = at_comes i

  register_traces : (register : Option DeviceRegister) (v : ℕ) (m : Machine) → Traces m
      → Keeps Traces (store_register register v m)
  unfolding send
  register_traces (Some ReceiverStatus) v m i = at_comes i
  register_traces (Some ReceiverBuffer) v m i = at_comes i
  register_traces (Some TransmitterStatus) v m i = at_comes i
  register_traces (Some TransmitterBuffer) v m i = at_sends (λ taken. sent_traces taken m i)
  register_traces (Some ProcessorStatus) v m i = at_comes i
  register_traces None v m i = at_comes i

  word_traces : (address v : ℕ) (m : Machine) → Traces m → Keeps Traces (store_word address v m)
  unfolding store_word store_device
  word_traces address v m i =
      at_cond (is_odd address) (at_comes i)
      (at_cond (is_inside address m) (at_comes i) (register_traces (device_at address) v m i))

  byte_traces : (address v : ℕ) (m : Machine) → Traces m → Keeps Traces (store_byte address v m)
  unfolding store_byte store_device
  byte_traces address v m i =
      at_cond (is_inside address m) (at_comes i)
      (at_cond (is_odd address) (at_comes i) (register_traces (device_at address) v m i))

  location_traces : (location : OperandLocation) (size : Size) (v : ℕ) (m : Machine) → Traces m
      → Keeps Traces (store location size v m)
  unfolding store
  location_traces (InRegister register) Word v m i = at_comes i
  location_traces (InRegister register) Byte v m i = at_comes i
  location_traces (InMemory address) Word v m i = word_traces address v m i
  location_traces (InMemory address) Byte v m i = byte_traces address (v % 256) m i

  moved_traces : (location : OperandLocation) (size : Size) (v : ℕ) (m : Machine) → Traces m
      → Keeps Traces (store_moved location size v m)
  unfolding store_moved
  moved_traces (InRegister register) Word v m i = location_traces (InRegister register) Word v m i
  moved_traces (InRegister register) Byte v m i = at_comes i
  moved_traces (InMemory address) size v m i = location_traces (InMemory address) size v m i

  finished_traces : (location : OperandLocation) (codes : ConditionCodes) (m : Machine) → Traces m
      → Traces (finished location codes m)
  finished_traces location codes m i =
      either_trace (is_status location) m (with_condition_codes codes m) refl ∙ i

  result_traces : (location : OperandLocation) (size : Size) (computed : Computed) (m : Machine) → Traces m
      → Keeps Traces (store_result location size computed m)
  unfolding store_result
  result_traces location size computed m i =
      keeps_bind Traces (store location size computed.value) _ m (location_traces location size computed.value m i)
      (λ u n j. at_comes (finished_traces location computed.codes n j))

  -- ---- operands

  fetch_traces : (location : OperandLocation) (size : Size) (m : Machine) → Traces m → Keeps Traces (fetch location size m)
  fetch_traces location size m i = fetch_keeps Traces (λ n r j. j) (λ q n v j. j) location size m i

  source_traces : (operand : Operand) (size : Size) (m : Machine) → Traces m
      → Keeps Traces (fetch_operand operand size m)
  source_traces operand size m i = source_keeps Traces (λ n r j. j) (λ q n v j. j) operand size m i

  formed_traces : (operand : Operand) (size : Size) (m : Machine) → Traces m
      → Keeps Traces (location_of operand size m)
  formed_traces operand size m i = operand_keeps Traces (λ n r j. j) (λ q n v j. j) operand size m i

  target_traces : (operand : Operand) (m : Machine) → Traces m → Keeps Traces (target operand m)
  target_traces operand m i = jump_target_keeps Traces (λ n r j. j) (λ q n v j. j) operand m i

  pop_traces : (m : Machine) → Traces m → Keeps Traces (pop m)
  pop_traces m i = pop_keeps Traces (λ n r j. j) (λ q n v j. j) m i

  push_traces : (v : ℕ) (m : Machine) → Traces m → Keeps Traces (push v m)
  unfolding push
  push_traces v m i = word_traces (back Sp 2 m).0 v (back Sp 2 m).1 i

  -- ---- instructions

  change_traces : (operation : DoubleOp) (location : OperandLocation) (size : Size) (source : ℕ) (m : Machine) → Traces m
      → Keeps Traces (change_double operation location size source m)
  unfolding change_double
  change_traces operation location size source m i =
      keeps_bind Traces (fetch location size) _ m (fetch_traces location size m i)
      (λ value n j. result_traces location size _ n j)

  compare_traces : (operation : DoubleOp) (location : OperandLocation) (size : Size) (source : ℕ) (m : Machine) → Traces m
      → Keeps Traces (compare operation location size source m)
  unfolding compare
  compare_traces operation location size source m i =
      keeps_bind Traces (fetch location size) _ m (fetch_traces location size m i) (λ value n j. at_comes j)

  move_traces : (location : OperandLocation) (size : Size) (source : ℕ) (m : Machine) → Traces m
      → Keeps Traces (move_to location size source m)
  unfolding move_to
  move_traces location size source m i =
      keeps_bind Traces (store_moved location size source) _ m (moved_traces location size source m i)
      (λ u n j. at_comes (finished_traces location _ n j))

  double_at_traces : (operation : DoubleOp) (size : Size) (source : ℕ) (location : OperandLocation) (m : Machine) → Traces m
      → Keeps Traces (double_at operation size source location m)
  unfolding double_at
  double_at_traces Mov size source location m i = move_traces location size source m i
  double_at_traces Cmp size source location m i = compare_traces Cmp location size source m i
  double_at_traces Bit size source location m i = compare_traces Bit location size source m i
  double_at_traces Bic size source location m i = change_traces Bic location size source m i
  double_at_traces Bis size source location m i = change_traces Bis location size source m i
  double_at_traces Add size source location m i = change_traces Add location size source m i
  double_at_traces Sub size source location m i = change_traces Sub location size source m i

  double_traces : (operation : DoubleOp) (size : Size) (source destination : Operand) (m : Machine) → Traces m
      → Keeps Traces (double operation size source destination m)
  unfolding double
  double_traces operation size source destination m i =
      keeps_bind Traces (fetch_operand source size) _ m (source_traces source size m i)
      (λ value n j. keeps_bind Traces (location_of destination size) _ n (formed_traces destination size n j)
      (λ location o k. double_at_traces operation size value location o k))

  exclusive_traces : (register : Register) (operand : Operand) (m : Machine) → Traces m
      → Keeps Traces (exclusive_or register operand m)
  unfolding exclusive_or change_exclusive
  exclusive_traces register operand m i =
      keeps_bind Traces (location_of operand Word) (change_exclusive (register_of register m)) m
      (formed_traces operand Word m i)
      (λ location n j. keeps_bind Traces (fetch location Word) _ n (fetch_traces location Word n j)
      (λ value o k. result_traces location Word _ o k))

  jump_traces : (operand : Operand) (m : Machine) → Traces m → Keeps Traces (jump operand m)
  unfolding jump
  jump_traces operand m i =
      keeps_bind Traces (target operand) _ m (target_traces operand m i) (λ address n j. at_comes j)

  test_traces : (operation : SingleOp) (size : Size) (operand : Operand) (m : Machine) → Traces m
      → Keeps Traces (test_operand operation size operand m)
  unfolding test_operand
  test_traces operation size operand m i =
      keeps_bind Traces (fetch_operand operand size) _ m (source_traces operand size m i) (λ value n j. at_comes j)

  write_traces : (operation : SingleOp) (size : Size) (operand : Operand) (m : Machine) → Traces m
      → Keeps Traces (write operation size operand m)
  unfolding write
  write_traces operation size operand m i =
      keeps_bind Traces (location_of operand size) _ m (formed_traces operand size m i)
      (λ location n j. result_traces location size _ n j)

  modify_traces : (operation : SingleOp) (size : Size) (operand : Operand) (m : Machine) → Traces m
      → Keeps Traces (change_single operation size operand m)
  unfolding change_single change_at
  modify_traces operation size operand m i =
      keeps_bind Traces (location_of operand size) (change_at operation size) m (formed_traces operand size m i)
      (λ location n j. keeps_bind Traces (fetch location size) _ n (fetch_traces location size n j)
      (λ value o k. result_traces location size _ o k))

  single_traces : (operation : SingleOp) (size : Size) (operand : Operand) (m : Machine) → Traces m
      → Keeps Traces (single operation size operand m)
  unfolding single
  single_traces Jmp size operand m i = jump_traces operand m i
  single_traces Swab size operand m i = modify_traces Swab size operand m i
  single_traces Clr size operand m i = write_traces Clr size operand m i
  single_traces Com size operand m i = modify_traces Com size operand m i
  single_traces Inc size operand m i = modify_traces Inc size operand m i
  single_traces Dec size operand m i = modify_traces Dec size operand m i
  single_traces Neg size operand m i = modify_traces Neg size operand m i
  single_traces Adc size operand m i = modify_traces Adc size operand m i
  single_traces Sbc size operand m i = modify_traces Sbc size operand m i
  single_traces Tst size operand m i = test_traces Tst size operand m i
  single_traces Ror size operand m i = modify_traces Ror size operand m i
  single_traces Rol size operand m i = modify_traces Rol size operand m i
  single_traces Asr size operand m i = modify_traces Asr size operand m i
  single_traces Asl size operand m i = modify_traces Asl size operand m i
  single_traces Sxt size operand m i = write_traces Sxt size operand m i

  call_traces : (register : Register) (operand : Operand) (m : Machine) → Traces m
      → Keeps Traces (call register operand m)
  unfolding call enter
  call_traces register operand m i =
      keeps_bind Traces (target operand) (enter register) m (target_traces operand m i)
      (λ address n j. keeps_bind Traces (push (register_of register n)) _ n (push_traces (register_of register n) n j)
      (λ u o k. at_comes k))

  return_traces : (register : Register) (m : Machine) → Traces m → Keeps Traces (return_by register m)
  unfolding return_by
  return_traces register m i = keeps_bind Traces pop _ _ (pop_traces _ i) (λ word o j. at_comes j)

  mark_traces : (words : ℕ) (m : Machine) → Traces m → Keeps Traces (mark words m)
  unfolding mark
  mark_traces words m i = keeps_bind Traces pop _ _ (pop_traces _ i) (λ word o j. at_comes j)

  division_traces : (register : Register) (division : Division) (m : Machine) → Traces m
      → Traces (after_division register division m)
  division_traces register (Done quotient remainder codes) m i = i
  division_traces register (Refused codes) m i = i

  by_extended_traces : (operation : ExtendedOp) (register : Register) (source : ℕ) (m : Machine) → Traces m
      → Traces (extended_by operation register source m)
  by_extended_traces Mul register source m i = i
  by_extended_traces Div register source m i =
      division_traces register
      (division_of (register_of register m) (register_of (low_word_of register) m) source) m i
  by_extended_traces Ash register source m i = i
  by_extended_traces Ashc register source m i = i

  extended_traces : (operation : ExtendedOp) (register : Register) (source : Operand) (m : Machine) → Traces m
      → Keeps Traces (extended operation register source m)
  unfolding extended
  extended_traces operation register source m i =
      keeps_bind Traces (fetch_operand source Word) _ m (source_traces source Word m i)
      (λ value n j. at_comes (by_extended_traces operation register value n j))

  branched_traces : (operation : BranchOp) (words : ℤ) (m : Machine) → Traces m → Traces (branched operation words m)
  branched_traces operation words m i = either_trace (is_taken operation m.status.codes) _ m refl ∙ i

  counted_traces : (register : Register) (words : ℕ) (m : Machine) → Traces m
      → Traces (counted_down register words m)
  counted_traces register words m i =
      let count = back register 1 m in either_trace (count.0 == 0) count.1 _ refl ∙ i

  next_traces : (act : Act (Unit {0})) (m : Machine) → Keeps Traces (act m) → Keeps Traces (then_next act m)
  next_traces act m a = keeps_bind Traces act _ m a (λ u n j. at_comes j)

  bare_traces : (operation : BareOp) (m : Machine) → loads_trace (insn.Bare operation) ≡ false → Traces m
      → Keeps Traces (bare operation m)
  unfolding bare
  bare_traces Halt m e i = at_comes i
  bare_traces Wait m e i = at_comes i
  bare_traces Rti m e i = absurd (cc)
  bare_traces Rtt m e i = absurd (cc)
  bare_traces Bpt m e i = at_comes i
  bare_traces Iot m e i = at_comes i
  bare_traces Reset m e i = at_comes i

  execute_traces : (code : Insn) (m : Machine) → loads_trace code ≡ false → Traces m
      → Keeps Traces (execute code m)
  unfolding execute on_register numbered
  execute_traces (insn.Double operation size source destination) m e i =
      next_traces (double operation size source destination) m (double_traces operation size source destination m i)
  execute_traces (insn.Extended operation register source) m e i =
      next_traces (extended operation register source) m (extended_traces operation register source m i)
  execute_traces (insn.Register Jsr register operand) m e i =
      next_traces (call register operand) m (call_traces register operand m i)
  execute_traces (insn.Register Xor register operand) m e i =
      next_traces (exclusive_or register operand) m (exclusive_traces register operand m i)
  execute_traces (insn.Sob register words) m e i = at_comes (counted_traces register words m i)
  execute_traces (insn.Single operation size operand) m e i =
      next_traces (single operation size operand) m (single_traces operation size operand m i)
  execute_traces (insn.Rts register) m e i = next_traces (return_by register) m (return_traces register m i)
  execute_traces (insn.Number Mark number) m e i = next_traces (numbered Mark number) m (mark_traces number m i)
  execute_traces (insn.Number Emt number) m e i = next_traces (numbered Emt number) m (at_comes i)
  execute_traces (insn.Number Trap number) m e i = next_traces (numbered Trap number) m (at_comes i)
  execute_traces (insn.Bare operation) m e i = bare_traces operation m e i
  execute_traces (insn.Condition operation named) m e i = at_comes i
  execute_traces (insn.Branch operation words) m e i = at_comes (branched_traces operation words m i)
  execute_traces (insn.Reserved word) m e i = at_comes i

pub trace_stays : (code : Insn) (m m' : Machine) (came : Result Ending Abort) (es : List Exchange)
    → loads_trace code ≡ false → Leads (execute code m) es (came, m') → m'.status.trace ≡ m.status.trace
trace_stays code m m' came es e h = (execute_traces m.status.trace code m e refl).each es (came, m') h

-- ---- traps

abbrev LoadedBy : Vector → Turn × Machine → Type 0
LoadedBy vector y = y.0 ≡ Next → y.1.status ≡ status_of (word_at y.1.memory (vector_address vector + 2))

pushed_loads : (vector : Vector) (x : Result (Unit {0}) Abort) (n : Machine)
    → Always (trap_pushed vector x n) (LoadedBy vector)
pushed_loads vector (Ok done) n = at_comes (λ e. refl)
pushed_loads vector (Err (Traps other)) n = at_comes (λ e. absurd (cc))
pushed_loads vector (Err (Stops StackFault)) n = at_comes (λ e. absurd (cc))
pushed_loads vector (Err (Stops InputFault)) n = at_comes (λ e. absurd (cc))
pushed_loads vector (Err (Stops OutputFault)) n = at_comes (λ e. absurd (cc))

pub traps_load : (vector : Vector) (m : Machine) → TrapsLoad vector m
unfolding trap
traps_load vector m es trapped h =
    (at_after (push_state m) (λ pushed. trap_pushed vector pushed.0 pushed.1) (λ y. ⊤) (LoadedBy vector)
    (whatever (push_state m)) (λ pushed i. pushed_loads vector pushed.0 pushed.1)).each es (Next, trapped) h refl
