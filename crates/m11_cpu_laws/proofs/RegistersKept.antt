-- The registers that an instruction leaves unchanged.
use Rattle.std.proofs.Common.{◌≡◌, ◌≢◌, ℕ, ◌+◌, ◌*◌, ◌%◌, ◌==◌, Bool, true, false, cond, List, [], ◌∷◌, ◌++◌, Result, Ok, Err, refl, ◌∙◌, ap}
use Rattle.std.specs.Prelude.{ℤ, ◌||◌, slice_index, ⊤}
use Rattle.m11_base.specs.Operand.{register_number}
use Rattle.m11_base.specs.declared.instruction.BareOp.{BareOp}
use Rattle.m11_base.specs.declared.instruction.BareOp.TheVariants.{Halt, Wait, Rti, Bpt, Iot, Reset, Rtt}
use Rattle.m11_base.specs.declared.instruction.BranchOp.{BranchOp}
use Rattle.m11_base.specs.declared.instruction.ConditionCodes.{ConditionCodes}
use Rattle.m11_base.specs.declared.instruction.DoubleOp.{DoubleOp}
use Rattle.m11_base.specs.declared.instruction.DoubleOp.TheVariants.{Mov, Cmp, Bit, Bic, Bis, Add, Sub}
use Rattle.m11_base.specs.declared.instruction.ExtendedOp.{ExtendedOp}
use Rattle.m11_base.specs.declared.instruction.ExtendedOp.TheVariants.{Mul, Div, Ash, Ashc}
use Rattle.m11_base.specs.declared.instruction.Insn.{Insn}
use Rattle.m11_base.specs.declared.instruction.Insn.TheVariants as insn
use Rattle.m11_base.specs.declared.instruction.NumberOp.TheVariants.{Mark, Emt, Trap}
use Rattle.m11_base.specs.declared.instruction.RegisterOp.TheVariants.{Jsr, Xor}
use Rattle.m11_base.specs.declared.instruction.SingleOp.{SingleOp}
use Rattle.m11_base.specs.declared.instruction.SingleOp.TheVariants.{Jmp, Swab, Clr, Com, Inc, Dec, Neg, Adc, Sbc, Tst, Ror, Rol, Asr, Asl, Sxt}
use Rattle.m11_base.specs.declared.operand.Mode.{Mode}
use Rattle.m11_base.specs.declared.operand.Mode.TheVariants as mode
use Rattle.m11_base.specs.declared.operand.Operand.{Operand}
use Rattle.m11_base.specs.declared.operand.Register.{Register}
use Rattle.m11_base.specs.declared.operand.Register.TheVariants.{Pc, R5, Sp}
use Rattle.m11_base.specs.declared.operand.Size.{Size}
use Rattle.m11_base.specs.declared.operand.Size.TheVariants.{Word, Byte}
use Rattle.m11_cpu_arithmetic.specs.Branches.{is_taken}
use Rattle.m11_cpu_arithmetic.specs.Extended.{division_of}
use Rattle.m11_cpu_arithmetic.specs.declared.results.Computed.{Computed}
use Rattle.m11_cpu_arithmetic.specs.declared.results.Division.{Division}
use Rattle.m11_cpu_arithmetic.specs.declared.results.Division.TheVariants.{Done, Refused}
use Rattle.m11_cpu_machine.specs.Access.{is_inside, is_odd, load_word, store_byte, store_device, store_word}
use Rattle.m11_cpu_machine.specs.Acts.{Act, ◌>>=◌}
use Rattle.m11_cpu_machine.specs.Console.{device_at}
use Rattle.m11_cpu_machine.specs.DoubleOperands.{change_double, change_exclusive, compare, double, double_at, exclusive_or, move_to, store_moved}
use Rattle.m11_cpu_machine.specs.Execution.{bare, execute, numbered, on_register, return_from_trap, then_next}
use Rattle.m11_cpu_machine.specs.Extended.{after_division, extended, extended_by, low_word_of}
use Rattle.m11_cpu_machine.specs.Jumps.{branched, call, counted_down, enter, jump, mark, pop, push, return_by, target, words_on}
use Rattle.m11_cpu_machine.specs.Machine.{finished, is_status, register_of, with_condition_codes, with_register}
use Rattle.m11_cpu_machine.specs.Addressing.{back, deferred, fetch, fetch_operand, forward, indexed, location_by, location_of, next_word, store_result, store}
use Rattle.m11_cpu_machine.specs.SingleOperands.{change_at, change_single, single, test_operand, write}
use Rattle.m11_cpu_machine.specs.declared.abort.Abort.{Abort}
use Rattle.m11_cpu_machine.specs.declared.machine.Machine.{Machine}
use Rattle.m11_cpu_machine.specs.declared.addressing.OperandLocation.{OperandLocation}
use Rattle.m11_cpu_machine.specs.declared.addressing.OperandLocation.TheVariants.{InRegister, InMemory}
use Rattle.m11_cpu_laws.specs.Registers.{by_destination, by_extended, changed_by, is_direct, stepped, stepped_or_stored}
use Rattle.m11_cpu_laws.specs.Returns.{is_stepping}
use Rattle.m11_cpu_laws.specs.Writes.{IsNoneOf, stores_double, stores_single}
use Rattle.m11_cpu_laws.proofs.AddressesLeave.{byte_keeps, location_keeps, next_word_keeps, target_keeps, word_keeps}
use Rattle.m11_cpu_laws.proofs.MemoryPreserved.{none_left, none_right}
use Rattle.m11_cpu_laws.proofs.Parts.{Always, at_bind, at_comes, at_cond, at_map, Keeps, keeps_bind}
use Rattle.m11_cpu_laws.proofs.StepsWrite.{device_keeps, registers_kept}
use Rattle.m11_cpu_laws.proofs.TracesFollow.{whatever}
use Rattle.m11_cpu_laws.proofs.WordsPut.{put_other}

-- ---- the register of an operand that is stepped or stored to

if_stepped : (k r : ℕ) (steps : Bool) → IsNoneOf k (cond steps (r ∷ []) []) → steps ≡ true → k ≢ r
if_stepped k r true h e = h.0
if_stepped k r false h e = absurd (cc)

either_stepped : (k r : ℕ) (direct steps : Bool) → IsNoneOf k (cond (direct || steps) (r ∷ []) []) → steps ≡ true
    → k ≢ r
either_stepped k r true steps h e = h.0
either_stepped k r false true h e = h.0
either_stepped k r false false h e = absurd (cc)

either_direct : (k r : ℕ) (direct steps : Bool) → IsNoneOf k (cond (direct || steps) (r ∷ []) []) → direct ≡ true
    → k ≢ r
either_direct k r true steps h e = h.0
either_direct k r false steps h e = absurd (cc)

-- ---- a register that is not the program counter

module _ (r : Register) (held : ℕ) (counts : register_number r ≢ register_number Pc) where
  abbrev pub Holds : Machine → Type 0
  Holds n = register_of r n ≡ held

  pub put : (q : Register) (w : ℕ) (n : Machine) → register_number r ≢ register_number q → Holds n
      → Holds (with_register q w n)
  put q w n ne i = put_other r q w n ne ∙ i

  put_both : (p q : Register) (v w : ℕ) (n : Machine) → register_number r ≢ register_number p
      → register_number r ≢ register_number q → Holds n → Holds (with_register q w (with_register p v n))
  put_both p q v w n ne ne' i = put q w (with_register p v n) ne' (put p v n ne i)

  same : (n o : Machine) → o.registers ≡ n.registers → Holds n → Holds o
  same n o e i = ap (λ (registers : List ℕ). slice_index registers (register_number r)) e ∙ i

  -- ---- operands

  word_held : (address : ℕ) (m : Machine) → Holds m → Keeps Holds (load_word address m)
  word_held address m i = word_keeps Holds (λ n o j. j) address m i

  fetch_held : (location : OperandLocation) (size : Size) (m : Machine) → Holds m → Keeps Holds (fetch location size m)
  unfolding fetch
  fetch_held (InRegister register) Word m i = at_comes i
  fetch_held (InRegister register) Byte m i = at_comes i
  fetch_held (InMemory address) Word m i = word_held address m i
  fetch_held (InMemory address) Byte m i = byte_keeps Holds (λ n o j. j) address m i

  location_held : (operand : Operand) (size : Size) (m : Machine)
      → (is_stepping operand.mode ≡ true → register_number r ≢ register_number operand.register) → Holds m
      → Keeps Holds (location_of operand size m)
  location_held operand size m apart i =
      location_keeps Holds (λ n o j. j) (λ n w j. put Pc w n counts j) operand size m
      (λ e n w j. put operand.register w n (apart e) j) i

  stepped_apart : (operand : Operand) → IsNoneOf (register_number r) (stepped operand)
      → is_stepping operand.mode ≡ true → register_number r ≢ register_number operand.register
  stepped_apart operand h e =
      if_stepped (register_number r) (register_number operand.register) (is_stepping operand.mode) h e

  source_held : (operand : Operand) (size : Size) (m : Machine) → IsNoneOf (register_number r) (stepped operand)
      → Holds m → Keeps Holds (fetch_operand operand size m)
  unfolding fetch_operand
  source_held operand size m h i =
      keeps_bind Holds (location_of operand size) _ m (location_held operand size m (stepped_apart operand h) i)
      (λ location n j. fetch_held location size n j)

  -- ---- destinations

  abbrev Apart : OperandLocation → Type 0
  Apart (InRegister q) = register_number r ≢ register_number q
  Apart (InMemory address) = ⊤

  abbrev FormedApart : Result OperandLocation Abort → Type 0
  FormedApart (Ok location) = Apart location
  FormedApart (Err abort) = ⊤

  deferred_apart : (address : ℕ) (m : Machine) → Always (deferred address m) (λ y. FormedApart y.0)
  unfolding deferred
  deferred_apart address m =
      at_bind (load_word address) _ m (λ y. ⊤) (λ y. FormedApart y.0) (whatever (load_word address m))
      (λ e n t. tt) (λ x n t. at_comes tt)

  mode_apart : (by : Mode) (q : Register) (size : Size) (m : Machine)
      → (is_direct by ≡ true → register_number r ≢ register_number q)
      → Always (location_by by q size m) (λ y. FormedApart y.0)
  mode_apart mode.Register q size m f = at_comes (f refl)
  mode_apart mode.RegisterDeferred q size m f = at_comes tt
  mode_apart mode.Autoincrement q size m f = at_comes tt
  mode_apart mode.AutoincrementDeferred q size m f = deferred_apart (forward q 2 m).0 (forward q 2 m).1
  mode_apart mode.Autodecrement q size m f = at_comes tt
  mode_apart mode.AutodecrementDeferred q size m f = deferred_apart (back q 2 m).0 (back q 2 m).1
  mode_apart mode.Index q size m f =
      at_bind (indexed q) _ m (λ y. ⊤) (λ y. FormedApart y.0) (whatever (indexed q m)) (λ e n t. tt)
      (λ x n t. at_comes tt)
  mode_apart mode.IndexDeferred q size m f =
      at_bind (indexed q) deferred m (λ y. ⊤) (λ y. FormedApart y.0) (whatever (indexed q m)) (λ e n t. tt)
      (λ x n t. deferred_apart x n)

  abbrev Formed : Result OperandLocation Abort × Machine → Type 0
  Formed y = FormedApart y.0 × Holds y.1

  formed : (operand : Operand) (size : Size) (m : Machine)
      → IsNoneOf (register_number r) (stepped_or_stored operand)
      → Holds m → Always (location_of operand size m) (λ y. Formed y)
  unfolding location_of
  formed operand size m h i =
      let direct = is_direct operand.mode in
      let steps = is_stepping operand.mode in
      let apart = either_stepped (register_number r) (register_number operand.register) direct steps h in
      let named = either_direct (register_number r) (register_number operand.register) direct steps h in
      record {
        each = λ es y l. (
          (mode_apart operand.mode operand.register size m named).each es y l,
          (location_held operand size m apart i).each es y l,
        );
      }

  -- if an act after the forming of its destination keeps the register, the whole keeps it
  then_held : (operand : Operand) (size : Size) (next : OperandLocation → Act (Unit {0})) (m : Machine)
      → IsNoneOf (register_number r) (stepped_or_stored operand) → Holds m
      → ((location : OperandLocation) (n : Machine) → Apart location → Holds n → Keeps Holds (next location n))
      → Keeps Holds ((location_of operand size >>= next) m)
  then_held operand size next m h i ok =
      at_bind (location_of operand size) next m (λ y. Formed y) (λ y. Holds y.1) (formed operand size m h i)
      (λ e n p. p.1) (λ location n p. ok location n p.0 p.1)

  byte_stored : (address v : ℕ) (m : Machine) → Keeps (λ n. n.registers ≡ m.registers) (store_byte address v m)
  unfolding store_byte store_device
  byte_stored address v m =
      at_cond (is_inside address m) (at_comes refl)
      (at_cond (is_odd address) (at_comes refl) (device_keeps (device_at address) v m))

  store_word_held : (address v : ℕ) (m : Machine) → Holds m → Keeps Holds (store_word address v m)
  store_word_held address v m i = at_map (registers_kept address v m) (λ y e. same m y.1 e i)

  store_held : (location : OperandLocation) (size : Size) (v : ℕ) (m : Machine) → Apart location → Holds m
      → Keeps Holds (store location size v m)
  unfolding store
  store_held (InRegister q) Word v m apart i = at_comes (put q _ m apart i)
  store_held (InRegister q) Byte v m apart i = at_comes (put q _ m apart i)
  store_held (InMemory address) Word v m apart i = store_word_held address v m i
  store_held (InMemory address) Byte v m apart i =
      at_map (byte_stored address (v % 256) m) (λ y e. same m y.1 e i)

  either_held : (test : Bool) (a b : Machine) → Holds a → Holds b → Holds (cond test a b)
  either_held true a b i j = i
  either_held false a b i j = j

  finished_held : (location : OperandLocation) (codes : ConditionCodes) (m : Machine) → Holds m
      → Holds (finished location codes m)
  finished_held location codes m i = either_held (is_status location) m (with_condition_codes codes m) i i

  moved_held : (location : OperandLocation) (size : Size) (v : ℕ) (m : Machine) → Apart location → Holds m
      → Keeps Holds (store_moved location size v m)
  unfolding store_moved
  moved_held (InRegister q) Word v m apart i = store_held (InRegister q) Word v m apart i
  moved_held (InRegister q) Byte v m apart i = at_comes (put q _ m apart i)
  moved_held (InMemory address) size v m apart i = store_held (InMemory address) size v m apart i

  move_held : (location : OperandLocation) (size : Size) (source : ℕ) (m : Machine) → Apart location → Holds m
      → Keeps Holds (move_to location size source m)
  unfolding move_to
  move_held location size source m apart i =
      keeps_bind Holds (store_moved location size source) _ m (moved_held location size source m apart i)
      (λ u n j. at_comes (finished_held location _ n j))

  result_held : (location : OperandLocation) (size : Size) (computed : Computed) (m : Machine) → Apart location → Holds m
      → Keeps Holds (store_result location size computed m)
  unfolding store_result
  result_held location size computed m apart i =
      keeps_bind Holds (store location size computed.value) _ m (store_held location size computed.value m apart i)
      (λ u n j. at_comes (finished_held location _ n j))

  -- ---- instructions of two operands

  compare_held : (operation : DoubleOp) (location : OperandLocation) (size : Size) (source : ℕ) (m : Machine) → Holds m
      → Keeps Holds (compare operation location size source m)
  unfolding compare
  compare_held operation location size source m i =
      keeps_bind Holds (fetch location size) _ m (fetch_held location size m i) (λ value n j. at_comes j)

  change_held : (operation : DoubleOp) (location : OperandLocation) (size : Size) (source : ℕ) (m : Machine) → Apart location
      → Holds m → Keeps Holds (change_double operation location size source m)
  unfolding change_double
  change_held operation location size source m apart i =
      keeps_bind Holds (fetch location size) _ m (fetch_held location size m i)
      (λ value n j. result_held location size _ n apart j)

  -- an operation keeps a register that its destination's mode doesn't step, and in which it stores nothing
  reads_held : (operation : DoubleOp) (size : Size) (source : ℕ) (operand : Operand) (m : Machine)
      → IsNoneOf (register_number r) (stepped operand) → Holds m
      → Keeps Holds ((location_of operand size >>= λ location. compare operation location size source) m)
  reads_held operation size source operand m h i =
      keeps_bind Holds (location_of operand size) _ m (location_held operand size m (stepped_apart operand h) i)
      (λ location n j. compare_held operation location size source n j)

  changes_held : (operation : DoubleOp) (size : Size) (source : ℕ) (operand : Operand) (m : Machine)
      → IsNoneOf (register_number r) (stepped_or_stored operand) → Holds m
      → Keeps Holds ((location_of operand size >>= λ location. change_double operation location size source) m)
  changes_held operation size source operand m h i =
      then_held operand size _ m h i (λ location n apart j. change_held operation location size source n apart j)

  at_destination : (operation : DoubleOp) (size : Size) (source : ℕ) (operand : Operand) (m : Machine)
      → IsNoneOf (register_number r) (by_destination (stores_double operation) operand) → Holds m
      → Keeps Holds ((location_of operand size >>= double_at operation size source) m)
  unfolding double_at
  at_destination Mov size source operand m h i =
      then_held operand size _ m h i (λ location n apart j. move_held location size source n apart j)
  at_destination Cmp size source operand m h i = reads_held Cmp size source operand m h i
  at_destination Bit size source operand m h i = reads_held Bit size source operand m h i
  at_destination Bic size source operand m h i = changes_held Bic size source operand m h i
  at_destination Bis size source operand m h i = changes_held Bis size source operand m h i
  at_destination Add size source operand m h i = changes_held Add size source operand m h i
  at_destination Sub size source operand m h i = changes_held Sub size source operand m h i

  double_held : (operation : DoubleOp) (size : Size) (source destination : Operand) (m : Machine)
      → IsNoneOf (register_number r) (stepped source ++ by_destination (stores_double operation) destination)
      → Holds m → Keeps Holds (double operation size source destination m)
  unfolding double
  double_held operation size source destination m h i =
      let others = by_destination (stores_double operation) destination in
      keeps_bind Holds (fetch_operand source size) _ m
      (source_held source size m (none_left (register_number r) (stepped source) others h) i)
      (λ value n j. at_destination operation size value destination n
      (none_right (register_number r) (stepped source) others h) j)

  exclusive_held : (register : Register) (operand : Operand) (m : Machine)
      → IsNoneOf (register_number r) (stepped_or_stored operand) → Holds m
      → Keeps Holds (exclusive_or register operand m)
  unfolding exclusive_or change_exclusive
  exclusive_held register operand m h i =
      then_held operand Word (change_exclusive (register_of register m)) m h i
      (λ location n apart j. keeps_bind Holds (fetch location Word) _ n (fetch_held location Word n j)
      (λ value o k. result_held location Word _ o apart k))

  -- ---- instructions of one operand

  target_held : (operand : Operand) (m : Machine) → IsNoneOf (register_number r) (stepped operand) → Holds m
      → Keeps Holds (target operand m)
  unfolding target
  target_held operand m h i =
      target_keeps Holds operand Word m (location_held operand Word m (stepped_apart operand h) i)

  jump_held : (operand : Operand) (m : Machine) → IsNoneOf (register_number r) (stepped operand) → Holds m
      → Keeps Holds (jump operand m)
  unfolding jump
  jump_held operand m h i =
      keeps_bind Holds (target operand) _ m (target_held operand m h i)
      (λ address n j. at_comes (put Pc address n counts j))

  test_held : (operation : SingleOp) (size : Size) (operand : Operand) (m : Machine)
      → IsNoneOf (register_number r) (stepped operand) → Holds m
      → Keeps Holds (test_operand operation size operand m)
  unfolding test_operand
  test_held operation size operand m h i =
      keeps_bind Holds (fetch_operand operand size) _ m (source_held operand size m h i) (λ value n j. at_comes j)

  write_held : (operation : SingleOp) (size : Size) (operand : Operand) (m : Machine)
      → IsNoneOf (register_number r) (stepped_or_stored operand) → Holds m
      → Keeps Holds (write operation size operand m)
  unfolding write
  write_held operation size operand m h i =
      then_held operand size _ m h i (λ location n apart j. result_held location size _ n apart j)

  modify_held : (operation : SingleOp) (size : Size) (operand : Operand) (m : Machine)
      → IsNoneOf (register_number r) (stepped_or_stored operand) → Holds m
      → Keeps Holds (change_single operation size operand m)
  unfolding change_single change_at
  modify_held operation size operand m h i =
      then_held operand size (change_at operation size) m h i
      (λ location n apart j. keeps_bind Holds (fetch location size) _ n (fetch_held location size n j)
      (λ value o k. result_held location size _ o apart k))

  single_held : (operation : SingleOp) (size : Size) (operand : Operand) (m : Machine)
      → IsNoneOf (register_number r) (by_destination (stores_single operation) operand) → Holds m
      → Keeps Holds (single operation size operand m)
  unfolding single
  single_held Jmp size operand m h i = jump_held operand m h i
  single_held Swab size operand m h i = modify_held Swab size operand m h i
  single_held Clr size operand m h i = write_held Clr size operand m h i
  single_held Com size operand m h i = modify_held Com size operand m h i
  single_held Inc size operand m h i = modify_held Inc size operand m h i
  single_held Dec size operand m h i = modify_held Dec size operand m h i
  single_held Neg size operand m h i = modify_held Neg size operand m h i
  single_held Adc size operand m h i = modify_held Adc size operand m h i
  single_held Sbc size operand m h i = modify_held Sbc size operand m h i
  single_held Tst size operand m h i = test_held Tst size operand m h i
  single_held Ror size operand m h i = modify_held Ror size operand m h i
  single_held Rol size operand m h i = modify_held Rol size operand m h i
  single_held Asr size operand m h i = modify_held Asr size operand m h i
  single_held Asl size operand m h i = modify_held Asl size operand m h i
  single_held Sxt size operand m h i = write_held Sxt size operand m h i

  -- ---- the stack

  pub push_held : (v : ℕ) (m : Machine) → register_number r ≢ register_number Sp → Holds m
      → Keeps Holds (push v m)
  unfolding push
  push_held v m ne i = store_word_held (back Sp 2 m).0 v (back Sp 2 m).1 (put Sp _ m ne i)

  pop_held : (m : Machine) → register_number r ≢ register_number Sp → Holds m → Keeps Holds (pop m)
  unfolding pop
  pop_held m ne i = word_held (forward Sp 2 m).0 (forward Sp 2 m).1 (put Sp _ m ne i)

  call_held : (register : Register) (operand : Operand) (m : Machine)
      → IsNoneOf (register_number r) (stepped operand ++ (register_number register ∷ register_number Sp ∷ []))
      → Holds m → Keeps Holds (call register operand m)
  unfolding call enter
  call_held register operand m h i =
      let others = register_number register ∷ register_number Sp ∷ [] in
      let rest = none_right (register_number r) (stepped operand) others h in
      keeps_bind Holds (target operand) (enter register) m
      (target_held operand m (none_left (register_number r) (stepped operand) others h) i)
      (λ address n j. keeps_bind Holds (push (register_of register n)) _ n
      (push_held (register_of register n) n rest.1.0 j)
      (λ u o k. at_comes (put_both register Pc (register_of Pc o) address o rest.0 counts k)))

  return_held : (register : Register) (m : Machine) → register_number r ≢ register_number register
      → register_number r ≢ register_number Sp → Holds m → Keeps Holds (return_by register m)
  unfolding return_by
  return_held register m ne ne' i =
      let n = with_register Pc (register_of register m) m in
      keeps_bind Holds pop _ n (pop_held n ne' (put Pc _ m counts i)) (λ word o j. at_comes (put register word o ne j))

  mark_held : (words : ℕ) (m : Machine) → register_number r ≢ register_number R5
      → register_number r ≢ register_number Sp → Holds m → Keeps Holds (mark words m)
  unfolding mark
  mark_held words m ne ne' i =
      let cut = with_register Sp ((register_of Pc m + words * 2) % 0o200000) m in
      let n = with_register Pc (register_of R5 cut) cut in
      keeps_bind Holds pop _ n (pop_held n ne' (put Pc _ cut counts (put Sp _ m ne' i)))
      (λ word o j. at_comes (put R5 word o ne j))

  from_trap_held : (m : Machine) → register_number r ≢ register_number Sp → Holds m
      → Keeps Holds (return_from_trap m)
  unfolding return_from_trap
  from_trap_held m ne i =
      keeps_bind Holds pop _ m (pop_held m ne i)
      (λ address n j. keeps_bind Holds pop _ (with_register Pc address n)
      (pop_held (with_register Pc address n) ne (put Pc address n counts j)) (λ bits o k. at_comes k))

  -- ---- other instructions

  division_held : (register : Register) (division : Division) (m : Machine)
      → register_number r ≢ register_number register → register_number r ≢ register_number (low_word_of register)
      → Holds m → Holds (after_division register division m)
  division_held register (Done quotient remainder codes) m ne ne' i =
      put (low_word_of register) remainder (with_register register quotient m) ne' (put register quotient m ne i)
  division_held register (Refused codes) m ne ne' i = i

  by_extended_held : (operation : ExtendedOp) (register : Register) (source : ℕ) (m : Machine)
      → IsNoneOf (register_number r) (by_extended operation register) → Holds m
      → Holds (extended_by operation register source m)
  by_extended_held Mul register source m h i = put_both register (low_word_of register) _ _ m h.0 h.1.0 i
  by_extended_held Div register source m h i =
      division_held register
      (division_of (register_of register m) (register_of (low_word_of register) m) source) m h.0 h.1.0 i
  by_extended_held Ash register source m h i = put register _ m h.0 i
  by_extended_held Ashc register source m h i = put_both register (low_word_of register) _ _ m h.0 h.1.0 i

  extended_held : (operation : ExtendedOp) (register : Register) (source : Operand) (m : Machine)
      → IsNoneOf (register_number r) (stepped source ++ by_extended operation register)
      → Holds m → Keeps Holds (extended operation register source m)
  unfolding extended
  extended_held operation register source m h i =
      let others = by_extended operation register in
      let rest = none_right (register_number r) (stepped source) others h in
      keeps_bind Holds (fetch_operand source Word) _ m
      (source_held source Word m (none_left (register_number r) (stepped source) others h) i)
      (λ value n j. at_comes (by_extended_held operation register value n rest j))

  branched_held : (operation : BranchOp) (words : ℤ) (m : Machine) → Holds m → Holds (branched operation words m)
  branched_held operation words m i =
      either_held (is_taken operation m.status.codes) (with_register Pc (words_on (register_of Pc m) words) m) m
      (put Pc _ m counts i) i

  counted_held : (register : Register) (words : ℕ) (m : Machine) → register_number r ≢ register_number register
      → Holds m → Holds (counted_down register words m)
  counted_held register words m ne i =
      let count = back register 1 m in
      let j = put register _ m ne i in
      either_held (count.0 == 0) count.1 (back Pc (words * 2) count.1).1 j (put Pc _ count.1 counts j)

  next_held : (act : Act (Unit {0})) (m : Machine) → Keeps Holds (act m) → Keeps Holds (then_next act m)
  next_held act m a = keeps_bind Holds act _ m a (λ u n j. at_comes j)

  bare_held : (operation : BareOp) (m : Machine) → IsNoneOf (register_number r) (changed_by (insn.Bare operation))
      → Holds m → Keeps Holds (bare operation m)
  unfolding bare
  bare_held Halt m h i = at_comes i
  bare_held Wait m h i = at_comes i
  bare_held Rti m h i = keeps_bind Holds return_from_trap _ m (from_trap_held m h.0 i) (λ u n j. at_comes j)
  bare_held Rtt m h i = keeps_bind Holds return_from_trap _ m (from_trap_held m h.0 i) (λ u n j. at_comes j)
  bare_held Bpt m h i = at_comes i
  bare_held Iot m h i = at_comes i
  bare_held Reset m h i = at_comes i

  pub execute_held : (code : Insn) (m : Machine) → IsNoneOf (register_number r) (changed_by code) → Holds m
      → Keeps Holds (execute code m)
  unfolding execute on_register numbered
  execute_held (insn.Double operation size source destination) m h i =
      next_held (double operation size source destination) m
      (double_held operation size source destination m h i)
  execute_held (insn.Extended operation register source) m h i =
      next_held (extended operation register source) m (extended_held operation register source m h i)
  execute_held (insn.Register Jsr register operand) m h i =
      next_held (call register operand) m (call_held register operand m h i)
  execute_held (insn.Register Xor register operand) m h i =
      next_held (exclusive_or register operand) m (exclusive_held register operand m h i)
  execute_held (insn.Sob register words) m h i = at_comes (counted_held register words m h.0 i)
  execute_held (insn.Single operation size operand) m h i =
      next_held (single operation size operand) m (single_held operation size operand m h i)
  execute_held (insn.Rts register) m h i =
      next_held (return_by register) m (return_held register m h.0 h.1.0 i)
  execute_held (insn.Number Mark number) m h i =
      next_held (numbered Mark number) m (mark_held number m h.0 h.1.0 i)
  execute_held (insn.Number Emt number) m h i = next_held (numbered Emt number) m (at_comes i)
  execute_held (insn.Number Trap number) m h i = next_held (numbered Trap number) m (at_comes i)
  execute_held (insn.Bare operation) m h i = bare_held operation m h i
  execute_held (insn.Condition operation named) m h i = at_comes i
  execute_held (insn.Branch operation words) m h i = at_comes (branched_held operation words m i)
  execute_held (insn.Reserved word) m h i = at_comes i

  pub code_held : (m : Machine) → Holds m → Keeps Holds (next_word m)
  code_held m i = next_word_keeps Holds (λ n o j. j) (λ n w j. put Pc w n counts j) m i
