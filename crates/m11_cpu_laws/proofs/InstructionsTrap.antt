-- The accesses at which each instruction traps through 4.
use Rattle.std.proofs.Common.{◌≡◌, ◌≢◌, ℕ, ◌+◌, ◌*◌, ◌%◌, Bool, false, List, [], ◌∷◌, ◌++◌, length, Result, Ok, Err, refl, sym, ◌∙◌, subst, ap, arith, inl, inr, true≢false}
use Rattle.std.specs.Prelude.{⊤}
use Rattle.m11_base.specs.Operand.{register_number}
use Rattle.m11_base.specs.declared.instruction.BareOp.{BareOp}
use Rattle.m11_base.specs.declared.instruction.BareOp.TheVariants.{Halt, Wait, Rti, Bpt, Iot, Reset, Rtt}
use Rattle.m11_base.specs.declared.instruction.DoubleOp.{DoubleOp}
use Rattle.m11_base.specs.declared.instruction.DoubleOp.TheVariants.{Mov, Cmp, Bit, Bic, Bis, Add, Sub}
use Rattle.m11_base.specs.declared.instruction.ExtendedOp.{ExtendedOp}
use Rattle.m11_base.specs.declared.instruction.Insn.{Insn}
use Rattle.m11_base.specs.declared.instruction.Insn.TheVariants as insn
use Rattle.m11_base.specs.declared.instruction.NumberOp.TheVariants.{Mark, Emt, Trap}
use Rattle.m11_base.specs.declared.instruction.RegisterOp.TheVariants.{Jsr, Xor}
use Rattle.m11_base.specs.declared.instruction.SingleOp.{SingleOp}
use Rattle.m11_base.specs.declared.instruction.SingleOp.TheVariants.{Jmp, Swab, Clr, Com, Inc, Dec, Neg, Adc, Sbc, Tst, Ror, Rol, Asr, Asl, Sxt}
use Rattle.m11_base.specs.declared.operand.Mode.{Mode}
use Rattle.m11_base.specs.declared.operand.Mode.TheVariants as mode
use Rattle.m11_base.specs.declared.operand.Operand.{Operand}
use Rattle.m11_base.specs.declared.operand.Register.{Register}
use Rattle.m11_base.specs.declared.operand.Register.TheVariants.{Pc, R5, Sp}
use Rattle.m11_base.specs.declared.operand.Size.{Size}
use Rattle.m11_base.specs.declared.operand.Size.TheVariants.{Word, Byte}
use Rattle.m11_cpu_arithmetic.specs.declared.results.Computed.{Computed}
use Rattle.m11_cpu_machine.specs.Access.{load_byte, load_word, store_byte, store_word}
use Rattle.m11_cpu_machine.specs.Acts.{Act, ◌>>=◌}
use Rattle.m11_cpu_machine.specs.Addressing.{deferred, fetch, fetch_operand, indexed, location_by, location_of, next_word, store_result, stepped_back, store}
use Rattle.m11_cpu_machine.specs.Dialogue.{Comes, Exchange, Leads}
use Rattle.m11_cpu_machine.specs.DoubleOperands.{change_double, change_exclusive, compare, double, double_at, exclusive_or, move_to, store_moved}
use Rattle.m11_cpu_machine.specs.Execution.{bare, execute, numbered, on_register, return_from_trap}
use Rattle.m11_cpu_machine.specs.Extended.{extended}
use Rattle.m11_cpu_machine.specs.Jumps.{address_of, call, enter, jump, mark, pop, push, return_by, target}
use Rattle.m11_cpu_machine.specs.Machine.{advanced, register_of, with_register}
use Rattle.m11_cpu_machine.specs.SingleOperands.{change_at, change_single, single, test_operand, write}
use Rattle.m11_cpu_machine.specs.declared.abort.Abort.{Abort}
use Rattle.m11_cpu_machine.specs.declared.abort.Abort.TheVariants.{Traps}
use Rattle.m11_cpu_machine.specs.declared.abort.Vector.TheVariants.{Reserved}
use Rattle.m11_cpu_machine.specs.declared.addressing.OperandLocation.{OperandLocation}
use Rattle.m11_cpu_machine.specs.declared.addressing.OperandLocation.TheVariants.{InRegister, InMemory}
use Rattle.m11_cpu_machine.specs.declared.machine.Machine.{Machine}
use Rattle.m11_cpu_machine.proofs.RegistersPut.{put_same}
use Rattle.m11_cpu_laws.specs.Accesses.{Access, accesses_of, after_act, CodeTraps, FindsNothing, InstructionTraps, is_nothing, operand_accesses, pointers, pointers_by, SomeFindsNothing, TrapsAtThese, word_at_first}
use Rattle.m11_cpu_laws.specs.Addresses.{no_byte_at, no_word_at}
use Rattle.m11_cpu_laws.specs.Writes.{push_address, stack_deepened}
use Rattle.m11_cpu_laws.proofs.AccessesTrap.{Accesses, bind_never, comes_never, is_reached, load_byte_at, load_word_at, never_traps, NeverAt4, one_access, store_byte_at, store_word_at, then_accesses, then_quiet, through_access}
use Rattle.m11_cpu_laws.proofs.AddressesTrap.{load_byte_traps, load_word_traps}
use Rattle.m11_cpu_laws.proofs.MemoryPreserved.{fetch_quiet}
use Rattle.m11_cpu_laws.proofs.StopsLast.{at_once}
use Rattle.m11_cpu_laws.proofs.WordsPut.{put_other}

done_never : {A : Type 0} (x : A) (n : Machine) → NeverAt4 {A = A} (Comes (Ok x, n))
done_never x n = comes_never (Ok x) n refl

reserved_never : (n : Machine) → NeverAt4 {A = ℕ} (Comes (Err (Traps Reserved), n))
reserved_never n = comes_never (Err (Traps Reserved)) n refl

-- ---- index words and pointers

pub code_traps : (m : Machine) → CodeTraps m
unfolding next_word
code_traps m =
    then_quiet (load_word (register_of Pc m)) _ m m (word_at_first (register_of Pc) ∷ [])
    (one_access (load_word (register_of Pc m) m) (word_at_first (register_of Pc)) (register_of Pc m) m m refl
    (load_word_at (register_of Pc m) m)) (λ word n first h. done_never word _)

index_traps : (register : Register) (m : Machine)
    → TrapsAtThese {A = ℕ} (indexed register m) (word_at_first (register_of Pc) ∷ []) m
unfolding indexed
index_traps register m =
    then_quiet next_word _ m m (word_at_first (register_of Pc) ∷ []) (code_traps m)
    (λ word n first h. done_never _ n)

-- reading a pointer at a known address traps through 4 if and only if its access finds nothing, even if that access starts from another
-- machine
pointer_traps : (address : ℕ) (access : Access) (m before n : Machine) → access.address m ≡ Comes (Ok address, before)
    → is_nothing access.size address before ≡ no_word_at address n
    → TrapsAtThese {A = OperandLocation} (deferred address n) (access ∷ []) m
unfolding deferred
pointer_traps address access m before n e f =
    let P : Bool → Type 0 = λ bad. Accesses {A = ℕ} (load_word address n) bad in
    then_quiet (load_word address) _ n m (access ∷ [])
    (one_access (load_word address n) access address m before e (subst P (sym f) (load_word_at address n)))
    (λ word o first h. done_never _ o)

location_by_traps : (by : Mode) (register : Register) (size : Size) (m : Machine)
    → TrapsAtThese {A = OperandLocation} (location_by by register size m) (pointers_by by register) m
location_by_traps mode.Register register size m = never_traps _ m (done_never _ _)
location_by_traps mode.RegisterDeferred register size m = never_traps _ m (done_never _ _)
location_by_traps mode.Autoincrement register size m = never_traps _ m (done_never _ _)
location_by_traps mode.AutoincrementDeferred register size m =
    pointer_traps (register_of register m) (word_at_first (register_of register)) m m (advanced register 2 m) refl refl
location_by_traps mode.Autodecrement register size m = never_traps _ m (done_never _ _)
location_by_traps mode.AutodecrementDeferred register size m =
    pointer_traps (stepped_back register 2 m) (word_at_first (stepped_back register 2)) m m
    (with_register register (stepped_back register 2 m) m) refl refl
location_by_traps mode.Index register size m =
    then_quiet (indexed register) _ m m (word_at_first (register_of Pc) ∷ []) (index_traps register m)
    (λ address n first h. done_never _ n)
location_by_traps mode.IndexDeferred register size m =
    through_access (indexed register) deferred m (word_at_first (register_of Pc) ∷ []) Word
    (λ address n. Comes (Ok address, n)) (index_traps register m)
    (λ address n. pointer_traps address (record { size = Word; address = λ o. Comes (Ok address, o) }) n n n refl refl)

location_traps : (operand : Operand) (size : Size) (m : Machine)
    → TrapsAtThese {A = OperandLocation} (location_of operand size m) (pointers operand) m
unfolding location_of
location_traps operand size m = location_by_traps operand.mode operand.register size m

-- ---- a known location

abbrev access_at : OperandLocation → Size → Access
access_at location size = record { size = size; address = address_of location }

-- the access to a register never finds nothing, since a register has no address
no_address : (register : Register) (size : Size) (m : Machine) (es : List Exchange)
    → FindsNothing (access_at (InRegister register) size) m es → ⊥
no_address register size m es f =
    let from : Result ℕ Abort × Machine = (Err (Traps Reserved), m) in
    let to : Result ℕ Abort × Machine = (Ok f.address, f.before) in
    true≢false (ap is_reached (at_once from to es f.leads_here))

some_address : (register : Register) (size : Size) (m : Machine) (es : List Exchange)
    → SomeFindsNothing (access_at (InRegister register) size ∷ []) m es → ⊥
some_address register size m es (inl f) = no_address register size m es f
some_address register size m es (inr s) = s

in_register : {A : Type 0} (register : Register) (size : Size) (x : A) (m n : Machine)
    → TrapsAtThese {A = A} (Comes (Ok x, n)) (access_at (InRegister register) size ∷ []) m
in_register register size x m n = record {
  only = λ es left h. absurd (done_never x n es left h);
  each = λ es s. absurd (some_address register size m es s);
}

fetch_traps : (location : OperandLocation) (size : Size) (m : Machine)
    → TrapsAtThese {A = ℕ} (fetch location size m) (access_at location size ∷ []) m
unfolding fetch
fetch_traps (InRegister register) Word m = in_register register Word _ m m
fetch_traps (InRegister register) Byte m = in_register register Byte _ m m
fetch_traps (InMemory address) Word m =
    one_access (load_word address m) (access_at (InMemory address) Word) address m m refl (load_word_at address m)
fetch_traps (InMemory address) Byte m =
    one_access (load_byte address m) (access_at (InMemory address) Byte) address m m refl (load_byte_at address m)

store_traps : (location : OperandLocation) (size : Size) (v : ℕ) (m : Machine)
    → TrapsAtThese {A = Unit {0}} (store location size v m) (access_at location size ∷ []) m
unfolding store
store_traps (InRegister register) Word v m = in_register register Word _ m _
store_traps (InRegister register) Byte v m = in_register register Byte _ m _
store_traps (InMemory address) Word v m =
    one_access (store_word address v m) (access_at (InMemory address) Word) address m m refl (store_word_at address v m)
store_traps (InMemory address) Byte v m =
    one_access (store_byte address (v % 256) m) (access_at (InMemory address) Byte) address m m refl
    (store_byte_at address (v % 256) m)

moved_traps : (location : OperandLocation) (size : Size) (v : ℕ) (m : Machine)
    → TrapsAtThese {A = Unit {0}} (store_moved location size v m) (access_at location size ∷ []) m
unfolding store_moved
moved_traps (InRegister register) Word v m = store_traps (InRegister register) Word v m
moved_traps (InRegister register) Byte v m = in_register register Byte _ m _
moved_traps (InMemory address) size v m = store_traps (InMemory address) size v m

result_traps : (location : OperandLocation) (size : Size) (computed : Computed) (m : Machine)
    → TrapsAtThese {A = Unit {0}} (store_result location size computed m) (access_at location size ∷ []) m
unfolding store_result
result_traps location size computed m =
    then_quiet (store location size computed.value) _ m m (access_at location size ∷ [])
    (store_traps location size computed.value m) (λ u n first h. done_never tt _)

move_traps : (location : OperandLocation) (size : Size) (source : ℕ) (m : Machine)
    → TrapsAtThese {A = Unit {0}} (move_to location size source m) (access_at location size ∷ []) m
unfolding move_to
move_traps location size source m =
    then_quiet (store_moved location size source) _ m m (access_at location size ∷ []) (moved_traps location size source m)
    (λ u n first h. done_never tt _)

compare_traps : (operation : DoubleOp) (location : OperandLocation) (size : Size) (source : ℕ) (m : Machine)
    → TrapsAtThese {A = Unit {0}} (compare operation location size source m) (access_at location size ∷ []) m
unfolding compare
compare_traps operation location size source m =
    then_quiet (fetch location size) _ m m (access_at location size ∷ []) (fetch_traps location size m)
    (λ value n first h. done_never tt _)

-- the location is a register, or something is at its address
abbrev IsThere : OperandLocation → Size → Machine → Type 0
IsThere (InRegister register) size m = ⊤
IsThere (InMemory address) size m = is_nothing size address m ≡ false

same_word : (address : ℕ) (m n : Machine) → n.memory ≡ m.memory → no_word_at address n ≡ no_word_at address m
same_word address m n e = ap (λ (memory : List ℕ). no_word_at address (record m { memory = memory })) e

same_byte : (address : ℕ) (m n : Machine) → n.memory ≡ m.memory → no_byte_at address n ≡ no_byte_at address m
same_byte address m n e = ap (λ (memory : List ℕ). no_byte_at address (record m { memory = memory })) e

there_still : (location : OperandLocation) (size : Size) (m n : Machine) (value : ℕ) (es : List Exchange)
    → Leads (fetch location size m) es (Ok value, n) → n.memory ≡ m.memory → IsThere location size n
unfolding fetch
there_still (InRegister register) size m n value es h e = tt
there_still (InMemory address) Word m n value es h e =
    same_word address m n e ∙ sym (load_word_traps address m es (Ok value) n h)
there_still (InMemory address) Byte m n value es h e =
    same_byte address m n e ∙ sym (load_byte_traps address m es (Ok value) n h)

store_never : (location : OperandLocation) (size : Size) (v : ℕ) (m : Machine) → IsThere location size m
    → NeverAt4 {A = Unit {0}} (store location size v m)
unfolding store
store_never (InRegister register) Word v m i = done_never _ _
store_never (InRegister register) Byte v m i = done_never _ _
store_never (InMemory address) Word v m i = (store_word_at address v m).finds i
store_never (InMemory address) Byte v m i = (store_byte_at address (v % 256) m).finds i

result_never : (location : OperandLocation) (size : Size) (computed : Computed) (m : Machine) → IsThere location size m
    → NeverAt4 {A = Unit {0}} (store_result location size computed m)
unfolding store_result
result_never location size computed m i =
    bind_never (store location size computed.value) _ m (store_never location size computed.value m i)
    (λ u n. done_never tt _)

-- reading a destination and then storing there traps through 4 if and only if the one access to it finds nothing
changes_trap : (location : OperandLocation) (size : Size) (computed : ℕ → Machine → Computed) (m : Machine)
    → TrapsAtThese {A = Unit {0}} ((fetch location size >>= λ value n. store_result location size (computed value n) n) m)
    (access_at location size ∷ []) m
changes_trap location size computed m =
    then_quiet (fetch location size) (λ value n. store_result location size (computed value n) n) m m
    (access_at location size ∷ []) (fetch_traps location size m)
    (λ value n first h. result_never location size (computed value n) n
    (there_still location size m n value first h ((fetch_quiet m.memory location size m refl).each first (Ok value, n) h)))

change_double_traps : (operation : DoubleOp) (location : OperandLocation) (size : Size) (source : ℕ) (m : Machine)
    → TrapsAtThese {A = Unit {0}} (change_double operation location size source m) (access_at location size ∷ []) m
unfolding change_double
change_double_traps operation location size source m = changes_trap location size _ m

change_exclusive_traps : (source : ℕ) (location : OperandLocation) (m : Machine)
    → TrapsAtThese {A = Unit {0}} (change_exclusive source location m) (access_at location Word ∷ []) m
unfolding change_exclusive
change_exclusive_traps source location m = changes_trap location Word _ m

change_at_traps : (operation : SingleOp) (size : Size) (location : OperandLocation) (m : Machine)
    → TrapsAtThese {A = Unit {0}} (change_at operation size location m) (access_at location size ∷ []) m
unfolding change_at
change_at_traps operation size location m = changes_trap location size _ m

double_at_traps : (operation : DoubleOp) (size : Size) (source : ℕ) (location : OperandLocation) (m : Machine)
    → TrapsAtThese {A = Unit {0}} (double_at operation size source location m) (access_at location size ∷ []) m
unfolding double_at
double_at_traps Mov size source location m = move_traps location size source m
double_at_traps Cmp size source location m = compare_traps Cmp location size source m
double_at_traps Bit size source location m = compare_traps Bit location size source m
double_at_traps Bic size source location m = change_double_traps Bic location size source m
double_at_traps Bis size source location m = change_double_traps Bis location size source m
double_at_traps Add size source location m = change_double_traps Add location size source m
double_at_traps Sub size source location m = change_double_traps Sub location size source m

-- ---- operands

at_operand : {B : Type 0} (operand : Operand) (size : Size) (next : OperandLocation → Act B) (m : Machine)
    → ((location : OperandLocation) (n : Machine) → TrapsAtThese {A = B} (next location n) (access_at location size ∷ []) n)
    → TrapsAtThese {A = B} ((location_of operand size >>= next) m) (operand_accesses operand size) m
at_operand operand size next m k =
    through_access (location_of operand size) next m (pointers operand) size address_of (location_traps operand size m) k

source_traps : (operand : Operand) (size : Size) (m : Machine)
    → TrapsAtThese {A = ℕ} (fetch_operand operand size m) (operand_accesses operand size) m
unfolding fetch_operand
source_traps operand size m =
    at_operand operand size (λ location. fetch location size) m (λ location n. fetch_traps location size n)

address_never : (location : OperandLocation) (m : Machine) → NeverAt4 {A = ℕ} (address_of location m)
address_never (InRegister register) m = reserved_never m
address_never (InMemory address) m = done_never address m

target_traps : (operand : Operand) (m : Machine) → TrapsAtThese {A = ℕ} (target operand m) (pointers operand) m
unfolding target
target_traps operand m =
    then_quiet (location_of operand Word) address_of m m (pointers operand) (location_traps operand Word m)
    (λ location n first h. address_never location n)

-- ---- instructions

double_traps : (operation : DoubleOp) (size : Size) (source destination : Operand) (m : Machine)
    → TrapsAtThese {A = Unit {0}} (double operation size source destination m)
    (operand_accesses source size ++ after_act (fetch_operand source size) (operand_accesses destination size)) m
unfolding double
double_traps operation size source destination m =
    then_accesses (fetch_operand source size) (λ value. location_of destination size >>= double_at operation size value) m
    (operand_accesses source size) (operand_accesses destination size) (source_traps source size m)
    (λ value n. at_operand destination size (double_at operation size value) n
    (λ location o. double_at_traps operation size value location o))

extended_traps : (operation : ExtendedOp) (register : Register) (source : Operand) (m : Machine)
    → TrapsAtThese {A = Unit {0}} (extended operation register source m) (operand_accesses source Word) m
unfolding extended
extended_traps operation register source m =
    then_quiet (fetch_operand source Word) _ m m (operand_accesses source Word) (source_traps source Word m)
    (λ value n first h. done_never tt _)

exclusive_traps : (register : Register) (operand : Operand) (m : Machine)
    → TrapsAtThese {A = Unit {0}} (exclusive_or register operand m) (operand_accesses operand Word) m
unfolding exclusive_or
exclusive_traps register operand m =
    at_operand operand Word (change_exclusive (register_of register m)) m
    (λ location n. change_exclusive_traps (register_of register m) location n)

jump_traps : (operand : Operand) (m : Machine)
    → TrapsAtThese {A = Unit {0}} (jump operand m) (pointers operand) m
unfolding jump
jump_traps operand m =
    then_quiet (target operand) _ m m (pointers operand) (target_traps operand m)
    (λ address n first h. done_never tt _)

test_traps : (operation : SingleOp) (size : Size) (operand : Operand) (m : Machine)
    → TrapsAtThese {A = Unit {0}} (test_operand operation size operand m) (operand_accesses operand size) m
unfolding test_operand
test_traps operation size operand m =
    then_quiet (fetch_operand operand size) _ m m (operand_accesses operand size) (source_traps operand size m)
    (λ value n first h. done_never tt _)

write_traps : (operation : SingleOp) (size : Size) (operand : Operand) (m : Machine)
    → TrapsAtThese {A = Unit {0}} (write operation size operand m) (operand_accesses operand size) m
unfolding write
write_traps operation size operand m = at_operand operand size _ m (λ location n. result_traps location size _ n)

modify_traps : (operation : SingleOp) (size : Size) (operand : Operand) (m : Machine)
    → TrapsAtThese {A = Unit {0}} (change_single operation size operand m) (operand_accesses operand size) m
unfolding change_single
modify_traps operation size operand m =
    at_operand operand size (change_at operation size) m (λ location n. change_at_traps operation size location n)

abbrev single_accesses : SingleOp → Size → Operand → List Access
single_accesses operation size operand = accesses_of (insn.Single operation size operand)

single_traps : (operation : SingleOp) (size : Size) (operand : Operand) (m : Machine)
    → TrapsAtThese {A = Unit {0}} (single operation size operand m) (single_accesses operation size operand) m
unfolding single
single_traps Jmp size operand m = jump_traps operand m
single_traps Swab size operand m = modify_traps Swab size operand m
single_traps Clr size operand m = write_traps Clr size operand m
single_traps Com size operand m = modify_traps Com size operand m
single_traps Inc size operand m = modify_traps Inc size operand m
single_traps Dec size operand m = modify_traps Dec size operand m
single_traps Neg size operand m = modify_traps Neg size operand m
single_traps Adc size operand m = modify_traps Adc size operand m
single_traps Sbc size operand m = modify_traps Sbc size operand m
single_traps Tst size operand m = test_traps Tst size operand m
single_traps Ror size operand m = modify_traps Ror size operand m
single_traps Rol size operand m = modify_traps Rol size operand m
single_traps Asr size operand m = modify_traps Asr size operand m
single_traps Asl size operand m = modify_traps Asl size operand m
single_traps Sxt size operand m = write_traps Sxt size operand m

-- ---- the stack

push_traps : (v : ℕ) (m : Machine) → TrapsAtThese {A = Unit {0}} (push v m) (word_at_first push_address ∷ []) m
unfolding push
push_traps v m =
    one_access (store_word (push_address m) v (stack_deepened m)) (word_at_first push_address) (push_address m) m m refl
    (store_word_at (push_address m) v (stack_deepened m))

pop_traps : (of : Machine → ℕ) (m n : Machine) → register_of Sp n ≡ of m → no_word_at (of m) n ≡ no_word_at (of m) m
    → TrapsAtThese {A = ℕ} (pop n) (word_at_first of ∷ []) m
unfolding pop
pop_traps of m n e f =
    let d = load_word (register_of Sp n) (advanced Sp 2 n) in
    let P : Bool → Type 0 = λ bad. Accesses {A = ℕ} d bad in
    one_access d (word_at_first of) (of m) m m refl
    (subst P (ap (λ (a : ℕ). no_word_at a n) e ∙ f) (load_word_at (register_of Sp n) (advanced Sp 2 n)))

apart : register_number Sp ≢ register_number Pc
apart e = omega arith

call_traps : (register : Register) (operand : Operand) (m : Machine)
    → TrapsAtThese {A = Unit {0}} (call register operand m)
    (pointers operand ++ after_act (target operand) (word_at_first push_address ∷ [])) m
unfolding call enter
call_traps register operand m =
    then_accesses (target operand) (enter register) m (pointers operand) (word_at_first push_address ∷ [])
    (target_traps operand m)
    (λ address n. then_quiet (push (register_of register n)) _ n n (word_at_first push_address ∷ [])
    (push_traps (register_of register n) n) (λ u o first h. done_never tt _))

return_traps : (register : Register) (m : Machine)
    → TrapsAtThese {A = Unit {0}} (return_by register m) (word_at_first (register_of Sp) ∷ []) m
unfolding return_by
return_traps register m =
    let n = with_register Pc (register_of register m) m in
    then_quiet pop _ n m (word_at_first (register_of Sp) ∷ [])
    (pop_traps (register_of Sp) m n (put_other Sp Pc (register_of register m) m apart) refl)
    (λ word o first h. done_never tt _)

abbrev mark_address : ℕ → Machine → ℕ
mark_address words m = (register_of Pc m + words * 2) % 0o200000

mark_traps : (words : ℕ) (m : Machine) → length m.registers ≡ 8
    → TrapsAtThese {A = Unit {0}} (mark words m) (word_at_first (mark_address words) ∷ []) m
unfolding mark
mark_traps words m count =
    let cut = with_register Sp (mark_address words m) m in
    let n = with_register Pc (register_of R5 cut) cut in
    then_quiet pop _ n m (word_at_first (mark_address words) ∷ [])
    (pop_traps (mark_address words) m n
    (put_other Sp Pc (register_of R5 cut) cut apart ∙ put_same Sp (mark_address words m) m count) refl)
    (λ word o first h. done_never tt _)

from_trap_traps : (m : Machine)
    → TrapsAtThese {A = Unit {0}} (return_from_trap m)
    (word_at_first (register_of Sp) ∷ after_act pop (word_at_first (register_of Sp) ∷ [])) m
unfolding return_from_trap
from_trap_traps m =
    then_accesses pop _ m (word_at_first (register_of Sp) ∷ []) (word_at_first (register_of Sp) ∷ [])
    (pop_traps (register_of Sp) m m refl refl)
    (λ address n. then_quiet pop _ (with_register Pc address n) n (word_at_first (register_of Sp) ∷ [])
    (pop_traps (register_of Sp) n (with_register Pc address n) (put_other Sp Pc address n apart) refl)
    (λ word o first h. done_never tt _))

-- ---- all instructions

next_traps : {B : Type 0} (act : Act (Unit {0})) (next : Unit {0} → Act B) (m : Machine) (xs : List Access)
    → TrapsAtThese {A = Unit {0}} (act m) xs m → ((u : Unit {0}) (n : Machine) → NeverAt4 {A = B} (next u n))
    → TrapsAtThese {A = B} ((act >>= next) m) xs m
next_traps act next m xs t k = then_quiet act next m m xs t (λ u n first h. k u n)

bare_traps : (operation : BareOp) (m : Machine)
    → TrapsAtThese (bare operation m) (accesses_of (insn.Bare operation)) m
unfolding bare
bare_traps Halt m = never_traps _ m (done_never _ m)
bare_traps Wait m = never_traps _ m (done_never _ m)
bare_traps Rti m = next_traps return_from_trap _ m _ (from_trap_traps m) (λ u n. done_never _ n)
bare_traps Rtt m = next_traps return_from_trap _ m _ (from_trap_traps m) (λ u n. done_never _ n)
bare_traps Bpt m = never_traps _ m (comes_never _ m refl)
bare_traps Iot m = never_traps _ m (comes_never _ m refl)
bare_traps Reset m = never_traps _ m (done_never _ _)

pub instruction_traps : (code : Insn) (m : Machine) → InstructionTraps code m
unfolding execute on_register numbered
instruction_traps (insn.Double operation size source destination) m count =
    next_traps (double operation size source destination) _ m _ (double_traps operation size source destination m)
    (λ u n. done_never _ n)
instruction_traps (insn.Extended operation register source) m count =
    next_traps (extended operation register source) _ m _ (extended_traps operation register source m)
    (λ u n. done_never _ n)
instruction_traps (insn.Register Jsr register operand) m count =
    next_traps (call register operand) _ m _ (call_traps register operand m) (λ u n. done_never _ n)
instruction_traps (insn.Register Xor register operand) m count =
    next_traps (exclusive_or register operand) _ m _ (exclusive_traps register operand m) (λ u n. done_never _ n)
instruction_traps (insn.Sob register words) m count = never_traps _ m (done_never _ _)
instruction_traps (insn.Single operation size operand) m count =
    next_traps (single operation size operand) _ m _ (single_traps operation size operand m) (λ u n. done_never _ n)
instruction_traps (insn.Rts register) m count =
    next_traps (return_by register) _ m _ (return_traps register m) (λ u n. done_never _ n)
instruction_traps (insn.Number Mark number) m count =
    next_traps (numbered Mark number) _ m _ (mark_traps number m count) (λ u n. done_never _ n)
instruction_traps (insn.Number Emt number) m count =
    next_traps (numbered Emt number) _ m _ (never_traps _ m (comes_never _ m refl)) (λ u n. done_never _ n)
instruction_traps (insn.Number Trap number) m count =
    next_traps (numbered Trap number) _ m _ (never_traps _ m (comes_never _ m refl)) (λ u n. done_never _ n)
instruction_traps (insn.Bare operation) m count = bare_traps operation m
instruction_traps (insn.Condition operation named) m count = never_traps _ m (done_never _ _)
instruction_traps (insn.Branch operation words) m count = never_traps _ m (done_never _ _)
instruction_traps (insn.Reserved word) m count = never_traps _ m (comes_never _ m refl)
