-- Results stored in registers and memory, with the registers passed separately from the machine.
use Rattle.std.proofs.Common.{◌≡◌, ℕ, ◌+◌, ◌%◌, ◌<◌, ◌≤◌, ◌==◌, Bool, true, false, not, ◌&&◌, refl, sym, ◌∙◌, ap, List, length, arith}
use Rattle.std.proofs.lemmas.Bool.{false≢true}
use Rattle.std.proofs.lemmas.Bool.Decides.{nat_tests}
use Rattle.std.specs.Prelude.{nat_lt, Result, Ok, Some}
use Rattle.m11_cpu_machine.specs.Access.{is_odd}
use Rattle.m11_cpu_arithmetic.specs.Doubles.{double_result, exclusive_or_result}
use Rattle.m11_cpu_arithmetic.specs.Sizes.{size_limit}
use Rattle.m11_cpu_arithmetic.specs.Singles.{single_result}
use Rattle.m11_cpu_arithmetic.specs.declared.results.Computed.{Computed}
use Rattle.m11_base.specs.Operand.{register_number}
use Rattle.m11_base.specs.declared.instruction.ConditionCodes.{ConditionCodes}
use Rattle.m11_base.specs.declared.instruction.DoubleOp.{DoubleOp}
use Rattle.m11_base.specs.declared.instruction.DoubleOp.TheVariants.{Mov, Cmp, Bit, Bic, Bis, Add, Sub}
use Rattle.m11_base.specs.declared.instruction.SingleOp.{SingleOp}
use Rattle.m11_base.specs.declared.instruction.SingleOp.TheVariants.{Jmp, Swab, Clr, Com, Inc, Dec, Neg, Adc, Sbc, Tst, Ror, Rol, Asr, Asl, Sxt}
use Rattle.m11_base.specs.declared.operand.Operand.{Operand}
use Rattle.m11_base.specs.declared.instruction.ExtendedOp.TheVariants.{Mul}
use Rattle.m11_base.specs.declared.operand.Register.{Register}
use Rattle.m11_base.specs.declared.operand.Register.TheVariants.{R0, R1, R2, R3, R4, R5, Sp, Pc}
use Rattle.m11_cpu_arithmetic.specs.Extended.{division_of, product_of}
use Rattle.m11_cpu_arithmetic.specs.Shifts.{shift_pair_result, shift_result}
use Rattle.m11_cpu_arithmetic.specs.declared.results.Division.{Division}
use Rattle.m11_cpu_arithmetic.specs.declared.results.Division.TheVariants.{Done, Refused}
use Rattle.m11_cpu_arithmetic.specs.declared.results.Pair.{Pair}
use Rattle.m11_cpu_machine.specs.Extended.{after_division, divided, extended, low_word_of, multiplied, pair_shifted, shifted}
use Rattle.m11_base.specs.declared.operand.Size.{Size}
use Rattle.m11_base.specs.declared.operand.Size.TheVariants.{Word, Byte}
use Rattle.m11_cpu_machine.specs.Addressing.{fetch, fetch_operand, location_of, store_result, store, without_low_byte}
use Rattle.m11_cpu_machine.specs.DestinationUse.{use_by_double, use_by_single}
use Rattle.m11_cpu_machine.specs.Dialogue.{Comes, Dialogue}
use Rattle.m11_cpu_machine.specs.declared.destination_use.DestinationUse.TheVariants.{Writes}
use Rattle.m11_cpu_machine.specs.DoubleOperands.{change_double, change_exclusive, compare, exclusive_or, move_to, sign_extended, store_moved}
use Rattle.m11_cpu_machine.specs.Machine.{finished, register_of, with_condition_codes, with_register}
use Rattle.m11_cpu_quick.specs.Near.{is_plain}
use Rattle.m11_cpu_quick.specs.Beside.{low, moved, shown, stored, with_low}
use Rattle.m11_cpu_machine.specs.SingleOperands.{change_at, change_single, test_operand, write}
use Rattle.m11_cpu_machine.specs.declared.abort.Abort.{Abort}
use Rattle.m11_cpu_machine.specs.declared.addressing.OperandLocation.{OperandLocation}
use Rattle.m11_cpu_machine.specs.declared.addressing.OperandLocation.TheVariants.{InMemory, InRegister}
use Rattle.m11_cpu_machine.specs.declared.machine.Machine.{Machine}
use Rattle.m11_cpu_machine.proofs.AtOnce.{bind_at, cond_not}
use Rattle.m11_cpu_quick.proofs.OperandsFound.{held, other_put, other_register, with_held}
use Rattle.m11_cpu_quick.proofs.QuickDone.{byte_stored, word_stored}

abbrev pub done : Machine → Dialogue (Result (Unit {0}) Abort × Machine)
done n = Comes (Ok tt, n)

-- ---- stores

register_stored : (register : Register) (size : Size) (v k : ℕ) (rs : List ℕ) (m : Machine) → register_number register < 7
    → store (InRegister register) size v (shown k rs m)
    ≡ done (shown k (with_held rs register (with_low size (held rs register) v)) m)
unfolding store
register_stored register Word v k rs m g = ap done (other_put k v rs register m g)
register_stored register Byte v k rs m g =
    ap (λ (x : ℕ). done (with_register register (without_low_byte x + v % 256) (shown k rs m)))
    (other_register k rs register m g)
    ∙ ap done (other_put k (without_low_byte (held rs register) + v % 256) rs register m g)

register_moved : (register : Register) (size : Size) (v k : ℕ) (rs : List ℕ) (m : Machine) → register_number register < 7
    → store_moved (InRegister register) size v (shown k rs m) ≡ done (shown k (with_held rs register (moved size v)) m)
unfolding store_moved
register_moved register Word v k rs m g = register_stored register Word v k rs m g
register_moved register Byte v k rs m g = ap done (other_put k (sign_extended v) rs register m g)

memory_stored : (a : ℕ) (size : Size) (v k : ℕ) (rs : List ℕ) (m : Machine) → is_plain size a m.memory ≡ true
    → store (InMemory a) size v (shown k rs m) ≡ done (shown k rs (stored size a v m))
memory_stored a Word v k rs m p = word_stored Word a v (shown k rs m) (shown k rs (stored Word a v m)) refl p refl
memory_stored a Byte v k rs m p = byte_stored Byte a v (shown k rs m) (shown k rs (stored Byte a v m)) refl p refl

-- ---- results and their codes

pub put_register : (register : Register) (size : Size) (computed : Computed) (k : ℕ) (rs rs' : List ℕ) (m n : Machine)
    → register_number register < 7
    → rs' ≡ with_held rs register (with_low size (held rs register) computed.value)
    → n ≡ with_condition_codes computed.codes m
    → store_result (InRegister register) size computed (shown k rs m) ≡ done (shown k rs' n)
unfolding store_result
put_register register size computed k rs rs' m n g f e =
    let rest : Unit {0} → Machine → Dialogue (Result (Unit {0}) Abort × Machine) =
    λ _ x. done (finished (InRegister register) computed.codes x) in
    bind_at (store (InRegister register) size computed.value) rest (shown k rs m) _ tt
    (register_stored register size computed.value k rs m g)
    ∙ ap (λ (x : List ℕ). done (shown k x (with_condition_codes computed.codes m))) (sym f)
    ∙ ap (λ (x : Machine). done (shown k rs' x)) (sym e)

pub put_memory : (a : ℕ) (size : Size) (computed : Computed) (k : ℕ) (rs : List ℕ) (m n : Machine)
    → is_plain size a m.memory ≡ true → (a == 0o177776) ≡ false
    → n ≡ with_condition_codes computed.codes (stored size a computed.value m)
    → store_result (InMemory a) size computed (shown k rs m) ≡ done (shown k rs n)
unfolding store_result
put_memory a size computed k rs m n p q e =
    let rest : Unit {0} → Machine → Dialogue (Result (Unit {0}) Abort × Machine) =
    λ _ x. done (finished (InMemory a) computed.codes x) in
    let s = shown k rs (stored size a computed.value m) in
    bind_at (store (InMemory a) size computed.value) rest (shown k rs m) s tt (memory_stored a size computed.value k rs m p)
    ∙ ap done (cond_not (a == 0o177776) s (with_condition_codes computed.codes s) q)
    ∙ ap done (sym (coded size)) ∙ ap (λ (x : Machine). done (shown k rs x)) (sym e)
  where
    coded : (size : Size) → shown k rs (with_condition_codes computed.codes (stored size a computed.value m))
        ≡ with_condition_codes computed.codes (shown k rs (stored size a computed.value m))
    coded Word = refl
    coded Byte = refl

-- ---- MOV and MOVB

pub moves_register : (register : Register) (size : Size) (v : ℕ) (computed : Computed) (k : ℕ) (rs rs' : List ℕ)
    (m n : Machine) → register_number register < 7 → computed ≡ double_result Mov size v 0 m.status.codes
    → rs' ≡ with_held rs register (moved size v) → n ≡ with_condition_codes computed.codes m
    → move_to (InRegister register) size v (shown k rs m) ≡ done (shown k rs' n)
unfolding move_to
moves_register register size v computed k rs rs' m n g c f e =
    let rest : Unit {0} → Machine → Dialogue (Result (Unit {0}) Abort × Machine) =
    λ _ x. done (finished (InRegister register) (double_result Mov size v 0 m.status.codes).codes x) in
    bind_at (store_moved (InRegister register) size v) rest (shown k rs m) _ tt (register_moved register size v k rs m g)
    ∙ ap (λ (x : List ℕ). done (shown k x (with_condition_codes (double_result Mov size v 0 m.status.codes).codes m))) (sym f)
    ∙ ap (λ (x : Computed). done (shown k rs' (with_condition_codes x.codes m))) (sym c)
    ∙ ap (λ (x : Machine). done (shown k rs' x)) (sym e)

pub moves_memory : (a : ℕ) (size : Size) (v : ℕ) (computed : Computed) (k : ℕ) (rs : List ℕ) (m n : Machine)
    → is_plain size a m.memory ≡ true → (a == 0o177776) ≡ false
    → computed ≡ double_result Mov size v 0 m.status.codes
    → n ≡ with_condition_codes computed.codes (stored size a v m)
    → move_to (InMemory a) size v (shown k rs m) ≡ done (shown k rs n)
unfolding move_to store_moved
moves_memory a size v computed k rs m n p q c e =
    let codes = (double_result Mov size v 0 m.status.codes).codes in
    let rest : Unit {0} → Machine → Dialogue (Result (Unit {0}) Abort × Machine) =
    λ _ x. done (finished (InMemory a) codes x) in
    let s = shown k rs (stored size a v m) in
    bind_at (store_moved (InMemory a) size v) rest (shown k rs m) s tt (memory_stored a size v k rs m p)
    ∙ ap done (cond_not (a == 0o177776) s (with_condition_codes codes s) q)
    ∙ ap done (sym (coded size codes))
    ∙ ap (λ (x : Computed). done (shown k rs (with_condition_codes x.codes (stored size a v m)))) (sym c)
    ∙ ap (λ (x : Machine). done (shown k rs x)) (sym e)
  where
    coded : (size : Size) (codes : ConditionCodes) → shown k rs (with_condition_codes codes (stored size a v m))
        ≡ with_condition_codes codes (shown k rs (stored size a v m))
    coded Word codes = refl
    coded Byte codes = refl

-- ---- CMP and BIT, and operations that change their destination

pub compares : (operation : DoubleOp) (location : OperandLocation) (size : Size) (source v : ℕ) (computed : Computed) (k : ℕ)
    (rs : List ℕ) (m n : Machine) → fetch location size (shown k rs m) ≡ Comes (Ok v, shown k rs m)
    → computed ≡ double_result operation size source v m.status.codes → n ≡ with_condition_codes computed.codes m
    → compare operation location size source (shown k rs m) ≡ done (shown k rs n)
unfolding compare
compares operation location size source v computed k rs m n f c e =
    bind_at (fetch location size) _ (shown k rs m) (shown k rs m) v f
    ∙ ap (λ (x : Computed). done (shown k rs (with_condition_codes x.codes m))) (sym c)
    ∙ ap (λ (x : Machine). done (shown k rs x)) (sym e)

pub changes : (operation : DoubleOp) (location : OperandLocation) (size : Size) (source v : ℕ) (computed : Computed) (k : ℕ)
    (rs rs' : List ℕ) (m n : Machine) → fetch location size (shown k rs m) ≡ Comes (Ok v, shown k rs m)
    → computed ≡ double_result operation size source v m.status.codes
    → store_result location size computed (shown k rs m) ≡ done (shown k rs' n)
    → change_double operation location size source (shown k rs m) ≡ done (shown k rs' n)
unfolding change_double
changes operation location size source v computed k rs rs' m n f c e =
    bind_at (fetch location size) _ (shown k rs m) (shown k rs m) v f
    ∙ ap (λ (x : Computed). store_result location size x (shown k rs m)) (sym c) ∙ e

-- ---- the processor status lies past all memory

past : (a limit : ℕ) → nat_lt a limit ≡ true → limit ≤ 57344 → (a == 0o177776) ≡ false
past a limit e l = grind (arith, nat_tests)

inside : (odd inside : Bool) → (not odd && inside) ≡ true → inside ≡ true
inside false true e = refl
inside false false e = absurd (false≢true e)
inside true b e = absurd (false≢true e)

pub not_status : (size : Size) (a : ℕ) (memory : List ℕ) → is_plain size a memory ≡ true → length memory ≤ 57344
    → (a == 0o177776) ≡ false
not_status Word a memory p l = past a (length memory) (inside (is_odd a) (nat_lt a (length memory)) p) l
not_status Byte a memory p l = past a (length memory) p l

-- ---- operations on one operand

pub writes : (operation : SingleOp) (size : Size) (operand : Operand) (location : OperandLocation) (computed : Computed)
    (k k' : ℕ) (rs rs' rs'' : List ℕ) (m n : Machine)
    → location_of operand size (shown k rs m) ≡ Comes (Ok location, shown k' rs' m)
    → computed ≡ single_result operation size 0 m.status.codes
    → store_result location size computed (shown k' rs' m) ≡ done (shown k' rs'' n)
    → write operation size operand (shown k rs m) ≡ done (shown k' rs'' n)
unfolding write
writes operation size operand location computed k k' rs rs' rs'' m n p c e =
    bind_at (location_of operand size) _ (shown k rs m) (shown k' rs' m) location p
    ∙ ap (λ (x : Computed). store_result location size x (shown k' rs' m)) (sym c) ∙ e

pub tests : (operation : SingleOp) (size : Size) (operand : Operand) (v : ℕ) (computed : Computed)
    (k k' : ℕ) (rs rs' : List ℕ) (m n : Machine)
    → fetch_operand operand size (shown k rs m) ≡ Comes (Ok v, shown k' rs' m)
    → computed ≡ single_result operation size v m.status.codes → n ≡ with_condition_codes computed.codes m
    → test_operand operation size operand (shown k rs m) ≡ done (shown k' rs' n)
unfolding test_operand
tests operation size operand v computed k k' rs rs' m n f c e =
    bind_at (fetch_operand operand size) _ (shown k rs m) (shown k' rs' m) v f
    ∙ ap (λ (x : Computed). done (shown k' rs' (with_condition_codes x.codes m))) (sym c)
    ∙ ap (λ (x : Machine). done (shown k' rs' x)) (sym e)

pub changes_one : (operation : SingleOp) (size : Size) (operand : Operand) (location : OperandLocation) (v : ℕ)
    (computed : Computed) (k k' : ℕ) (rs rs' rs'' : List ℕ) (m n : Machine)
    → location_of operand size (shown k rs m) ≡ Comes (Ok location, shown k' rs' m)
    → fetch location size (shown k' rs' m) ≡ Comes (Ok v, shown k' rs' m)
    → computed ≡ single_result operation size v m.status.codes
    → store_result location size computed (shown k' rs' m) ≡ done (shown k' rs'' n)
    → change_single operation size operand (shown k rs m) ≡ done (shown k' rs'' n)
unfolding change_single change_at
changes_one operation size operand location v computed k k' rs rs' rs'' m n p f c e =
    bind_at (location_of operand size) _ (shown k rs m) (shown k' rs' m) location p
    ∙ bind_at (fetch location size) _ (shown k' rs' m) (shown k' rs' m) v f
    ∙ ap (λ (x : Computed). store_result location size x (shown k' rs' m)) (sym c) ∙ e

-- the result of MOV doesn't depend on its destination
pub written : (operation : DoubleOp) (size : Size) (source v : ℕ) (codes : ConditionCodes) (computed : Computed)
    → use_by_double operation ≡ Writes → computed ≡ double_result operation size source v codes
    → computed ≡ double_result Mov size source 0 codes
unfolding double_result
written Mov size source v codes computed u e = e
written Cmp size source v codes computed u e = cc
written Bit size source v codes computed u e = cc
written Bic size source v codes computed u e = cc
written Bis size source v codes computed u e = cc
written Add size source v codes computed u e = cc
written Sub size source v codes computed u e = cc

-- the results of CLR and SXT don't depend on the value of their operand
pub unread : (operation : SingleOp) (size : Size) (v : ℕ) (codes : ConditionCodes) (computed : Computed)
    → use_by_single operation ≡ Some Writes → computed ≡ single_result operation size v codes
    → computed ≡ single_result operation size 0 codes
unfolding single_result
unread Jmp size v codes computed u e = cc
unread Swab size v codes computed u e = cc
unread Clr size v codes computed u e = e
unread Com size v codes computed u e = cc
unread Inc size v codes computed u e = cc
unread Dec size v codes computed u e = cc
unread Neg size v codes computed u e = cc
unread Adc size v codes computed u e = cc
unread Sbc size v codes computed u e = cc
unread Tst size v codes computed u e = cc
unread Ror size v codes computed u e = cc
unread Rol size v codes computed u e = cc
unread Asr size v codes computed u e = cc
unread Asl size v codes computed u e = cc
unread Sxt size v codes computed u e = e

-- a byte is a value of any size
pub byte_fits : (size : Size) (v : ℕ) → v < 256 → v < size_limit size
byte_fits Word v h = omega (arith, h)
byte_fits Byte v h = h

-- ---- XOR

pub changes_exclusive : (register : Register) (operand : Operand) (location : OperandLocation) (source v : ℕ)
    (computed : Computed) (k k' : ℕ) (rs rs' rs'' : List ℕ) (m n : Machine) → register_number register < 7
    → source ≡ held rs register
    → location_of operand Word (shown k rs m) ≡ Comes (Ok location, shown k' rs' m)
    → fetch location Word (shown k' rs' m) ≡ Comes (Ok v, shown k' rs' m)
    → computed ≡ exclusive_or_result source v m.status.codes
    → store_result location Word computed (shown k' rs' m) ≡ done (shown k' rs'' n)
    → exclusive_or register operand (shown k rs m) ≡ done (shown k' rs'' n)
unfolding exclusive_or change_exclusive
changes_exclusive register operand location source v computed k k' rs rs' rs'' m n g s p f c e =
    bind_at (location_of operand Word) _ (shown k rs m) (shown k' rs' m) location p
    ∙ ap (λ (x : ℕ). change_exclusive x location (shown k' rs' m)) (other_register k rs register m g ∙ sym s)
    ∙ bind_at (fetch location Word) _ (shown k' rs' m) (shown k' rs' m) v f
    ∙ ap (λ (x : Computed). store_result location Word x (shown k' rs' m)) (sym c) ∙ e

-- ---- MUL, DIV, ASH and ASHC

low_general : (register : Register) → register_number register < 6 → register_number (low_word_of register) < 7
low_general R0 h = omega arith
low_general R1 h = omega arith
low_general R2 h = omega arith
low_general R3 h = omega arith
low_general R4 h = omega arith
low_general R5 h = omega arith
low_general Sp h = absurd (omega arith)
low_general Pc h = absurd (omega arith)

-- storing a pair's high word, and then its low word, does the same where the registers are passed separately
pair_put : (register : Register) (pair : Pair) (k : ℕ) (rs high low : List ℕ) (m n : Machine) → register_number register < 6
    → high ≡ with_held rs register pair.high → low ≡ with_held high (low_word_of register) pair.low
    → n ≡ with_condition_codes pair.codes m
    → with_condition_codes pair.codes
    (with_register (low_word_of register) pair.low (with_register register pair.high (shown k rs m)))
    ≡ shown k low n
pair_put register pair k rs high low m n g h l e =
    let general : register_number register < 7 = omega (arith, g) in
    let first = other_put k pair.high rs register m general ∙ ap (λ (x : List ℕ). shown k x m) (sym h) in
    let last = other_put k pair.low high (low_word_of register) m (low_general register g)
    ∙ ap (λ (x : List ℕ). shown k x m) (sym l) in
    ap (λ (x : Machine). with_condition_codes pair.codes (with_register (low_word_of register) pair.low x)) first
    ∙ ap (λ (x : Machine). with_condition_codes pair.codes x) last
    ∙ ap (λ (x : Machine). shown k low x) (sym e)

-- MUL of one of R0 to R5, with a fetched source, does the same where the registers are passed separately
pub multiplied_at : (register : Register) (v k : ℕ) (rs high low : List ℕ) (product : Pair) (m n : Machine)
    → register_number register < 6 → product ≡ product_of (held rs register) v
    → high ≡ with_held rs register product.high → low ≡ with_held high (low_word_of register) product.low
    → n ≡ with_condition_codes product.codes m → multiplied register v (shown k rs m) ≡ shown k low n
multiplied_at register v k rs high low product m n g p h l e =
    let general : register_number register < 7 = omega (arith, g) in
    let put : Pair → Machine = λ x. with_condition_codes x.codes
    (with_register (low_word_of register) x.low (with_register register x.high (shown k rs m))) in
    ap (λ (x : ℕ). put (product_of x v)) (other_register k rs register m general) ∙ ap put (sym p)
    ∙ pair_put register product k rs high low m n g h l e

-- ASHC of one of R0 to R5, with a fetched count, does the same where the registers are passed separately
pub shifts_pair : (register : Register) (v k : ℕ) (rs high low : List ℕ) (pair : Pair) (m n : Machine)
    → register_number register < 6
    → pair ≡ shift_pair_result (held rs register) (held rs (low_word_of register)) v
    → high ≡ with_held rs register pair.high → low ≡ with_held high (low_word_of register) pair.low
    → n ≡ with_condition_codes pair.codes m → pair_shifted register v (shown k rs m) ≡ shown k low n
shifts_pair register v k rs high low pair m n g p h l e =
    let general : register_number register < 7 = omega (arith, g) in
    let odd = register_of (low_word_of register) (shown k rs m) in
    let put : Pair → Machine = λ x. with_condition_codes x.codes
    (with_register (low_word_of register) x.low (with_register register x.high (shown k rs m))) in
    ap (λ (x : ℕ). put (shift_pair_result x odd v)) (other_register k rs register m general)
    ∙ ap (λ (x : ℕ). put (shift_pair_result (held rs register) x v))
    (other_register k rs (low_word_of register) m (low_general register g))
    ∙ ap put (sym p) ∙ pair_put register pair k rs high low m n g h l e

-- ASH of one of R0 to R5, with a fetched count, does the same where the registers are passed separately
pub shifts : (register : Register) (v k : ℕ) (rs rs' : List ℕ) (computed : Computed) (m n : Machine)
    → register_number register < 6 → computed ≡ shift_result (held rs register) v
    → rs' ≡ with_held rs register computed.value → n ≡ with_condition_codes computed.codes m
    → shifted register v (shown k rs m) ≡ shown k rs' n
shifts register v k rs rs' computed m n g p f e =
    let general : register_number register < 7 = omega (arith, g) in
    let put : Computed → Machine = λ x. with_condition_codes x.codes (with_register register x.value (shown k rs m)) in
    ap (λ (x : ℕ). put (shift_result x v)) (other_register k rs register m general) ∙ ap put (sym p)
    ∙ ap (λ (x : Machine). with_condition_codes computed.codes x)
    (other_put k computed.value rs register m general ∙ ap (λ (x : List ℕ). shown k x m) (sym f))
    ∙ ap (λ (x : Machine). shown k rs' x) (sym e)

divided_by : (register : Register) (v k : ℕ) (rs : List ℕ) (division : Division) (m : Machine) → register_number register < 6
    → division ≡ division_of (held rs register) (held rs (low_word_of register)) v
    → divided register v (shown k rs m) ≡ after_division register division (shown k rs m)
divided_by register v k rs division m g p =
    let general : register_number register < 7 = omega (arith, g) in
    let odd = register_of (low_word_of register) (shown k rs m) in
    let put : Division → Machine = λ x. after_division register x (shown k rs m) in
    ap (λ (x : ℕ). put (division_of x odd v)) (other_register k rs register m general)
    ∙ ap (λ (x : ℕ). put (division_of (held rs register) x v))
    (other_register k rs (low_word_of register) m (low_general register g))
    ∙ ap put (sym p)

-- DIV of one of R0 to R5, done or refused, does the same where the registers are passed separately
pub divides : (register : Register) (v quotient remainder k : ℕ) (codes : ConditionCodes) (rs high low : List ℕ) (m n : Machine)
    → register_number register < 6
    → Done quotient remainder codes ≡ division_of (held rs register) (held rs (low_word_of register)) v
    → high ≡ with_held rs register quotient → low ≡ with_held high (low_word_of register) remainder
    → n ≡ with_condition_codes codes m → divided register v (shown k rs m) ≡ shown k low n
divides register v quotient remainder k codes rs high low m n g p h l e =
    divided_by register v k rs (Done quotient remainder codes) m g p
    ∙ pair_put register (record { high = quotient; low = remainder; codes = codes }) k rs high low m n g h l e

pub refuses : (register : Register) (v k : ℕ) (codes : ConditionCodes) (rs : List ℕ) (m n : Machine)
    → register_number register < 6
    → Refused codes ≡ division_of (held rs register) (held rs (low_word_of register)) v
    → n ≡ with_condition_codes codes m → divided register v (shown k rs m) ≡ shown k rs n
refuses register v k codes rs m n g p e =
    divided_by register v k rs (Refused codes) m g p ∙ ap (λ (x : Machine). shown k rs x) (sym e)

-- MUL of one of R0 to R5 fetches its source, and stores the high word of the product before the low word
pub multiplies : (register : Register) (source : Operand) (v k k' : ℕ) (rs rs' high low : List ℕ) (product : Pair)
    (m n : Machine) → register_number register < 6
    → fetch_operand source Word (shown k rs m) ≡ Comes (Ok v, shown k' rs' m)
    → product ≡ product_of (held rs' register) v → high ≡ with_held rs' register product.high
    → low ≡ with_held high (low_word_of register) product.low → n ≡ with_condition_codes product.codes m
    → extended Mul register source (shown k rs m) ≡ done (shown k' low n)
unfolding extended
multiplies register source v k k' rs rs' high low product m n g f p h l e =
    bind_at (fetch_operand source Word) _ (shown k rs m) (shown k' rs' m) v f
    ∙ ap done (multiplied_at register v k' rs' high low product m n g p h l e)
