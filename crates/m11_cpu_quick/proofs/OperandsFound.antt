-- Operands of each form, with the registers passed separately from the machine.
use Rattle.std.proofs.Common.{◌≡◌, ℕ, ◌+◌, ◌-◌, ◌%◌, ◌<◌, ◌≢◌, true, refl, sym, ◌∙◌, ap, subst, length, arith, List}
use Rattle.std.proofs.lemmas.List.{get_or-set_other, get_or-set_same, set-get_or, set_comm, set-set}
use Rattle.std.specs.Prelude.{slice_index, slice_set, Result, Ok}
use Rattle.m11_base.specs.Operand.{register_number}
use Rattle.m11_base.specs.declared.operand.Operand.{Operand}
use Rattle.m11_base.specs.declared.operand.Register.{Register}
use Rattle.m11_base.specs.declared.operand.Register.TheVariants.{R0, R1, R2, R3, R4, R5, Sp, Pc}
use Rattle.m11_base.specs.declared.operand.Size.{Size}
use Rattle.m11_base.specs.declared.operand.Size.TheVariants.{Word, Byte}
use Rattle.m11_base.specs.declared.operand.Mode.TheVariants as mode
use Rattle.m11_cpu_machine.specs.Addressing.{fetch, fetch_operand, location_of, step_of, stepped_back}
use Rattle.m11_cpu_machine.specs.Dialogue.{Comes, Dialogue}
use Rattle.m11_cpu_quick.specs.Forms.{bytes_of}
use Rattle.m11_cpu_machine.specs.Machine.{register_of, with_register, advanced}
use Rattle.m11_cpu_quick.specs.Near.{is_plain, plain_at}
use Rattle.m11_cpu_quick.specs.Beside.{low, shown}
use Rattle.m11_cpu_machine.specs.declared.abort.Abort.{Abort}
use Rattle.m11_cpu_machine.specs.declared.addressing.OperandLocation.TheVariants.{InMemory, InRegister}
use Rattle.m11_cpu_machine.specs.declared.machine.Machine.{Machine}
use Rattle.m11_cpu_quick.proofs.QuickDone.{by_decrement, by_increment, by_index, by_index_pointer, by_pointer, by_pointer_before, by_register, in_register, index_at, location_fetched, plain_fetched}

pub is_counter : (register : Register) → register_number register ≡ 7 → register ≡ Pc
is_counter R0 e = absurd (omega arith)
is_counter R1 e = absurd (omega arith)
is_counter R2 e = absurd (omega arith)
is_counter R3 e = absurd (omega arith)
is_counter R4 e = absurd (omega arith)
is_counter R5 e = absurd (omega arith)
is_counter Sp e = absurd (omega arith)
is_counter Pc e = refl

abbrev pub held : List ℕ → Register → ℕ
held registers register = slice_index registers (register_number register)

abbrev pub with_held : List ℕ → Register → ℕ → List ℕ
with_held registers register v = slice_set registers (register_number register) v

-- storing its old value in a register undoes a change of this register
pub put_back : (rs rs' : List ℕ) (register : Register) (v : ℕ) → rs' ≡ with_held rs register v
    → with_held rs' register (held rs register) ≡ rs
put_back rs rs' register v e =
    let i = register_number register in
    ap (λ (x : List ℕ). slice_set x i (slice_index rs i)) e ∙ set-set rs i v (slice_index rs i) ∙ set-get_or rs i 0

pub kept_back : (rs : List ℕ) (register : Register) → with_held rs register (held rs register) ≡ rs
kept_back rs register = set-get_or rs (register_number register) 0

pub other_register : (next : ℕ) (rs : List ℕ) (register : Register) (m : Machine) → register_number register < 7
    → register_of register (shown next rs m) ≡ held rs register
other_register next rs register m e =
    let apart : register_number register ≢ 7 = omega arith in
    get_or-set_other rs 7 (register_number register) (next) 0 apart

pub other_put : (next v : ℕ) (rs : List ℕ) (register : Register) (m : Machine) → register_number register < 7
    → with_register register v (shown next rs m) ≡ shown next (with_held rs register v) m
other_put next v rs register m e =
    let apart : 7 ≢ register_number register = omega arith in
    ap (λ x. record m { registers = x }) (set_comm rs 7 (register_number register) (next) v apart)

pub counter_read : (next : ℕ) (rs : List ℕ) (m : Machine) → length rs ≡ 8 → register_of Pc (shown next rs m) ≡ next
counter_read next rs m e =
    let below : 7 < length rs = omega arith in get_or-set_same rs 7 (next) 0 below

pub counter_put : (next v : ℕ) (rs : List ℕ) (m : Machine)
    → with_register Pc v (shown next rs m) ≡ record m { registers = slice_set rs 7 v }
counter_put next v rs m = ap (λ x. record m { registers = x }) (set-set rs 7 (next) v)

-- the program counter steps past a word, also where it is passed separately
pub counter_steps : (next : ℕ) (rs : List ℕ) (m : Machine) → length rs ≡ 8
    → advanced Pc 2 (shown next rs m) ≡ shown ((next + 2) % 0o200000) rs m
counter_steps next rs m e =
    let P = λ (v : ℕ). with_register Pc ((v + 2) % 0o200000) (shown next rs m) in
    let sum : (next + 2) % 0o200000 ≡ ((next + 2) % 0o200000) = omega arith in
    ap P (counter_read next rs m e) ∙ ap (λ (v : ℕ). with_register Pc v (shown next rs m)) sum
    ∙ counter_put next (((next + 2) % 0o200000)) rs m

-- ---- operands in memory

pub at_deferred : (operand : Operand) (size : Size) (a next : ℕ) (rs : List ℕ) (m : Machine)
    → operand.mode ≡ mode.RegisterDeferred
    → register_number operand.register < 7 → a ≡ held rs operand.register
    → location_of operand size (shown next rs m) ≡ Comes (Ok (InMemory a), shown next rs m)
at_deferred operand size a next rs m e g f =
    by_register operand size a (shown next rs m) e (f ∙ sym (other_register next rs operand.register m g))

pub at_increment : (operand : Operand) (size : Size) (a next : ℕ) (rs rs' : List ℕ) (m : Machine)
    → operand.mode ≡ mode.Autoincrement
    → register_number operand.register < 7 → step_of size operand.register ≡ bytes_of size
    → a ≡ held rs operand.register
    → rs' ≡ with_held rs operand.register ((held rs operand.register + bytes_of size) % 0o200000)
    → location_of operand size (shown next rs m) ≡ Comes (Ok (InMemory a), shown next rs' m)
at_increment operand size a next rs rs' m e g s f k =
    let r = operand.register in
    let read = other_register next rs r m g in
    let stepped : shown next rs' m ≡ advanced r (step_of size r) (shown next rs m) =
    ap (λ (x : List ℕ). shown next x m) k
    ∙ sym (other_put next ((held rs r + bytes_of size) % 0o200000) rs r m g)
    ∙ ap (λ (v : ℕ). with_register r ((v + bytes_of size) % 0o200000) (shown next rs m)) (sym read)
    ∙ ap (λ (b : ℕ). advanced r b (shown next rs m)) (sym s) in
    by_increment operand size a (shown next rs m) (shown next rs' m) e (f ∙ sym read) stepped

pub at_decrement : (operand : Operand) (size : Size) (a next : ℕ) (rs rs' : List ℕ) (m : Machine)
    → operand.mode ≡ mode.Autodecrement
    → register_number operand.register < 7 → step_of size operand.register ≡ bytes_of size
    → a ≡ (held rs operand.register + (0o200000 - bytes_of size)) % 0o200000
    → rs' ≡ with_held rs operand.register a
    → location_of operand size (shown next rs m) ≡ Comes (Ok (InMemory a), shown next rs' m)
at_decrement operand size a next rs rs' m e g s f k =
    let r = operand.register in
    let back : a ≡ stepped_back r (step_of size r) (shown next rs m) =
    f ∙ ap (λ (v : ℕ). (v + (0o200000 - bytes_of size)) % 0o200000) (sym (other_register next rs r m g))
    ∙ ap (λ (b : ℕ). stepped_back r b (shown next rs m)) (sym s) in
    by_decrement operand size a (shown next rs m) (shown next rs' m) e back
    (ap (λ (x : List ℕ). shown next x m) k ∙ sym (other_put next a rs r m g))

plain_counter : (size : Size) (next : ℕ) (rs : List ℕ) (m : Machine) (register : Register) → register ≡ Pc
    → length rs ≡ 8 → is_plain size (next) m.memory ≡ true
    → is_plain size (register_of register (shown next rs m)) m.memory ≡ true
plain_counter size next rs m register r e p =
    let P : ℕ → Type 0 = λ a. is_plain size a m.memory ≡ true in
    subst P (sym (ap (λ (x : Register). register_of x (shown next rs m)) r ∙ counter_read next rs m e)) p

read_counter : (size : Size) (word next : ℕ) (rs : List ℕ) (m : Machine) (register : Register) → register ≡ Pc
    → length rs ≡ 8 → word ≡ plain_at size (next) m.memory
    → word ≡ plain_at size (register_of register (shown next rs m)) m.memory
read_counter size word next rs m register r e w =
    w ∙ ap (λ (a : ℕ). plain_at size a m.memory)
    (sym (ap (λ (x : Register). register_of x (shown next rs m)) r ∙ counter_read next rs m e))

pub at_index : (operand : Operand) (size : Size) (a word next : ℕ) (rs : List ℕ) (m : Machine)
    → operand.mode ≡ mode.Index
    → register_number operand.register < 7 → length rs ≡ 8
    → is_plain Word (next) m.memory ≡ true → word ≡ plain_at Word (next) m.memory
    → a ≡ (word + held rs operand.register) % 0o200000
    → location_of operand size (shown next rs m) ≡ Comes (Ok (InMemory a), shown ((next + 2) % 0o200000) rs m)
at_index operand size a word next rs m e g l p w f =
    let r = operand.register in
    let added = f ∙ ap (λ (v : ℕ). (word + v) % 0o200000) (sym (other_register ((next + 2) % 0o200000) rs r m g)) in
    by_index operand size a (shown next rs m) (shown ((next + 2) % 0o200000) rs m) e
    (index_at r a word (shown next rs m) (shown ((next + 2) % 0o200000) rs m) (plain_counter Word next rs m Pc refl l p)
    (read_counter Word word next rs m Pc refl l w) (sym (counter_steps next rs m l)) added)

pub at_relative : (operand : Operand) (size : Size) (a word next : ℕ) (rs : List ℕ) (m : Machine)
    → operand.mode ≡ mode.Index
    → register_number operand.register ≡ 7 → length rs ≡ 8
    → is_plain Word (next) m.memory ≡ true → word ≡ plain_at Word (next) m.memory
    → a ≡ (word + ((next + 2) % 0o200000)) % 0o200000
    → location_of operand size (shown next rs m) ≡ Comes (Ok (InMemory a), shown ((next + 2) % 0o200000) rs m)
at_relative operand size a word next rs m e g l p w f =
    let r = operand.register in
    let counter : register_of r (shown ((next + 2) % 0o200000) rs m) ≡ ((next + 2) % 0o200000) =
    ap (λ (x : Register). register_of x (shown ((next + 2) % 0o200000) rs m)) (is_counter r g) ∙ counter_read ((next + 2) % 0o200000) rs m l in
    let added = f ∙ ap (λ (v : ℕ). (word + v) % 0o200000) (sym counter) in
    by_index operand size a (shown next rs m) (shown ((next + 2) % 0o200000) rs m) e
    (index_at r a word (shown next rs m) (shown ((next + 2) % 0o200000) rs m) (plain_counter Word next rs m Pc refl l p)
    (read_counter Word word next rs m Pc refl l w) (sym (counter_steps next rs m l)) added)

pub at_index_pointer : (operand : Operand) (size : Size) (a pointer word next : ℕ) (rs : List ℕ) (m : Machine)
    → operand.mode ≡ mode.IndexDeferred
    → register_number operand.register < 7 → length rs ≡ 8
    → is_plain Word (next) m.memory ≡ true → word ≡ plain_at Word (next) m.memory
    → pointer ≡ (word + held rs operand.register) % 0o200000
    → is_plain Word pointer m.memory ≡ true → a ≡ plain_at Word pointer m.memory
    → location_of operand size (shown next rs m) ≡ Comes (Ok (InMemory a), shown ((next + 2) % 0o200000) rs m)
at_index_pointer operand size a pointer word next rs m e g l p w f q v =
    let r = operand.register in
    let added = f ∙ ap (λ (v : ℕ). (word + v) % 0o200000) (sym (other_register ((next + 2) % 0o200000) rs r m g)) in
    by_index_pointer operand size pointer a (shown next rs m) (shown ((next + 2) % 0o200000) rs m) e
    (index_at r pointer word (shown next rs m) (shown ((next + 2) % 0o200000) rs m) (plain_counter Word next rs m Pc refl l p)
    (read_counter Word word next rs m Pc refl l w) (sym (counter_steps next rs m l)) added) q v

pub at_relative_pointer : (operand : Operand) (size : Size) (a pointer word next : ℕ) (rs : List ℕ) (m : Machine)
    → operand.mode ≡ mode.IndexDeferred
    → register_number operand.register ≡ 7 → length rs ≡ 8
    → is_plain Word (next) m.memory ≡ true → word ≡ plain_at Word (next) m.memory
    → pointer ≡ (word + ((next + 2) % 0o200000)) % 0o200000
    → is_plain Word pointer m.memory ≡ true → a ≡ plain_at Word pointer m.memory
    → location_of operand size (shown next rs m) ≡ Comes (Ok (InMemory a), shown ((next + 2) % 0o200000) rs m)
at_relative_pointer operand size a pointer word next rs m e g l p w f q v =
    let r = operand.register in
    let counter : register_of r (shown ((next + 2) % 0o200000) rs m) ≡ ((next + 2) % 0o200000) =
    ap (λ (x : Register). register_of x (shown ((next + 2) % 0o200000) rs m)) (is_counter r g) ∙ counter_read ((next + 2) % 0o200000) rs m l in
    let added = f ∙ ap (λ (v : ℕ). (word + v) % 0o200000) (sym counter) in
    by_index_pointer operand size pointer a (shown next rs m) (shown ((next + 2) % 0o200000) rs m) e
    (index_at r pointer word (shown next rs m) (shown ((next + 2) % 0o200000) rs m) (plain_counter Word next rs m Pc refl l p)
    (read_counter Word word next rs m Pc refl l w) (sym (counter_steps next rs m l)) added) q v

pub at_increment_pointer : (operand : Operand) (size : Size) (a pointer next : ℕ) (rs rs' : List ℕ) (m : Machine)
    → operand.mode ≡ mode.AutoincrementDeferred → register_number operand.register < 7 → pointer ≡ held rs operand.register
    → is_plain Word pointer m.memory ≡ true → a ≡ plain_at Word pointer m.memory
    → rs' ≡ with_held rs operand.register ((pointer + 2) % 0o200000)
    → location_of operand size (shown next rs m) ≡ Comes (Ok (InMemory a), shown next rs' m)
at_increment_pointer operand size a pointer next rs rs' m e g f p w k =
    let r = operand.register in
    let read : pointer ≡ register_of r (shown next rs m) = f ∙ sym (other_register next rs r m g) in
    let P : ℕ → Type 0 = λ x. is_plain Word x m.memory ≡ true in
    let stepped : shown next rs' m ≡ advanced r 2 (shown next rs m) =
    ap (λ (x : List ℕ). shown next x m) k
    ∙ sym (other_put next ((pointer + 2) % 0o200000) rs r m g)
    ∙ ap (λ (v : ℕ). with_register r ((v + 2) % 0o200000) (shown next rs m)) read in
    by_pointer operand size a (shown next rs m) (shown next rs' m) e (subst P read p)
    (w ∙ ap (λ (x : ℕ). plain_at Word x m.memory) read) stepped

pub at_decrement_pointer : (operand : Operand) (size : Size) (a pointer next : ℕ) (rs rs' : List ℕ) (m : Machine)
    → operand.mode ≡ mode.AutodecrementDeferred → register_number operand.register < 7
    → pointer ≡ (held rs operand.register + 0o177776) % 0o200000
    → is_plain Word pointer m.memory ≡ true → a ≡ plain_at Word pointer m.memory
    → rs' ≡ with_held rs operand.register pointer
    → location_of operand size (shown next rs m) ≡ Comes (Ok (InMemory a), shown next rs' m)
at_decrement_pointer operand size a pointer next rs rs' m e g f p w k =
    let r = operand.register in
    let back : pointer ≡ stepped_back r 2 (shown next rs m) =
    f ∙ ap (λ (v : ℕ). (v + 0o177776) % 0o200000) (sym (other_register next rs r m g)) in
    by_pointer_before operand size pointer a (shown next rs m) (shown next rs' m) e back p w
    (ap (λ (x : List ℕ). shown next x m) k ∙ sym (other_put next pointer rs r m g))

steps_over : (register : Register) (next : ℕ) (rs : List ℕ) (m : Machine) → register ≡ Pc → length rs ≡ 8
    → shown ((next + 2) % 0o200000) rs m ≡ advanced register 2 (shown next rs m)
steps_over register next rs m r l =
    sym (counter_steps next rs m l) ∙ ap (λ (x : Register). advanced x 2 (shown next rs m)) (sym r)

pub at_absolute : (operand : Operand) (size : Size) (a next : ℕ) (rs : List ℕ) (m : Machine)
    → operand.mode ≡ mode.AutoincrementDeferred → register_number operand.register ≡ 7 → length rs ≡ 8
    → is_plain Word (next) m.memory ≡ true → a ≡ plain_at Word (next) m.memory
    → location_of operand size (shown next rs m) ≡ Comes (Ok (InMemory a), shown ((next + 2) % 0o200000) rs m)
at_absolute operand size a next rs m e g l p w =
    let r = is_counter operand.register g in
    by_pointer operand size a (shown next rs m) (shown ((next + 2) % 0o200000) rs m) e
    (plain_counter Word next rs m operand.register r l p) (read_counter Word a next rs m operand.register r l w)
    (steps_over operand.register next rs m r l)

counter_step : (size : Size) (register : Register) → register ≡ Pc → step_of size register ≡ 2
counter_step Word register r = refl
counter_step Byte register r = ap (step_of Byte) r

pub at_immediate_location : (operand : Operand) (size : Size) (a next : ℕ) (rs : List ℕ) (m : Machine)
    → operand.mode ≡ mode.Autoincrement → register_number operand.register ≡ 7 → length rs ≡ 8 → a ≡ next
    → location_of operand size (shown next rs m) ≡ Comes (Ok (InMemory a), shown ((next + 2) % 0o200000) rs m)
at_immediate_location operand size a next rs m e g l f =
    let r = is_counter operand.register g in
    let counter : next ≡ register_of operand.register (shown next rs m) =
    sym (ap (λ (x : Register). register_of x (shown next rs m)) r ∙ counter_read next rs m l) in
    let stepped = steps_over operand.register next rs m r l
    ∙ ap (λ (b : ℕ). advanced operand.register b (shown next rs m)) (sym (counter_step size operand.register r)) in
    by_increment operand size a (shown next rs m) (shown ((next + 2) % 0o200000) rs m) e (f ∙ counter) stepped

-- ---- the values of operands

pub at_immediate : (operand : Operand) (size : Size) (v next : ℕ) (rs : List ℕ) (m : Machine)
    → operand.mode ≡ mode.Autoincrement
    → register_number operand.register ≡ 7 → length rs ≡ 8
    → is_plain size (next) m.memory ≡ true → v ≡ plain_at size (next) m.memory
    → fetch_operand operand size (shown next rs m) ≡ Comes (Ok v, shown ((next + 2) % 0o200000) rs m)
at_immediate operand size v next rs m e g l p w =
    location_fetched operand size (InMemory (next)) v (shown next rs m) (shown ((next + 2) % 0o200000) rs m)
    (at_immediate_location operand size (next) next rs m e g l refl)
    (plain_fetched size (next) v (shown ((next + 2) % 0o200000) rs m) p w)

pub register_fetched : (register : Register) (size : Size) (v next : ℕ) (rs : List ℕ) (m : Machine)
    → register_number register < 7 → v ≡ low size (held rs register)
    → fetch (InRegister register) size (shown next rs m) ≡ Comes (Ok v, shown next rs m)
unfolding fetch
register_fetched register Word v next rs m g f =
    let to : ℕ → Dialogue (Result ℕ Abort × Machine) = λ x. Comes (Ok x, shown next rs m) in
    ap to (other_register next rs register m g ∙ sym f)
register_fetched register Byte v next rs m g f =
    let to : ℕ → Dialogue (Result ℕ Abort × Machine) = λ x. Comes (Ok x, shown next rs m) in
    ap to (ap (λ (x : ℕ). x % 256) (other_register next rs register m g) ∙ sym f)

pub at_register : (operand : Operand) (size : Size) (v next : ℕ) (rs : List ℕ) (m : Machine)
    → operand.mode ≡ mode.Register → register_number operand.register < 7 → v ≡ low size (held rs operand.register)
    → fetch_operand operand size (shown next rs m) ≡ Comes (Ok v, shown next rs m)
at_register operand size v next rs m e g f =
    location_fetched operand size (InRegister operand.register) v (shown next rs m) (shown next rs m)
    (in_register operand size (shown next rs m) e) (register_fetched operand.register size v next rs m g f)

pub at_location : (operand : Operand) (size : Size) (a v next next' : ℕ) (rs rs' : List ℕ) (m : Machine)
    → location_of operand size (shown next rs m) ≡ Comes (Ok (InMemory a), shown next' rs' m)
    → is_plain size a m.memory ≡ true → v ≡ plain_at size a m.memory
    → fetch_operand operand size (shown next rs m) ≡ Comes (Ok v, shown next' rs' m)
at_location operand size a v next next' rs rs' m e p w =
    location_fetched operand size (InMemory a) v (shown next rs m) (shown next' rs' m) e
    (plain_fetched size a v (shown next' rs' m) p w)
