-- The loads, stores and pushes that find nothing.
use Rattle.std.proofs.Common.{◌≡◌, ℕ, ◌+◌, ◌-◌, ◌%◌, ◌==◌, Bool, true, false, cond, List, length, Option, Some, None, Result, Ok, Err, refl, sym, ◌∙◌, subst, ap, ap₂, arith}
use Rattle.std.specs.Prelude.{not, ◌&&◌, ◌||◌, is_some, nat_lt, slice_index, ⊤}
use Rattle.std.proofs.lemmas.Bool.{eqb-false}
use Rattle.m11_base.specs.declared.instruction.Insn.TheVariants as insn
use Rattle.m11_base.specs.declared.instruction.RegisterOp.TheVariants.{Jsr}
use Rattle.m11_base.specs.declared.instruction.SingleOp.TheVariants.{Jmp}
use Rattle.m11_base.specs.declared.operand.Mode.{Mode}
use Rattle.m11_base.specs.declared.operand.Operand.{Operand}
use Rattle.m11_base.specs.declared.operand.Register.{Register}
use Rattle.m11_base.specs.declared.operand.Register.TheVariants.{Pc}
use Rattle.m11_base.specs.declared.operand.Size.{Size}
use Rattle.m11_base.specs.declared.operand.Size.TheVariants.{Word}
use Rattle.m11_cpu_machine.specs.Access.{high_byte_of, is_inside, is_odd, load_byte, load_device, load_register, load_word, nothing_taken, receive, received, receiver_status, send, sent, store_byte, store_device, store_register, store_word}
use Rattle.m11_cpu_machine.specs.Acts.{value, ◌>>=◌}
use Rattle.m11_cpu_machine.specs.Console.{device_at, is_waiting}
use Rattle.m11_cpu_machine.specs.Dialogue.{Comes, Dialogue, Reply, Gives, Ends, Fails}
use Rattle.m11_cpu_machine.specs.Execution.{execute, on_register, then_next}
use Rattle.m11_cpu_machine.specs.Jumps.{address_of, call, enter, jump, push, target}
use Rattle.m11_cpu_machine.specs.Machine.{register_of, with_register}
use Rattle.m11_cpu_machine.specs.Addressing.{location_by, location_of}
use Rattle.m11_cpu_machine.specs.SingleOperands.{single}
use Rattle.m11_cpu_machine.specs.Status.{psw_of}
use Rattle.m11_cpu_machine.specs.Traps.{push_state, trap, trap_pushed}
use Rattle.m11_cpu_machine.specs.declared.abort.Abort.{Abort}
use Rattle.m11_cpu_machine.specs.declared.abort.Abort.TheVariants.{Traps, Stops}
use Rattle.m11_cpu_machine.specs.declared.abort.Vector.{Vector}
use Rattle.m11_cpu_machine.specs.declared.abort.Vector.TheVariants.{BusError, Reserved}
use Rattle.m11_cpu_machine.specs.declared.console.DeviceRegister.{DeviceRegister}
use Rattle.m11_cpu_machine.specs.declared.console.DeviceRegister.TheVariants.{ReceiverStatus, ReceiverBuffer, TransmitterStatus, TransmitterBuffer, ProcessorStatus}
use Rattle.m11_cpu_machine.specs.declared.machine.Machine.{Machine}
use Rattle.m11_cpu_machine.specs.declared.stop.LastingStop.{LastingStop}
use Rattle.m11_cpu_machine.specs.declared.stop.LastingStop.TheVariants.{StackFault, InputFault, OutputFault}
use Rattle.m11_cpu_machine.specs.declared.stop.Turn.{Turn}
use Rattle.m11_cpu_laws.specs.Addresses.{cannot_push, has_register, is_stack_fault, is_through_4, no_byte_at, no_word_at, TrapFaults, traps_through_4, TrapsThrough10, TrapsWhere}
use Rattle.m11_cpu_laws.specs.Failures.{device_stop}
use Rattle.m11_cpu_laws.specs.Writes.{push_address, stack_deepened}
use Rattle.m11_cpu_laws.proofs.Parts.{Always, at_after, at_asks, at_bind, at_comes, at_cond, at_map, at_sends}
use Rattle.m11_cpu_laws.proofs.StepsWrite.{push_pushes}

-- ---- the outcome of a part, if something is found and if not

abbrev IsDevice : LastingStop → Type 0
IsDevice StackFault = ⊥
IsDevice InputFault = ⊤
IsDevice OutputFault = ⊤

abbrev AbortIf : Bool → Abort → Type 0
AbortIf bad (Traps vector) = (vector ≡ BusError) × (bad ≡ true)
AbortIf bad (Stops stop) = (bad ≡ false) × IsDevice stop

abbrev TrapsIf : {A : Type 0} → Bool → Result A Abort → Type 0
TrapsIf bad (Ok x) = bad ≡ false
TrapsIf bad (Err abort) = AbortIf bad abort

abbrev Finds : {A : Type 0} → Bool → Dialogue (Result A Abort × Machine) → Type 0
Finds {A = A} bad d = Always {A = Result A Abort × Machine} d (λ y. TrapsIf bad y.0)

abort_reports : (bad : Bool) (abort : Abort) → AbortIf bad abort → is_through_4 abort ≡ bad
abort_reports bad (Traps vector) h =
    let P : Vector → Type 0 = λ v. is_through_4 (Traps v) ≡ bad in subst P (sym h.0) (sym h.1)
abort_reports bad (Stops stop) h = sym h.0

result_reports : {A : Type 0} (bad : Bool) (x : Result A Abort) → TrapsIf bad x → traps_through_4 x ≡ bad
result_reports bad (Ok x) h = sym h
result_reports bad (Err abort) h = abort_reports bad abort h

traps_where : {A : Type 0} (bad : Bool) (d : Dialogue (Result A Abort × Machine)) → Finds bad d → TrapsWhere bad d
traps_where bad d a es came m' h = result_reports bad came (a.each es (came, m') h)

-- ---- registers

found : (a b c d e : Bool)
    → is_some (cond a (Some ReceiverStatus) (cond b (Some ReceiverBuffer) (cond c (Some TransmitterStatus)
    (cond d (Some TransmitterBuffer) (cond e (Some ProcessorStatus) None))))) ≡ (a || (b || (c || (d || e))))
found true b c d e = refl
found false true c d e = refl
found false false true d e = refl
found false false false true e = refl
found false false false false true = refl
found false false false false false = refl

register_found : (address : ℕ) → not (is_some (device_at address)) ≡ not (has_register address)
register_found address =
    ap not (found (address == 0o177560) (address == 0o177562) (address == 0o177564) (address == 0o177566)
    (address == 0o177776))

received_finds : (reply : Reply) (m : Machine) → Finds false (received reply m)
received_finds (Gives byte) m = at_comes refl
received_finds Ends m = at_comes refl
received_finds Fails m = at_comes (refl, tt)

receive_finds : (m : Machine) → Finds false (receive m)
unfolding receive
receive_finds m = at_asks (λ reply. received_finds reply m)

status_finds : (m : Machine) → Finds false (receiver_status m)
unfolding receiver_status value
status_finds m =
    at_cond (is_waiting m.receiver)
    (at_bind receive _ m (λ y. TrapsIf false y.0) (λ y. TrapsIf false y.0) (receive_finds m) (λ e n p. p)
    (λ x n p. at_comes refl)) (at_comes refl)

load_finds : (register : Option DeviceRegister) (m : Machine)
    → Finds (not (is_some register)) (load_register register m)
load_finds (Some ReceiverStatus) m = status_finds m
load_finds (Some ReceiverBuffer) m = at_comes refl
load_finds (Some TransmitterStatus) m = at_comes refl
load_finds (Some TransmitterBuffer) m = at_comes refl
load_finds (Some ProcessorStatus) m = at_comes refl
load_finds None m = at_comes (refl, refl)

sent_finds : (taken : Bool) (m : Machine) → Finds false (sent taken m)
sent_finds true m = at_comes refl
sent_finds false m = at_comes (refl, tt)

store_finds : (register : Option DeviceRegister) (v : ℕ) (m : Machine)
    → Finds (not (is_some register)) (store_register register v m)
unfolding send
store_finds (Some ReceiverStatus) v m = at_comes refl
store_finds (Some ReceiverBuffer) v m = at_comes refl
store_finds (Some TransmitterStatus) v m = at_comes refl
store_finds (Some TransmitterBuffer) v m = at_sends (λ taken. sent_finds taken m)
store_finds (Some ProcessorStatus) v m = at_comes refl
store_finds None v m = at_comes (refl, refl)

finds_as : {A : Type 0} (bad bad' : Bool) (d : Dialogue (Result A Abort × Machine)) → bad ≡ bad' → Finds bad d
    → Finds bad' d
finds_as {A = A} bad bad' d e a =
    at_map a (λ y t. let P : Bool → Type 0 = λ b. TrapsIf {A = A} b y.0 in subst P e t)

-- ---- words

word_choice : {A : Type 0} (odd inside known : Bool) (a b c : Dialogue (Result A Abort × Machine)) → Finds true a
    → Finds false b → Finds (not known) c
    → Finds (odd || (not inside && not known)) (cond odd a (cond inside b c))
word_choice true inside known a b c p q r = p
word_choice false true known a b c p q r = q
word_choice false false known a b c p q r = r

load_word_finds : (address : ℕ) (m : Machine) → Finds (no_word_at address m) (load_word address m)
unfolding load_word load_device
load_word_finds address m =
    word_choice (is_odd address) (is_inside address m) (has_register address) _ _ _ (at_comes (refl, refl))
    (at_comes refl)
    (finds_as _ _ _ (register_found address) (load_finds (device_at address) m))

store_word_finds : (address v : ℕ) (m : Machine) → Finds (no_word_at address m) (store_word address v m)
unfolding store_word store_device
store_word_finds address v m =
    word_choice (is_odd address) (is_inside address m) (has_register address) _ _ _ (at_comes (refl, refl))
    (at_comes refl)
    (finds_as _ _ _ (register_found address) (store_finds (device_at address) v m))

-- an access that finds nothing traps at once
no_register : (register : Option DeviceRegister) → not (is_some register) ≡ true → register ≡ None
no_register (Some register) e = absurd (cc)
no_register None e = refl

word_trapped : {A : Type 0} (odd inside known : Bool) (a b c z : Dialogue (Result A Abort × Machine)) → a ≡ z
    → (not known ≡ true → c ≡ z) → (odd || (not inside && not known)) ≡ true
    → cond odd a (cond inside b c) ≡ z
word_trapped true inside known a b c z p r e = p
word_trapped false true known a b c z p r e = absurd (cc)
word_trapped false false known a b c z p r e = r e

pub load_word_bad : (address : ℕ) (m : Machine) → no_word_at address m ≡ true
    → load_word address m ≡ Comes (Err (Traps BusError), m)
unfolding load_word load_device
load_word_bad address m e =
    word_trapped (is_odd address) (is_inside address m) (has_register address) _ _ _ _ refl
    (λ none. ap (λ (register : Option DeviceRegister). load_register register m)
    (no_register (device_at address) (register_found address ∙ none))) e

pub store_word_bad : (address v : ℕ) (m : Machine) → no_word_at address m ≡ true
    → store_word address v m ≡ Comes (Err (Traps BusError), m)
unfolding store_word store_device
store_word_bad address v m e =
    word_trapped (is_odd address) (is_inside address m) (has_register address) _ _ _ _ refl
    (λ none. ap (λ (register : Option DeviceRegister). store_register register v m)
    (no_register (device_at address) (register_found address ∙ none))) e

-- ---- bytes

even_itself : (address : ℕ) → (address % 2 == 1) ≡ false → address - address % 2 ≡ address
even_itself address e = let ne = eqb-false (address % 2) 1 e in omega arith

byte_choice : {A : Type 0} (odd inside known : Bool) (a b c : Dialogue (Result A Abort × Machine))
    → Finds false a → Finds (not known) b → (odd ≡ false → Finds (not known) c)
    → Finds (not inside && not known) (cond inside a (cond odd b c))
byte_choice odd true known a b c p q r = p
byte_choice true false known a b c p q r = q
byte_choice false false known a b c p q r = r refl

high_finds : (register : Option DeviceRegister) (m : Machine)
    → Finds (not (is_some register)) (Comes (high_byte_of register, m))
high_finds (Some register) m = at_comes refl
high_finds None m = at_comes (refl, refl)

nothing_finds : (register : Option DeviceRegister) (m : Machine)
    → Finds (not (is_some register)) (Comes (nothing_taken register, m))
nothing_finds (Some register) m = at_comes refl
nothing_finds None m = at_comes (refl, refl)

even_found : (address : ℕ) → (address % 2 == 1) ≡ false
    → not (is_some (device_at address)) ≡ not (has_register (address - address % 2))
even_found address e =
    register_found address ∙ ap (λ (a : ℕ). not (has_register a)) (sym (even_itself address e))

load_byte_finds : (address : ℕ) (m : Machine) → Finds (no_byte_at address m) (load_byte address m)
unfolding load_byte load_device
load_byte_finds address m =
    let low = address - address % 2 in
    byte_choice (is_odd address) (is_inside address m) (has_register low) _ _ _ (at_comes refl)
    (finds_as _ _ _ (register_found low) (high_finds (device_at low) m))
    (λ e. finds_as _ _ _ (even_found address e) (load_finds (device_at address) m))

store_byte_finds : (address v : ℕ) (m : Machine) → Finds (no_byte_at address m) (store_byte address v m)
unfolding store_byte store_device
store_byte_finds address v m =
    let low = address - address % 2 in
    byte_choice (is_odd address) (is_inside address m) (has_register low) _ _ _ (at_comes refl)
    (finds_as _ _ _ (register_found low) (nothing_finds (device_at low) m))
    (λ e. finds_as _ _ _ (even_found address e) (store_finds (device_at address) v m))

byte_trapped : {A : Type 0} (odd inside known : Bool) (a b c z : Dialogue (Result A Abort × Machine))
    → (not known ≡ true → b ≡ z) → (not known ≡ true → odd ≡ false → c ≡ z) → (not inside && not known) ≡ true
    → cond inside a (cond odd b c) ≡ z
byte_trapped odd true known a b c z q r e = absurd (cc)
byte_trapped true false known a b c z q r e = q e
byte_trapped false false known a b c z q r e = r e refl

pub load_byte_bad : (address : ℕ) (m : Machine) → no_byte_at address m ≡ true
    → load_byte address m ≡ Comes (Err (Traps BusError), m)
unfolding load_byte load_device
load_byte_bad address m e =
    let low = address - address % 2 in
    byte_trapped (is_odd address) (is_inside address m) (has_register low) _ _ _ _
    (λ none. ap (λ (register : Option DeviceRegister). Comes (high_byte_of register, m))
    (no_register (device_at low) (register_found low ∙ none)))
    (λ none even. ap (λ (register : Option DeviceRegister). load_register register m)
    (no_register (device_at address) (even_found address even ∙ none))) e

pub store_byte_bad : (address v : ℕ) (m : Machine) → no_byte_at address m ≡ true
    → store_byte address v m ≡ Comes (Err (Traps BusError), m)
unfolding store_byte store_device
store_byte_bad address v m e =
    let low = address - address % 2 in
    byte_trapped (is_odd address) (is_inside address m) (has_register low) _ _ _ _
    (λ none. ap (λ (register : Option DeviceRegister). Comes (nothing_taken register, m))
    (no_register (device_at low) (register_found low ∙ none)))
    (λ none even. ap (λ (register : Option DeviceRegister). store_register register v m)
    (no_register (device_at address) (even_found address even ∙ none))) e

pub load_word_traps : (address : ℕ) (m : Machine) → TrapsWhere (no_word_at address m) (load_word address m)
load_word_traps address m = traps_where _ _ (load_word_finds address m)

pub load_byte_traps : (address : ℕ) (m : Machine) → TrapsWhere (no_byte_at address m) (load_byte address m)
load_byte_traps address m = traps_where _ _ (load_byte_finds address m)

pub store_word_traps : (address v : ℕ) (m : Machine) → TrapsWhere (no_word_at address m) (store_word address v m)
store_word_traps address v m = traps_where _ _ (store_word_finds address v m)

pub store_byte_traps : (address v : ℕ) (m : Machine) → TrapsWhere (no_byte_at address m) (store_byte address v m)
store_byte_traps address v m = traps_where _ _ (store_byte_finds address v m)

-- ---- jumps

pub jump_traps : (size : Size) (operand : Operand) (m : Machine)
    → TrapsThrough10 (insn.Single Jmp size operand) operand m
unfolding execute single jump target location_of ◌>>=◌
jump_traps size operand m e =
    let P : Mode → Type 0 = λ k.
    then_next ((location_by k operand.register Word >>= address_of) >>= λ address n. Comes (Ok tt, with_register Pc address n))
    m ≡ Comes (Err (Traps Reserved), m) in
    subst P (sym e) refl

pub call_traps : (register : Register) (operand : Operand) (m : Machine)
    → TrapsThrough10 (insn.Register Jsr register operand) operand m
unfolding execute on_register call target location_of ◌>>=◌
call_traps register operand m e =
    let P : Mode → Type 0 = λ k.
    then_next ((location_by k operand.register Word >>= address_of) >>= enter register) m ≡ Comes (Err (Traps Reserved), m)
    in
    subst P (sym e) refl

-- ---- pushes of a trap

push_finds : (v : ℕ) (m : Machine) → Finds (no_word_at (push_address m) m) (push v m)
unfolding push
push_finds v m = store_word_finds (push_address m) v (stack_deepened m)

-- whether the second push finds no word depends only on the registers and the size of memory after the first
same_location : (m n : Machine) → n.registers ≡ (stack_deepened m).registers → length n.memory ≡ length m.memory
    → no_word_at (push_address n) n ≡ no_word_at (push_address (stack_deepened m)) m
same_location m n e f =
    ap₂ (λ (registers : List ℕ) (size : ℕ).
    let a = (slice_index registers 6 + 0o177776) % 0o200000 in
    (a % 2 == 1) || (not (nat_lt a size) && not (has_register a))) e f

abbrev StateAbort : Bool → Abort → Type 0
StateAbort bad (Traps vector) = bad ≡ true
StateAbort bad (Stops stop) = IsDevice stop

abbrev StatePushed : Bool → Result (Unit {0}) Abort → Type 0
StatePushed bad (Ok x) = bad ≡ false
StatePushed bad (Err abort) = StateAbort bad abort

first_fails : (bad more : Bool) (abort : Abort) → AbortIf bad abort → StateAbort (bad || more) abort
first_fails bad more (Traps vector) h =
    let P : Bool → Type 0 = λ b. (b || more) ≡ true in subst P (sym h.1) refl
first_fails bad more (Stops stop) h = h.1

second_comes : (bad more : Bool) (x : Result (Unit {0}) Abort) → bad ≡ false → TrapsIf more x
    → StatePushed (bad || more) x
second_comes bad more (Ok x) e h = let P : Bool → Type 0 = λ b. (b || more) ≡ false in subst P (sym e) h
second_comes bad more (Err (Traps vector)) e h =
    let P : Bool → Type 0 = λ b. (b || more) ≡ true in subst P (sym e) h.1
second_comes bad more (Err (Stops stop)) e h = h.1

record FirstPush (m : Machine) (x : Result (Unit {0}) Abort) (n : Machine) : Type 0 where
  finds : TrapsIf (no_word_at (push_address m) m) x
  registers : n.registers ≡ (stack_deepened m).registers
  size : length n.memory ≡ length m.memory

first_push : (v : ℕ) (m : Machine) → Always (push v m) (λ y. FirstPush m y.0 y.1)
first_push v m = record {
  each = λ es y h.
      let p = (push_pushes v m).each es y h in
      record { finds = (push_finds v m).each es y h; registers = p.1; size = p.0.size };
}

state_finds : (m : Machine) → Always (push_state m) (λ y. StatePushed (cannot_push m) y.0)
unfolding push_state
state_finds m =
    let one = no_word_at (push_address m) m in
    let two = no_word_at (push_address (stack_deepened m)) m in
    at_bind (push (psw_of m.status)) _ m (λ y. FirstPush m y.0 y.1) (λ y. StatePushed (cannot_push m) y.0)
    (first_push (psw_of m.status) m) (λ abort n p. first_fails one two abort p.finds)
    (λ u n p. at_map (finds_as _ _ _ (same_location m n p.registers p.size) (push_finds (register_of Pc n) n))
    (λ y t. second_comes one two y.0 p.finds t))

abbrev FaultsIf : Bool → Turn → Type 0
FaultsIf bad turn = device_stop turn ≡ None → is_stack_fault turn ≡ bad

pushed_faults : (v : Vector) (bad : Bool) (x : Result (Unit {0}) Abort) (n : Machine) → StatePushed bad x
    → Always (trap_pushed v x n) (λ y. FaultsIf bad y.0)
pushed_faults v bad (Ok done) n h = at_comes (λ e. sym h)
pushed_faults v bad (Err (Traps other)) n h = at_comes (λ e. sym h)
pushed_faults v bad (Err (Stops StackFault)) n h = absurd h
pushed_faults v bad (Err (Stops InputFault)) n h = at_comes (λ e. absurd (cc))
pushed_faults v bad (Err (Stops OutputFault)) n h = at_comes (λ e. absurd (cc))

pub trap_faults : (v : Vector) (m : Machine) → TrapFaults v m
unfolding trap
trap_faults v m es turn m' h =
    (at_after (push_state m) (λ pushed. trap_pushed v pushed.0 pushed.1) (λ y. StatePushed (cannot_push m) y.0)
    (λ y. FaultsIf (cannot_push m) y.0) (state_finds m)
    (λ pushed k. pushed_faults v (cannot_push m) pushed.0 pushed.1 k)).each es (turn, m') h
