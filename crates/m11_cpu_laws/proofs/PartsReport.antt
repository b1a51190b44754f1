-- What each part of an instruction asks for and sends.
use Rattle.std.proofs.Common.{◌≡◌, ℕ, ◌+◌, ◌-◌, ◌*◌, ◌%◌, ◌==◌, Bool, true, false, cond, List, [], ◌∷◌, Option, Some, None, Result, Ok, refl}
use Rattle.std.specs.Prelude.{ℤ, not, ◌&&◌}
use Rattle.m11_base.specs.Instructions.{instruction_of}
use Rattle.m11_base.specs.declared.instruction.BareOp.{BareOp}
use Rattle.m11_base.specs.declared.instruction.BareOp.TheVariants.{Halt, Wait, Rti, Bpt, Iot, Reset, Rtt}
use Rattle.m11_base.specs.declared.instruction.BranchOp.{BranchOp}
use Rattle.m11_base.specs.declared.instruction.ConditionCodes.{ConditionCodes}
use Rattle.m11_base.specs.declared.instruction.DoubleOp.{DoubleOp}
use Rattle.m11_base.specs.declared.instruction.ExtendedOp.{ExtendedOp}
use Rattle.m11_base.specs.declared.instruction.ExtendedOp.TheVariants.{Mul, Div, Ash, Ashc}
use Rattle.m11_base.specs.declared.instruction.Insn.{Insn}
use Rattle.m11_base.specs.declared.instruction.Insn.TheVariants as insn
use Rattle.m11_base.specs.declared.instruction.NumberOp.{NumberOp}
use Rattle.m11_base.specs.declared.instruction.NumberOp.TheVariants.{Mark, Emt, Trap}
use Rattle.m11_base.specs.declared.instruction.RegisterOp.TheVariants.{Jsr, Xor}
use Rattle.m11_base.specs.declared.instruction.SingleOp.{SingleOp}
use Rattle.m11_base.specs.declared.operand.Mode.{Mode}
use Rattle.m11_base.specs.declared.operand.Mode.TheVariants as mode
use Rattle.m11_base.specs.declared.operand.Operand.{Operand}
use Rattle.m11_base.specs.declared.operand.Register.{Register}
use Rattle.m11_base.specs.declared.operand.Register.TheVariants.{Pc, R5, Sp}
use Rattle.m11_base.specs.declared.operand.Size.{Size}
use Rattle.m11_base.specs.declared.operand.Size.TheVariants.{Word, Byte}
use Rattle.m11_cpu_arithmetic.specs.Branches.{is_taken}
use Rattle.m11_cpu_arithmetic.specs.Extended.{division_of}
use Rattle.m11_cpu_arithmetic.specs.declared.results.Computed.{Computed}
use Rattle.m11_cpu_arithmetic.specs.declared.results.Division.{Division}
use Rattle.m11_cpu_arithmetic.specs.declared.results.Division.TheVariants.{Done, Refused}
use Rattle.m11_cpu_machine.specs.Access.{high_byte_of, is_inside, is_odd, load_byte, load_device, load_register, load_word, nothing_taken, receive, received, receiver_status, send, sent, store_byte, store_device, store_register, store_word}
use Rattle.m11_cpu_machine.specs.Acts.{Act, value, ◌>>=◌}
use Rattle.m11_cpu_machine.specs.Console.{device_at, is_waiting, receiver_bits}
use Rattle.m11_cpu_machine.specs.DestinationUse.{use_by_double, use_by_single}
use Rattle.m11_cpu_machine.specs.Dialogue.{Asked, Comes, Dialogue, Ends, Exchange, Fails, Gives, Leads, Reply, Sent}
use Rattle.m11_cpu_machine.specs.DoubleOperands.{change_double, change_exclusive, compare, double, double_at, double_by, exclusive_or, move_to, store_moved}
use Rattle.m11_cpu_machine.specs.Execution.{bare, execute, numbered, on_register, return_from_trap, then_next}
use Rattle.m11_cpu_machine.specs.Extended.{after_division, extended, extended_by, low_word_of}
use Rattle.m11_cpu_machine.specs.Jumps.{address_of, branched, call, counted_down, enter, jump, mark, pop, push, return_by, target, words_on}
use Rattle.m11_cpu_machine.specs.Machine.{finished, is_status, register_of, with_condition_codes, with_register}
use Rattle.m11_cpu_machine.specs.Addressing.{back, deferred, fetch, fetch_operand, forward, indexed, location_by, location_of, next_word, store_result, store}
use Rattle.m11_cpu_machine.specs.SingleOperands.{change_at, change_single, single, single_by, test_operand, write}
use Rattle.m11_cpu_machine.specs.Steps.{instruction}
use Rattle.m11_cpu_machine.specs.declared.abort.Abort.{Abort}
use Rattle.m11_cpu_machine.specs.declared.console.DeviceRegister.{DeviceRegister}
use Rattle.m11_cpu_machine.specs.declared.console.DeviceRegister.TheVariants.{ReceiverStatus, ReceiverBuffer, TransmitterStatus, TransmitterBuffer, ProcessorStatus}
use Rattle.m11_cpu_machine.specs.declared.console.Receiver.{Receiver}
use Rattle.m11_cpu_machine.specs.declared.destination_use.DestinationUse.{DestinationUse}
use Rattle.m11_cpu_machine.specs.declared.destination_use.DestinationUse.TheVariants as use_of
use Rattle.m11_cpu_machine.specs.declared.execution.Ending.TheVariants as ending
use Rattle.m11_cpu_machine.specs.declared.machine.Machine.{Machine}
use Rattle.m11_cpu_machine.specs.declared.addressing.OperandLocation.{OperandLocation}
use Rattle.m11_cpu_machine.specs.declared.addressing.OperandLocation.TheVariants.{InRegister, InMemory}
use Rattle.m11_cpu_machine.specs.declared.stop.LastingStop.{LastingStop}
use Rattle.m11_cpu_laws.proofs.Exchanging.{abort_stop, every_comes, once, quiet, Talked, Reports, reports_bind, reports_cond}

-- ---- loads

received_reports : (reply : Reply) (m : Machine) → m.receiver.has_ended ≡ false → (es : List Exchange)
    (y : Result (Unit {0}) Abort × Machine) → Leads (received reply m) es y
    → Talked m.receiver m.stopped (Asked reply ∷ es) (abort_stop y.0) y.1
received_reports (Gives byte) m before es y h =
    once (λ fs z. Talked m.receiver m.stopped (Asked (Gives byte) ∷ fs) (abort_stop z.0) z.1) _ es y
    (record {
      failed = refl;
      heard = record { asked = (before, before); byte = refl; done = λ none d. absurd (cc) };
      kept = refl;
    }) h
received_reports Ends m before es y h =
    once (λ fs z. Talked m.receiver m.stopped (Asked Ends ∷ fs) (abort_stop z.0) z.1) _ es y
    (record { failed = refl; heard = record { asked = (before, refl); byte = refl; done = λ none d. d }; kept = refl }) h
received_reports Fails m before es y h =
    once (λ fs z. Talked m.receiver m.stopped (Asked Fails ∷ fs) (abort_stop z.0) z.1) _ es y
    (record {
      failed = (refl, refl);
      heard = record { asked = (before, before); byte = refl; done = λ none d. d };
      kept = refl;
    }) h

receive_each : (m : Machine) → m.receiver.has_ended ≡ false → (es : List Exchange)
    (y : Result (Unit {0}) Abort × Machine) → Leads (receive m) es y
    → Talked m.receiver m.stopped es (abort_stop y.0) y.1
unfolding Leads receive
receive_each m before [] y h = absurd h
receive_each m before (Asked reply ∷ es) y h = received_reports reply m before es y h
receive_each m before (Sent byte taken ∷ es) y h = absurd h

receive_reports : (m : Machine) → m.receiver.has_ended ≡ false → Reports m.receiver m.stopped (receive m)
receive_reports m before = record { each = λ es y h. receive_each m before es y h }

-- a receiver that waits for a byte has not ended
pub still_open : (done ended : Bool) → (not done && not ended) ≡ true → ended ≡ false
still_open done false h = refl
still_open false true h = absurd (cc)
still_open true true h = absurd (cc)

waiting_reports : (waiting : Bool) (m : Machine) → is_waiting m.receiver ≡ waiting
    → Reports m.receiver m.stopped
    (cond waiting ((receive >>= λ _. value (λ n. receiver_bits n.receiver)) m) (Comes (Ok (receiver_bits m.receiver), m)))
unfolding value
waiting_reports true m e =
    reports_bind receive _ m (receive_reports m (still_open m.receiver.is_done m.receiver.has_ended e))
    (λ u n. quiet refl refl refl)
waiting_reports false m e = quiet refl refl refl

status_reports : (m : Machine) → Reports m.receiver m.stopped (receiver_status m)
unfolding receiver_status
status_reports m = waiting_reports (is_waiting m.receiver) m refl

register_reports : (register : Option DeviceRegister) (m : Machine)
    → Reports m.receiver m.stopped (load_register register m)
register_reports (Some ReceiverStatus) m = status_reports m
register_reports (Some ReceiverBuffer) m =
    every_comes _ _ (record {
      failed = refl;
      heard = record { asked = refl; byte = refl; done = λ none d. absurd (cc) };
      kept = refl;
    })
register_reports (Some TransmitterStatus) m = quiet refl refl refl
register_reports (Some TransmitterBuffer) m = quiet refl refl refl
register_reports (Some ProcessorStatus) m = quiet refl refl refl
register_reports None m = quiet refl refl refl

device_reports : (address : ℕ) (m : Machine) → Reports m.receiver m.stopped (load_device address m)
unfolding load_device
device_reports address m = register_reports (device_at address) m

word_reports : (address : ℕ) (m : Machine) → Reports m.receiver m.stopped (load_word address m)
unfolding load_word
word_reports address m =
    reports_cond (is_odd address) (quiet refl refl refl)
    (reports_cond (is_inside address m) (quiet refl refl refl) (device_reports address m))

high_byte_traps : (register : Option DeviceRegister) → abort_stop (high_byte_of register) ≡ None
high_byte_traps (Some register) = refl
high_byte_traps None = refl

byte_reports : (address : ℕ) (m : Machine) → Reports m.receiver m.stopped (load_byte address m)
unfolding load_byte
byte_reports address m =
    reports_cond (is_inside address m) (quiet refl refl refl)
    (reports_cond (is_odd address) (quiet (high_byte_traps (device_at (address - address % 2))) refl refl)
    (device_reports address m))

-- ---- stores

sent_reports : (byte : ℕ) (taken : Bool) (m : Machine) (es : List Exchange) (y : Result (Unit {0}) Abort × Machine)
    → Leads (sent taken m) es y → Talked m.receiver m.stopped (Sent byte taken ∷ es) (abort_stop y.0) y.1
sent_reports byte true m es y h =
    once (λ fs z. Talked m.receiver m.stopped (Sent byte true ∷ fs) (abort_stop z.0) z.1) _ es y
    (record { failed = refl; heard = record { asked = refl; byte = refl; done = λ none d. d }; kept = refl }) h
sent_reports byte false m es y h =
    once (λ fs z. Talked m.receiver m.stopped (Sent byte false ∷ fs) (abort_stop z.0) z.1) _ es y
    (record { failed = (refl, refl); heard = record { asked = refl; byte = refl; done = λ none d. d }; kept = refl }) h

send_each : (byte : ℕ) (m : Machine) (es : List Exchange) (y : Result (Unit {0}) Abort × Machine)
    → Leads (send byte m) es y → Talked m.receiver m.stopped es (abort_stop y.0) y.1
unfolding Leads send
send_each byte m [] y h = absurd h
send_each byte m (Asked reply ∷ es) y h = absurd h
send_each byte m (Sent b taken ∷ es) y h = sent_reports b taken m es y h.1

stored_reports : (register : Option DeviceRegister) (v : ℕ) (m : Machine)
    → Reports m.receiver m.stopped (store_register register v m)
stored_reports (Some ReceiverStatus) v m =
    every_comes _ _ (record {
      failed = refl;
      heard = record { asked = refl; byte = refl; done = λ none d. d };
      kept = refl;
    })
stored_reports (Some ReceiverBuffer) v m = quiet refl refl refl
stored_reports (Some TransmitterStatus) v m = quiet refl refl refl
stored_reports (Some TransmitterBuffer) v m = record { each = λ es y h. send_each (v % 256) m es y h }
stored_reports (Some ProcessorStatus) v m = quiet refl refl refl
stored_reports None v m = quiet refl refl refl

pub store_word_reports : (address v : ℕ) (m : Machine) → Reports m.receiver m.stopped (store_word address v m)
unfolding store_word store_device
store_word_reports address v m =
    reports_cond (is_odd address) (quiet refl refl refl)
    (reports_cond (is_inside address m) (quiet refl refl refl) (stored_reports (device_at address) v m))

nothing_traps : (register : Option DeviceRegister) → abort_stop (nothing_taken register) ≡ None
nothing_traps (Some register) = refl
nothing_traps None = refl

store_byte_reports : (address v : ℕ) (m : Machine) → Reports m.receiver m.stopped (store_byte address v m)
unfolding store_byte store_device
store_byte_reports address v m =
    reports_cond (is_inside address m) (quiet refl refl refl)
    (reports_cond (is_odd address) (quiet (nothing_traps (device_at (address - address % 2))) refl refl)
    (stored_reports (device_at address) v m))

-- ---- operands

deferred_reports : (address : ℕ) (m : Machine) → Reports m.receiver m.stopped (deferred address m)
unfolding deferred
deferred_reports address m =
    reports_bind (load_word address) _ m (word_reports address m) (λ word n. quiet refl refl refl)

next_word_reports : (m : Machine) → Reports m.receiver m.stopped (next_word m)
unfolding next_word
next_word_reports m =
    reports_bind (load_word (register_of Pc m)) _ m (word_reports (register_of Pc m) m) (λ word n. quiet refl refl refl)

indexed_reports : (register : Register) (m : Machine) → Reports m.receiver m.stopped (indexed register m)
unfolding indexed
indexed_reports register m = reports_bind next_word _ m (next_word_reports m) (λ index n. quiet refl refl refl)

by_mode_reports : (by : Mode) (register : Register) (size : Size) (m : Machine)
    → Reports m.receiver m.stopped (location_by by register size m)
by_mode_reports mode.Register register size m = quiet refl refl refl
by_mode_reports mode.RegisterDeferred register size m = quiet refl refl refl
by_mode_reports mode.Autoincrement register size m = quiet refl refl refl
by_mode_reports mode.AutoincrementDeferred register size m =
    deferred_reports (forward register 2 m).0 (forward register 2 m).1
by_mode_reports mode.Autodecrement register size m = quiet refl refl refl
by_mode_reports mode.AutodecrementDeferred register size m = deferred_reports (back register 2 m).0 (back register 2 m).1
by_mode_reports mode.Index register size m =
    reports_bind (indexed register) _ m (indexed_reports register m) (λ address n. quiet refl refl refl)
by_mode_reports mode.IndexDeferred register size m =
    reports_bind (indexed register) deferred m (indexed_reports register m) (λ address n. deferred_reports address n)

location_reports : (operand : Operand) (size : Size) (m : Machine) → Reports m.receiver m.stopped (location_of operand size m)
unfolding location_of
location_reports operand size m = by_mode_reports operand.mode operand.register size m

fetch_reports : (location : OperandLocation) (size : Size) (m : Machine) → Reports m.receiver m.stopped (fetch location size m)
unfolding fetch
fetch_reports (InRegister register) Word m = quiet refl refl refl
fetch_reports (InRegister register) Byte m = quiet refl refl refl
fetch_reports (InMemory address) Word m = word_reports address m
fetch_reports (InMemory address) Byte m = byte_reports address m

source_reports : (operand : Operand) (size : Size) (m : Machine)
    → Reports m.receiver m.stopped (fetch_operand operand size m)
unfolding fetch_operand
source_reports operand size m =
    reports_bind (location_of operand size) _ m (location_reports operand size m) (λ location n. fetch_reports location size n)

store_reports : (location : OperandLocation) (size : Size) (v : ℕ) (m : Machine) → Reports m.receiver m.stopped (store location size v m)
unfolding store
store_reports (InRegister register) Word v m = quiet refl refl refl
store_reports (InRegister register) Byte v m = quiet refl refl refl
store_reports (InMemory address) Word v m = store_word_reports address v m
store_reports (InMemory address) Byte v m = store_byte_reports address (v % 256) m

-- a choice between two machines with this receiver has this receiver
either_hears : (test : Bool) (a b : Machine) (r : Receiver) → a.receiver ≡ r → b.receiver ≡ r
    → (cond test a b).receiver ≡ r
either_hears true a b r e f = e
either_hears false a b r e f = f

either_stands : (test : Bool) (a b : Machine) (stands : Option LastingStop) → a.stopped ≡ stands → b.stopped ≡ stands
    → (cond test a b).stopped ≡ stands
either_stands true a b stands e f = e
either_stands false a b stands e f = f

either_reports : {A : Type 0} {x : A} (test : Bool) (a b : Machine) (r : Receiver) (stands : Option LastingStop)
    → a.receiver ≡ r → b.receiver ≡ r → a.stopped ≡ stands → b.stopped ≡ stands
    → Reports r stands (Comes (Ok x, cond test a b))
either_reports test a b r stands e f g h =
    quiet refl (either_hears test a b r e f) (either_stands test a b stands g h)

-- an act that ends without an exchange
abbrev finishes : Machine → Dialogue (Result (Unit {0}) Abort × Machine)
finishes m = Comes (Ok tt, m)

finished_reports : (location : OperandLocation) (codes : ConditionCodes) (m : Machine)
    → Reports m.receiver m.stopped (finishes (finished location codes m))
finished_reports location codes m =
    either_reports (is_status location) m (with_condition_codes codes m) m.receiver m.stopped refl refl refl refl

moved_reports : (location : OperandLocation) (size : Size) (v : ℕ) (m : Machine)
    → Reports m.receiver m.stopped (store_moved location size v m)
unfolding store_moved
moved_reports (InRegister register) Word v m = store_reports (InRegister register) Word v m
moved_reports (InRegister register) Byte v m = quiet refl refl refl
moved_reports (InMemory address) size v m = store_reports (InMemory address) size v m

move_reports : (location : OperandLocation) (size : Size) (source : ℕ) (m : Machine)
    → Reports m.receiver m.stopped (move_to location size source m)
unfolding move_to
move_reports location size source m =
    reports_bind (store_moved location size source) _ m (moved_reports location size source m)
    (λ u n. finished_reports location _ n)

result_reports : (location : OperandLocation) (size : Size) (computed : Computed) (m : Machine)
    → Reports m.receiver m.stopped (store_result location size computed m)
unfolding store_result
result_reports location size computed m =
    reports_bind (store location size computed.value) _ m (store_reports location size computed.value m)
    (λ u n. finished_reports location _ n)

-- ---- instructions

compare_reports : (operation : DoubleOp) (location : OperandLocation) (size : Size) (source : ℕ) (m : Machine)
    → Reports m.receiver m.stopped (compare operation location size source m)
unfolding compare
compare_reports operation location size source m =
    reports_bind (fetch location size) _ m (fetch_reports location size m) (λ value n. quiet refl refl refl)

change_reports : (operation : DoubleOp) (location : OperandLocation) (size : Size) (source : ℕ) (m : Machine)
    → Reports m.receiver m.stopped (change_double operation location size source m)
unfolding change_double
change_reports operation location size source m =
    reports_bind (fetch location size) _ m (fetch_reports location size m) (λ value n. result_reports location size _ n)

use_reports : (how : DestinationUse) (operation : DoubleOp) (size : Size) (source : ℕ) (location : OperandLocation) (m : Machine)
    → Reports m.receiver m.stopped (double_by how operation size source location m)
use_reports use_of.Writes operation size source location m = move_reports location size source m
use_reports use_of.Reads operation size source location m = compare_reports operation location size source m
use_reports use_of.Changes operation size source location m = change_reports operation location size source m

double_reports : (operation : DoubleOp) (size : Size) (source destination : Operand) (m : Machine)
    → Reports m.receiver m.stopped (double operation size source destination m)
unfolding double double_at
double_reports operation size source destination m =
    reports_bind (fetch_operand source size) _ m (source_reports source size m)
    (λ value n. reports_bind (location_of destination size) (double_at operation size value) n
    (location_reports destination size n)
    (λ location o. use_reports (use_by_double operation) operation size value location o))

exclusive_reports : (register : Register) (operand : Operand) (m : Machine)
    → Reports m.receiver m.stopped (exclusive_or register operand m)
unfolding exclusive_or change_exclusive
exclusive_reports register operand m =
    reports_bind (location_of operand Word) (change_exclusive (register_of register m)) m (location_reports operand Word m)
    (λ location n. reports_bind (fetch location Word) _ n (fetch_reports location Word n)
    (λ value o. result_reports location Word _ o))

address_reports : (location : OperandLocation) (m : Machine) → Reports m.receiver m.stopped (address_of location m)
address_reports (InRegister register) m = quiet refl refl refl
address_reports (InMemory address) m = quiet refl refl refl

target_reports : (operand : Operand) (m : Machine) → Reports m.receiver m.stopped (target operand m)
unfolding target
target_reports operand m =
    reports_bind (location_of operand Word) address_of m (location_reports operand Word m) (λ location n. address_reports location n)

single_reports : (how : Option DestinationUse) (operation : SingleOp) (size : Size) (operand : Operand) (m : Machine)
    → Reports m.receiver m.stopped (single_by how operation size operand m)
unfolding jump write test_operand change_single change_at
single_reports None operation size operand m =
    reports_bind (target operand) _ m (target_reports operand m) (λ address n. quiet refl refl refl)
single_reports (Some use_of.Writes) operation size operand m =
    reports_bind (location_of operand size) _ m (location_reports operand size m) (λ location n. result_reports location size _ n)
single_reports (Some use_of.Reads) operation size operand m =
    reports_bind (fetch_operand operand size) _ m (source_reports operand size m) (λ value n. quiet refl refl refl)
single_reports (Some use_of.Changes) operation size operand m =
    reports_bind (location_of operand size) (change_at operation size) m (location_reports operand size m)
    (λ location n. reports_bind (fetch location size) _ n (fetch_reports location size n)
    (λ value o. result_reports location size _ o))

pub push_reports : (v : ℕ) (m : Machine) → Reports m.receiver m.stopped (push v m)
unfolding push
push_reports v m = store_word_reports (back Sp 2 m).0 v (back Sp 2 m).1

pop_reports : (m : Machine) → Reports m.receiver m.stopped (pop m)
unfolding pop
pop_reports m = word_reports (forward Sp 2 m).0 (forward Sp 2 m).1

call_reports : (register : Register) (operand : Operand) (m : Machine)
    → Reports m.receiver m.stopped (call register operand m)
unfolding call enter
call_reports register operand m =
    reports_bind (target operand) (enter register) m (target_reports operand m)
    (λ address n. reports_bind (push (register_of register n)) _ n (push_reports (register_of register n) n)
    (λ u o. quiet refl refl refl))

division_reports : (register : Register) (division : Division) (m : Machine)
    → Reports m.receiver m.stopped (finishes (after_division register division m))
division_reports register (Done quotient remainder codes) m = quiet refl refl refl
division_reports register (Refused codes) m = quiet refl refl refl

by_extended_reports : (operation : ExtendedOp) (register : Register) (source : ℕ) (m : Machine)
    → Reports m.receiver m.stopped (finishes (extended_by operation register source m))
by_extended_reports Mul register source m = quiet refl refl refl
by_extended_reports Div register source m =
    division_reports register (division_of (register_of register m) (register_of (low_word_of register) m) source) m
by_extended_reports Ash register source m = quiet refl refl refl
by_extended_reports Ashc register source m = quiet refl refl refl

extended_reports : (operation : ExtendedOp) (register : Register) (source : Operand) (m : Machine)
    → Reports m.receiver m.stopped (extended operation register source m)
unfolding extended
extended_reports operation register source m =
    reports_bind (fetch_operand source Word) _ m (source_reports source Word m)
    (λ value n. by_extended_reports operation register value n)

return_reports : (register : Register) (m : Machine) → Reports m.receiver m.stopped (return_by register m)
unfolding return_by
return_reports register m =
    let n = with_register Pc (register_of register m) m in
    reports_bind pop _ n (pop_reports n) (λ word o. quiet refl refl refl)

mark_reports : (words : ℕ) (m : Machine) → Reports m.receiver m.stopped (mark words m)
unfolding mark
mark_reports words m =
    let cut = with_register Sp ((register_of Pc m + words * 2) % 0o200000) m in
    let n = with_register Pc (register_of R5 cut) cut in
    reports_bind pop _ n (pop_reports n) (λ word o. quiet refl refl refl)

number_reports : (operation : NumberOp) (number : ℕ) (m : Machine)
    → Reports m.receiver m.stopped (numbered operation number m)
unfolding numbered
number_reports Mark number m = mark_reports number m
number_reports Emt number m = quiet refl refl refl
number_reports Trap number m = quiet refl refl refl

from_trap_reports : (m : Machine) → Reports m.receiver m.stopped (return_from_trap m)
unfolding return_from_trap
from_trap_reports m =
    reports_bind pop _ m (pop_reports m)
    (λ address n. reports_bind pop _ (with_register Pc address n) (pop_reports (with_register Pc address n))
    (λ bits o. quiet refl refl refl))

bare_reports : (operation : BareOp) (m : Machine) → Reports m.receiver m.stopped (bare operation m)
unfolding bare
bare_reports Halt m = quiet refl refl refl
bare_reports Wait m = quiet refl refl refl
bare_reports Rti m = reports_bind return_from_trap _ m (from_trap_reports m) (λ u n. quiet refl refl refl)
bare_reports Rtt m = reports_bind return_from_trap _ m (from_trap_reports m) (λ u n. quiet refl refl refl)
bare_reports Bpt m = quiet refl refl refl
bare_reports Iot m = quiet refl refl refl
bare_reports Reset m =
    every_comes _ _ (record {
      failed = refl;
      heard = record { asked = refl; byte = refl; done = λ none d. d };
      kept = refl;
    })

next_reports : (act : Act (Unit {0})) (m : Machine) → Reports m.receiver m.stopped (act m)
    → Reports m.receiver m.stopped (then_next act m)
next_reports act m a = reports_bind act _ m a (λ u n. quiet refl refl refl)

branched_reports : (operation : BranchOp) (words : ℤ) (m : Machine)
    → Reports m.receiver m.stopped (Comes (Ok ending.Next, branched operation words m))
branched_reports operation words m =
    either_reports (is_taken operation m.status.codes) (with_register Pc (words_on (register_of Pc m) words) m) m
    m.receiver m.stopped refl refl refl refl

counted_reports : (register : Register) (words : ℕ) (m : Machine)
    → Reports m.receiver m.stopped (Comes (Ok ending.Next, counted_down register words m))
counted_reports register words m =
    either_reports ((back register 1 m).0 == 0) (back register 1 m).1 (back Pc (words * 2) (back register 1 m).1).1
    m.receiver m.stopped refl refl refl refl

execute_reports : (code : Insn) (m : Machine) → Reports m.receiver m.stopped (execute code m)
unfolding execute on_register single
execute_reports (insn.Double operation size source destination) m =
    next_reports (double operation size source destination) m (double_reports operation size source destination m)
execute_reports (insn.Extended operation register source) m =
    next_reports (extended operation register source) m (extended_reports operation register source m)
execute_reports (insn.Register Jsr register operand) m =
    next_reports (call register operand) m (call_reports register operand m)
execute_reports (insn.Register Xor register operand) m =
    next_reports (exclusive_or register operand) m (exclusive_reports register operand m)
execute_reports (insn.Sob register words) m = counted_reports register words m
execute_reports (insn.Single operation size operand) m =
    next_reports (single operation size operand) m (single_reports (use_by_single operation) operation size operand m)
execute_reports (insn.Rts register) m = next_reports (return_by register) m (return_reports register m)
execute_reports (insn.Number operation number) m =
    next_reports (numbered operation number) m (number_reports operation number m)
execute_reports (insn.Bare operation) m = bare_reports operation m
execute_reports (insn.Condition operation named) m = quiet refl refl refl
execute_reports (insn.Branch operation words) m = branched_reports operation words m
execute_reports (insn.Reserved word) m = quiet refl refl refl

pub instruction_reports : (m : Machine) → Reports m.receiver m.stopped (instruction m)
unfolding instruction
instruction_reports m =
    reports_bind next_word _ m (next_word_reports m) (λ word n. execute_reports (instruction_of word) n)
