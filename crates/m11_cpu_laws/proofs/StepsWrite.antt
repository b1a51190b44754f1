-- A trap writes at most the two words that it pushes, and a step those and its destination.
use Rattle.std.proofs.Common.{◌≡◌, ℕ, ◌+◌, ◌%◌, Bool, true, false, cond, List, [], ◌++◌, Option, Some, None, Result, Ok, Err, refl, subst}
use Rattle.std.specs.Prelude.{slice_index}
use Rattle.m11_base.specs.declared.operand.Register.TheVariants.{Pc}
use Rattle.m11_cpu_machine.specs.Access.{is_inside, is_odd, send, sent, store_device, store_register, store_word}
use Rattle.m11_cpu_machine.specs.Console.{device_at}
use Rattle.m11_cpu_machine.specs.Dialogue.{Comes, Exchange, Leads}
use Rattle.m11_cpu_machine.specs.Jumps.{push}
use Rattle.m11_cpu_machine.specs.Machine.{register_of}
use Rattle.m11_cpu_machine.specs.Status.{psw_of}
use Rattle.m11_cpu_machine.specs.Steps.{ended, instruction, step, step_unless, turned}
use Rattle.m11_cpu_machine.specs.Traps.{push_state, trap, trap_pushed}
use Rattle.m11_cpu_laws.specs.Writes.{one_pushed, push_address, pushed_after, stack_deepened, StaysBut, StepWrites, two_pushed, word_bytes, written_by, written_bytes}
use Rattle.m11_cpu_machine.specs.declared.abort.Abort.{Abort}
use Rattle.m11_cpu_machine.specs.declared.abort.Abort.TheVariants.{Traps, Stops}
use Rattle.m11_cpu_machine.specs.declared.abort.Vector.{Vector}
use Rattle.m11_cpu_machine.specs.declared.abort.Vector.TheVariants.{Breakpoint}
use Rattle.m11_cpu_machine.specs.declared.console.DeviceRegister.{DeviceRegister}
use Rattle.m11_cpu_machine.specs.declared.console.DeviceRegister.TheVariants.{ReceiverStatus, ReceiverBuffer, TransmitterStatus, TransmitterBuffer, ProcessorStatus}
use Rattle.m11_cpu_machine.specs.declared.execution.Ending.{Ending}
use Rattle.m11_cpu_machine.specs.declared.execution.Ending.TheVariants as ending
use Rattle.m11_cpu_machine.specs.declared.machine.Machine.{Machine}
use Rattle.m11_cpu_machine.specs.declared.stop.LastingStop.{LastingStop}
use Rattle.m11_cpu_machine.specs.declared.stop.Turn.{Turn}
use Rattle.m11_cpu_machine.specs.declared.stop.Turn.TheVariants as turn
use Rattle.m11_cpu_laws.proofs.AbortsLeave.{abort_leaves}
use Rattle.m11_cpu_laws.proofs.DestinationsWritten.{instruction_follows}
use Rattle.m11_cpu_laws.proofs.Following.{within_more}
use Rattle.m11_cpu_laws.proofs.MemoryPreserved.{Kept, kept_more, kept_same}
use Rattle.m11_cpu_laws.proofs.Parts.{Always, at_after, at_bind, at_comes, at_cond, at_map, at_sends, Keeps, parts}
use Rattle.m11_cpu_laws.proofs.LocationsStored.{Stores, word_stores}

-- ---- traps

-- storing a word changes no register
sent_keeps : (taken : Bool) (m : Machine) → Keeps (λ n. n.registers ≡ m.registers) (sent taken m)
sent_keeps true m = at_comes refl
sent_keeps false m = at_comes refl

pub device_keeps : (register : Option DeviceRegister) (v : ℕ) (m : Machine)
    → Keeps (λ n. n.registers ≡ m.registers) (store_register register v m)
unfolding send
device_keeps (Some ReceiverStatus) v m = at_comes refl
device_keeps (Some ReceiverBuffer) v m = at_comes refl
device_keeps (Some TransmitterStatus) v m = at_comes refl
device_keeps (Some TransmitterBuffer) v m = at_sends (λ taken. sent_keeps taken m)
device_keeps (Some ProcessorStatus) v m = at_comes refl
device_keeps None v m = at_comes refl

pub registers_kept : (address v : ℕ) (m : Machine) → Keeps (λ n. n.registers ≡ m.registers) (store_word address v m)
unfolding store_word store_device
registers_kept address v m =
    at_cond (is_odd address) (at_comes refl)
    (at_cond (is_inside address m) (at_comes refl) (device_keeps (device_at address) v m))

fewer : (written old new : List ℕ) → Kept [] old new → Kept written old new
fewer written old new k = record { size = k.size; bytes = λ address outside. k.bytes address tt }

at_most : {A : Type 0} (bytes old new : List ℕ) (r : Result A Abort) → Kept (written_by r (Ok bytes)) old new
    → Kept bytes old new
at_most bytes old new (Ok done) k = k
at_most bytes old new (Err abort) k = fewer bytes old new k

-- a push wrote at most its word, and changed no register but the stack pointer, which it set
abbrev pub Pushes : Machine → Result (Unit {0}) Abort × Machine → Type 0
Pushes m y = Stores (one_pushed m) m.memory y × (y.1.registers ≡ (stack_deepened m).registers)

pub push_pushes : (v : ℕ) (m : Machine) → Always (push v m) (λ y. Pushes m y)
unfolding push
push_pushes v m = record {
  each = λ es y h. (
    (word_stores (push_address m) v m.memory (stack_deepened m) refl).each es y h,
    (registers_kept (push_address m) v (stack_deepened m)).each es y h,
  );
}

second_push : (v : ℕ) (m n : Machine) → Kept (one_pushed m) m.memory n.memory
    → n.registers ≡ (stack_deepened m).registers
    → Always (push v n) (λ y. Kept (two_pushed m) m.memory y.1.memory)
second_push v m n k e =
    at_map (push_pushes v n) (λ y p.
    let P : List ℕ → Type 0 = λ registers.
    Kept (one_pushed m ++ word_bytes ((slice_index registers 6 + 0o177776) % 0o200000)) m.memory y.1.memory in
    subst P e (kept_more (one_pushed m) (one_pushed n) m.memory n.memory y.1.memory k
    (at_most (one_pushed n) n.memory y.1.memory y.0 p.0)))

state_stores : (m : Machine) → Always (push_state m) (λ y. Kept (two_pushed m) m.memory y.1.memory)
unfolding push_state
state_stores m =
    at_bind (push (psw_of m.status)) _ m (λ y. Pushes m y) (λ y. Kept (two_pushed m) m.memory y.1.memory)
    (push_pushes (psw_of m.status) m) (λ abort n p. fewer (two_pushed m) m.memory n.memory p.0)
    (λ u n p. second_push (register_of Pc n) m n p.0 p.1)

pushed_stores : (v : Vector) (bytes memory : List ℕ) (r : Result (Unit {0}) Abort) (n : Machine)
    → Kept bytes memory n.memory
    → Always (trap_pushed v r n) (λ y. Kept bytes memory y.1.memory)
pushed_stores v bytes memory (Ok done) n k = at_comes k
pushed_stores v bytes memory (Err (Traps other)) n k = at_comes k
pushed_stores v bytes memory (Err (Stops stop)) n k = at_comes k

trap_stores : (v : Vector) (m : Machine) → Always (trap v m) (λ y. Kept (two_pushed m) m.memory y.1.memory)
unfolding trap
trap_stores v m =
    at_after (push_state m) (λ pushed. trap_pushed v pushed.0 pushed.1) (λ y. Kept (two_pushed m) m.memory y.1.memory)
    (λ y. Kept (two_pushed m) m.memory y.1.memory) (state_stores m)
    (λ pushed k. pushed_stores v (two_pushed m) m.memory pushed.0 pushed.1 k)

traced_stores : (trace : Bool) (m : Machine)
    → Always (cond trace (trap Breakpoint m) (Comes (turn.Next, m)))
    (λ y. Kept (cond trace (two_pushed m) []) m.memory y.1.memory)
traced_stores true m = trap_stores Breakpoint m
traced_stores false m = at_comes (kept_same [] m.memory m.memory refl)

turned_stores : (executed : Result Ending Abort) (m : Machine)
    → Always (turned executed m) (λ y. Kept (pushed_after executed m) m.memory y.1.memory)
unfolding turned ended
turned_stores (Ok ending.Next) m = traced_stores m.status.trace m
turned_stores (Ok ending.Untraced) m = at_comes (kept_same [] m.memory m.memory refl)
turned_stores (Ok ending.Halts) m = at_comes (kept_same [] m.memory m.memory refl)
turned_stores (Ok ending.Waits) m = at_comes (kept_same [] m.memory m.memory refl)
turned_stores (Err (Traps v)) m = trap_stores v m
turned_stores (Err (Stops stop)) m = at_comes (kept_same [] m.memory m.memory refl)

-- ---- steps

stays : (written : List ℕ) (m m' : Machine) → Kept written m.memory m'.memory → StaysBut written m m'
stays written m m' k = record { size = k.size; bytes = k.bytes }

going_writes : (m m' : Machine) (turn : Turn) (es : List Exchange) → Leads (step_unless None m) es (turn, m')
    → StepWrites m es m'
going_writes m m' turn es h =
    let q = parts (instruction m) (λ came. turned came.0 came.1) es (turn, m') h in
    let g = (instruction_follows m).found q.within.first q.value q.within.leads in
    let t = (turned_stores q.value.0 q.value.1).each q.within.rest (turn, m') q.goes_on in
    record {
      destination = g.value;
      executed = q.value;
      is_destination = within_more (written_bytes m) es q.within.first q.within.rest g.value q.within.joined g.within;
      is_executed = q.within;
      by_instruction = stays (written_by q.value.0 g.value.0) m q.value.1 g.holds;
      by_abort = (abort_leaves m).each q.within.first q.value q.within.leads;
      by_trap = stays (pushed_after q.value.0 q.value.1) q.value.1 m' t;
      by_step = stays (written_by q.value.0 g.value.0 ++ pushed_after q.value.0 q.value.1) m m'
          (kept_more (written_by q.value.0 g.value.0)
          (pushed_after q.value.0 q.value.1) m.memory q.value.1.memory m'.memory
          g.holds t);
    }

pub step_writes : (m m' : Machine) (turn : Turn) (es : List Exchange) → m.stopped ≡ None
    → Leads (step m) es (turn, m')
    → StepWrites m es m'
unfolding step
step_writes m m' turn es e h =
    let P : Option LastingStop → Type 0 = λ s. Leads (step_unless s m) es (turn, m') in
    going_writes m m' turn es (subst P e h)

pub trap_writes : (v : Vector) (m m' : Machine) (turn : Turn) (es : List Exchange) → Leads (trap v m) es (turn, m')
    → StaysBut (two_pushed m) m m'
trap_writes v m m' turn es h = stays (two_pushed m) m m' ((trap_stores v m).each es (turn, m') h)
