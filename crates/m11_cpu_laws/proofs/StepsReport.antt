-- What a step asks for and sends, and the stop that it yields.
use Rattle.std.proofs.Common.{◌≡◌, Bool, true, false, cond, List, [], ◌∷◌, ◌++◌, append-nil, Option, Some, None, Result, Ok, Err, refl, sym, ◌∙◌, subst}
use Rattle.m11_base.specs.declared.operand.Register.TheVariants.{Pc}
use Rattle.m11_cpu_machine.specs.Dialogue.{Asked, Comes, Ends, Exchange, Fails, Gives, Leads, Sent}
use Rattle.m11_cpu_machine.specs.Jumps.{push}
use Rattle.m11_cpu_machine.specs.Machine.{register_of}
use Rattle.m11_cpu_machine.specs.Status.{psw_of}
use Rattle.m11_cpu_machine.specs.Steps.{ended, instruction, step, step_unless, turned}
use Rattle.m11_cpu_machine.specs.Stop.{stop_of}
use Rattle.m11_cpu_machine.specs.Traps.{push_state, stopped_by, trap, trap_pushed, vectored}
use Rattle.m11_cpu_machine.specs.declared.abort.Abort.{Abort}
use Rattle.m11_cpu_machine.specs.declared.abort.Abort.TheVariants.{Traps, Stops}
use Rattle.m11_cpu_machine.specs.declared.abort.Vector.{Vector}
use Rattle.m11_cpu_machine.specs.declared.abort.Vector.TheVariants.{Breakpoint}
use Rattle.m11_cpu_machine.specs.declared.console.Receiver.{Receiver}
use Rattle.m11_cpu_machine.specs.declared.execution.Ending.{Ending}
use Rattle.m11_cpu_machine.specs.declared.execution.Ending.TheVariants as ending
use Rattle.m11_cpu_machine.specs.declared.machine.Machine.{Machine}
use Rattle.m11_cpu_machine.specs.declared.stop.LastingStop.{LastingStop}
use Rattle.m11_cpu_machine.specs.declared.stop.LastingStop.TheVariants.{StackFault, InputFault, OutputFault}
use Rattle.m11_cpu_machine.specs.declared.stop.Stop.TheVariants as stop
use Rattle.m11_cpu_machine.specs.declared.stop.Turn.{Turn}
use Rattle.m11_cpu_machine.specs.declared.stop.Turn.TheVariants.{Next, Stopped}
use Rattle.m11_cpu_laws.specs.Failures.{device_stop, GoesOn, StopsAtFailure}
use Rattle.m11_cpu_laws.specs.Receiving.{ReceiverChanges}
use Rattle.m11_cpu_laws.proofs.Exchanging.{abort_stop, every_after, every_comes, every_map, Every, failures_joined, heard_joined, hears_nothing, once, Talked, Reports, reports_bind}
use Rattle.m11_cpu_laws.proofs.PartsReport.{instruction_reports, push_reports}

record TurnReported (r : Receiver) (stands : Option LastingStop) (es : List Exchange) (y : Turn × Machine) : Type 0 where
  failed : StopsAtFailure es (device_stop y.0)
  heard : ReceiverChanges r es y.1.receiver
  on : stands ≡ None → GoesOn y.0 y.1

turn_joined : (r : Receiver) (stands : Option LastingStop) (es fs : List Exchange) (m : Machine) (y : Turn × Machine)
    → Talked r stands es None m → TurnReported m.receiver m.stopped fs y → TurnReported r stands (es ++ fs) y
turn_joined r stands es fs m y h k = record {
  failed = failures_joined es fs (device_stop y.0) h.failed k.failed;
  heard = heard_joined r m.receiver y.1.receiver es fs h.heard k.heard;
  on = λ e. k.on (h.kept ∙ e);
}

-- a value without exchanges leaves the exchanges as they are
at_end : {B : Type 0} (P : List Exchange → B → Type 0) (fs : List Exchange) (y : B) → P fs y
    → Every (Comes y) (λ es z. P (fs ++ es) z)
at_end P fs y p =
    let Q : List Exchange → Type 0 = λ xs. P xs y in every_comes y _ (subst Q (sym (append-nil fs)) p)

-- no exchange stops a step with STACK FAULT
pub no_stack_fault : (es : List Exchange) → StopsAtFailure es (Some stop.StackFault) → ⊥
no_stack_fault [] h = cc
no_stack_fault (Asked (Gives byte) ∷ es) h = no_stack_fault es h
no_stack_fault (Asked Ends ∷ es) h = no_stack_fault es h
no_stack_fault (Asked Fails ∷ es) h = let e = h.1 in cc
no_stack_fault (Sent byte true ∷ es) h = no_stack_fault es h
no_stack_fault (Sent byte false ∷ es) h = let e = h.1 in cc

stopped_reported : (lasting : LastingStop) (r : Receiver) (stands : Option LastingStop) (fs : List Exchange) (n : Machine)
    → Talked r stands fs (Some (stop_of lasting)) n → TurnReported r stands fs (stopped_by lasting n)
stopped_reported StackFault r stands fs n t = absurd (no_stack_fault fs t.failed)
stopped_reported InputFault r stands fs n t = record { failed = t.failed; heard = t.heard; on = λ e. tt }
stopped_reported OutputFault r stands fs n t = record { failed = t.failed; heard = t.heard; on = λ e. tt }

-- ---- traps

pushed_reported : (v : Vector) (r : Receiver) (stands : Option LastingStop) (fs : List Exchange)
    (x : Result (Unit {0}) Abort) (n : Machine) → Talked r stands fs (abort_stop x) n
    → Every (trap_pushed v x n) (λ es y. TurnReported r stands (fs ++ es) y)
pushed_reported v r stands fs (Ok done) n t =
    at_end (λ es y. TurnReported r stands es y) fs (Next, vectored v n)
    (record { failed = t.failed; heard = t.heard; on = λ e. t.kept ∙ e })
pushed_reported v r stands fs (Err (Traps other)) n t =
    at_end (λ es y. TurnReported r stands es y) fs (stopped_by StackFault n)
    (record { failed = t.failed; heard = t.heard; on = λ e. tt })
pushed_reported v r stands fs (Err (Stops lasting)) n t =
    at_end (λ es y. TurnReported r stands es y) fs (stopped_by lasting n) (stopped_reported lasting r stands fs n t)

state_reports : (m : Machine) → Reports m.receiver m.stopped (push_state m)
unfolding push_state
state_reports m =
    reports_bind (push (psw_of m.status)) _ m (push_reports (psw_of m.status) m)
    (λ u n. push_reports (register_of Pc n) n)

trap_reported : (v : Vector) (m : Machine) → Every (trap v m) (λ es y. TurnReported m.receiver m.stopped es y)
unfolding trap
trap_reported v m =
    every_after (push_state m) (λ pushed. trap_pushed v pushed.0 pushed.1) _
    (λ es y. TurnReported m.receiver m.stopped es y) (state_reports m)
    (λ fs pushed t. pushed_reported v m.receiver m.stopped fs pushed.0 pushed.1 t)

-- ---- steps

next_reported : (r : Receiver) (stands : Option LastingStop) (fs : List Exchange) (n : Machine)
    → Talked r stands fs None n → TurnReported r stands fs (Next, n)
next_reported r stands fs n t = record { failed = t.failed; heard = t.heard; on = λ e. t.kept ∙ e }

trapped_reported : (v : Vector) (r : Receiver) (stands : Option LastingStop) (fs : List Exchange) (n : Machine)
    → Talked r stands fs None n → Every (trap v n) (λ es y. TurnReported r stands (fs ++ es) y)
trapped_reported v r stands fs n t = every_map (trap_reported v n) (λ es y k. turn_joined r stands fs es n y t k)

traced_reported : (trace : Bool) (r : Receiver) (stands : Option LastingStop) (fs : List Exchange) (n : Machine)
    → Talked r stands fs None n
    → Every (cond trace (trap Breakpoint n) (Comes (Next, n))) (λ es y. TurnReported r stands (fs ++ es) y)
traced_reported true r stands fs n t = trapped_reported Breakpoint r stands fs n t
traced_reported false r stands fs n t =
    at_end (λ es y. TurnReported r stands es y) fs (Next, n) (next_reported r stands fs n t)

turned_reported : (x : Result Ending Abort) (r : Receiver) (stands : Option LastingStop) (fs : List Exchange) (n : Machine)
    → Talked r stands fs (abort_stop x) n → Every (turned x n) (λ es y. TurnReported r stands (fs ++ es) y)
unfolding turned ended
turned_reported (Ok ending.Next) r stands fs n t = traced_reported n.status.trace r stands fs n t
turned_reported (Ok ending.Untraced) r stands fs n t =
    at_end (λ es y. TurnReported r stands es y) fs (Next, n) (next_reported r stands fs n t)
turned_reported (Ok ending.Halts) r stands fs n t =
    at_end (λ es y. TurnReported r stands es y) fs (Stopped stop.Halt, n)
    (record { failed = t.failed; heard = t.heard; on = λ e. t.kept ∙ e })
turned_reported (Ok ending.Waits) r stands fs n t =
    at_end (λ es y. TurnReported r stands es y) fs (Stopped stop.Wait, n)
    (record { failed = t.failed; heard = t.heard; on = λ e. t.kept ∙ e })
turned_reported (Err (Traps v)) r stands fs n t = trapped_reported v r stands fs n t
turned_reported (Err (Stops lasting)) r stands fs n t =
    at_end (λ es y. TurnReported r stands es y) fs (stopped_by lasting n) (stopped_reported lasting r stands fs n t)

going_reported : (m : Machine) → Every (step_unless None m) (λ es y. TurnReported m.receiver m.stopped es y)
going_reported m =
    every_after (instruction m) (λ came. turned came.0 came.1) _ (λ es y. TurnReported m.receiver m.stopped es y)
    (instruction_reports m) (λ fs came t. turned_reported came.0 m.receiver m.stopped fs came.1 t)

-- ---- laws

standing : (stands : Option LastingStop) (m : Machine) → m.stopped ≡ stands → (es : List Exchange)
    (y : Turn × Machine) → Leads (step_unless stands m) es y → GoesOn y.0 y.1
standing None m e es y h = ((going_reported m).each es y h).on e
standing (Some StackFault) m e es y h = once (λ fs z. GoesOn z.0 z.1) _ es y tt h
standing (Some InputFault) m e es y h = once (λ fs z. GoesOn z.0 z.1) _ es y tt h
standing (Some OutputFault) m e es y h = once (λ fs z. GoesOn z.0 z.1) _ es y tt h

heard_unless : (stands : Option LastingStop) (m : Machine) (es : List Exchange) (y : Turn × Machine)
    → Leads (step_unless stands m) es y → ReceiverChanges m.receiver es y.1.receiver
heard_unless None m es y h = ((going_reported m).each es y h).heard
heard_unless (Some lasting) m es y h =
    once (λ fs z. ReceiverChanges m.receiver fs z.1.receiver) _ es y (hears_nothing m.receiver) h

pub step_fails : (m m' : Machine) (turn : Turn) (es : List Exchange) → m.stopped ≡ None
    → Leads (step m) es (turn, m') → StopsAtFailure es (device_stop turn)
unfolding step
step_fails m m' turn es e h =
    let P : Option LastingStop → Type 0 = λ s. Leads (step_unless s m) es (turn, m') in
    ((going_reported m).each es (turn, m') (subst P e h)).failed

pub step_goes_on : (m m' : Machine) (turn : Turn) (es : List Exchange) → Leads (step m) es (turn, m')
    → GoesOn turn m'
unfolding step
step_goes_on m m' turn es h = standing m.stopped m refl es (turn, m') h

pub step_hears : (m m' : Machine) (turn : Turn) (es : List Exchange) → Leads (step m) es (turn, m')
    → ReceiverChanges m.receiver es m'.receiver
unfolding step
step_hears m m' turn es h = heard_unless m.stopped m es (turn, m') h
