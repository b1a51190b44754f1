-- The traps that stop a step with STACK FAULT.
use Rattle.std.proofs.Common.{◌≡◌, Bool, true, false, cond, List, Option, Some, None, Result, Ok, Err, refl, sym, subst, ap, ◌∙◌}
use Rattle.std.specs.Prelude.{◌&&◌}
use Rattle.m11_cpu_machine.specs.Dialogue.{Comes, Exchange, Leads}
use Rattle.m11_cpu_machine.specs.Steps.{ended, instruction, step, step_unless, turned}
use Rattle.m11_cpu_machine.specs.Stop.{stop_of}
use Rattle.m11_cpu_machine.specs.Traps.{stopped_by, trap}
use Rattle.m11_cpu_machine.specs.declared.abort.Abort.{Abort}
use Rattle.m11_cpu_machine.specs.declared.abort.Abort.TheVariants.{Traps, Stops}
use Rattle.m11_cpu_machine.specs.declared.abort.Vector.{Vector}
use Rattle.m11_cpu_machine.specs.declared.abort.Vector.TheVariants.{Breakpoint}
use Rattle.m11_cpu_machine.specs.declared.execution.Ending.{Ending}
use Rattle.m11_cpu_machine.specs.declared.execution.Ending.TheVariants as ending
use Rattle.m11_cpu_machine.specs.declared.machine.Machine.{Machine}
use Rattle.m11_cpu_machine.specs.declared.stop.LastingStop.{LastingStop}
use Rattle.m11_cpu_machine.specs.declared.stop.LastingStop.TheVariants as lasting
use Rattle.m11_cpu_machine.specs.declared.stop.Stop.TheVariants.{Halt, StackFault, Wait}
use Rattle.m11_cpu_machine.specs.declared.stop.Turn.{Turn}
use Rattle.m11_cpu_machine.specs.declared.stop.Turn.TheVariants.{Next, Stopped}
use Rattle.m11_cpu_laws.specs.Addresses.{cannot_push, cannot_trap, is_stack_fault, StepFaulted, StepFaults, TrapFaulted}
use Rattle.m11_cpu_laws.specs.Failures.{device_stop, StopsAtFailure}
use Rattle.m11_cpu_laws.proofs.AddressesTrap.{trap_faults}
use Rattle.m11_cpu_laws.proofs.Exchanging.{abort_stop}
use Rattle.m11_cpu_laws.proofs.Parts.{parts}
use Rattle.m11_cpu_laws.proofs.PartsReport.{instruction_reports}
use Rattle.m11_cpu_laws.proofs.StepsReport.{no_stack_fault}
use Rattle.m11_cpu_laws.proofs.StopsLast.{at_once}

abbrev fault_in : Turn × Machine → Bool
fault_in y = is_stack_fault y.0

no_fault : {A : Type 0} (turn : Turn) (n m' : Machine) (es : List Exchange) → is_stack_fault turn ≡ false
    → Leads {A = Turn × Machine} (Comes (turn, n)) es (Stopped StackFault, m') → A
no_fault turn n m' es e h =
    let from : Turn × Machine = (turn, n) in
    let to : Turn × Machine = (Stopped StackFault, m') in
    let f : true ≡ false = ap fault_in (at_once from to es h) ∙ e in absurd (cc)

by_trap : (v : Vector) (left m' : Machine) (es : List Exchange) → Leads (trap v left) es (Stopped StackFault, m')
    → TrapFaulted left es m'
by_trap v left m' es h = record {
  vector = v;
  trapped = h;
  no_word = sym (trap_faults v left es (Stopped StackFault) m' h refl);
}

traced : (trace : Bool) (left m' : Machine) (es : List Exchange)
    → Leads {A = Turn × Machine} (cond trace (trap Breakpoint left) (Comes (Next, left))) es (Stopped StackFault, m')
    → TrapFaulted left es m'
traced true left m' es h = by_trap Breakpoint left m' es h
traced false left m' es h = no_fault Next left m' es refl h

stopped : (stop : LastingStop) (left m' : Machine) (first es : List Exchange)
    → StopsAtFailure first (Some (stop_of stop)) → Leads {A = Turn × Machine} (Comes (stopped_by stop left)) es (Stopped StackFault, m')
    → TrapFaulted left es m'
stopped lasting.StackFault left m' first es failed h = absurd (no_stack_fault first failed)
stopped lasting.InputFault left m' first es failed h =
    no_fault (stopped_by lasting.InputFault left).0 (stopped_by lasting.InputFault left).1 m' es refl h
stopped lasting.OutputFault left m' first es failed h =
    no_fault (stopped_by lasting.OutputFault left).0 (stopped_by lasting.OutputFault left).1 m' es refl h

faulted : (r : Result Ending Abort) (left m' : Machine) (first es : List Exchange)
    → StopsAtFailure first (abort_stop r) → Leads (turned r left) es (Stopped StackFault, m') → TrapFaulted left es m'
unfolding turned ended
faulted (Ok ending.Next) left m' first es failed h = traced left.status.trace left m' es h
faulted (Ok ending.Untraced) left m' first es failed h = no_fault Next left m' es refl h
faulted (Ok ending.Halts) left m' first es failed h = no_fault (Stopped Halt) left m' es refl h
faulted (Ok ending.Waits) left m' first es failed h = no_fault (Stopped Wait) left m' es refl h
faulted (Err (Traps v)) left m' first es failed h = by_trap v left m' es h
faulted (Err (Stops stop)) left m' first es failed h = stopped stop left m' first es failed h

going_faulted : (m m' : Machine) (es : List Exchange) → Leads (step_unless None m) es (Stopped StackFault, m')
    → StepFaulted m es m'
going_faulted m m' es h =
    let p = parts (instruction m) (λ came. turned came.0 came.1) es (Stopped StackFault, m') h in
    record {
      came = p.value.0;
      left = p.value.1;
      executed = p.within;
      by_trap = faulted p.value.0 p.value.1 m' p.within.first p.within.rest
          ((instruction_reports m).each p.within.first p.value p.within.leads).failed p.goes_on;
    }

pub step_faulted : (m m' : Machine) (es : List Exchange) → m.stopped ≡ None
    → Leads (step m) es (Stopped StackFault, m') → StepFaulted m es m'
unfolding step
step_faulted m m' es e h =
    let P : Option LastingStop → Type 0 = λ s. Leads (step_unless s m) es (Stopped StackFault, m') in
    going_faulted m m' es (subst P e h)

-- ---- if and only if

abbrev Faults : Turn → Bool → Type 0
Faults turn bad = device_stop turn ≡ None → is_stack_fault turn ≡ bad

no_trap : (from turn : Turn) (n m' : Machine) (es : List Exchange) (bad : Bool) → is_stack_fault from ≡ bad
    → Leads {A = Turn × Machine} (Comes (from, n)) es (turn, m') → Faults turn bad
no_trap from turn n m' es bad e h sound =
    let one : Turn × Machine = (from, n) in
    let other : Turn × Machine = (turn, m') in
    ap fault_in (at_once one other es h) ∙ e

traced_faults : (trace : Bool) (turn : Turn) (left m' : Machine) (es : List Exchange)
    → Leads {A = Turn × Machine} (cond trace (trap Breakpoint left) (Comes (Next, left))) es (turn, m')
    → Faults turn (trace && cannot_push left)
traced_faults true turn left m' es h = trap_faults Breakpoint left es turn m' h
traced_faults false turn left m' es h = no_trap Next turn left m' es false refl h

stopped_faults : (stop : LastingStop) (turn : Turn) (left m' : Machine) (first es : List Exchange)
    → StopsAtFailure first (Some (stop_of stop))
    → Leads {A = Turn × Machine} (Comes (stopped_by stop left)) es (turn, m') → Faults turn false
stopped_faults lasting.StackFault turn left m' first es failed h = absurd (no_stack_fault first failed)
stopped_faults lasting.InputFault turn left m' first es failed h =
    no_trap (stopped_by lasting.InputFault left).0 turn (stopped_by lasting.InputFault left).1 m' es false refl h
stopped_faults lasting.OutputFault turn left m' first es failed h =
    no_trap (stopped_by lasting.OutputFault left).0 turn (stopped_by lasting.OutputFault left).1 m' es false refl h

turned_faults : (came : Result Ending Abort) (turn : Turn) (left m' : Machine) (first es : List Exchange)
    → StopsAtFailure first (abort_stop came) → Leads (turned came left) es (turn, m')
    → Faults turn (cannot_trap came left)
unfolding turned ended
turned_faults (Ok ending.Next) turn left m' first es failed h = traced_faults left.status.trace turn left m' es h
turned_faults (Ok ending.Untraced) turn left m' first es failed h = no_trap Next turn left m' es false refl h
turned_faults (Ok ending.Halts) turn left m' first es failed h = no_trap (Stopped Halt) turn left m' es false refl h
turned_faults (Ok ending.Waits) turn left m' first es failed h = no_trap (Stopped Wait) turn left m' es false refl h
turned_faults (Err (Traps v)) turn left m' first es failed h = trap_faults v left es turn m' h
turned_faults (Err (Stops stop)) turn left m' first es failed h = stopped_faults stop turn left m' first es failed h

going_faults : (m m' : Machine) (turn : Turn) (es : List Exchange) → Leads (step_unless None m) es (turn, m')
    → StepFaults m es turn
going_faults m m' turn es h =
    let p = parts (instruction m) (λ came. turned came.0 came.1) es (turn, m') h in
    record {
      came = p.value.0;
      left = p.value.1;
      executed = p.within;
      faults = turned_faults p.value.0 turn p.value.1 m' p.within.first p.within.rest
          ((instruction_reports m).each p.within.first p.value p.within.leads).failed p.goes_on;
    }

pub step_faults : (m m' : Machine) (turn : Turn) (es : List Exchange) → m.stopped ≡ None
    → Leads (step m) es (turn, m') → StepFaults m es turn
unfolding step
step_faults m m' turn es e h =
    let P : Option LastingStop → Type 0 = λ s. Leads (step_unless s m) es (turn, m') in
    going_faults m m' turn es (subst P e h)
