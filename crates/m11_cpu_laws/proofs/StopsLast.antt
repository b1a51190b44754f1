-- The stops that last after a step.
use Rattle.std.proofs.Common.{◌≡◌, Bool, true, false, cond, List, [], ◌∷◌, Option, Some, None, Result, Ok, Err, refl, sym, subst}
use Rattle.m11_cpu_machine.specs.declared.abort.Abort.{Abort}
use Rattle.m11_cpu_machine.specs.declared.abort.Abort.TheVariants.{Traps, Stops}
use Rattle.m11_cpu_machine.specs.declared.abort.Vector.{Vector}
use Rattle.m11_cpu_machine.specs.declared.abort.Vector.TheVariants.{Breakpoint}
use Rattle.m11_cpu_machine.specs.declared.execution.Ending.{Ending}
use Rattle.m11_cpu_machine.specs.declared.execution.Ending.TheVariants as ending
use Rattle.m11_cpu_machine.specs.declared.machine.Machine.{Machine}
use Rattle.m11_cpu_machine.specs.declared.stop.LastingStop.{LastingStop}
use Rattle.m11_cpu_machine.specs.declared.stop.LastingStop.TheVariants.{StackFault, InputFault, OutputFault}
use Rattle.m11_cpu_machine.specs.declared.stop.Turn.{Turn}
use Rattle.m11_cpu_machine.specs.declared.stop.Turn.TheVariants.{Next, Stopped}
use Rattle.m11_cpu_machine.specs.Dialogue.{after, Asked, Asks, Comes, Dialogue, Exchange, Leads, Sends, Sent}
use Rattle.m11_cpu_laws.specs.Laws.{StopLasts}
use Rattle.m11_cpu_machine.specs.Steps.{ended, instruction, step, step_unless, turned}
use Rattle.m11_cpu_machine.specs.Stop.{stop_of}
use Rattle.m11_cpu_machine.specs.Traps.{push_state, stopped_by, trap, trap_pushed}

-- if two dialogues in sequence yield y, the second yields y for some value of the first, after the rest of the exchanges
pub after_it : {A B : Type 0} (d : Dialogue A) (next : A → Dialogue B) (es : List Exchange) (y : B)
    → Leads (after d next) es y → (x : A) × (fs : List Exchange) × Leads (next x) fs y
unfolding Leads
after_it (Comes x) next es y h = (x, es, h)
after_it (Asks by) next [] y h = absurd h
after_it (Asks by) next (Asked reply ∷ es) y h = after_it (by reply) next es y h
after_it (Asks by) next (Sent byte was_taken ∷ es) y h = absurd h
after_it (Sends byte by) next [] y h = absurd h
after_it (Sends byte by) next (Asked reply ∷ es) y h = absurd h
after_it (Sends byte by) next (Sent sent was_taken ∷ es) y h = after_it (by was_taken) next es y h.1

-- a dialogue that yields a value at once yields no other value
pub at_once : {A : Type 0} (x y : A) (es : List Exchange) → Leads (Comes x) es y → y ≡ x
unfolding Leads
at_once x y [] h = h
at_once x y (e ∷ es) h = absurd h

abbrev pub LastsAt : Turn × Machine → Type 0
LastsAt y = StopLasts y.0 y.1

stopped_stands : (stop : LastingStop) (m : Machine) → m.stopped ≡ Some stop → LastsAt (Stopped (stop_of stop), m)
stopped_stands StackFault m e = e
stopped_stands InputFault m e = e
stopped_stands OutputFault m e = e

pushed_stands : (vector : Vector) (pushed : Result (Unit {0}) Abort) (m : Machine) (es : List Exchange)
    (y : Turn × Machine)
    → Leads (trap_pushed vector pushed m) es y → LastsAt y
pushed_stands vector (Ok done) m es y h = subst LastsAt (sym (at_once _ y es h)) tt
pushed_stands vector (Err (Traps other)) m es y h =
    subst LastsAt (sym (at_once _ y es h)) (stopped_stands StackFault (stopped_by StackFault m).1 refl)
pushed_stands vector (Err (Stops stop)) m es y h =
    subst LastsAt (sym (at_once _ y es h)) (stopped_stands stop (stopped_by stop m).1 refl)

trap_stands : (vector : Vector) (m : Machine) (es : List Exchange) (y : Turn × Machine) → Leads (trap vector m) es y
    → LastsAt y
unfolding trap
trap_stands vector m es y h =
    let b = after_it (push_state m) (λ pushed. trap_pushed vector pushed.0 pushed.1) es y h in
    pushed_stands vector b.0.0 b.0.1 b.1 y b.2

traced_stands : (trace : Bool) (m : Machine) (es : List Exchange) (y : Turn × Machine)
    → Leads (cond trace (trap Breakpoint m) (Comes (Next, m))) es y → LastsAt y
traced_stands true m es y h = trap_stands Breakpoint m es y h
traced_stands false m es y h = subst LastsAt (sym (at_once _ y es h)) tt

turned_stands : (came : Result Ending Abort) (m : Machine) (es : List Exchange) (y : Turn × Machine)
    → Leads (turned came m) es y → LastsAt y
unfolding turned ended
turned_stands (Ok ending.Next) m es y h = traced_stands m.status.trace m es y h
turned_stands (Ok ending.Untraced) m es y h = subst LastsAt (sym (at_once _ y es h)) tt
turned_stands (Ok ending.Halts) m es y h = subst LastsAt (sym (at_once _ y es h)) tt
turned_stands (Ok ending.Waits) m es y h = subst LastsAt (sym (at_once _ y es h)) tt
turned_stands (Err (Traps vector)) m es y h = trap_stands vector m es y h
turned_stands (Err (Stops stop)) m es y h =
    subst LastsAt (sym (at_once _ y es h)) (stopped_stands stop (stopped_by stop m).1 refl)

unless_stands : (stands : Option LastingStop) (m : Machine) (es : List Exchange) (y : Turn × Machine)
    → m.stopped ≡ stands
    → Leads (step_unless stands m) es y → LastsAt y
unless_stands (Some stop) m es y e h = subst LastsAt (sym (at_once _ y es h)) (stopped_stands stop m e)
unless_stands None m es y e h =
    let b = after_it (instruction m) (λ came. turned came.0 came.1) es y h in
    turned_stands b.0.0 b.0.1 b.1 y b.2

pub step_stop_lasts : (m : Machine) (es : List Exchange) (y : Turn × Machine) → Leads (step m) es y → StopLasts y.0 y.1
unfolding step
step_stop_lasts m es y h = unless_stands m.stopped m es y refl h

-- a stored stop is returned again, and nothing changes
pub step_again : (m : Machine) (stop : LastingStop) → m.stopped ≡ Some stop → step m ≡ Comes (Stopped (stop_of stop), m)
unfolding step
step_again m stop e =
    let P : Option LastingStop → Type 0 = λ x. step_unless x m ≡ Comes (Stopped (stop_of stop), m) in
    subst P (sym e) refl
