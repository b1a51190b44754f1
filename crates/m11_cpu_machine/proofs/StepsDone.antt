-- What traps and steps yield, for each way in which they end.
use Rattle.std.proofs.Common.{◌≡◌, Option, Some, None, Result, Ok, Err, sym, subst, ap, ◌∙◌}
use Rattle.m11_base.specs.declared.instruction.Insn.{Insn}
use Rattle.m11_cpu_machine.specs.declared.abort.Abort.{Abort}
use Rattle.m11_cpu_machine.specs.declared.abort.Abort.TheVariants.{Traps, Stops}
use Rattle.m11_cpu_machine.specs.declared.abort.Vector.{Vector}
use Rattle.m11_cpu_machine.specs.declared.execution.Ending.{Ending}
use Rattle.m11_cpu_machine.specs.declared.machine.Machine.{Machine}
use Rattle.m11_cpu_machine.specs.Stop.{stop_of}
use Rattle.m11_cpu_machine.specs.declared.stop.LastingStop.{LastingStop}
use Rattle.m11_cpu_machine.specs.declared.stop.LastingStop.TheVariants.{StackFault}
use Rattle.m11_cpu_machine.specs.declared.stop.Stop.{Stop}
use Rattle.m11_cpu_machine.specs.declared.stop.Turn.{Turn}
use Rattle.m11_cpu_machine.specs.declared.stop.Turn.TheVariants.{Next, Stopped}
use Rattle.m11_cpu_machine.specs.Dialogue.{Devices, Does}
use Rattle.m11_cpu_machine.specs.Execution.{execute}
use Rattle.m11_cpu_machine.specs.Steps.{instruction, step, step_unless, turned}
use Rattle.m11_cpu_machine.specs.Traps.{push_state, stopped_by, trap, vectored}
use Rattle.m11_cpu_machine.proofs.Dialogues.{comes, then_does}

pub trap_done : (vector : Vector) (m m' m'' : Machine) (old new : Devices) → Does (push_state m) old new (Ok tt, m')
    → m'' ≡ vectored vector m' → Does (trap vector m) old new (Next, m'')
unfolding trap
trap_done vector m m' m'' old new h e =
    let to : Machine → Turn × Machine = λ n. (Next, n) in
    then_does (push_state m) _ old new new (Ok tt, m') _ h (comes new _ _ (ap to e))

pub trap_fails : (vector other : Vector) (m m' : Machine) (old new : Devices) (y : Turn × Machine)
    → Does (push_state m) old new (Err (Traps other), m') → y ≡ stopped_by StackFault m'
    → Does (trap vector m) old new y
unfolding trap
trap_fails vector other m m' old new y h e =
    then_does (push_state m) _ old new new (Err (Traps other), m') _ h (comes new _ _ e)

pub trap_stops : (vector : Vector) (stop stop' : LastingStop) (m m' : Machine) (old new : Devices) (y : Turn × Machine)
    → Does (push_state m) old new (Err (Stops stop), m') → stop' ≡ stop → y ≡ stopped_by stop' m'
    → Does (trap vector m) old new y
unfolding trap
trap_stops vector stop stop' m m' old new y h same e =
    let to : LastingStop → Turn × Machine = λ x. stopped_by x m' in
    then_does (push_state m) _ old new new (Err (Stops stop), m') _ h (comes new _ _ (e ∙ ap to same))

pub execute_at : (code code' : Insn) (m : Machine) (old new : Devices) (y : Result Ending Abort × Machine)
    → code' ≡ code → Does (execute code' m) old new y → Does (execute code m) old new y
execute_at code code' m old new y e h = let P : Insn → Type 0 = λ x. Does (execute x m) old new y in subst P e h

pub step_stopped : (m : Machine) (stop : LastingStop) (reported : Stop) (d : Devices) → m.stopped ≡ Some stop
    → reported ≡ stop_of stop → Does (step m) d d (Stopped reported, m)
unfolding step
step_stopped m stop reported d e f =
    let P : Option LastingStop → Type 0 = λ x. Does (step_unless x m) d d (Stopped reported, m) in
    let to : Stop → Turn × Machine = λ x. (Stopped x, m) in
    subst P (sym e) (comes d _ _ (ap to f))

pub step_goes : (m m' : Machine) (ending : Result Ending Abort) (old middle new : Devices) (y : Turn × Machine)
    → m.stopped ≡ None → Does (instruction m) old middle (ending, m') → Does (turned ending m') middle new y
    → Does (step m) old new y
unfolding step
step_goes m m' ending old middle new y e h k =
    let P : Option LastingStop → Type 0 = λ x. Does (step_unless x m) old new y in
    subst P (sym e) (then_does (instruction m) _ old middle new (ending, m') y h k)
