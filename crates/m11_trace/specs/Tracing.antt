-- A whole traced run: a tape is loaded and run as without tracing, but at most up to a breakpoint or a change of a watched word, and
-- the trace lines and the ending are reported. (This project's own.)
use Rattle.std.specs.Prelude.{◌≡◌, ℕ, suc, ◌<◌, ◌≤◌, true, List, [], ◌∷◌, ◌++◌, drop, length, unwrap_or, Some, Result, Ok, Err, ⊤}
use Rattle.std.specs.Io.KnownBytes.{Appends}
use Rattle.m11_base.specs.Devices.{Bytes, Rises}
use Rattle.m11_base.specs.Sink.{AppendsPrefix}
use Rattle.m11_cpu.specs.Simulation.{HasRun, Loaded, Request, RunDevices}
use Rattle.m11_cpu.specs.declared.fault.SimFault.{SimFault}
use Rattle.m11_cpu.specs.declared.fault.SimFault.TheVariants.{Load, Write, NoMemory}
use Rattle.m11_cpu.specs.declared.runs.Ran.{Ran}
use Rattle.m11_cpu_machine.specs.Dialogue.{Devices, Dialogue, Does}
use Rattle.m11_cpu_machine.specs.declared.machine.Machine.{Machine}
use Rattle.m11_cpu_machine.specs.declared.stop.Stop.TheVariants.{Limit}
use Rattle.m11_trace.specs.Messages.{ending_text}
use Rattle.m11_trace.specs.Ranges.{ranges_text}
use Rattle.m11_trace.specs.Stops.{AreElsewhere, AreQuiet, change_by, is_at}
use Rattle.m11_trace.specs.Taken.{Follow, TracedStep, begun, lines_from, recent_lines}
use Rattle.m11_trace.specs.declared.ending.Ending.{Ending}
use Rattle.m11_trace.specs.declared.ending.Ending.TheVariants.{Stopped, Reached, Changed}
use Rattle.m11_trace.specs.declared.ranges.Range.{Range}
use Rattle.m11_trace.specs.declared.stops.Stops.{Stops}
use Rattle.m11_trace.specs.Known.{Known}

-- the outcome of the same run without tracing; if a breakpoint or a watched word stopped the traced run, the untraced one stops at
-- its limit after as many steps
abbrev pub ran_by : Ending → ℕ → Ran
ran_by (Stopped stop) steps = record { stop = stop; steps = steps }
ran_by Reached steps = record { stop = Limit; steps = steps }
ran_by (Changed address) steps = record { stop = Limit; steps = steps }

-- the limit of the same run without tracing; if a breakpoint or a watched word stopped the traced run, this is the number of steps made
abbrev pub limit_by : Ending → ℕ → ℕ → ℕ
limit_by (Stopped stop) steps limit = limit
limit_by Reached steps limit = steps
limit_by (Changed address) steps limit = steps

-- what an ending requires: at a breakpoint, that the breakpoint stops the run and that a step was left to make; after a change of a watched
-- word, that the latest step stopped the run by changing the word with this address, within the limit; any other stop requires nothing here
abbrev pub EndsAt : Ending → Stops → List TracedStep → ℕ → Machine → Type 0
EndsAt (Stopped stop) stops taken limit m = ⊤
EndsAt Reached stops taken limit m = (length taken < limit) × (is_at stops taken m ≡ true)
EndsAt (Changed address) stops [] limit m = ⊥
EndsAt (Changed address) stops (latest ∷ earlier) limit m =
    (suc (length earlier) ≤ limit) × (change_by stops earlier latest ≡ Some address)

-- the steps that must not have stopped the run by changing a watched word: all of them, or all but the latest if that step ended the run so
abbrev pub without_change : Ending → List TracedStep → List TracedStep
without_change (Stopped stop) taken = taken
without_change Reached taken = taken
without_change (Changed address) taken = drop 1 taken

-- these steps, listed latest first, lead from this machine to this ending; none was made at a breakpoint that stops the run, or after
-- a watched word had stopped it; and they are the steps of an untraced run
pub record Goes (run : ℕ → Dialogue (Ran × Machine)) (limit : ℕ) (stops : Stops) (m : Machine) (old : Devices)
    (taken : List TracedStep) (ending : Ending) (m' : Machine) (new : Devices) : Type 0 where
  pub steps : Follow m old taken m' new
  pub elsewhere : AreElsewhere stops taken
  pub quiet : AreQuiet stops (without_change ending taken)
  pub ends : EndsAt ending stops taken limit m'
  pub runs : Does (run (limit_by ending (length taken) limit)) old new (ran_by ending (length taken), m')

-- a tape was loaded and run from its transfer address, or from the start that was requested: machine, console and stop are those of an
-- untraced run, and these are its steps, listed latest first
pub record HasTraced (request : Request) (stops : Stops) (before after : RunDevices) (taken : List TracedStep) (ending : Ending)
    (m : Machine) : Type 0 where
  pub run : HasRun (record request { limit = limit_by ending (length taken) request.limit }) before after
      (ran_by ending (length taken)) m
  pub steps : Follow (begun (unwrap_or request.start run.transfer) run.loaded) before.console taken m after.console
  pub elsewhere : AreElsewhere stops taken
  pub quiet : AreQuiet stops (without_change ending taken)
  pub ends : EndsAt ending stops taken request.limit m

-- the trace lines of the steps whose number is `first` or more; or of the last `last` steps, without memory words, if there is no such step
abbrev pub step_lines : Known → ℕ → ℕ → List TracedStep → Bytes
step_lines known first last taken = lines_from known first taken ++ recent_lines known first last taken

-- what is reported at the end: the ending, and the memory ranges
abbrev pub end_report : Stops → List Range → List TracedStep → Ending → Machine → Bytes
end_report stops ranges taken ending m = ending_text stops ending (length taken) m ++ ranges_text m.memory ranges

-- the whole report: the trace lines, and then what is reported at the end
abbrev pub report : Known → ℕ → ℕ → Stops → List Range → List TracedStep → Ending → Machine → Bytes
report known first last stops ranges taken ending m =
    step_lines known first last taken ++ end_report stops ranges taken ending m

-- how a traced run fails that writes `text`, which depends on its steps: by a fault of the tape, with nothing run or written; or by a failure
-- to write the text after part of it, with the steps of a run of this limit or a lower one; or by lack of memory, before anything was
-- read
abbrev pub Fails : (List TracedStep → Ending → Machine → Bytes) → Request → Stops → RunDevices → RunDevices → SimFault → Type 0
Fails text request stops before after (Load fault) =
    (m : Machine) × Loaded request.words before.tape after.tape m (Err fault) × (after.console ≡ before.console)
    × (after.messages ≡ before.messages)
Fails text request stops before after Write =
    (limit : ℕ) × (limit ≤ request.limit) × (ending : Ending) × (m : Machine) × (taken : List TracedStep)
    × HasTraced (record request { limit = limit }) stops before after taken ending m
    × AppendsPrefix before.messages.text after.messages.text (text taken ending m)
    × Rises before.messages.faults after.messages.faults
Fails text request stops before after NoMemory =
    (after.tape ≡ before.tape) × (after.console ≡ before.console) × (after.messages ≡ before.messages)

-- what a whole traced run yields: its ending, with the report written whole; or it fails, with the report written in part or not at all
abbrev pub Traces : Request → Known → ℕ → ℕ → Stops → List Range → RunDevices → RunDevices → Result Ending SimFault → Type 0
Traces request known first last stops ranges before after (Ok ending) =
    (m : Machine) × (taken : List TracedStep) × HasTraced request stops before after taken ending m
    × Appends before.messages.text after.messages.text (report known first last stops ranges taken ending m)
    × (after.messages.faults ≡ before.messages.faults)
Traces request known first last stops ranges before after (Err fault) =
    Fails (report known first last stops ranges) request stops before after fault
