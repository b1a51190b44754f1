-- The outcome of traced steps, and what is written after their lines. (This project's own.)
use Rattle.std.specs.Prelude.{◌≡◌, ℕ, ◌≤◌, List, ◌++◌, length, map, take, Result, Ok, Err}
use Rattle.std.specs.Io.KnownBytes.{Appends}
use Rattle.m11_base.specs.Devices.{Bytes, Rises}
use Rattle.m11_base.specs.Sink.{AppendsPrefix}
use Rattle.m11_cpu.specs.declared.fault.SimFault.{SimFault}
use Rattle.m11_cpu.specs.declared.fault.SimFault.TheVariants.{Load, Write, NoMemory}
use Rattle.m11_cpu.specs.Simulation.{Request, RunDevices}
use Rattle.m11_cpu.specs.declared.runs.Ran.{Ran}
use Rattle.m11_cpu_machine.specs.Dialogue.{Devices, Dialogue, Output}
use Rattle.m11_cpu_machine.specs.declared.machine.Machine.{Machine}
use Rattle.m11_trace.specs.Messages.{ending_text}
use Rattle.m11_trace.specs.Ranges.{ranges_text}
use Rattle.m11_trace.specs.Taken.{TracedStep, kept, lines_from}
use Rattle.m11_trace.specs.Tracing.{Fails, Goes, HasTraced, step_lines}
use Rattle.m11_trace.specs.declared.ending.Ending.{Ending}
use Rattle.m11_trace.specs.declared.ranges.Range.{Range}
use Rattle.m11_trace.specs.declared.shots.Shot.{Shot}
use Rattle.m11_trace.specs.declared.steps.Steps.{Steps}
use Rattle.m11_trace.specs.declared.tracing.Traced.{Traced}
use Rattle.m11_trace.specs.declared.stops.Stops.{Stops}
use Rattle.m11_trace.specs.Known.{Known}

-- traced steps have this ending, their lines were written, and their number and the last `last` of them are recorded; or writing failed
-- partway through the lines, and the steps are those of a traced run with this limit or a lower one
abbrev pub StepsWithLines : (ℕ → Dialogue (Ran × Machine)) → ℕ → Known → ℕ → ℕ → Stops → Machine → Machine → Devices → Devices
    → Output → Output → List Shot → Result Steps SimFault → Type 0
StepsWithLines run limit known first last stops m m' old new output output' recent (Ok steps) =
    (taken : List TracedStep) × Goes run limit stops m old taken steps.ending m' new × (steps.count ≡ length taken)
    × (recent ≡ take last (map kept taken))
    × Appends output.text output'.text (lines_from known first taken) × (output'.faults ≡ output.faults)
StepsWithLines run limit known first last stops m m' old new output output' recent (Err Write) =
    (most : ℕ) × (most ≤ limit) × (ending : Ending) × (taken : List TracedStep) × Goes run most stops m old taken ending m' new
    × AppendsPrefix output.text output'.text (lines_from known first taken) × Rises output.faults output'.faults
StepsWithLines run limit known first last stops m m' old new output output' recent (Err NoMemory) = ⊥
StepsWithLines run limit known first last stops m m' old new output output' recent (Err (Load fault)) = ⊥

-- what the steps of a traced run yield: their ending, with their lines written whole; or the run fails, with the lines written in part or
-- not at all
abbrev pub TracesSteps : Request → Known → ℕ → ℕ → Stops → RunDevices → RunDevices → Result Traced SimFault → Type 0
TracesSteps request known first last stops before after (Ok traced) =
    (taken : List TracedStep) × HasTraced request stops before after taken traced.steps.ending traced.machine
    × (traced.steps.count ≡ length taken)
    × Appends before.messages.text after.messages.text (step_lines known first last taken)
    × (after.messages.faults ≡ before.messages.faults)
TracesSteps request known first last stops before after (Err fault) =
    Fails (λ taken ending m. step_lines known first last taken) request stops before after fault

-- the two lines of the ending, and the memory ranges
abbrev pub stop_text : Stops → Steps → List Range → Machine → Bytes
stop_text stops steps ranges m = ending_text stops steps.ending steps.count m ++ ranges_text m.memory ranges
