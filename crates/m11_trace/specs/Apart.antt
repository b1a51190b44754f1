-- A whole traced run whose trace lines have an output of their own. (This project's own.)
use Rattle.std.specs.Prelude.{◌≡◌, ℕ, ◌≤◌, List, Result, Ok, Err}
use Rattle.std.specs.Io.KnownBytes.{Appends}
use Rattle.m11_base.specs.Devices.{Bytes, Rises}
use Rattle.m11_base.specs.Sink.{AppendsPrefix}
use Rattle.m11_trace.specs.Known.{Known}
use Rattle.m11_cpu.specs.Simulation.{Loaded, Request, RunDevices}
use Rattle.m11_cpu.specs.declared.fault.SimFault.{SimFault}
use Rattle.m11_cpu.specs.declared.fault.SimFault.TheVariants.{Load, Write, NoMemory}
use Rattle.m11_cpu_machine.specs.Dialogue.{Output}
use Rattle.m11_cpu_machine.specs.declared.machine.Machine.{Machine}
use Rattle.m11_trace.specs.Taken.{TracedStep}
use Rattle.m11_trace.specs.Tracing.{HasTraced, end_report, step_lines}
use Rattle.m11_trace.specs.declared.apart.ApartFault.{ApartFault}
use Rattle.m11_trace.specs.declared.apart.ApartFault.TheVariants.{Lines, Run}
use Rattle.m11_trace.specs.declared.ending.Ending.{Ending}
use Rattle.m11_trace.specs.declared.ranges.Range.{Range}
use Rattle.m11_trace.specs.declared.stops.Stops.{Stops}

-- a fault while the steps are made, as one of a run whose lines have an output of their own: what couldn't be written are the lines
abbrev pub fault_of_steps : SimFault → ApartFault
fault_of_steps Write = Lines
fault_of_steps NoMemory = Run NoMemory
fault_of_steps (Load fault) = Run (Load fault)

-- an output accepted all of a text, and then holds nothing back
abbrev pub HandsOn : Output → Output → ℕ → Bytes → Type 0
HandsOn old new held text = Appends old.text new.text text × (new.faults ≡ old.faults) × (held ≡ 0)

-- what such a run yields: its ending, with all lines handed on, and with the ending and the memory ranges reported; or a failure to write the
-- lines after part of them, with the steps of a run of this limit or a lower one, and with nothing reported; or a failure to report the
-- ending and the ranges after part of them, with all lines handed on; or a fault of the tape, with nothing run, or lack of memory, before
-- anything was read, both with nothing written. `held` is how many bytes the output of the lines holds back afterwards
abbrev pub TracesApart : Request → Known → ℕ → ℕ → Stops → List Range → RunDevices → RunDevices → Output → Output → ℕ
    → Result Ending ApartFault → Type 0
TracesApart request known first last stops ranges before after lines lines' held (Ok ending) =
    (m : Machine) × (taken : List TracedStep) × HasTraced request stops before after taken ending m
    × HandsOn lines lines' held (step_lines known first last taken)
    × Appends before.messages.text after.messages.text (end_report stops ranges taken ending m)
    × (after.messages.faults ≡ before.messages.faults)
TracesApart request known first last stops ranges before after lines lines' held (Err Lines) =
    (limit : ℕ) × (limit ≤ request.limit) × (ending : Ending) × (m : Machine) × (taken : List TracedStep)
    × HasTraced (record request { limit = limit }) stops before after taken ending m
    × AppendsPrefix lines.text lines'.text (step_lines known first last taken) × Rises lines.faults lines'.faults
    × (after.messages ≡ before.messages)
TracesApart request known first last stops ranges before after lines lines' held (Err (Run Write)) =
    (ending : Ending) × (m : Machine) × (taken : List TracedStep) × HasTraced request stops before after taken ending m
    × HandsOn lines lines' held (step_lines known first last taken)
    × AppendsPrefix before.messages.text after.messages.text (end_report stops ranges taken ending m)
    × Rises before.messages.faults after.messages.faults
TracesApart request known first last stops ranges before after lines lines' held (Err (Run (Load fault))) =
    (m : Machine) × Loaded request.words before.tape after.tape m (Err fault) × (after.console ≡ before.console)
    × (after.messages ≡ before.messages) × (lines' ≡ lines)
TracesApart request known first last stops ranges before after lines lines' held (Err (Run NoMemory)) =
    (after.tape ≡ before.tape) × (after.console ≡ before.console) × (after.messages ≡ before.messages) × (lines' ≡ lines)
