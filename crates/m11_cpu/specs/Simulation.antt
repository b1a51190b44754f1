-- A whole run: a tape is loaded into a new machine, its program is run, and the stop of the run is reported. (This project's own.)
use Rattle.std.specs.Prelude.{◌≡◌, ℕ, ◌%◌, ◌==◌, if◌then◌else◌, Option, unwrap_or, Result, Ok, Err}
use Rattle.std.specs.Io.KnownBytes.{Appends}
use Rattle.m11_base.specs.Devices.{Bytes, Rises}
use Rattle.m11_base.specs.Sink.{AppendsPrefix}
use Rattle.m11_base.specs.declared.operand.Register.TheVariants.{Pc}
use Rattle.m11_cpu_machine.specs.Dialogue.{Dialogue, Comes, Devices, Does, Input, Output}
use Rattle.m11_cpu.specs.Loading.{LoadsInto}
use Rattle.m11_cpu_machine.specs.Machine.{new_machine, psw_in, with_register}
use Rattle.m11_cpu.specs.Messages.{messages_of}
use Rattle.m11_cpu.specs.Runs.{run_counted}
use Rattle.m11_cpu.specs.declared.fault.LoadFault.{LoadFault}
use Rattle.m11_cpu.specs.declared.fault.SimFault.{SimFault}
use Rattle.m11_cpu.specs.declared.fault.SimFault.TheVariants.{Load, Write, NoMemory}
use Rattle.m11_cpu_machine.specs.declared.machine.Machine.{Machine}
use Rattle.m11_cpu.specs.declared.runs.Ran.{Ran}
use Rattle.m11_cpu.specs.declared.simulation.SimDone.{SimDone}
use Rattle.m11_cpu_machine.specs.declared.stop.Stop.TheVariants.{NoStart}

-- the outcome of a run and the machine at its end: an even address starts the program, an odd one starts nothing
unfoldable pub started : ℕ → ℕ → Machine → Dialogue (Ran × Machine)
started address limit m =
    if address % 2 == 1 then Comes (record { stop = NoStart; steps = 0 }, m)
    else run_counted limit (with_register Pc address m)

-- the arguments of a run: the start that replaces the tape's transfer address, if any, the number of words of memory, and the limit on the
-- number of steps
pub record Request : Type 0 where
  pub start : Option ℕ
  pub words : ℕ
  pub limit : ℕ

abbrev pub request_of : Option ℕ → ℕ → ℕ → Request
request_of start words limit = record { start = start; words = words; limit = limit }

-- the devices of a run: the tape, the console, and the output for messages
pub record RunDevices : Type 0 where
  pub tape : Input
  pub console : Devices
  pub messages : Output

abbrev pub run_devices : Input → Devices → Output → RunDevices
run_devices tape console messages = record { tape = tape; console = console; messages = messages }

-- a load of the tape into a new machine had this result, the transfer address or the fault that stopped the load, and left this machine
abbrev pub Loaded : ℕ → Input → Input → Machine → Result ℕ LoadFault → Type 0
Loaded words tape tape' m result = LoadsInto tape.text tape'.text tape.faults tape'.faults (new_machine words) m result

-- the tape was loaded, and the run from the tape's transfer address, or from the start that replaces it, had this outcome and left this
-- machine; an odd address starts nothing
pub record HasRun (request : Request) (before after : RunDevices) (ran : Ran) (m : Machine) : Type 0 where
  pub transfer : ℕ
  pub loaded : Machine
  pub loads : Loaded request.words before.tape after.tape loaded (Ok transfer)
  pub runs : Does (started (unwrap_or request.start transfer) request.limit loaded) before.console after.console (ran, m)

abbrev pub text_at_stop : Ran → Machine → Bytes
text_at_stop ran m = messages_of ran.stop ran.steps m.registers (psw_in m)

-- a whole run has this outcome: its stop, which the messages report; or the tape could not be loaded, and nothing was run or
-- reported; or the messages could not be written completely; or memory was refused before anything was read
abbrev pub Simulates : Request → RunDevices → RunDevices → Result SimDone SimFault → Type 0
Simulates request before after (Ok done) =
    (ran : Ran) × (m : Machine) × HasRun request before after ran m × (done.stop ≡ ran.stop)
    × Appends before.messages.text after.messages.text (text_at_stop ran m)
    × (after.messages.faults ≡ before.messages.faults)
Simulates request before after (Err (Load fault)) =
    (m : Machine) × Loaded request.words before.tape after.tape m (Err fault) × (after.console ≡ before.console)
    × (after.messages ≡ before.messages)
Simulates request before after (Err Write) =
    (ran : Ran) × (m : Machine) × HasRun request before after ran m
    × AppendsPrefix before.messages.text after.messages.text (text_at_stop ran m)
    × Rises before.messages.faults after.messages.faults
Simulates request before after (Err NoMemory) =
    (after.tape ≡ before.tape) × (after.console ≡ before.console) × (after.messages ≡ before.messages)
