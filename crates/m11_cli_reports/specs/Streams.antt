-- The streams of a process, from which it reads and to which it prints and reports; and its files. (This project's own.)
use Rattle.std.specs.Prelude.{ℕ, Option}
use Rattle.m11_base.specs.declared.feed.Feed as feed
use Rattle.m11_base.specs.declared.sink.Sink as sink
use Rattle.m11_base_files.specs.Opens.{Files}
use Rattle.m11_base_writes.specs.States.{OutputState, output_of}
use Rattle.m11_cpu.specs.Simulation.{RunDevices, run_devices}
use Rattle.m11_cpu_machine.specs.Dialogue as dialogue
use Rattle.m11_cpu_machine.specs.Dialogue.{Input, both, input_of}

pub record Streams : Type 0 where
  pub input : Input
  pub printed : OutputState
  pub reported : OutputState

-- a feed and two sinks, as streams
abbrev pub streams : {I O E : Type 0} → feed.Ghosts I → sink.Ghosts O → sink.Ghosts E → I → O → E → Streams
streams feeds prints reports input out err = record {
  input = input_of (feeds.text input) (feeds.faults input);
  printed = output_of prints out;
  reported = output_of reports err;
}

-- the devices of a run of a tape with the console
abbrev pub devices_of : Input → Streams → RunDevices
devices_of tape process = run_devices tape
    (both process.input.text process.input.faults process.printed.text process.printed.faults)
    (dialogue.output_of process.reported.text process.reported.faults)

-- the files of a process, if they are known, and how often one couldn't be opened or created
pub record Store : Type 0 where
  pub files : Option Files
  pub refusals : ℕ

abbrev pub store : Option Files → ℕ → Store
store files refusals = record { files = files; refusals = refusals }
