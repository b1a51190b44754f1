-- What the program does with the three standard streams and with its files, for a given command line. (This project's own.)
use Rattle.std.specs.Prelude.{◌≡◌, ◌⊎◌, List, [], Option, Result, Ok, Err}
use Rattle.clap.specs.Words.{Text}
use Rattle.m11_asm_faults.specs.declared.fault.AsmFault.{AsmFault}
use Rattle.m11_asm_faults.specs.declared.fault.AsmFault.TheVariants as asm-fault
use Rattle.m11_base.specs.Devices.{Bytes, Rises}
use Rattle.m11_base.specs.Sink.{handed_on}
use Rattle.m11_base.specs.declared.sink.Sink.{Ghosts}
use Rattle.m11_asm.specs.Extents.{AsmGives}
use Rattle.m11_asm.specs.Run.{AsmRuns}
use Rattle.m11_cpu_machine.specs.Dialogue.{Input}
use Rattle.m11_cpu.specs.Simulation.{Simulates, request_of}
use Rattle.m11_cpu.specs.declared.fault.SimFault.{SimFault}
use Rattle.m11_cpu.specs.declared.fault.SimFault.TheVariants as sim-fault
use Rattle.m11_cpu.specs.declared.simulation.SimDone.{SimDone}
use Rattle.m11_link_layout.specs.declared.fault.LinkFault.{LinkFault}
use Rattle.m11_link_layout.specs.declared.fault.LinkFault.TheVariants as link-fault
use Rattle.m11_link.specs.SecondPass as linking
use Rattle.m11_base_writes.specs.Outputs.{Outputs, outputs_of}
use Rattle.m11_link.specs.declared.emit.LinkDone.{LinkDone}
use Rattle.m11_asm.specs.declared.done.AsmDone.{AsmDone}
use Rattle.m11_cli.specs.FaultLines.{line_of}
use Rattle.m11_cli_reports.specs.Lines.{open_line}
use Rattle.m11_cli_reports.specs.Reports.{Explains, Reports}
use Rattle.m11_cli_reports.specs.Streams.{Store, Streams, devices_of}
use Rattle.m11_base_writes.specs.States.{OutputState}
use Rattle.m11_base_files.specs.Opens.{AreFiles, Holds, IsEmptied, IsEmptiedSome, creating, keeping, keeping_some}
use Rattle.m11_cli_tasks.specs.Opened.{CreatesSome, StopsAt, asm_inputs, asm_outputs, link_inputs, link_outputs, sim_inputs}
use Rattle.m11_cli_tasks.specs.Tasks.{Plans}
use Rattle.m11_cli.specs.declared.outcome.Outcome.{Outcome}
use Rattle.m11_cli.specs.declared.outcome.Outcome.TheVariants.{Usage, Asm, Link, Sim, NotOpened}
use Rattle.m11_cli_tasks.specs.declared.tasks.AsmTask.{AsmTask}
use Rattle.m11_cli_tasks.specs.declared.tasks.LinkTask.{LinkTask}
use Rattle.m11_cli_tasks.specs.declared.tasks.SimTask.{SimTask}
use Rattle.m11_cli_tasks.specs.declared.tasks.Task.{Task}
use Rattle.m11_cli_tasks.specs.declared.tasks.Task.TheVariants as task
use Rattle.m11_base_writes.specs.Passes.{pass_of}

-- ---- files that can't all be opened or created

-- memory was refused while the files were opened: nothing is reported, and some or all of the outputs may have been created
abbrev pub RunsOutOpening : List Bytes → List Bytes → Store → Store → OutputState → OutputState → Type 0
RunsOutOpening inputs outputs old new reported reported' = (reported' ≡ reported) × (new.refusals ≡ old.refusals)
    × ((new.files ≡ old.files) ⊎ CreatesSome old.files new.files inputs outputs)

-- the path of the first file that couldn't be opened or created is reported, and the outputs before that file were created
abbrev pub RefusesFile : List Bytes → List Bytes → Store → Store → OutputState → OutputState → Type 0
RefusesFile inputs outputs old new reported reported' = Rises old.refusals new.refusals
    × (path : Bytes) × StopsAt old.files new.files inputs outputs path × Reports (open_line path) reported reported'

-- ---- an assembly

-- the ghosts of an output's state, for the contracts of an assembly and of a link: its text, its count of failures and the number of bytes
-- held back
abbrev pub known : Ghosts OutputState
known = record { text = λ output. output.text; faults = λ output. output.faults; held = λ output. output.held }

-- the bytes that a file received, if they are known: those written to it, without the last ones that are still held back
abbrev pub got : OutputState → Option Bytes
got output = handed_on output.text output.held

-- the outputs of an assembly or of a link: the object or the tape, the listing or the map if there is one, and the messages
abbrev pub outputs : OutputState → Option OutputState → OutputState → Outputs
outputs product report messages = outputs_of known known known product report messages

-- the sources are the files at their paths, in both passes. An assembly of their texts writes the object and the listing, which were empty,
-- and reports its messages; it reads no byte after the line in which `.END` becomes live. The object is created before the listing, and the
-- bytes that the object and the listing received become the contents of the files at their paths
pub record Assembles (asm : AsmTask) (old new : Store) (reported reported' : OutputState) (result : Result AsmDone AsmFault)
    : Type 0 where
  pub first : List Input
  pub first' : List Input
  pub second : List Input
  pub second' : List Input
  pub object : OutputState
  pub object' : OutputState
  pub listing : Option OutputState
  pub listing' : Option OutputState
  pub read : AreFiles (λ s. s.text) old.files (asm_inputs asm) first
  pub read-again : AreFiles (λ s. s.text) old.files (asm_inputs asm) second
  pub emptied : IsEmptied old.files object.text
  pub emptied-listing : IsEmptiedSome (λ l. l.text) old.files asm.listing listing
  pub runs : AsmRuns (pass_of (λ s. s.text) (λ s. s.faults) first first')
      (pass_of (λ s. s.text) (λ s. s.faults) second second')
      (outputs object listing reported) (outputs object' listing' reported') result
  pub gives : AsmGives (pass_of (λ s. s.text) (λ s. s.faults) first first')
      (pass_of (λ s. s.text) (λ s. s.faults) second second')
      (outputs object listing reported) (outputs object' listing' reported') result
  pub kept : new.files ≡ keeping_some got asm.listing listing'
      (keeping asm.object.now (got object') (creating (asm_outputs asm) old.files))
  pub opened : new.refusals ≡ old.refusals

abbrev pub MayAssemble : AsmTask → Store → Store → OutputState → OutputState → Result AsmDone AsmFault → Type 0
MayAssemble asm old new reported reported' result = Assembles asm old new reported reported' result
    ⊎ ((result ≡ Err asm-fault.NoMemory) × RunsOutOpening (asm_inputs asm) (asm_outputs asm) old new reported reported')

-- ---- a link

-- the objects are the files at their paths, in both passes. A link of their texts, whose relocatable sections begin at the task's bottom,
-- writes the tape and the map, which were empty, and reports its messages. The tape is created before the map, and the bytes that the tape
-- and the map received become the contents of the files at their paths
pub record Links (task : LinkTask) (old new : Store) (reported reported' : OutputState) (result : Result LinkDone LinkFault)
    : Type 0 where
  pub first : List Input
  pub first' : List Input
  pub second : List Input
  pub second' : List Input
  pub tape : OutputState
  pub tape' : OutputState
  pub map : Option OutputState
  pub map' : Option OutputState
  pub read : AreFiles (λ s. s.text) old.files (link_inputs task) first
  pub read-again : AreFiles (λ s. s.text) old.files (link_inputs task) second
  pub emptied : IsEmptied old.files tape.text
  pub emptied-map : IsEmptiedSome (λ m. m.text) old.files task.map map
  pub runs : linking.LinkRuns (pass_of (λ s. s.text) (λ s. s.faults) first first')
      (pass_of (λ s. s.text) (λ s. s.faults) second second') task.bottom
      (outputs tape map reported) (outputs tape' map' reported') result
  pub kept : new.files ≡ keeping_some got task.map map'
      (keeping task.tape.now (got tape') (creating (link_outputs task) old.files))
  pub opened : new.refusals ≡ old.refusals

abbrev pub MayLink : LinkTask → Store → Store → OutputState → OutputState → Result LinkDone LinkFault → Type 0
MayLink task old new reported reported' result = Links task old new reported reported' result
    ⊎ ((result ≡ Err link-fault.NoMemory) × RunsOutOpening (link_inputs task) (link_outputs task) old new reported reported')

-- ---- a run

-- the tape is the file at its path; it is run with the task's start address, size of memory in words and limit of steps, and with the
-- console; no file changes
pub record RunsTape (sim : SimTask) (old new : Store) (before after : Streams) (result : Result SimDone SimFault)
    : Type 0 where
  pub tape : Input
  pub tape' : Input
  pub read : Holds old.files sim.tape.now tape.text
  pub runs : Simulates (request_of sim.start sim.words sim.limit)
      (devices_of tape before) (devices_of tape' after) result
  pub kept : new ≡ old

abbrev pub MayRun : SimTask → Store → Store → Streams → Streams → Result SimDone SimFault → Type 0
MayRun sim old new before after result = RunsTape sim old new before after result
    ⊎ ((result ≡ Err sim-fault.NoMemory) × (after ≡ before) × (new ≡ old))

-- ---- a command

-- the paths of the files that a task reads, and of those that it writes
abbrev pub inputs_of : Task → List Bytes
inputs_of (task.Asm asm) = asm_inputs asm
inputs_of (task.Link link) = link_inputs link
inputs_of (task.Sim sim) = sim_inputs sim

abbrev pub outputs_of_task : Task → List Bytes
outputs_of_task (task.Asm asm) = asm_outputs asm
outputs_of_task (task.Link link) = link_outputs link
outputs_of_task (task.Sim sim) = []

-- A task has this outcome. If one of its files can't be opened or created, the path of that file is reported. Otherwise its sources are
-- assembled, its objects linked or its tape run with the console, unless memory was refused while the files were opened. Only a run reads
-- input or prints.
abbrev pub Carries : Task → Outcome → Store → Store → Streams → Streams → Type 0
Carries task NotOpened old new before after = (after.input ≡ before.input) × (after.printed ≡ before.printed)
    × RefusesFile (inputs_of task) (outputs_of_task task) old new before.reported after.reported
Carries (task.Asm asm) (Asm result) old new before after = (after.input ≡ before.input)
    × (after.printed ≡ before.printed) × MayAssemble asm old new before.reported after.reported result
Carries (task.Link link) (Link result) old new before after = (after.input ≡ before.input)
    × (after.printed ≡ before.printed) × MayLink link old new before.reported after.reported result
Carries (task.Sim sim) (Sim result) old new before after = MayRun sim old new before after result
Carries task outcome old new before after = ⊥

-- A command line has this outcome. If it asks for help, if it is refused, or if memory was refused while it was read, it yields no task:
-- then no file is opened, and help or the parser's refusal, if there is either, is written. Otherwise its task is carried out.
abbrev pub HasOutcome : List Text → Outcome → Store → Store → Streams → Streams → Type 0
HasOutcome words (Usage fault) old new before after = Plans words (Err fault) × (new ≡ old)
    × (after.input ≡ before.input) × Explains fault before.printed after.printed before.reported after.reported
HasOutcome words outcome old new before after =
    (task : Task) × Plans words (Ok task) × Carries task outcome old new before after

-- a command line has this outcome, and then the line for the outcome's fault, if it has one, is reported
abbrev pub Obeys : List Text → Outcome → Store → Store → Streams → Streams → Type 0
Obeys words outcome old new before after =
    (reported : OutputState) × HasOutcome words outcome old new before (record after { reported = reported })
    × Reports (line_of outcome) reported after.reported
