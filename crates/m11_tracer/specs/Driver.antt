-- What the program does with the three standard streams and with its files, for a given command line. (This project's own.)
use Rattle.std.specs.Prelude.{◌≡◌, ◌⊎◌, ℕ, List, [], ◌∷◌, Option, Some, None, Result, Ok, Err}
use Rattle.std.specs.Borrow.{Bor}
use Rattle.clap.specs.Words.{Text}
use Rattle.m11_base.specs.Devices.{Bytes, Rises}
use Rattle.m11_base.specs.Feed as feed
use Rattle.m11_base.specs.Sink.{handed_on}
use Rattle.m11_cpu.specs.Simulation.{request_of}
use Rattle.m11_cpu.specs.declared.fault.SimFault.{SimFault}
use Rattle.m11_cpu.specs.declared.fault.SimFault.TheVariants.{NoMemory}
use Rattle.m11_base_files.specs.Opens.{Holds, IsEmptied, Lacks, creating, keeping}
use Rattle.m11_base_writes.specs.States.{OutputState}
use Rattle.m11_cpu_machine.specs.Dialogue.{Input, Output, output_of}
use Rattle.m11_base_disassembly.specs.MapFault.{fault_line}
use Rattle.m11_link_load_map.specs.NameFiles.{Counts, Names, NoneNamed}
use Rattle.m11_link_load_map.specs.declared.name_files.NoNames.{NoNames}
use Rattle.m11_link_load_map.specs.declared.name_files.NoNames.TheVariants as none
use Rattle.m11_trace.specs.Apart.{TracesApart}
use Rattle.m11_trace.specs.Known.{Known}
use Rattle.m11_trace.specs.Tracing.{Traces}
use Rattle.m11_trace.specs.declared.apart.ApartFault.{ApartFault}
use Rattle.m11_trace.specs.declared.ending.Ending.{Ending}
use Rattle.m11_tracer.specs.Outcome.{line_of, outcome_apart}
use Rattle.m11_cli_reports.specs.Lines.{open_line}
use Rattle.m11_cli_reports.specs.Refusals.{refused_line, refused_word}
use Rattle.m11_cli_reports.specs.declared.refusals.RefusedValue.{RefusedValue}
use Rattle.m11_cli_reports.specs.declared.refusals.Refusal.{Refusal}
use Rattle.m11_cli_reports.specs.declared.refusals.Refusal.TheVariants as refusal
use Rattle.m11_cli_reports.specs.Reports.{Explains, Reports}
use Rattle.m11_cli_reports.specs.Streams.{Store, Streams, devices_of, store}
use Rattle.m11_cli_tasks.specs.Opened.{texts}
use Rattle.m11_tracer.specs.Places.{AsksFor, value_texts}
use Rattle.m11_tracer.specs.Task.{Plans}
use Rattle.m11_tracer.specs.declared.outcome.Outcome.{Outcome}
use Rattle.m11_tracer.specs.declared.outcome.Outcome.TheVariants.{Usage, Refused, NotOpened, NoSymbols, LinesFailed, Ran}
use Rattle.m11_tracer.specs.declared.places.Asked.{Asked}
use Rattle.m11_tracer.specs.declared.task.TraceTask.{TraceTask}

-- what was written to an output, and its failures
abbrev pub written : OutputState → Output
written state = output_of state.text state.faults

-- an open tape is run as the task says, with the stops and memory ranges that its values ask for, and with what is known of addresses
abbrev pub RunsOpen : TraceTask → Asked → Known → Input → Streams → Streams → Result Ending SimFault → Type 0
RunsOpen task asked known tape before after result = (tape' : Input)
    × Traces (request_of task.sim.start task.sim.words task.sim.limit) known task.from task.last asked.stops asked.ranges.items
    (devices_of tape before) (devices_of tape' after) result

-- an open tape is run as the task says, and its lines go to the file at this path, which has been created with this output: the bytes that
-- the output received become the contents of the file
abbrev pub RunsApart : TraceTask → Asked → Bytes → Known → Input → OutputState → Store → Store → Streams → Streams → Result Ending ApartFault
    → Type 0
RunsApart task asked path known tape lines old new before after result = (tape' : Input) × (lines' : OutputState)
    × TracesApart (request_of task.sim.start task.sim.words task.sim.limit) known task.from task.last asked.stops asked.ranges.items
    (devices_of tape before) (devices_of tape' after) (written lines) (written lines') lines'.held result
    × (new ≡ store (keeping path (handed_on lines'.text lines'.held) old.files) old.refusals)

-- the file for the lines can't be created, and that is reported
abbrev pub RefusesLines : Bytes → Store → Store → OutputState → OutputState → Type 0
RefusesLines path old new reported reported' =
    Rises old.refusals new.refusals × (new.files ≡ old.files) × Reports (open_line path) reported reported'

-- an open tape is run as the task says, with its lines in a file at this path, which is created empty; or the file can't be created; or memory
-- is refused before the run
abbrev pub RunsInto : TraceTask → Asked → Bytes → Known → Input → Store → Store → Streams → Streams → Outcome → Type 0
RunsInto task asked path known tape old new before after outcome =
    ((lines : OutputState) × (result : Result Ending ApartFault) × IsEmptied old.files lines.text
    × RunsApart task asked path known tape lines (store (creating (path ∷ []) old.files) old.refusals) new before after result
    × (outcome ≡ outcome_apart result))
    ⊎ (((outcome ≡ NotOpened) × (after.input ≡ before.input) × (after.printed ≡ before.printed)
    × RefusesLines path old new before.reported after.reported)
    ⊎ ((outcome ≡ Ran (Err NoMemory)) × (after ≡ before) × (new ≡ old)))

-- an open tape is run as the task says: with its lines among the reports, and the files stay as they were; or with its lines in a file
abbrev pub RunsBy : Option (Bor Bytes) → TraceTask → Asked → Known → Input → Store → Store → Streams → Streams → Outcome → Type 0
RunsBy None task asked known tape old new before after outcome = (result : Result Ending SimFault)
    × RunsOpen task asked known tape before after result × (new ≡ old) × (outcome ≡ Ran result)
RunsBy (Some path) task asked known tape old new before after outcome =
    RunsInto task asked path.now known tape old new before after outcome

-- the file at the task's path is run as its tape
abbrev pub RunsTape : TraceTask → Asked → Known → Store → Store → Streams → Streams → Outcome → Type 0
RunsTape task asked known old new before after outcome = (tape : Input) × Holds old.files task.sim.tape.now tape.text
    × RunsBy task.lines task asked known tape old new before after outcome

-- the file at this path can't be opened, and that is reported
abbrev pub RefusesFile : Bytes → Store → Store → OutputState → OutputState → Type 0
RefusesFile path old new reported reported' = Lacks old.files path × Rises old.refusals new.refusals
    × (new.files ≡ old.files) × Reports (open_line path) reported reported'

-- the outcome of a task whose values ask for this, with what is known of addresses: the tape can't be opened; or it is run, unless the file for
-- its lines can't be created; or memory is refused before the run
abbrev pub CarriesNamed : TraceTask → Asked → Known → Outcome → Store → Store → Streams → Streams → Type 0
CarriesNamed task asked known NotOpened old new before after = RunsTape task asked known old new before after NotOpened
    ⊎ ((after.input ≡ before.input) × (after.printed ≡ before.printed)
    × RefusesFile task.sim.tape.now old new before.reported after.reported)
CarriesNamed task asked known (Ran result) old new before after = RunsTape task asked known old new before after (Ran result)
    ⊎ ((result ≡ Err NoMemory) × (after ≡ before) × (new ≡ old))
CarriesNamed task asked known LinesFailed old new before after = RunsTape task asked known old new before after LinesFailed
CarriesNamed task asked known (NoSymbols fault) old new before after = ⊥
CarriesNamed task asked known (Usage fault) old new before after = ⊥
CarriesNamed task asked known Refused old new before after = ⊥

-- a value isn't an address among the symbols, which is reported; or memory is refused, which isn't reported here
abbrev pub RefusesPlaces : Refusal → Outcome → OutputState → OutputState → Type 0
RefusesPlaces (refusal.Value value) outcome reported reported' =
    (outcome ≡ Refused) × Reports (refused_line (refused_word value)) reported reported'
RefusesPlaces (refusal.Usage fault) outcome reported reported' = (outcome ≡ Ran (Err NoMemory)) × (reported' ≡ reported)

-- the outcome of a task with what is known of addresses: it is carried out with the stops and memory ranges that its values ask for; or they ask
-- for none, and nothing is run
abbrev pub CarriesAsked : TraceTask → Known → Outcome → Store → Store → Streams → Streams → Type 0
CarriesAsked task known outcome old new before after =
    ((asked : Asked) × AsksFor (Some known.symbols) (value_texts task.values) (Ok asked) × CarriesNamed task asked known outcome old new before after)
    ⊎ ((refused : Refusal) × AsksFor (Some known.symbols) (value_texts task.values) (Err refused) × (new ≡ old) × (after.input ≡ before.input)
    × (after.printed ≡ before.printed) × RefusesPlaces refused outcome before.reported after.reported)

-- why there are no names is reported: the file of names at a path can't be opened, or it gives none
abbrev pub RefusesNames : NoNames → Outcome → OutputState → OutputState → Type 0
RefusesNames (none.NotOpened path) outcome reported reported' =
    (outcome ≡ NotOpened) × Reports (open_line path.now) reported reported'
RefusesNames (none.InFile path fault) outcome reported reported' =
    (outcome ≡ NoSymbols fault) × Reports (fault_line path.now fault) reported reported'

-- there are no names, which is reported, and nothing is run
abbrev pub GoesWithout : NoNames → Outcome → Store → Store → Streams → Streams → Type 0
GoesWithout none outcome old new before after = (new.files ≡ old.files) × (after.input ≡ before.input) × (after.printed ≡ before.printed)
    × Counts {A = Unit {0}} old.refusals new.refusals (Err none) × RefusesNames none outcome before.reported after.reported

-- the outcome of a task: it is carried out with the names in its files of names, and with the lines of their listings if these are kept; or
-- these files give no names, and nothing is run
abbrev pub Carries : {I : Type 0} → (I → Option feed.Text) → (I → ℕ) → TraceTask → Outcome → Store → Store → Streams → Streams → Type 0
Carries text faults task outcome old new before after =
    ((known : Known) × Names text faults task.kept task.bottom old.files (texts task.names.items) known.symbols known.listings
    × CarriesAsked task known outcome old new before after)
    ⊎ ((none : NoNames) × NoneNamed text faults task.kept task.bottom old.files (texts task.names.items) none
    × GoesWithout none outcome old new before after)

-- a value of a command line is refused, and the line that names it is reported
abbrev pub RefusesValue : List Text → OutputState → OutputState → Type 0
RefusesValue words reported reported' =
    (value : RefusedValue) × Plans words (Err (refusal.Value value)) × Reports (refused_line (refused_word value)) reported reported'

-- the parser refuses the command line, or it asks for help, or memory is refused: the parser's text, if there is one, is written, and no
-- file is opened; or a value of it is refused, whatever its name means, and no file is opened; or the task that the command line asks for is
-- carried out
abbrev pub HasOutcome : {I : Type 0} → (I → Option feed.Text) → (I → ℕ) → List Text → Outcome → Store → Store → Streams → Streams → Type 0
HasOutcome text faults words (Usage fault) old new before after = Plans words (Err (refusal.Usage fault)) × (new ≡ old)
    × (after.input ≡ before.input) × Explains fault before.printed after.printed before.reported after.reported
HasOutcome text faults words Refused old new before after =
    (RefusesValue words before.reported after.reported × (new ≡ old) × (after.input ≡ before.input) × (after.printed ≡ before.printed))
    ⊎ ((task : TraceTask) × Plans words (Ok task) × Carries text faults task Refused old new before after)
HasOutcome text faults words outcome old new before after =
    (task : TraceTask) × Plans words (Ok task) × Carries text faults task outcome old new before after

-- a command line has this outcome, and the line for the outcome's fault is reported after it
abbrev pub Obeys : {I : Type 0} → (I → Option feed.Text) → (I → ℕ) → List Text → Outcome → Store → Store → Streams → Streams → Type 0
Obeys text faults words outcome old new before after =
    (reported : OutputState) × HasOutcome text faults words outcome old new before (record after { reported = reported })
    × Reports (line_of outcome) reported after.reported
