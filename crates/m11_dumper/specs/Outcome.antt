-- The outcome of a command line, what is written for it, and its exit status: 0 if all files were shown or help was asked for, 2 if the
-- command line is refused, 3 if a device failed or a file couldn't be opened, 4 for a malformed file, 5 for lack of memory, 6 for an
-- exceeded limit. (This project's own; a fault has the same status as in a link or a run.)
use Rattle.std.specs.Prelude.{◌≡◌, ◌&&◌, ℕ, Bool, true, false, List, ◌∷◌, Option, Result, Ok, Err}
use Rattle.clap.specs.Words.{Text}
use Rattle.m11_base.specs.Devices.{Bytes}
use Rattle.m11_base.specs.Feed as feed
use Rattle.m11_base_disassembly.specs.declared.map_fault.MapFault.{MapFault}
use Rattle.m11_base_disassembly.specs.declared.map_fault.MapFault.TheVariants as map
use Rattle.m11_base_files.specs.Opens.{Files}
use Rattle.m11_base_writes.specs.States.{OutputState}
use Rattle.m11_obj_blocks.specs.declared.block_fault.BlockFault.TheVariants as block
use Rattle.m11_link_layout.specs.Fault.{of_module}
use Rattle.m11_dump.specs.declared.fault.DumpFault.{DumpFault}
use Rattle.m11_dump.specs.declared.fault.DumpFault.TheVariants as fault
use Rattle.m11_cli_tasks.specs.Opened.{texts}
use Rattle.m11_cli_tasks.specs.declared.arguments.WordsFault.{WordsFault}
use Rattle.m11_cli_tasks.specs.declared.arguments.WordsFault.TheVariants as words
use Rattle.m11_cli_reports.specs.Links.{link_status}
use Rattle.m11_cli_reports.specs.Refusals.{refused_line, refused_word}
use Rattle.m11_cli_reports.specs.Reports.{Explains, MayReport, Reports, ReportsOfWords}
use Rattle.m11_cli_reports.specs.Runs.{tape_status}
use Rattle.m11_cli_reports.specs.Usage.{usage_status}
use Rattle.m11_cli_reports.specs.declared.refusals.RefusedValue.{RefusedValue}
use Rattle.m11_cli_reports.specs.declared.refusals.Refusal.TheVariants as refusal
use Rattle.m11_dumper.specs.Lines.{stop_line}
use Rattle.m11_dumper.specs.Mapping.{ShowsMap}
use Rattle.m11_dumper.specs.Paths.{Plans}
use Rattle.m11_dumper.specs.Names.{ShowsNamed}
use Rattle.m11_dumper.specs.declared.paths.Form.{Form}
use Rattle.m11_dumper.specs.declared.paths.Form.TheVariants.{Source}
use Rattle.m11_dumper.specs.declared.paths.Look.{Look}
use Rattle.m11_dumper.specs.declared.paths.Request.{Request}
use Rattle.m11_dumper.specs.declared.paths.Show.{Show}
use Rattle.m11_dumper.specs.declared.paths.Show.TheVariants.{Contents, Map}
use Rattle.m11_dumper.specs.declared.stop.Outcome.{Outcome}
use Rattle.m11_dumper.specs.declared.stop.Outcome.TheVariants.{Usage, Refused, Shown}
use Rattle.m11_dumper.specs.declared.stop.Stop.{Stop}
use Rattle.m11_dumper.specs.declared.stop.Stop.TheVariants.{NotOpened, InFile, NotTape, SeveralFiles, InObject, InMap, NoSymbols, Write, NoMemory}

-- the exit status for a fault in a file, the same as for a link or a run
abbrev pub fault_status : DumpFault → ℕ
fault_status (fault.Block block.Device) = 3
fault_status (fault.Block block.TooMuch) = 6
fault_status (fault.Block inner) = 4
fault_status (fault.Record inner) = 4
fault_status (fault.Rule inner) = link_status (of_module inner)
fault_status (fault.Tape inner) = tape_status inner
fault_status fault.Write = 3
fault_status fault.NoMemory = 5

-- the exit status for a file that gives no names
abbrev pub map_status : MapFault → ℕ
map_status map.Read = 3
map_status map.BadMap = 4
map_status map.TooMuch = 6
map_status map.NoModule = 4
map_status map.NoMemory = 5

abbrev pub stop_status : Stop → ℕ
stop_status (NotOpened path) = 3
stop_status (InFile path placed) = fault_status placed.fault
stop_status (NotTape path) = 4
stop_status SeveralFiles = 2
stop_status (InObject path fault) = link_status fault
stop_status (InMap fault) = link_status fault
stop_status (NoSymbols path fault) = map_status fault
stop_status Write = 3
stop_status NoMemory = 5

abbrev pub status_of : Outcome → ℕ
status_of (Usage fault) = usage_status fault
status_of Refused = 2
status_of (Shown (Ok done)) = 0
status_of (Shown (Err stop)) = stop_status stop

-- a value of a command line is refused, and the line that names it is reported
abbrev pub RefusesValue : List Text → OutputState → OutputState → Type 0
RefusesValue words err err' = (value : RefusedValue) × Plans words (Err (refusal.Value value))
    × Reports (refused_line (refused_word value)) err err'

-- a write of the output failed
abbrev pub is_write_fault : DumpFault → Bool
is_write_fault fault.Write = true
is_write_fault (fault.Block inner) = false
is_write_fault (fault.Record inner) = false
is_write_fault (fault.Rule inner) = false
is_write_fault (fault.Tape inner) = false
is_write_fault fault.NoMemory = false

abbrev pub is_write : Stop → Bool
is_write (NotOpened path) = false
is_write (InFile path placed) = is_write_fault placed.fault
is_write (NotTape path) = false
is_write SeveralFiles = false
is_write (InObject path fault) = false
is_write (InMap fault) = false
is_write (NoSymbols path fault) = false
is_write Write = true
is_write NoMemory = false

-- the reason for stopping is reported, unless memory was refused for its line; or it isn't to be reported
abbrev pub SaysUnless : Bool → Stop → OutputState → OutputState → Type 0
SaysUnless true stop err err' = err' ≡ err
SaysUnless false stop err err' = MayReport (stop_line stop) err err'

-- the report after showing: none if all files were shown, or if a write failed since nobody reads the output any more; otherwise the reason
-- why not all were shown
abbrev pub Says : Bool → Result (Unit {0}) Stop → OutputState → OutputState → Type 0
Says unread (Ok done) err err' = err' ≡ err
Says unread (Err stop) err err' = SaysUnless (unread && is_write stop) stop err err'

-- whether several files are asked for as sources: an assembly of these would end at the first `.END`
abbrev pub has_several : Form → List Bytes → Bool
has_several Source (path ∷ other ∷ paths) = true
has_several form paths = false

-- the contents of the files were shown, or the result is the reason why not; but several files aren't shown as sources, and then no file is opened
abbrev pub ShowsUnless : {I : Type 0} → Bool → (I → Option feed.Text) → (I → ℕ) → Look → ℕ → List Bytes → Option Files → List Bytes
    → OutputState → OutputState → Result (Unit {0}) Stop → Type 0
ShowsUnless true text faults look bottom names files paths out out' result = (result ≡ Err SeveralFiles) × (out' ≡ out)
ShowsUnless false text faults look bottom names files paths out out' result =
    ShowsNamed text faults look bottom names files paths out out' result

-- the contents of the files, or the load map of objects, were shown; or the result is the reason why not
abbrev pub Shows : {I : Type 0} → (I → Option feed.Text) → (I → ℕ) → Show → ℕ → List Bytes → Option Files → List Bytes
    → OutputState → OutputState → Result (Unit {0}) Stop → Type 0
Shows text faults (Contents look) bottom names files paths out out' result =
    ShowsUnless (has_several look.form paths) text faults look bottom names files paths out out' result
Shows text faults Map bottom names files paths out out' result = ShowsMap text faults bottom files paths out out' result

-- the command line is refused or asks for help, which the parser's text says; or a value of it is refused; or the files at its paths, or
-- their load map, are shown, and the reason for stopping early, if there is one, is reported. After this the output is `out'`, and `unread`
-- says whether a write of it failed since nobody reads it any more
abbrev pub Yields : {I : Type 0} → (I → Option feed.Text) → (I → ℕ) → List Text → Option Files → Outcome → OutputState → OutputState → Bool
    → OutputState → OutputState → Type 0
Yields text faults words files (Usage fault) out out' unread err err' = Plans words (Err (refusal.Usage fault)) × Explains fault out out' err err'
Yields text faults words files Refused out out' unread err err' = RefusesValue words err err' × (out' ≡ out)
Yields text faults words files (Shown result) out out' unread err err' = (request : Request) × Plans words (Ok request)
    × Shows text faults request.show request.bottom (texts request.names.items) files (texts request.paths.items) out out' result
    × Says unread result err err'

-- ---- command lines that the system can't supply

-- the line about a word that isn't UTF-8, unless memory was refused for that line; lack of memory itself isn't reported
abbrev pub RefusesWords : WordsFault → OutputState → OutputState → Type 0
RefusesWords words.NoMemory err err' = err' ≡ err
RefusesWords (words.NotText number) err err' = ReportsOfWords (words.NotText number) err err'
