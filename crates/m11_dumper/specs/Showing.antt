-- Files shown one after another. (This project's own.)
use Rattle.std.specs.Prelude.{◌≡◌, ◌⊎◌, ℕ, List, [], ◌∷◌, Option, Some, None, Result, Ok, Err}
use Rattle.std.specs.Io.KnownBytes.{Appends}
use Rattle.m11_base.specs.Devices.{Bytes, Rises}
use Rattle.m11_base.specs.Feed.{Text}
use Rattle.m11_base.specs.Sink.{AppendsPrefix}
use Rattle.m11_obj_blocks.specs.Limited.{Position, most_bytes, position}
use Rattle.m11_base_disassembly.specs.declared.symbols.Symbol.{Symbol}
use Rattle.m11_dump.specs.Kind.{IsKind}
use Rattle.m11_dump.specs.Libraries.{DumpsLibrary}
use Rattle.m11_dump.specs.Objects.{DumpsObject}
use Rattle.m11_dump.specs.Tapes.{DumpsTape, tape_view}
use Rattle.m11_dump.specs.declared.kind.Kind.{Kind}
use Rattle.m11_dump.specs.declared.kind.Kind.TheVariants.{Object, Library, Tape}
use Rattle.m11_dump.specs.declared.fault.LocatedFault.{LocatedFault}
use Rattle.m11_dumper.specs.Lines.{head_line}
use Rattle.m11_dump_source.specs.Run.{WritesSource}
use Rattle.m11_dump_source.specs.declared.run.SourceFault.{SourceFault}
use Rattle.m11_dump_source.specs.declared.run.SourceFault.TheVariants as source
use Rattle.m11_dumper.specs.declared.paths.Form.{Form}
use Rattle.m11_dumper.specs.declared.paths.Form.TheVariants.{Dump, Source}
use Rattle.m11_dumper.specs.declared.paths.Look.{Look}
use Rattle.m11_dumper.specs.declared.stop.Stop.{Stop}
use Rattle.m11_dumper.specs.declared.stop.Stop.TheVariants.{NotOpened, InFile, NotTape, SeveralFiles, InObject, InMap, NoSymbols, Write, NoMemory}
use Rattle.m11_base_files.specs.Opens.{Files, Holds, Lacks}
use Rattle.m11_base_writes.specs.States.{OutputState}
use Rattle.m11_dump.specs.declared.view.View.{View}

-- `Gains`: a text was written completely, and the output didn't fail. `Fails`: the output failed after a prefix of the text was written
abbrev pub Gains : Bytes → OutputState → OutputState → Type 0
Gains text out out' = Appends out.text out'.text text × (out'.faults ≡ out.faults)

abbrev pub Fails : Bytes → OutputState → OutputState → Type 0
Fails text out out' = AppendsPrefix out.text out'.text text × Rises out.faults out'.faults

-- a dump of a file as one of this kind, with these globals as names of a tape's addresses, has this result
abbrev pub DumpsKind : View → List Symbol → Kind → Position → Position → OutputState → OutputState → Result (Unit {0}) LocatedFault → Type 0
DumpsKind view symbols Object old new out out' result = DumpsObject view old new out out' result
DumpsKind view symbols Library old new out out' result = DumpsLibrary old new out out' result
DumpsKind view symbols Tape old new out out' result = DumpsTape (tape_view view symbols) old new out out' result

-- the head of a file was written, and then its bytes were dumped from their beginning, with this result
abbrev pub DumpsInput : View → List Symbol → Kind → Option Text → ℕ → Bytes → OutputState → OutputState → Result (Unit {0}) LocatedFault → Type 0
DumpsInput view symbols kind text faults path out out' result = (middle : OutputState) × (new : Position) × Gains (head_line kind path) out middle
    × DumpsKind view symbols kind (position text faults most_bytes) new middle out' result

-- ---- one open file

-- an open file of this kind was dumped; or memory was refused before anything was written; or its head couldn't be written; or its dump
-- stopped
abbrev pub ShowsDump : View → List Symbol → Kind → Option Text → ℕ → Bytes → OutputState → OutputState → Result (Unit {0}) Stop → Type 0
ShowsDump view symbols kind text faults path out out' (Ok done) = DumpsInput view symbols kind text faults path out out' (Ok done)
ShowsDump view symbols kind text faults path out out' (Err (InFile named placed)) =
    (named.now ≡ path) × DumpsInput view symbols kind text faults path out out' (Err placed)
ShowsDump view symbols kind text faults path out out' (Err (NotOpened named)) = ⊥
ShowsDump view symbols kind text faults path out out' (Err Write) = Fails (head_line kind path) out out'
ShowsDump view symbols kind text faults path out out' (Err NoMemory) = out' ≡ out
ShowsDump view symbols kind text faults path out out' (Err (InObject named fault)) = ⊥
ShowsDump view symbols kind text faults path out out' (Err (InMap fault)) = ⊥
ShowsDump view symbols kind text faults path out out' (Err (NotTape named)) = ⊥
ShowsDump view symbols kind text faults path out out' (Err SeveralFiles) = ⊥
ShowsDump view symbols kind text faults path out out' (Err (NoSymbols named fault)) = ⊥

-- the tape in this text was written as a source, with this result
abbrev pub Sources : List Symbol → Option Text → ℕ → OutputState → OutputState → Result (Unit {0}) SourceFault → Type 0
Sources symbols text faults out out' result =
    (new : Position) × WritesSource symbols (position text faults most_bytes) new out out' result

-- an open tape was written as a source; or it can't be read, or not all of its source was written, or memory was refused
abbrev pub ShowsTape : List Symbol → Option Text → ℕ → Bytes → OutputState → OutputState → Result (Unit {0}) Stop → Type 0
ShowsTape symbols text faults path out out' (Ok done) = Sources symbols text faults out out' (Ok done)
ShowsTape symbols text faults path out out' (Err (InFile named placed)) =
    (named.now ≡ path) × Sources symbols text faults out out' (Err (source.Tape placed))
ShowsTape symbols text faults path out out' (Err Write) = Sources symbols text faults out out' (Err source.Write)
ShowsTape symbols text faults path out out' (Err NoMemory) = Sources symbols text faults out out' (Err source.NoMemory)
ShowsTape symbols text faults path out out' (Err stop) = ⊥

-- there is no source of a file of another kind, and nothing was written
abbrev pub IsNoTape : Bytes → OutputState → OutputState → Result (Unit {0}) Stop → Type 0
IsNoTape path out out' (Err (NotTape named)) = (named.now ≡ path) × (out' ≡ out)
IsNoTape path out out' result = ⊥

-- an open file of this kind was written as a source, which only a tape has
abbrev pub ShowsSource : List Symbol → Kind → Option Text → ℕ → Bytes → OutputState → OutputState → Result (Unit {0}) Stop → Type 0
ShowsSource symbols Tape text faults path out out' result = ShowsTape symbols text faults path out out' result
ShowsSource symbols kind text faults path out out' result = IsNoTape path out out' result

-- an open file of this kind was shown in this form, with this result
abbrev pub ShowsInput : Form → List Symbol → Kind → Option Text → ℕ → Bytes → OutputState → OutputState → Result (Unit {0}) Stop → Type 0
ShowsInput (Dump view) symbols kind text faults path out out' result = ShowsDump view symbols kind text faults path out out' result
ShowsInput Source symbols kind text faults path out out' result = ShowsSource symbols kind text faults path out out' result

-- ---- files at paths

-- the kind of a file: as an option states for all files, otherwise as the beginning of the file indicates
abbrev pub IsChosenKind : Option Kind → Position → Position → Kind → Type 0
IsChosenKind (Some said) old new kind = kind ≡ said
IsChosenKind None old new kind = IsKind old new kind

-- the file at this path is of this kind
abbrev pub IsOfKind : Option Kind → Option Files → Bytes → Kind → Type 0
IsOfKind said files path kind = (text : Option Text) × (faults : ℕ) × (new : Position) × Holds files path text
    × IsChosenKind said (position text faults most_bytes) new kind

-- the file at this path is open, and it was shown with this result
abbrev pub ShowsOpen : Look → List Symbol → Option Files → Bytes → OutputState → OutputState → Result (Unit {0}) Stop → Type 0
ShowsOpen look symbols files path out out' result = (kind : Kind) × (text : Option Text) × (faults : ℕ) × IsOfKind look.kind files path kind
    × Holds files path text × ShowsInput look.form symbols kind text faults path out out' result

-- the file at this path couldn't be opened, or memory was refused for that; nothing was written
abbrev pub StaysClosed : Option Files → Bytes → OutputState → OutputState → Result (Unit {0}) Stop → Type 0
StaysClosed files path out out' (Ok done) = ⊥
StaysClosed files path out out' (Err (NotOpened named)) = (named.now ≡ path) × Lacks files path × (out' ≡ out)
StaysClosed files path out out' (Err NoMemory) = out' ≡ out
StaysClosed files path out out' (Err stop) = ⊥

-- a file was shown, or why it wasn't
abbrev pub ShowsFile : Look → List Symbol → Option Files → Bytes → OutputState → OutputState → Result (Unit {0}) Stop → Type 0
ShowsFile look symbols files path out out' result =
    ShowsOpen look symbols files path out out' result ⊎ StaysClosed files path out out' result

-- all files were shown, in order; or showing stopped at one of them, and those before it were shown
abbrev pub ShowsAll : Look → List Symbol → Option Files → List Bytes → OutputState → OutputState → Result (Unit {0}) Stop → Type 0
ShowsAll look symbols files [] out out' (Ok done) = out' ≡ out
ShowsAll look symbols files [] out out' (Err stop) = ⊥
ShowsAll look symbols files (path ∷ paths) out out' (Ok done) =
    (middle : OutputState) × ShowsFile look symbols files path out middle (Ok tt) × ShowsAll look symbols files paths middle out' (Ok done)
ShowsAll look symbols files (path ∷ paths) out out' (Err stop) = ShowsFile look symbols files path out out' (Err stop)
    ⊎ ((middle : OutputState) × ShowsFile look symbols files path out middle (Ok tt) × ShowsAll look symbols files paths middle out' (Err stop))

-- a count of refusals rises if and only if a file couldn't be opened
abbrev pub Counts : ℕ → ℕ → Result (Unit {0}) Stop → Type 0
Counts old new (Err (NotOpened path)) = Rises old new
Counts old new result = new ≡ old
