-- Answers: what a command makes of a request, as blocks. (This project's own.)
use Rattle.std.specs.Prelude.{◌≡◌, ℕ, ◌++◌, false, List, [], ◌∷◌, Option, Some, drop, if◌then◌else◌, length, nat_le, option_map, unwrap_or}
use Rattle.m11_base.specs.Devices.{Bytes}
use Rattle.m11_base.specs.Feed.{Ends, Text}
use Rattle.m11_base_files.specs.MemoryFiles.{files_of}
use Rattle.m11_base_files.specs.Opens.{CreatedFile}
use Rattle.m11_base_files.specs.declared.memory_files.MemoryFile.{MemoryFile}
use Rattle.m11_base_writes.specs.States.{OutputState}
use Rattle.m11_cli.specs.Driver as m11
use Rattle.m11_cli.specs.Outcome as m11_outcome
use Rattle.m11_cli.specs.declared.outcome.Outcome as m11_declared
use Rattle.m11_cli_reports.specs.Streams.{Store, Streams, store}
use Rattle.m11_cpu_machine.specs.Dialogue.{input_of}
use Rattle.m11_dumper.specs.Outcome as dump
use Rattle.m11_dumper.specs.declared.stop.Outcome as dump_declared
use Rattle.m11_tracer.specs.Driver as trace
use Rattle.m11_tracer.specs.Outcome as trace_outcome
use Rattle.m11_tracer.specs.declared.outcome.Outcome as trace_declared
use Rattle.m11_web.specs.Blocks.{AreBlocks}
use Rattle.m11_web.specs.Requests.{IsRequest}
use Rattle.m11_web.specs.declared.programs.Program.{Program}
use Rattle.m11_web.specs.declared.programs.Program.TheVariants.{M11, Dump, Trace}

-- ---- the programs

-- what a program does with a command line: its exit status, the files and the streams before and after it
abbrev pub Command : Type 1
Command = List Bytes → ℕ → Store → Store → Streams → Streams → Type 0

-- a command line of `m11`
abbrev pub ObeysM11 : Command
ObeysM11 words status old new before after = (outcome : m11_declared.Outcome)
    × m11.Obeys words outcome old new before after × (status ≡ m11_outcome.status_of outcome)

module _ {I : Type 0} (text : I → Option Text) (faults : I → ℕ) where
  -- a command line of `m11-dump`, which reads no input and makes no file; open files have these texts and counts of failures
  abbrev pub ObeysDump : Command
  ObeysDump words status old new before after = (outcome : dump_declared.Outcome)
      × dump.Yields text faults words old.files outcome before.printed after.printed false before.reported after.reported
      × (status ≡ dump.status_of outcome) × (new.files ≡ old.files) × (after.input ≡ before.input)

  -- a command line of `m11-trace`, likewise
  abbrev pub ObeysTrace : Command
  ObeysTrace words status old new before after = (outcome : trace_declared.Outcome)
      × trace.Obeys text faults words outcome old new before after × (status ≡ trace_outcome.status_of outcome)

  -- a command line of this program
  abbrev pub obeys : Program → Command
  obeys M11 = ObeysM11
  obeys Dump = ObeysDump
  obeys Trace = ObeysTrace

-- ---- answers

-- of each file that was made its path and its bytes, which are none if its output wasn't handed back
abbrev pub made_parts : List CreatedFile → List Bytes
made_parts [] = []
made_parts (file ∷ files) = file.path ∷ unwrap_or file.kept [] ∷ made_parts files

-- an answer has this status, these bytes printed, these messages and these files: it is four blocks, the last of which holds those of the files
abbrev pub IsAnswer : ℕ → Bytes → Bytes → List CreatedFile → Bytes → Type 0
IsAnswer status printed reported made answer = (shelf : Bytes)
    × AreBlocks ((status ∷ []) ∷ printed ∷ reported ∷ shelf ∷ []) answer × AreBlocks (made_parts made) shelf

-- an output in memory, which has accepted these bytes
abbrev pub holding : Bytes → OutputState
holding bytes = record { text = Some bytes; faults = 0; held = 0 }

-- the streams of a command that can read this, and has written nothing
abbrev pub before : Bytes → Streams
before input = record { input = input_of (Some (record { bytes = input; ending = Ends })) 0; printed = holding []; reported = holding [] }

-- a command line, with these files to open and this to read, does what the definition of its program says, and the answer says what it leaves
abbrev pub CarriedOut : Command → List Bytes → List MemoryFile → Bytes → Bytes → Type 0
CarriedOut Obeyed words files input answer = (status : ℕ) × (new : Store) × (after : Streams) × (printed : Bytes) × (reported : Bytes)
    × (made : List CreatedFile) × Obeyed words status (store (Some (files_of files [])) 0) new (before input) after
    × (after.printed.text ≡ Some printed) × (after.reported.text ≡ Some reported)
    × (option_map (λ files. files.made) new.files ≡ Some made) × IsAnswer status printed reported made answer

-- the answer to a request of a program
abbrev pub Answers : Command → Bytes → Bytes → Type 0
Answers Obeyed request answer = (words : List Bytes) × (files : List MemoryFile) × (input : Bytes) × IsRequest words files input request
    × CarriedOut Obeyed words files input answer

-- these bytes at the front of the caller's memory, if it has room for them, and otherwise the memory as it was
abbrev pub handed_over : Bytes → Bytes → Bytes
handed_over bytes memory =
    if nat_le (length bytes) (length memory) then bytes ++ drop (length bytes) memory else memory

-- the caller's memory gets such bytes, if it has room for them, and this is how many they are
abbrev pub HandsOver : (Bytes → Type 0) → Bytes → Bytes → ℕ → Type 0
HandsOver Such old new count = (bytes : Bytes) × Such bytes × (count ≡ length bytes) × (new ≡ handed_over bytes old)
