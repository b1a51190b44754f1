-- How far a pass has read its feeds when it ends: the bytes that it consumed, one by one or many at a time. (MACRO-11 Language Reference
-- Manual, ".END directive". Consuming no byte after the line of a live `.END` is this project's own choice.)
use Rattle.std.specs.Prelude.{◌≡◌, ◌⊎◌, Bool, true, false, List, [], Result, Ok, Err}
use Rattle.m11_asm_faults.specs.declared.fault.AsmFault.{AsmFault}
use Rattle.m11_asm_faults.specs.declared.fault.AsmFault.TheVariants as fault
use Rattle.m11_scan.specs.Line.{SourceLine}
use Rattle.m11_scan.specs.declared.fault.LineFault.{LineFault}
use Rattle.m11_asm_passes.specs.Lines.{NumberedLine, PassLines, givens}
use Rattle.m11_asm_passes.specs.Reaching.{Exceeds, MayLackMemory}
use Rattle.m11_asm_rules.specs.Meanings.{Map, empty_map}
use Rattle.m11_asm_lines.specs.Counting.{none_used}
use Rattle.m11_asm_lines.specs.declared.counting.Counting.{Counting}
use Rattle.m11_asm_lines.specs.declared.counting.Counting.TheVariants.{Definitions}
use Rattle.m11_scan_line_laws.specs.Extents.{GaveAll, GaveLines, GavePast, GaveTill}
use Rattle.m11_asm_outputs.specs.Outputs.{StopsBetween, StopsIn}
use Rattle.m11_base_writes.specs.Outputs.{Outputs, Write}
use Rattle.m11_base_writes.specs.Passes.{Pass}
use Rattle.m11_scan_line_laws.specs.Readings.{Reading}
use Rattle.m11_asm.specs.Outcome.{Ends, Unended}
use Rattle.m11_asm.specs.Passes.{Reads}
use Rattle.m11_asm.specs.Program.{Program, program_of}
use Rattle.m11_asm.specs.Second.{StopsAmong, StopsForMemory}
use Rattle.m11_asm.specs.Written.{EndOfSource, program_writes}
use Rattle.m11_asm.specs.declared.done.AsmDone.{AsmDone}
use Rattle.m11_unfold_rules.specs.Stages.{Stage}

-- if the flag says that `.END` became live, the feeds were read to the end of these lines and no further; otherwise the feeds were read to
-- their ends, and these are all their lines
abbrev pub HaveGiven : {F : Type 0} → Pass F → List SourceLine → Bool → Type 0
HaveGiven pass source true = GaveLines pass.text pass.old pass.new source
HaveGiven pass source false = GaveAll pass.text pass.old pass.new source

-- ---- one pass, under a map and with the names counted before the first line

-- a pass read the lines up to the one in which `.END` became live, and nothing after that line; or it read all feeds to their ends
pub data GivesToEnd {F : Type 0} (pass : Pass F) (map : Map) (counting : Counting) (lines : List NumberedLine) : Type 0 where
  AtEnd : (source : List SourceLine) (stage : Stage) → PassLines map counting source lines stage → stage.has_ended ≡ true
      → GaveLines pass.text pass.old pass.new source → GivesToEnd pass map counting lines
  WithoutEnd : (source : List SourceLine) → Unended map counting source lines → GaveAll pass.text pass.old pass.new source
      → GivesToEnd pass map counting lines

-- memory was refused to a pass: before it read anything; or in one line of the source, after these live lines, before a limit is exceeded, and
-- it had read nothing after that line
pub data GivesToLack {F : Type 0} (pass : Pass F) (map : Map) (counting : Counting) : Type 0 where
  AtStart : GaveLines pass.text pass.old pass.new [] → GivesToLack pass map counting
  InLine : (source : List SourceLine) (lines : List NumberedLine) → MayLackMemory map counting source lines
      → GaveLines pass.text pass.old pass.new source → GivesToLack pass map counting

-- how far a pass that wrote nothing, or just what precedes its fault, has read when it ended with this fault. `Read`: up to the failure of a
-- feed. `TooMuchSource`: up to and including the byte that exceeds a limit of reading. `NoMemory`: as far as `GivesToLack` says. Any other
-- fault: up to the end of the line that exceeds a limit
abbrev pub GivesToFault : {F : Type 0} → Pass F → Map → Counting → AsmFault → Type 0
GivesToFault pass map counting fault.Read =
    (source : List SourceLine) × (lines : List NumberedLine) × Unended map counting source lines × GaveTill pass.text pass.old pass.new source
GivesToFault pass map counting fault.TooMuchSource =
    (source : List SourceLine) × (lines : List NumberedLine) × Unended map counting source lines
    × (limit : LineFault) × GavePast pass.text pass.old pass.new source limit
GivesToFault pass map counting fault.NoMemory = GivesToLack pass map counting
GivesToFault pass map counting (fault.Write output) = ⊥
GivesToFault pass map counting stopped =
    (source : List SourceLine) × (lines : List NumberedLine) × Exceeds map counting source lines stopped
    × GaveLines pass.text pass.old pass.new source

-- ---- the second pass, which also writes: what it read and what it wrote are of the same lines

-- the pass stopped within its writes, as `Stop` says: within those of the live lines of a source, and it had read no line after these; or
-- within all its writes, once it had read all that it reads
pub data StopsWriting {F : Type 0} (pass : Pass F) (program : Program) (Stop : List Write → Type 0) : Type 0 where
  InLine : (source : List SourceLine) → StopsAmong Stop program source → GaveLines pass.text pass.old pass.new source
      → StopsWriting pass program Stop
  AtEnd : (reading : Reading) (lines : List NumberedLine) (ended : EndOfSource) → Reads pass reading
      → Ends program.map Definitions reading lines ended → GivesToEnd pass program.map Definitions lines
      → Stop (program_writes program lines ended) → StopsWriting pass program Stop

-- memory was refused to the pass: before it read or wrote anything; in one line of the source, as `StopsForMemory` says, and it had read no
-- line after that one; or between two of all its writes, once it had read all that it reads
pub data LacksWriting {F : Type 0} (pass : Pass F) (program : Program) (old new : Outputs) : Type 0 where
  AtStart : GaveLines pass.text pass.old pass.new [] → new ≡ old → LacksWriting pass program old new
  InLine : (source : List SourceLine) → StopsForMemory program source old new → GaveLines pass.text pass.old pass.new source
      → LacksWriting pass program old new
  AtEnd : (reading : Reading) (lines : List NumberedLine) (ended : EndOfSource) → Reads pass reading
      → Ends program.map Definitions reading lines ended → GivesToEnd pass program.map Definitions lines
      → StopsBetween old new (program_writes program lines ended) → LacksWriting pass program old new

abbrev pub SecondGives : {F : Type 0} → Pass F → Program → Outputs → Outputs → Result AsmDone AsmFault → Type 0
SecondGives pass program old new (Ok done) = (lines : List NumberedLine) × GivesToEnd pass program.map Definitions lines
SecondGives pass program old new (Err fault.NoMemory) = LacksWriting pass program old new
SecondGives pass program old new (Err (fault.Write output)) = StopsWriting pass program (StopsIn output old new)
SecondGives pass program old new (Err stopped) = GivesToFault pass program.map Definitions stopped

-- ---- both passes

-- the first pass read as far as `GivesToEnd` says, and the second one as far as its result says; or the first pass read as far as its fault
-- says, and the second one read nothing
abbrev pub AsmGives : {F : Type 0} → Pass F → Pass F → Outputs → Outputs → Result AsmDone AsmFault → Type 0
AsmGives first second old new (Ok done) =
    (lines : List NumberedLine) × GivesToEnd first empty_map none_used lines
    × SecondGives second (program_of (givens lines)) old new (Ok done)
AsmGives first second old new (Err stopped) =
    (GivesToFault first empty_map none_used stopped × (second.new ≡ second.old))
    ⊎ ((lines : List NumberedLine) × GivesToEnd first empty_map none_used lines
    × SecondGives second (program_of (givens lines)) old new (Err stopped))
