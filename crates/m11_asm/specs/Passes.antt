-- Passes over feeds: what their texts yield, and where a pass ends early. (This project's own.)
use Rattle.std.specs.Prelude.{◌≡◌, List, ◌++◌, None, Result, Ok, Err}
use Rattle.m11_asm_outputs.specs.Object.{AllFit, object_contents}
use Rattle.m11_asm_faults.specs.declared.fault.AsmFault.{AsmFault}
use Rattle.m11_asm_faults.specs.declared.fault.AsmFault.TheVariants as fault
use Rattle.m11_asm_outputs.specs.Outputs.{Gains, StopsBetween, StopsIn}
use Rattle.m11_base_writes.specs.Outputs.{AreFlushed, Outputs, Write}
use Rattle.m11_base.specs.Feed.{NoneFailed}
use Rattle.m11_base_writes.specs.Passes.{Pass}
use Rattle.m11_scan.specs.Line.{SourceLine}
use Rattle.m11_asm_passes.specs.Lines.{NumberedLine, PassLines}
use Rattle.m11_asm_rules.specs.Meanings.{empty_map}
use Rattle.m11_asm_lines.specs.Counting.{none_used}
use Rattle.m11_asm_lines.specs.declared.counting.Counting.TheVariants.{Definitions}
use Rattle.m11_scan_line_laws.specs.Calls.{FailReading, HaveReading}
use Rattle.m11_scan_line_laws.specs.Readings.{Reading}
use Rattle.m11_asm.specs.Program.{Program}
use Rattle.m11_asm.specs.Written.{EndOfSource, flagged_count, pieces_in, program_writes, written}
use Rattle.m11_asm.specs.declared.done.AsmDone.{AsmDone}
use Rattle.m11_unfold_rules.specs.Stages.{Stage}
use Rattle.m11_asm.specs.Outcome.{Ends, Refuses, Unended}

-- no feed failed, and this is the reading of the feeds
abbrev pub Reads : {F : Type 0} → Pass F → Reading → Type 0
Reads pass reading = HaveReading pass.text pass.faults pass.old pass.new reading

-- a feed failed, and these are the lines before the failure
abbrev pub ReadsTill : {F : Type 0} → Pass F → List SourceLine → Type 0
ReadsTill pass lines = FailReading pass.text pass.faults pass.old pass.new (record { lines = lines; fault = None })

-- ---- the first pass

-- the first pass has this result: the live lines of the source; `Read` if a feed failed before `.END` became live; `NoMemory`, which is
-- possible only if no feed failed; or the limit at which the source is refused. The result is never `Write`, since the first pass writes
-- nothing
abbrev pub ReadsFirst : {F : Type 0} → Pass F → Result (List NumberedLine) AsmFault → Type 0
ReadsFirst pass (Ok lines) = (reading : Reading) × Reads pass reading × (ended : EndOfSource) × Ends empty_map none_used reading lines ended
ReadsFirst pass (Err fault.Read) =
    (source : List SourceLine) × ReadsTill pass source × (lines : List NumberedLine) × Unended empty_map none_used source lines
ReadsFirst pass (Err fault.NoMemory) = NoneFailed pass.faults pass.old pass.new
ReadsFirst pass (Err (fault.Write output)) = ⊥
ReadsFirst pass (Err stopped) =
    (reading : Reading) × Reads pass reading × (lines : List NumberedLine) × Refuses empty_map none_used reading lines stopped

-- ---- the second pass

-- these are the writes of the first live lines of the source; or those of all its live lines, with the writes at the end
pub data AreWrites (program : Program) (reading : Reading) : List Write → Type 0 where
  SoFar : (source more : List SourceLine) (lines : List NumberedLine) (stage : Stage) → reading.lines ≡ source ++ more
      → PassLines program.map Definitions source lines stage → AreWrites program reading (written program lines)
  All : (lines : List NumberedLine) (ended : EndOfSource) → Ends program.map Definitions reading lines ended
      → AreWrites program reading (program_writes program lines ended)

-- the pass stops, as `Stop` says, within the writes of live lines of the source, or within these and the writes at the end
pub record StopsAmongWrites (Stop : List Write → Type 0) (program : Program) (reading : Reading) : Type 0 where
  pub writes : List Write
  pub are : AreWrites program reading writes
  pub stops : Stop writes

-- everything is written, object and listing hold nothing back, the result has the count of flagged lines, and each record of the object
-- fits its block
pub record WritesAll (program : Program) (reading : Reading) (old new : Outputs) (done : AsmDone) : Type 0 where
  pub lines : List NumberedLine
  pub ended : EndOfSource
  pub ends : Ends program.map Definitions reading lines ended
  pub gains : Gains old new (program_writes program lines ended)
  pub flushed : AreFlushed new
  pub count : done.flagged ≡ flagged_count program lines ended.has_end
  pub fit : AllFit (object_contents program.rows (pieces_in program.map lines))

-- the second pass has this result. If it succeeds, everything is written. If a feed failed or the source is refused, exactly the writes of
-- the live lines before that were made. If an output failed in a write, or memory was refused between two writes, nothing more was written
abbrev pub ReadsSecond : {F : Type 0} → Pass F → Program → Outputs → Outputs → Result AsmDone AsmFault → Type 0
ReadsSecond pass program old new (Ok done) = (reading : Reading) × Reads pass reading × WritesAll program reading old new done
ReadsSecond pass program old new (Err fault.Read) =
    (source : List SourceLine) × ReadsTill pass source
    × (lines : List NumberedLine) × Unended program.map Definitions source lines × Gains old new (written program lines)
ReadsSecond pass program old new (Err fault.NoMemory) =
    (reading : Reading) × Reads pass reading × StopsAmongWrites (StopsBetween old new) program reading
ReadsSecond pass program old new (Err (fault.Write output)) =
    (reading : Reading) × Reads pass reading × StopsAmongWrites (StopsIn output old new) program reading
ReadsSecond pass program old new (Err stopped) =
    (reading : Reading) × Reads pass reading
    × (lines : List NumberedLine) × Refuses program.map Definitions reading lines stopped × Gains old new (written program lines)
