-- The outcome of source texts: the first refusal in the order of the input, or everything that is written, in order. (MACRO-11 Language
-- Reference Manual, "Source program format", "Symbols" and ".END directive". That the sources are one text, and the limits, are this
-- project's own choices.)
use Rattle.std.specs.Prelude.{◌≡◌, ℕ, true, false, List, [], ◌++◌, length, None, Some}
use Rattle.m11_asm_faults.specs.Faults.{of_lines}
use Rattle.m11_asm_faults.specs.declared.fault.AsmFault.{AsmFault}
use Rattle.m11_base_writes.specs.Outputs.{Write}
use Rattle.m11_scan.specs.Line.{SourceLine}
use Rattle.m11_scan.specs.declared.fault.LineFault.{LineFault}
use Rattle.m11_asm_passes.specs.Lines.{NumberedLine, PassLines, givens}
use Rattle.m11_asm_passes.specs.Reaching.{Exceeds}
use Rattle.m11_asm_rules.specs.Meanings.{Map, empty_map}
use Rattle.m11_asm_lines.specs.Counting.{none_used}
use Rattle.m11_asm_lines.specs.declared.counting.Counting.{Counting}
use Rattle.m11_asm_lines.specs.declared.counting.Counting.TheVariants.{Definitions}
use Rattle.m11_scan_line_laws.specs.Readings.{Reading}
use Rattle.m11_asm.specs.Program.{Program, program_of}
use Rattle.m11_asm.specs.Written.{EndOfSource, flagged_count, program_writes, written}
use Rattle.m11_unfold_rules.specs.Stages.{Stage}

-- ---- the live lines of a source, under a map and with the names counted before the first line

-- all lines were read, nothing of them is left to unfold, and `.END` didn't become live
pub record Unended (map : Map) (counting : Counting) (source : List SourceLine) (lines : List NumberedLine) : Type 0 where
  pub stage : Stage
  pub live : PassLines map counting source lines stage
  pub left : stage.left ≡ []
  pub goes_on : stage.has_ended ≡ false

-- these are the live lines of a source: up to the line in which `.END` becomes live, or up to the end
pub data Ends (map : Map) (counting : Counting) (reading : Reading) (lines : List NumberedLine) (ended : EndOfSource) : Type 0 where
  AtEnd : (source more : List SourceLine) (stage : Stage) → reading.lines ≡ source ++ more → PassLines map counting source lines stage
      → stage.has_ended ≡ true → ended ≡ record { read = length source; has_end = true } → Ends map counting reading lines ended
  WithoutEnd : Unended map counting reading.lines lines → reading.fault ≡ None
      → ended ≡ record { read = length reading.lines; has_end = false } → Ends map counting reading lines ended

-- a source is refused after these live lines: where reading exceeds a limit, or at the first limit that a line exceeds
pub data Refuses (map : Map) (counting : Counting) (reading : Reading) (lines : List NumberedLine) (stopped : AsmFault) : Type 0 where
  AtReading : (fault : LineFault) → reading.fault ≡ Some fault → stopped ≡ of_lines fault → Unended map counting reading.lines lines
      → Refuses map counting reading lines stopped
  AtLimit : (source more : List SourceLine) (limit : AsmFault) → reading.lines ≡ source ++ more
      → Exceeds map counting source lines limit → stopped ≡ limit → Refuses map counting reading lines stopped

-- ---- the outcome

pub data Outcome : Type 0 where
  -- a refusal, with what was written before it
  Refused : AsmFault → List Write → Outcome
  -- everything that is written, and the count of flagged lines
  Assembled : List Write → ℕ → Outcome

-- an assembly whose two passes have these readings has this outcome; the readings are equal if the source stays the same
pub data HasOutcome (first second : Reading) : Outcome → Type 0 where
  -- if the first pass is refused, nothing is written
  FirstRefuses : (lines : List NumberedLine) (fault : AsmFault) → Refuses empty_map none_used first lines fault
      → HasOutcome first second (Refused fault [])
  -- if the second pass is refused, the outputs of the live lines before the refusal are written
  SecondRefuses : (lines : List NumberedLine) (ended : EndOfSource) (program : Program) (others : List NumberedLine) (fault : AsmFault)
      → Ends empty_map none_used first lines ended → program ≡ program_of (givens lines)
      → Refuses program.map Definitions second others fault
      → HasOutcome first second (Refused fault (written program others))
  Assembles : (lines : List NumberedLine) (ended : EndOfSource) (program : Program) (others : List NumberedLine) (end : EndOfSource)
      → Ends empty_map none_used first lines ended → program ≡ program_of (givens lines)
      → Ends program.map Definitions second others end
      → HasOutcome first second (Assembled (program_writes program others end) (flagged_count program others end.has_end))
