-- The outcome of two readings of sources, as it follows from the unfolding of all their lines, without a pass over them. (MACRO-11 Language
-- Reference Manual, "Macro directives", "Conditional assembly directives" and ".END directive".)
use Rattle.std.specs.Prelude.{◌≡◌, ◌⊎◌, ℕ, false, List, [], length}
use Rattle.m11_asm.specs.Outcome.{Assembled, Outcome, Refused}
use Rattle.m11_asm.specs.Program.{Program, program_of}
use Rattle.m11_asm.specs.Written.{EndOfSource, flagged_count, program_writes, written}
use Rattle.m11_asm_faults.specs.declared.fault.AsmFault.{AsmFault}
use Rattle.m11_asm_lines.specs.Counting.{none_used}
use Rattle.m11_asm_lines.specs.declared.counting.Counting.TheVariants.{Definitions}
use Rattle.m11_base_writes.specs.Outputs.{Write}
use Rattle.m11_asm_outcome_laws.specs.FirstFaults.{AreAllRead, IsRefusedAfter}
use Rattle.m11_asm_outcome_laws.specs.Numbers.{HaveNumbers}
use Rattle.m11_asm_passes.specs.Lines.{NumberedLine, givens}
use Rattle.m11_asm_rules.specs.Meanings.{empty_map}
use Rattle.m11_scan_line_laws.specs.Readings.{Reading}
use Rattle.m11_unfold_rules.specs.Stages.{Stage}
use Rattle.m11_unfold_rules.specs.Unfolding.{UnfoldedLine}

-- this program is that of all the live lines of a reading
pub record IsProgramOf (reading : Reading) (program : Program) : Type 0 where
  pub gives : List UnfoldedLine
  pub stage : Stage
  pub all : AreAllRead empty_map none_used reading gives stage
  pub is : program ≡ program_of gives

-- these are all the writes of a reading under a program, those of its live lines and those at the end; and this is the count of its flagged
-- lines
pub record WritesAllLines (program : Program) (reading : Reading) (writes : List Write) (flagged : ℕ) : Type 0 where
  pub lines : List NumberedLine
  pub ended : EndOfSource
  pub stage : Stage
  pub all : AreAllRead program.map Definitions reading (givens lines) stage
  pub numbers : HaveNumbers program.map reading.lines lines
  -- the end of the source records whether `.END` became live, and if it didn't, that all lines were read
  pub has_end : ended.has_end ≡ stage.has_ended
  pub read : stage.has_ended ≡ false → ended.read ≡ length reading.lines
  pub are : writes ≡ program_writes program lines ended
  pub count : flagged ≡ flagged_count program lines ended.has_end

-- these are the writes of the live lines before the fault of a reading, under a program
pub record WritesFirstLines (program : Program) (reading : Reading) (fault : AsmFault) (writes : List Write) : Type 0 where
  pub lines : List NumberedLine
  pub refused : IsRefusedAfter program.map Definitions reading (givens lines) fault
  pub numbers : HaveNumbers program.map reading.lines lines
  pub are : writes ≡ written program lines

-- the outcome of two readings, from the live lines of each whole reading; if the first reading is refused, nothing is written
abbrev pub IsOfWholeSources : Reading → Reading → Outcome → Type 0
IsOfWholeSources first second (Assembled writes flagged) =
    (program : Program) × IsProgramOf first program × WritesAllLines program second writes flagged
IsOfWholeSources first second (Refused fault writes) =
    ((lines : List UnfoldedLine) × IsRefusedAfter empty_map none_used first lines fault × (writes ≡ []))
    ⊎ ((program : Program) × IsProgramOf first program × WritesFirstLines program second fault writes)
