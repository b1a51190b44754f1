-- The fault by which a reading is refused, from the unfolding of all its lines. (Three things are this project's own: the limits, their
-- order, and that a reading may stop before the end of the sources.)
use Rattle.std.specs.Prelude.{◌≡◌, false, List, Some, None}
use Rattle.m11_asm_faults.specs.Faults.{of_lines, of_unfolding}
use Rattle.m11_asm_faults.specs.declared.fault.AsmFault.{AsmFault}
use Rattle.m11_asm_lines.specs.declared.counting.Counting.{Counting}
use Rattle.m11_asm_outcome_laws.specs.AllLines.{AreAllLines, AreWithinLimits}
use Rattle.m11_asm_passes.specs.Lines.{counting_after}
use Rattle.m11_asm_passes.specs.Refusals.{line_fault}
use Rattle.m11_asm_rules.specs.Meanings.{Map}
use Rattle.m11_asm_rules.specs.Placements.{table_after}
use Rattle.m11_asm_rules.specs.Tables.{first_table}
use Rattle.m11_asm_rules.specs.Unfolded.{AreLines}
use Rattle.m11_scan.specs.declared.fault.LineFault.{LineFault}
use Rattle.m11_scan_line_laws.specs.Readings.{Reading}
use Rattle.m11_unfold_rules.specs.Limits.{next_fault}
use Rattle.m11_unfold_rules.specs.Stages.{Stage}
use Rattle.m11_unfold_rules.specs.Taking.{Gives, Live, NothingLeft, move}
use Rattle.m11_unfold_rules.specs.Unfolding.{UnfoldedLine}
use Rattle.m11_unfold_rules.specs.declared.fault.UnfoldFault.{UnfoldFault}

-- these are all the live lines of a reading, and they exceed no limit; and either `.END` becomes live, or the reading reached the end of
-- the sources without a fault
pub record AreAllRead (map : Map) (counting : Counting) (reading : Reading) (lines : List UnfoldedLine) (stage : Stage) : Type 0 where
  pub are : AreAllLines map reading.lines lines stage
  pub limits : AreWithinLimits map first_table counting lines
  pub unless_end : stage.has_ended ≡ false → reading.fault ≡ None

-- this fault stops a reading right after these live lines, with the unfolding of the reading at this stage
pub data NextFails (map : Map) (counting : Counting) (reading : Reading) (lines : List UnfoldedLine) (stage : Stage) (fault : AsmFault) : Type 0 where
  -- the next move exceeds a limit of unfolding
  AtUnfolding : (inner : UnfoldFault) → next_fault stage ≡ Some inner → fault ≡ of_unfolding inner → NextFails map counting reading lines stage fault
  -- the next live line exceeds a limit, given the table and the counted names after these lines
  AtLine : (live : Live) (after : Stage) → next_fault stage ≡ None → move stage ≡ Gives live after
      → line_fault map (table_after map lines) (counting_after map first_table lines counting) live after ≡ Some fault
      → NextFails map counting reading lines stage fault
  -- all lines are read, `.END` didn't become live, and the reading stopped with a fault
  AtReading : (inner : LineFault) → move stage ≡ NothingLeft → stage.has_ended ≡ false → reading.fault ≡ Some inner → fault ≡ of_lines inner
      → NextFails map counting reading lines stage fault

-- a reading is refused after these first live lines, which exceed no limit
pub record IsRefusedAfter (map : Map) (counting : Counting) (reading : Reading) (lines : List UnfoldedLine) (fault : AsmFault) : Type 0 where
  pub stage : Stage
  pub first : AreLines map reading.lines lines stage
  pub limits : AreWithinLimits map first_table counting lines
  pub next : NextFails map counting reading lines stage fault
