-- The outcome of sources by their shapes: what two passes write whose readings have the live lines of these shapes. (MACRO-11 Language
-- Reference Manual, "Macro directives", "Conditional assembly directives" and ".END directive".)
use Rattle.std.specs.Prelude.{◌≡◌, ℕ, List}
use Rattle.m11_asm.specs.Program.{Program}
use Rattle.m11_asm.specs.Written.{EndOfSource, flagged_count, program_writes}
use Rattle.m11_asm_outcome_laws.specs.Numbers.{HaveNumbers}
use Rattle.m11_asm_passes.specs.Lines.{NumberedLine, givens}
use Rattle.m11_asm_rules.specs.Meanings.{Map}
use Rattle.m11_asm_rules.specs.Tables.{first_table}
use Rattle.m11_asm_rules.specs.Unfolded.{KnowLinesBefore}
use Rattle.m11_base_writes.specs.Outputs.{Write}
use Rattle.m11_scan.specs.Line.{SourceLine}
use Rattle.m11_scan_line_laws.specs.Readings.{Reading}
use Rattle.m11_unfold_laws.specs.Levels.{Situation, beginning, source_level}
use Rattle.m11_unfold_laws.specs.Shapes.{Ending, Shape}
use Rattle.m11_unfold_rules.specs.Unfolding.{UnfoldedLine}

-- a source has a shape with these live lines, and at each of them those symbols are known that the lines before it and its own labels
-- define if they are placed under this map
pub record HasShapeUnder (map : Map) (source : List SourceLine) (gives : List UnfoldedLine) : Type 0 where
  pub after : Situation
  pub ending : Ending
  pub shape : Shape source_level beginning source gives after ending
  pub known : KnowLinesBefore map first_table gives

-- these are all the writes of these live lines of a reading under a program, and those at the end; and this is the count of flagged lines
pub record WritesTheLines (program : Program) (reading : Reading) (gives : List UnfoldedLine) (writes : List Write) (flagged : ℕ) : Type 0 where
  pub lines : List NumberedLine
  pub lines_are : givens lines ≡ gives
  pub numbers : HaveNumbers program.map reading.lines lines
  pub ended : EndOfSource
  pub writes_are : writes ≡ program_writes program lines ended
  pub count : flagged ≡ flagged_count program lines ended.has_end
