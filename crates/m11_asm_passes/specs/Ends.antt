-- The end of a pass over the lines of a source. (This project's own.)
use Rattle.std.specs.Prelude.{◌≡◌, ◌⊎◌, true, false, List, [], ◌++◌}
use Rattle.m11_asm_faults.specs.declared.fault.AsmFault.{AsmFault}
use Rattle.m11_scan.specs.Line.{SourceLine}
use Rattle.m11_asm_lines.specs.declared.counting.Counting.{Counting}
use Rattle.m11_asm_passes.specs.Lines.{NumberedLine, PassLines}
use Rattle.m11_asm_passes.specs.Reaching.{Exceeds}
use Rattle.m11_asm_rules.specs.Meanings.{Map}
use Rattle.m11_unfold_rules.specs.Stages.{Stage}

-- the pass is over: `.END` became live, or no line is left to read or unfold
abbrev pub IsOver : List SourceLine → Stage → Type 0
IsOver more stage = (stage.has_ended ≡ true) ⊎ ((more ≡ []) × (stage.left ≡ []) × (stage.has_ended ≡ false))

-- a pass over the lines `all` is at its end once it has read the lines `source`, with which `all` begins
pub record EndsAfter (map : Map) (counting : Counting) (all source : List SourceLine) (lines : List NumberedLine) (stage : Stage) : Type 0 where
  pub lines_are : PassLines map counting source lines stage
  pub more : List SourceLine
  pub whole : source ++ more ≡ all
  pub is_over : IsOver more stage

-- a pass over the lines `all` exceeds a limit once it has read the lines `source`, with which `all` begins
pub record ExceedsAfter (map : Map) (counting : Counting) (all source : List SourceLine) (lines : List NumberedLine) (fault : AsmFault) : Type 0 where
  pub exceeds : Exceeds map counting source lines fault
  pub more : List SourceLine
  pub whole : source ++ more ≡ all

-- a pass over the lines `all` reaches its end, or exceeds a limit
pub data HasEnd (map : Map) (counting : Counting) (all : List SourceLine) : Type 0 where
  AtEnd : (source : List SourceLine) (lines : List NumberedLine) (stage : Stage) → EndsAfter map counting all source lines stage
      → HasEnd map counting all
  AtLimit : (source : List SourceLine) (lines : List NumberedLine) (fault : AsmFault) → ExceedsAfter map counting all source lines fault
      → HasEnd map counting all
