-- The state of a pass over a source after a call. (This project's own.)
use Rattle.std.specs.Prelude.{◌≡◌, true, false, List, [], ◌∷◌, ◌++◌, length, Some, None, Result, Ok, Err}
use Rattle.m11_asm_faults.specs.Faults.{of_unfolding}
use Rattle.m11_asm_faults.specs.declared.fault.AsmFault.{AsmFault}
use Rattle.m11_asm_faults.specs.declared.fault.AsmFault.TheVariants.{Read, Write, TooMuchSource, NoMemory}
use Rattle.m11_scan.specs.Line.{SourceLine}
use Rattle.m11_unfold.specs.Steps.{grows}
use Rattle.m11_unfold_rules.specs.Limits.{next_fault}
use Rattle.m11_unfold_rules.specs.Stages.{Stage}
use Rattle.m11_unfold_rules.specs.Taking.{Gives, Live, move}
use Rattle.m11_unfold_rules.specs.declared.fault.UnfoldFault.{UnfoldFault}
use Rattle.m11_asm_rules.specs.Meanings.{Map}
use Rattle.m11_asm_lines.specs.declared.counting.Counting.{Counting}
use Rattle.m11_asm_passes.specs.Faults.{LacksMemory}
use Rattle.m11_asm_passes.specs.Lines.{NumberedLine, PassLines, counting_at, numbered, table_at}
use Rattle.m11_asm_passes.specs.Refusals.{given_by, line_fault}
use Rattle.m11_asm_passes.specs.States.{PassState, PassAfter}
use Rattle.m11_asm_passes.specs.Turns.{LineFact}
use Rattle.m11_asm_passes.specs.declared.turns.Turn.{Turn}
use Rattle.m11_asm_passes.specs.declared.turns.Turn.TheVariants.{NeedLine, End, Line}

-- after these live lines the source exceeds a limit: one of unfolding before the next line becomes live, or one at the next live line
pub data Exceeds (map : Map) (counting : Counting) (source : List SourceLine) (lines : List NumberedLine) (fault : AsmFault) : Type 0 where
  BeforeLine : (stage : Stage) (inner : UnfoldFault) → PassLines map counting source lines stage → next_fault stage ≡ Some inner
      → fault ≡ of_unfolding inner → Exceeds map counting source lines fault
  AtLine : (stage after : Stage) (live : Live) → PassLines map counting source lines stage → next_fault stage ≡ None
      → move stage ≡ Gives live after → line_fault map (table_at map lines) (counting_at map counting lines) live after ≡ Some fault
      → Exceeds map counting source lines fault

-- memory can be refused after these live lines: in unfolding before the next line becomes live, for a body that exceeds no limit; or for the
-- next live line
pub data MayLackMemory (map : Map) (counting : Counting) (source : List SourceLine) (lines : List NumberedLine) : Type 0 where
  BeforeLine : (stage : Stage) → PassLines map counting source lines stage → next_fault stage ≡ None → grows stage ≡ true
      → MayLackMemory map counting source lines
  AtLine : (stage after : Stage) (live : Live) → PassLines map counting source lines stage → next_fault stage ≡ None
      → move stage ≡ Gives live after → LacksMemory map (table_at map lines) (counting_at map counting lines) live after
      → MayLackMemory map counting source lines

-- a pass can fail with this fault after these live lines: memory is refused, or the source exceeds a limit; a pass itself neither reads
-- nor writes, and doesn't count the lines of its source
abbrev pub Refused : Map → Counting → List SourceLine → List NumberedLine → AsmFault → Type 0
Refused map counting source lines NoMemory = MayLackMemory map counting source lines
Refused map counting source lines Read = ⊥
Refused map counting source lines (Write output) = ⊥
Refused map counting source lines TooMuchSource = ⊥
Refused map counting source lines fault = Exceeds map counting source lines fault

-- the next live line of a source is placed, and this fact holds of it; for what a caller keeps of it memory can still be refused
pub record PlacesLine (map : Map) (before : Counting) (source : List SourceLine) (lines : List NumberedLine) (new : PassState)
    (live : Live) (said : LineFact) : Type 0 where
  pub stage : Stage
  pub stands : PassAfter map before source
      (lines ++ numbered (length source) (given_by (table_at map lines) live stage) ∷ []) new
  pub is_said : said (table_at map lines) (given_by (table_at map lines) live stage)
  pub may_lack : MayLackMemory map before source lines

abbrev pub Reaches : Map → Counting → List SourceLine → List NumberedLine → PassState → Live → LineFact → Result Turn AsmFault → Type 0
Reaches map before source lines new live said (Ok NeedLine) =
    PassAfter map before source lines new × (new.unfolder.stage.left ≡ []) × (new.unfolder.stage.has_ended ≡ false)
Reaches map before source lines new live said (Ok End) = PassAfter map before source lines new × (new.unfolder.stage.has_ended ≡ true)
Reaches map before source lines new live said (Ok Line) = PlacesLine map before source lines new live said
Reaches map before source lines new live said (Err fault) = Refused map before source lines fault
