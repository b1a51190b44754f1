-- The effects of the calls of a pass. (This project's own.)
use Rattle.std.specs.Prelude.{◌≡◌, ◌<◌, ◌≤◌, ℕ, [], None, Result, Ok, Err}
use Rattle.m11_asm_faults.specs.Faults.{of_unfolding}
use Rattle.m11_asm_faults.specs.declared.fault.AsmFault.{AsmFault}
use Rattle.m11_unfold.specs.Unfolder.{Comes, Steps, Stops}
use Rattle.m11_unfold.specs.declared.steps.Step.TheVariants as step
use Rattle.m11_unfold_rules.specs.Limits.{most_lines}
use Rattle.m11_unfold_rules.specs.Stages.{Stage}
use Rattle.m11_unfold_rules.specs.Taking.{Live}
use Rattle.m11_unfold_rules.specs.Unfolding.{UnfoldedLine}
use Rattle.m11_unfold_rules.specs.declared.fault.UnfoldFault.{UnfoldFault}
use Rattle.m11_asm_rules.specs.Contents.{Emission}
use Rattle.m11_asm_rules.specs.Lines.{after_line}
use Rattle.m11_asm_rules.specs.Meanings.{Map}
use Rattle.m11_asm_rules.specs.SymbolUses.{symbol_uses}
use Rattle.m11_asm_rules.specs.Tables.{Table}
use Rattle.m11_asm_lines.specs.Counting.{with_counted}
use Rattle.m11_asm_passes.specs.Faults.{FailsAtLine}
use Rattle.m11_asm_passes.specs.Lines.{acted}
use Rattle.m11_asm_passes.specs.Placed.{IsLive, IsPlaced}
use Rattle.m11_asm_passes.specs.Refusals.{given_by, line_fault}
use Rattle.m11_asm_passes.specs.States.{PassState}
use Rattle.m11_asm_passes.specs.declared.placed.LiveLine.{LiveLine}
use Rattle.m11_asm_passes.specs.declared.placed.PlacedLine.{PlacedLine}
use Rattle.m11_asm_passes.specs.declared.turns.Turn.{Turn}
use Rattle.m11_asm_passes.specs.declared.turns.Turn.TheVariants.{NeedLine, End, Line}

-- a line that became live exceeds no limit, and this is the state after it
pub record LeavesAfter (map : Map) (live : Live) (stage : Stage) (old new : PassState) : Type 0 where
  pub fits : line_fault map old.table old.counting live stage ≡ None
  pub stage_is : new.unfolder.stage ≡ acted old.table live stage
  pub table : new.table ≡ after_line map old.table (given_by old.table live stage)
  pub counting : new.counting ≡ with_counted (symbol_uses old.table (given_by old.table live stage)) old.counting

-- a fact about a line and the table before it: how the line is placed, or only which action follows its labels
abbrev pub LineFact : Type 1
LineFact = Table → UnfoldedLine → Type 0

abbrev pub SaysPlaced : Map → PlacedLine → Emission → LineFact
SaysPlaced map placed emission = λ table given. IsPlaced map table given placed emission

abbrev pub SaysLive : LiveLine → LineFact
SaysLive live = λ table given. IsLive given live

-- a line is placed, and this fact holds of it
pub record PlacesAfter (map : Map) (live : Live) (stage : Stage) (old new : PassState) (said : LineFact) : Type 0 where
  pub leaves : LeavesAfter map live stage old new
  pub is_said : said old.table (given_by old.table live stage)

-- a line is placed, and this fact holds of it; or the line exceeds a limit, or memory was refused
abbrev pub Places : Map → Live → Stage → PassState → PassState → LineFact → Result (Unit {0}) AsmFault → Type 0
Places map live stage old new said (Ok _) = PlacesAfter map live stage old new said
Places map live stage old new said (Err fault) = FailsAtLine map old.table old.counting live stage fault

-- nothing is placed: the table and the counted names are as before
pub record IsUnplaced (old new : PassState) : Type 0 where
  pub table : new.table ≡ old.table
  pub counting : new.counting ≡ old.counting

-- a line becomes live and is placed, and this fact holds of it
pub record PlacesNext (map : Map) (old new : PassState) (live : Live) (said : LineFact) : Type 0 where
  pub stage : Stage
  pub comes : Comes old.unfolder.stage live stage
  pub places : Places map live stage old new said (Ok tt)

-- a limit is exceeded or memory is refused, before a line becomes live or at a line that becomes live
pub data FailsAt (map : Map) (old : PassState) (fault : AsmFault) : Type 0 where
  BeforeLine : (inner : UnfoldFault) → fault ≡ of_unfolding inner → Stops old.unfolder.stage inner → FailsAt map old fault
  AtLine : (live : Live) (stage : Stage) → Comes old.unfolder.stage live stage
      → FailsAtLine map old.table old.counting live stage fault → FailsAt map old fault

-- a call goes on to the next live line and places it; or a line is needed, or `.END` is live, and the call places nothing; or it fails
abbrev pub Turns : Map → PassState → PassState → Live → LineFact → Result Turn AsmFault → Type 0
Turns map old new live said (Ok NeedLine) =
    Steps old.unfolder.stage new.unfolder.stage live.line (Ok step.NeedLine) × IsUnplaced old new
Turns map old new live said (Ok End) = Steps old.unfolder.stage new.unfolder.stage live.line (Ok step.End) × IsUnplaced old new
Turns map old new live said (Ok Line) = PlacesNext map old new live said
Turns map old new live said (Err fault) = FailsAt map old fault

-- if a line is needed, nothing is left to unfold
abbrev pub IsEmpty : Stage → Result Turn AsmFault → Type 0
IsEmpty after (Ok NeedLine) = after.left ≡ []
IsEmpty after (Ok End) = Unit {0}
IsEmpty after (Ok Line) = Unit {0}
IsEmpty after (Err fault) = Unit {0}

-- if a line is needed, nothing is left to unfold; if a line became live, unfolding has read more lines than before, and at most
-- `most_lines` in all
abbrev pub IsNext : ℕ → Stage → Result Turn AsmFault → Type 0
IsNext taken after (Ok NeedLine) = after.left ≡ []
IsNext taken after (Ok End) = Unit {0}
IsNext taken after (Ok Line) = (taken < after.taken) × (after.taken ≤ most_lines)
IsNext taken after (Err fault) = Unit {0}
