-- The faults with which a pass fails. (This project's own.)
use Rattle.std.specs.Prelude.{◌≡◌, Bool, true, false, Option, Some, None}
use Rattle.m11_asm_faults.specs.declared.fault.AsmFault.{AsmFault}
use Rattle.m11_asm_faults.specs.declared.fault.AsmFault.TheVariants.{NoMemory}
use Rattle.m11_unfold.specs.Steps.{executes}
use Rattle.m11_unfold_rules.specs.Acting.{act_fault}
use Rattle.m11_unfold_rules.specs.Stages.{Stage}
use Rattle.m11_unfold_rules.specs.Taking.{Live}
use Rattle.m11_unfold_rules.specs.Unfolding.{UnfoldedLine}
use Rattle.m11_asm_rules.specs.Meanings.{Map}
use Rattle.m11_asm_rules.specs.Operations.{action}
use Rattle.m11_asm_rules.specs.Tables.{Table}
use Rattle.m11_asm_lines.specs.Actions.{selects}
use Rattle.m11_asm_lines.specs.declared.counting.Counting.{Counting}
use Rattle.m11_asm_passes.specs.Labelled.{FitUpToOne}
use Rattle.m11_asm_passes.specs.Refusals.{given_by, labels_fault, line_fault}

-- the fault is `NoMemory`, whether or not a limit is exceeded; or it is the fault of the limit that is exceeded
abbrev pub Fails : Option AsmFault → AsmFault → Type 0
Fails passed NoMemory = Unit {0}
Fails passed fault = passed ≡ Some fault

-- whether a line selects a section
abbrev pub selects_section : UnfoldedLine → Bool
selects_section given = selects (action given.is_own given.arguments given.live.line.text)

-- memory is refused for a live line. Limits are checked before memory is asked for, so up to there none is exceeded: neither by its labels
-- up to one of them; nor by its labels and its operator, if unfolding executes that; nor by labels and operator when what follows is used
-- or emitted, which a line that selects a section does without memory; nor by the whole line
pub data LacksMemory (map : Map) (table : Table) (counting : Counting) (live : Live) (stage : Stage) : Type 0 where
  AtLabel : FitUpToOne counting table live.line.text → LacksMemory map table counting live stage
  AtOperator : labels_fault counting table live.line.text ≡ None → act_fault stage live.line.text ≡ None
      → executes stage live.line.text ≡ true → LacksMemory map table counting live stage
  AtOperands : labels_fault counting table live.line.text ≡ None → act_fault stage live.line.text ≡ None
      → selects_section (given_by table live stage) ≡ false → LacksMemory map table counting live stage
  AfterLimits : line_fault map table counting live stage ≡ None → LacksMemory map table counting live stage

-- a live line fails with the fault of the limit that it exceeds, or for lack of memory
abbrev pub FailsAtLine : Map → Table → Counting → Live → Stage → AsmFault → Type 0
FailsAtLine map table counting live stage NoMemory = LacksMemory map table counting live stage
FailsAtLine map table counting live stage fault = line_fault map table counting live stage ≡ Some fault
