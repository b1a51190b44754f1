-- The results of an unfolder's calls, by the stages before and after them. (MACRO-11 Language Reference Manual, "Macro
-- directives" and "Conditional assembly directives". The limits are this project's own.)
use Rattle.std.specs.Prelude.{◌≡◌, Bool, true, false, [], Option, None, Result, Ok, Err, not, ◌&&◌}
use Rattle.m11_scan_expressions.specs.Expressions.{KnownSymbols}
use Rattle.m11_base.specs.Devices.{Bytes}
use Rattle.m11_unfold_bodies.specs.Left.{argument_count, is_empty}
use Rattle.m11_scan.specs.Line.{SourceLine}
use Rattle.m11_unfold_rules.specs.Acting.{act, act_fault}
use Rattle.m11_unfold_rules.specs.Limits.{next_fault}
use Rattle.m11_unfold_rules.specs.Stages.{Stage}
use Rattle.m11_unfold_rules.specs.Taking as taking
use Rattle.m11_unfold_rules.specs.Unfolding.{Leads}
use Rattle.m11_unfold_rules.specs.declared.fault.UnfoldFault.{UnfoldFault}
use Rattle.m11_unfold.specs.Steps.{FailsGrowing, executes, grows}
use Rattle.m11_unfold.specs.declared.steps.Act.{Act}
use Rattle.m11_unfold.specs.declared.steps.Step.{Step}
use Rattle.m11_unfold.specs.declared.steps.Step.TheVariants.{NeedLine, End, Line}

-- a stage, whether the statement of an `.IIF` comes next, and the fault that ended the unfolding, if any
pub record UnfolderState : Type 0 where
  pub stage : Stage
  pub has_statement : Bool
  pub fault : Option UnfoldFault

-- a live line, from the line that a step stored and the flag that it returned
abbrev pub live_of : SourceLine → Bool → taking.Live
live_of line is_expanded = record { line = line; is_expanded = is_expanded }

-- a line becomes live after moves that yield none
pub record Comes (before : Stage) (live : taking.Live) (after : Stage) : Type 0 where
  pub middle : Stage
  pub passing : Leads before [] middle
  pub is_within : next_fault middle ≡ None
  pub gives : taking.move middle ≡ taking.Gives live after

-- after moves that yield no line, the next one exceeds a limit; or it exceeds none, and memory is refused for a body
pub record Stops (before : Stage) (fault : UnfoldFault) : Type 0 where
  pub middle : Stage
  pub passing : Leads before [] middle
  pub passes : FailsGrowing (next_fault middle) (grows middle) fault

-- a call leads to the next live line, and stores it; or a line of the source is needed, or `.END` is live; or the call fails
abbrev pub Steps : Stage → Stage → SourceLine → Result Step UnfoldFault → Type 0
Steps before after line (Ok NeedLine) = Leads before [] after × (after.left ≡ []) × (after.has_ended ≡ false)
Steps before after line (Ok End) = Leads before [] after × (after.has_ended ≡ true)
Steps before after line (Ok (Line is_expanded)) = Comes before (live_of line is_expanded) after
Steps before after line (Err fault) = Stops before fault

-- if a line became live, no statement of an `.IIF` comes next
abbrev pub IsFree : Bool → Result Step UnfoldFault → Type 0
IsFree has_statement (Ok NeedLine) = Unit {0}
IsFree has_statement (Ok End) = Unit {0}
IsFree has_statement (Ok (Line is_expanded)) = has_statement ≡ false
IsFree has_statement (Err fault) = Unit {0}

-- if a line is needed, nothing is left to unfold
abbrev pub IsEmpty : Stage → Result Step UnfoldFault → Type 0
IsEmpty after (Ok NeedLine) = after.left ≡ []
IsEmpty after (Ok End) = Unit {0}
IsEmpty after (Ok (Line is_expanded)) = Unit {0}
IsEmpty after (Err fault) = Unit {0}

-- whether nothing is left to unfold, and `.END` hasn't become live
abbrev pub needs_line : Stage → Bool
needs_line stage = not stage.has_ended && is_empty stage.left

-- the step when nothing is left to unfold: `End` if `.END` became live, otherwise `NeedLine`
abbrev pub rested : Bool → Step
rested true = End
rested false = NeedLine

-- the operator of a line is executed, or the call fails
abbrev pub Acts : KnownSymbols → Bytes → Stage → Stage → Result Act UnfoldFault → Type 0
Acts known text before after (Ok acted) =
    (act_fault before text ≡ None) × (after ≡ (act known before text).after)
    × (acted.is_own ≡ (act known before text).is_own) × (acted.remarks ≡ (act known before text).remarks)
    × (acted.arguments ≡ argument_count before.left)
Acts known text before after (Err fault) = FailsGrowing (act_fault before text) (executes before text) fault
