-- The lines of a source that an unfolder has yielded, whatever lines are still to be fed. (This project's own.)
use Rattle.std.specs.Prelude.{◌≡◌, List, [], ◌∷◌, ◌++◌, None, Result, Ok, Err}
use Rattle.m11_scan_expressions.specs.Expressions.{KnownSymbols}
use Rattle.m11_scan.specs.Line.{SourceLine}
use Rattle.m11_unfold_rules.specs.Acting.{act, act_fault}
use Rattle.m11_unfold_rules.specs.Limits.{next_fault}
use Rattle.m11_unfold_rules.specs.Stages.{Stage}
use Rattle.m11_unfold_rules.specs.Histories.{with_more}
use Rattle.m11_unfold_rules.specs.Taking.{Gives, Live, NothingLeft, move}
use Rattle.m11_unfold_rules.specs.Unfolding.{UnfoldedLine, Leads, Unfolds, given}
use Rattle.m11_unfold_rules.specs.declared.fault.UnfoldFault.{UnfoldFault}
use Rattle.m11_unfold.specs.Steps.{FailsGrowing, executes, grows}
use Rattle.m11_unfold.specs.Unfolder.{live_of}
use Rattle.m11_unfold.specs.declared.steps.Act.{Act}
use Rattle.m11_unfold.specs.declared.steps.Step.{Step}
use Rattle.m11_unfold.specs.declared.steps.Step.TheVariants.{NeedLine, End, Line}

-- after these lines, before the next one, the unfolding exceeds a limit; or it exceeds none, and memory is refused for a body
pub record Refuses (source : List SourceLine) (done : List UnfoldedLine) (fault : UnfoldFault) : Type 0 where
  pub stage : Stage
  pub unfolds : Unfolds source done stage
  pub passes : FailsGrowing (next_fault stage) (grows stage) fault

-- all lines of the source have been read, and nothing is left to unfold
pub record IsAllRead (source : List SourceLine) (done : List UnfoldedLine) (after : Stage) : Type 0 where
  pub unfolds : Unfolds source done after
  pub none_left : after.left ≡ []
  pub rests : move after ≡ NothingLeft

-- `.END` became live: whatever lines follow in the source, none of them is read or becomes live
pub record IsOver (source : List SourceLine) (done : List UnfoldedLine) (after : Stage) : Type 0 where
  pub unfolds : Unfolds source done after
  pub rests : (more : List SourceLine) → move (with_more more after) ≡ NothingLeft
  pub no_more : (more : List SourceLine) (later : List UnfoldedLine) (stage : Stage) → Leads (with_more more after) later stage
      → later ≡ []

-- after a step: a further line is needed, or `.END` became live; or a line became live, and is the next one of the unfolding once its
-- operator is executed within the limits; or the step failed
abbrev pub Reaches : List SourceLine → List UnfoldedLine → Stage → SourceLine → Result Step UnfoldFault → Type 0
Reaches source done after line (Ok NeedLine) = IsAllRead source done after
Reaches source done after line (Ok End) = IsOver source done after
Reaches source done after line (Ok (Line is_expanded)) = (known : KnownSymbols) → act_fault after line.text ≡ None
    → Unfolds source (done ++ given known (live_of line is_expanded) after ∷ []) (act known after line.text).after
Reaches source done after line (Err fault) = Refuses source done fault

-- after these lines, the operator of the next one exceeds a limit; or it exceeds none, unfolding executes it, and memory is refused
pub record RefusesAt (source : List SourceLine) (done : List UnfoldedLine) (live : Live) (fault : UnfoldFault) : Type 0 where
  pub stage : Stage
  pub after : Stage
  pub unfolds : Unfolds source done stage
  pub is_within : next_fault stage ≡ None
  pub gives : move stage ≡ Gives live after
  pub passes : FailsGrowing (act_fault after live.line.text) (executes after live.line.text) fault

-- after a call for the operator of a live line: the line is the next one of the unfolding, and the call returned the results that the
-- unfolding has for this line; or the call failed
abbrev pub ReachesOn : List SourceLine → List UnfoldedLine → KnownSymbols → Live → Stage → Stage → Result Act UnfoldFault → Type 0
ReachesOn source done known live before after (Ok acted) =
    Unfolds source (done ++ given known live before ∷ []) after × (acted.is_own ≡ (given known live before).is_own)
    × (acted.remarks ≡ (given known live before).remarks) × (acted.arguments ≡ (given known live before).arguments)
ReachesOn source done known live before after (Err fault) = RefusesAt source done live fault
