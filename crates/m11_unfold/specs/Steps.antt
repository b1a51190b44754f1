-- The effects of an unfolder's internal functions on a stage. (This project's own.)
use Rattle.std.specs.Prelude.{◌≡◌, Bool, true, false, is_some, List, [], ◌∷◌, Option, Some, None, Result, Ok, Err}
use Rattle.m11_base.specs.Devices.{Bytes}
use Rattle.m11_unfold_bodies.specs.Bodies.{depth_after}
use Rattle.m11_unfold_bodies.specs.Left.{RemainingItem, Line, End}
use Rattle.m11_scan.specs.Line.{SourceLine}
use Rattle.m11_unfold_rules.specs.Acting.{Foreign, operation}
use Rattle.m11_unfold_rules.specs.Limits.{body_fault, closing_fault, next_fault}
use Rattle.m11_unfold_rules.specs.Stages.{Opening, Purpose, Stage}
use Rattle.m11_unfold_rules.specs.Taking as taking
use Rattle.m11_unfold_rules.specs.Taking.{Move, into_body, move, nesting, used}
use Rattle.m11_unfold_rules.specs.declared.fault.UnfoldFault.{UnfoldFault}
use Rattle.m11_unfold_rules.specs.declared.fault.UnfoldFault.TheVariants.{NoMemory}
use Rattle.m11_unfold.specs.declared.taking.MoveResult.{MoveResult}
use Rattle.m11_unfold.specs.declared.taking.MoveResult.TheVariants.{NothingLeft, Passes, Gives}

-- the fault is that of the exceeded limit, or `NoMemory` if none is exceeded
abbrev pub Fails : Option UnfoldFault → UnfoldFault → Type 0
Fails passed NoMemory = passed ≡ None
Fails passed fault = passed ≡ Some fault

-- whether the next item is a line that is added to the open body or closes it
abbrev pub grows_from : List RemainingItem → Stage → Bool
grows_from [] stage = false
grows_from (End mark ∷ left) stage = false
grows_from (Line line ∷ left) stage = is_some stage.opening

abbrev pub grows : Stage → Bool
grows stage = grows_from stage.left stage

-- whether unfolding executes the operator of a line: it calls a macro, or is a directive for conditions, repeats or macros, or `.END`
abbrev pub executes : Stage → Bytes → Bool
executes stage text = elim (operation stage.conditions stage.macros text) [ Foreign ↦ false | _ ↦ true ]

-- the fault is that of the exceeded limit, or `NoMemory` if none is exceeded and memory is asked for: a move asks for it only if it leads
-- into a body, and an operator only if unfolding executes it
abbrev pub FailsGrowing : Option UnfoldFault → Bool → UnfoldFault → Type 0
FailsGrowing passed grows NoMemory = (passed ≡ None) × (grows ≡ true)
FailsGrowing passed grows fault = passed ≡ Some fault

-- a stage with a line inserted before what is left
abbrev pub with_line : SourceLine → Stage → Stage
with_line line stage = record stage { left = Line line ∷ stage.left }

-- a call that makes this move has this result: the effect of the move if it exceeds no limit, or a fault
abbrev pub Results : Option UnfoldFault → Bool → Move → Stage → SourceLine → Result MoveResult UnfoldFault → Type 0
Results passed grows move after line (Ok NothingLeft) = move ≡ taking.NothingLeft
Results passed grows move after line (Ok Passes) = (passed ≡ None) × (move ≡ taking.Passes after)
Results passed grows move after line (Ok (Gives is_expanded)) =
    (passed ≡ None) × (move ≡ taking.Gives (record { line = line; is_expanded = is_expanded }) after)
Results passed grows move after line (Err fault) = FailsGrowing passed grows fault

abbrev pub Moves : Stage → Stage → SourceLine → Result MoveResult UnfoldFault → Type 0
Moves before after line (Ok NothingLeft) = (move before ≡ taking.NothingLeft) × (after ≡ before)
Moves before after line (Ok Passes) = (next_fault before ≡ None) × (move before ≡ taking.Passes after)
Moves before after line (Ok (Gives is_expanded)) =
    (next_fault before ≡ None) × (move before ≡ taking.Gives (record { line = line; is_expanded = is_expanded }) after)
Moves before after line (Err fault) = FailsGrowing (next_fault before) (grows before) fault

-- if a line became live, no statement of an `.IIF` comes next
abbrev pub IsFree : Bool → Result MoveResult UnfoldFault → Type 0
IsFree has_statement (Ok NothingLeft) = Unit {0}
IsFree has_statement (Ok Passes) = Unit {0}
IsFree has_statement (Ok (Gives is_expanded)) = has_statement ≡ false
IsFree has_statement (Err fault) = Unit {0}

-- a line is added to a body, or closes the body, which is then used for its purpose; or the call fails
abbrev pub Enters : Stage → Opening → Bytes → Stage → Result (Unit {0}) UnfoldFault → Type 0
Enters before opening text after (Ok _) =
    (body_fault opening.purpose before text (depth_after (nesting text) opening.taken.depth) ≡ None)
    × (after ≡ into_body opening.purpose opening.taken text (depth_after (nesting text) opening.taken.depth) before)
Enters before opening text after (Err fault) =
    Fails (body_fault opening.purpose before text (depth_after (nesting text) opening.taken.depth)) fault

-- a closed body is used for its purpose, or the call fails
abbrev pub Closes : Purpose → List Bytes → Stage → Stage → Result (Unit {0}) UnfoldFault → Type 0
Closes purpose body before after (Ok _) = (closing_fault purpose before ≡ None) × (after ≡ used purpose body before)
Closes purpose body before after (Err fault) = Fails (closing_fault purpose before) fault
