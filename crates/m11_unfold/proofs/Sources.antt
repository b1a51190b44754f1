-- The calls yield the unfolding of the source that was fed.
use Rattle.std.proofs.Common.{◌≡◌, ◌∙◌, Bool, true, false, List, [], ◌∷◌, ◌++◌, append-nil, None, sym, ap, subst}
use Rattle.std.specs.Prelude.{if◌then◌else◌, Result, Ok, Err}
use Rattle.std.proofs.lemmas.List.{map-append}
use Rattle.m11_scan_expressions.specs.Expressions.{KnownSymbols}
use Rattle.m11_unfold_bodies.specs.Left.{RemainingItem}
use Rattle.m11_unfold_bodies.specs.Left as lefts
use Rattle.m11_scan.specs.Line.{SourceLine}
use Rattle.m11_unfold_rules.proofs.Cases.{move_from}
use Rattle.m11_unfold_rules.proofs.Ending.{rests_after, stays_after}
use Rattle.m11_unfold_rules.proofs.Following.{follows}
use Rattle.m11_unfold_rules.proofs.MoreLines.{leads_on}
use Rattle.m11_unfold_rules.specs.Acting.{act, act_fault}
use Rattle.m11_unfold_rules.specs.Histories.{with_more}
use Rattle.m11_unfold_rules.specs.Stages.{Stage, line_left, start}
use Rattle.m11_unfold_rules.specs.Taking as taking
use Rattle.m11_unfold_rules.specs.Unfolding.{UnfoldedLine, Leads, Unfolds, given}
use Rattle.m11_unfold_rules.specs.Unfolding as steps
use Rattle.m11_unfold_rules.specs.declared.fault.UnfoldFault.{UnfoldFault}
use Rattle.m11_unfold.specs.Sources.{IsAllRead, IsOver, Reaches, ReachesOn, Refuses, RefusesAt}
use Rattle.m11_unfold.specs.Steps.{FailsGrowing, executes}
use Rattle.m11_unfold.specs.Unfolder.{Acts, Comes, Steps, Stops, live_of}
use Rattle.m11_unfold.specs.declared.steps.Act.{Act}
use Rattle.m11_unfold.specs.declared.steps.Step.{Step}
use Rattle.m11_unfold.specs.declared.steps.Step.TheVariants.{NeedLine, End, Line}

pub begins : Unfolds [] [] (start [])
begins = steps.Leads.Stays

-- a source with further lines at its end unfolds to the same live lines first
pub of_longer : (source more : List SourceLine) (done : List UnfoldedLine) (stage : Stage) → Unfolds source done stage
    → Unfolds (source ++ more) done (with_more more stage)
of_longer source more done stage stands =
    let P : List RemainingItem → Type 0 = λ l. Leads (record (start []) { left = l }) done (with_more more stage) in
    subst P (sym (map-append line_left source more)) (leads_on more (start source) stage done stands)

pub feeds : (source : List SourceLine) (line : SourceLine) (done : List UnfoldedLine) (stage : Stage) → Unfolds source done stage
    → stage.left ≡ [] → Unfolds (source ++ line ∷ []) done (record stage { left = lefts.Line line ∷ [] })
feeds source line done stage stands none =
    let P : List RemainingItem → Type 0 = λ l. Unfolds (source ++ line ∷ []) done (record stage { left = l ++ lefts.Line line ∷ [] }) in
    subst P none (of_longer source (line ∷ []) done stage stands)

-- moves by which no line becomes live leave the live lines as they are
passes_on : (source : List SourceLine) (done : List UnfoldedLine) (before after : Stage) → Unfolds source done before → Leads before [] after
    → Unfolds source done after
passes_on source done before after stands leads =
    let P : List UnfoldedLine → Type 0 = λ ds. Unfolds source ds after in
    subst P (append-nil done) (follows (start source) before after done [] stands leads)

comes : (source : List SourceLine) (done : List UnfoldedLine) (before after : Stage) (live : taking.Live) (known : KnownSymbols)
    → Unfolds source done before → Comes before live after → act_fault after live.line.text ≡ None
    → Unfolds source (done ++ given known live after ∷ []) (act known after live.line.text).after
comes source done before after live known stands came acts =
    steps.Leads.Giving done came.middle after live known (passes_on source done before came.middle stands came.passing) came.is_within
    came.gives acts

refuses : (source : List SourceLine) (done : List UnfoldedLine) (before : Stage) (fault : UnfoldFault) → Unfolds source done before
    → Stops before fault → Refuses source done fault
refuses source done before fault stands stops = record {
  stage = stops.middle;
  unfolds = passes_on source done before stops.middle stands stops.passing;
  passes = stops.passes;
}

-- nothing is read if nothing is left, or after `.END`
rests_without : (left : List RemainingItem) (stage : Stage) → left ≡ [] → stage.has_ended ≡ false
    → (if stage.has_ended then taking.NothingLeft else move_from left stage) ≡ taking.NothingLeft
rests_without left stage none going =
    ap (λ (b : Bool). if b then taking.NothingLeft else move_from left stage) going
    ∙ ap (λ (l : List RemainingItem). move_from l stage) none

all_taken : (source : List SourceLine) (done : List UnfoldedLine) (before after : Stage) → Unfolds source done before
    → Leads before [] after
    → after.left ≡ [] → after.has_ended ≡ false → IsAllRead source done after
all_taken source done before after stands leads none going = record {
  unfolds = passes_on source done before after stands leads;
  none_left = none;
  rests = rests_without after.left after none going;
}

over : (source : List SourceLine) (done : List UnfoldedLine) (before after : Stage) → Unfolds source done before → Leads before [] after
    → after.has_ended ≡ true → IsOver source done after
over source done before after stands leads ended = record {
  unfolds = passes_on source done before after stands leads;
  rests = λ more. rests_after (with_more more after) ended;
  no_more = λ more later stage leads'. (stays_after (with_more more after) stage later ended leads').0;
}

pub reaches : (source : List SourceLine) (done : List UnfoldedLine) (before after : Stage) (line : SourceLine) (result : Result Step UnfoldFault)
    → Unfolds source done before → Steps before after line result → Reaches source done after line result
reaches source done before after line (Ok NeedLine) stands stepped
    = all_taken source done before after stands stepped.0 stepped.1 stepped.2
reaches source done before after line (Ok End) stands stepped = over source done before after stands stepped.0 stepped.1
reaches source done before after line (Ok (Line is_expanded)) stands stepped =
    λ known acts. comes source done before after (live_of line is_expanded) known stands stepped acts
reaches source done before after line (Err fault) stands stepped = refuses source done before fault stands stepped

-- ---- the operator of a live line

module _ (source : List SourceLine) (done : List UnfoldedLine) (before live_stage after : Stage) (line : SourceLine) (is_expanded : Bool)
    (known : KnownSymbols) (stands : Unfolds source done before) (came : Comes before (live_of line is_expanded) live_stage) where
  refuses_at : (fault : UnfoldFault) → FailsGrowing (act_fault live_stage line.text) (executes live_stage line.text) fault
      → RefusesAt source done (live_of line is_expanded) fault
  refuses_at fault fails = record {
    stage = came.middle;
    after = live_stage;
    unfolds = passes_on source done before came.middle stands came.passing;
    is_within = came.is_within;
    gives = came.gives;
    passes = fails;
  }

  pub reaches_on : (result : Result Act UnfoldFault) → Acts known line.text live_stage after result
      → ReachesOn source done known (live_of line is_expanded) live_stage after result
  reaches_on (Ok acted) acts =
      let next = comes source done before live_stage (live_of line is_expanded) known stands came acts.0 in
      let P : Stage → Type 0 = λ s. Unfolds source (done ++ given known (live_of line is_expanded) live_stage ∷ []) s in
      (subst P (sym acts.1) next, acts.2, acts.3, acts.4)
  reaches_on (Err fault) acts = refuses_at fault acts

pub acts_on : (source : List SourceLine) (done : List UnfoldedLine) (before live_stage after : Stage) (line : SourceLine)
    (is_expanded : Bool)
    (known : KnownSymbols) (result : Result Act UnfoldFault) → Unfolds source done before
    → Steps before live_stage line (Ok (Line is_expanded))
    → Acts known line.text live_stage after result
    → ReachesOn source done known (live_of line is_expanded) live_stage after result
acts_on source done before live_stage after line is_expanded known result stands came acts =
    reaches_on source done before live_stage after line is_expanded known stands came result acts
