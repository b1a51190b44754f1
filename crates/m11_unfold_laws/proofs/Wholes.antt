-- The stage that the lines of a shape lead to, and that a source has no other live lines.
use Rattle.std.proofs.Common.{◌≡◌, ◌∙◌, ◌⊎◌, inl, inr, Bool, true, false, List, [], ◌∷◌, ◌++◌, map, append_assoc, append-nil, Option, Some, None, refl, sym, ap, subst}
use Rattle.std.specs.Prelude.{ℕ, if◌then◌else◌}
use Rattle.m11_scan.specs.Line.{SourceLine}
use Rattle.m11_scan_expressions.specs.Expressions.{KnownSymbols}
use Rattle.m11_unfold_bodies.specs.Left.{RemainingItem, Line, End}
use Rattle.m11_unfold_bodies.specs.declared.mark.Mark.{Mark}
use Rattle.m11_unfold_rules.specs.Acting.{act_fault}
use Rattle.m11_unfold_rules.specs.Histories.{GoesOn, IsKnownBy}
use Rattle.m11_unfold_rules.specs.Limits.{next_fault}
use Rattle.m11_unfold_rules.specs.Stages.{Stage, line_left, start}
use Rattle.m11_unfold_rules.specs.Taking.{Gives, Live, Passes, NothingLeft, line_move, move, one_taken, skipped}
use Rattle.m11_unfold_rules.specs.Unfolding.{UnfoldedLine, Leads, Unfolds}
use Rattle.m11_unfold_rules.specs.Unfolding as steps
use Rattle.m11_unfold_rules.proofs.Cases.{fault_from, live_or_skipped, move_from}
use Rattle.m11_unfold_rules.proofs.OneUnfolding as unfoldings
use Rattle.m11_unfold_laws.specs.Laws.{Arrived, BeginWith, HasLiveLines, IsEndedAfter, IsAtLevel, before_lines}
use Rattle.m11_unfold_laws.specs.Limits.{IsCutShort, PassesLimit}
use Rattle.m11_unfold_laws.specs.Limits as limits
use Rattle.m11_unfold_laws.specs.Levels.{Level, Situation, beginning, mark_at, source_level, stage_of, within_expansion}
use Rattle.m11_unfold_laws.specs.Shapes.{Ending, Returns, Shape}
use Rattle.m11_unfold_laws.specs.Shapes as shapes
use Rattle.m11_unfold_laws.proofs.Runs.{Runs, and_then, arrived, from_same}
use Rattle.m11_unfold_laws.proofs.Shaped.{AtEnd, at_mark, returned, shape}

-- ---- lines before what is left

pub goes_on : (level : Level) (before after : Situation) (lines : List SourceLine) (gives : List UnfoldedLine) (left : List RemainingItem)
    → Shape level before lines gives after shapes.Ending.GoesOn → IsAtLevel level left
    → Leads (before_lines level before lines left) gives (stage_of level after left)
    ⊎ IsCutShort (before_lines level before lines left) gives
goes_on level before after lines gives left shaped stands =
    arrived (before_lines level before lines left) (stage_of level after left) gives
    (shape level before lines gives after shapes.Ending.GoesOn shaped left stands.around stands.is_live tt)

pub expands : (level : Level) (before after : Situation) (arguments : Option ℕ) (bytes : ℕ) (lines : List SourceLine)
    (gives : List UnfoldedLine)
    (ending : Ending) (left : List RemainingItem) → Shape (within_expansion arguments bytes level) before lines gives after ending
    → Returns ending
    → IsAtLevel level left
    → Leads (before_lines (within_expansion arguments bytes level) before lines (End (mark_at level arguments bytes) ∷ left))
    gives (stage_of level after left)
    ⊎ IsCutShort (before_lines (within_expansion arguments bytes level) before lines
    (End (mark_at level arguments bytes) ∷ left)) gives
expands level before after arguments bytes lines gives ending left shaped returns stands =
    let mark : Mark = mark_at level arguments bytes in
    let inside : Level = within_expansion arguments bytes level in
    let first : Stage = before_lines inside before lines (End mark ∷ left) in
    let P : Stage → Type 0 = Arrived ending inside after (End mark ∷ left) in
    let Q : Stage → Type 0 = λ s. s ≡ stage_of level after left in
    let runs : Runs first gives P = shape inside before lines gives after ending shaped (End mark ∷ left)
    (ap (λ (m : List Mark). mark ∷ m) stands.around) refl (at_mark ending mark left) in
    let whole : Runs first (gives ++ []) Q
    = and_then P Q first gives [] runs (λ s there. returned level after arguments bytes left ending s returns there) in
    arrived first (stage_of level after left) gives (subst (λ (g : List UnfoldedLine). Runs first g Q) (append-nil gives) whole)

pub ends : (level : Level) (before after : Situation) (lines : List SourceLine) (gives : List UnfoldedLine) (left : List RemainingItem)
    → Shape level before lines gives after shapes.Ending.Ends → IsAtLevel level left
    → IsEndedAfter (before_lines level before lines left) gives ⊎ IsCutShort (before_lines level before lines left) gives
ends level before after lines gives left shaped stands =
    ended (shape level before lines gives after shapes.Ending.Ends shaped left stands.around stands.is_live tt) where
      ended : Runs (before_lines level before lines left) gives (λ s. s.has_ended ≡ true)
          → IsEndedAfter (before_lines level before lines left) gives ⊎ IsCutShort (before_lines level before lines left) gives
      ended (inl there) = inl (record { stage = there.stage; leads = there.leads; ended = there.holds })
      ended (inr short) = inr short

-- ---- a whole source

source_ends : (ending : Ending) → AtEnd ending []
source_ends shapes.Ending.GoesOn = tt
source_ends shapes.Ending.Stops = refl
source_ends shapes.Ending.Ends = tt

pub nothing_left : (ending : Ending) (after : Situation) (stage : Stage) → Arrived ending source_level after [] stage
    → move stage ≡ NothingLeft
nothing_left shapes.Ending.GoesOn after stage there = ap move there
nothing_left shapes.Ending.Stops after stage there = ap move there.is
nothing_left shapes.Ending.Ends after stage there = ap (λ (b : Bool). if b then NothingLeft else move_from stage.left stage) there

pub whole : (source : List SourceLine) (gives : List UnfoldedLine) (after : Situation) (ending : Ending)
    → Shape source_level beginning source gives after ending → HasLiveLines source gives ⊎ IsCutShort (start source) gives
whole source gives after ending shaped =
    all (from_same (Arrived ending source_level after []) (start source) (before_lines source_level beginning source []) gives
    (ap (stage_of source_level beginning) (sym (append-nil (map line_left source))))
    (shape source_level beginning source gives after ending shaped [] refl refl (source_ends ending))) where
      all : Runs (start source) gives (Arrived ending source_level after [])
          → HasLiveLines source gives ⊎ IsCutShort (start source) gives
      all (inl there) = inl (record {
        stage = there.stage;
        unfolds = there.leads;
        rests = nothing_left ending after there.stage there.holds;
      })
      all (inr short) = inr short

-- ---- at a limit

module _ (before : Stage) where
  pub no_pass : (after : Stage) → PassesLimit before → next_fault before ≡ None → move before ≡ Passes after → ⊥
  no_pass after (limits.PassesLimit.Taking fault is) none moves = absurd (let bad : Some fault ≡ None = sym is ∙ none in cc)
  no_pass after (limits.PassesLimit.Acting fault live there is gives acts) none moves =
      absurd (let bad : Gives live there ≡ Passes after = sym gives ∙ moves in cc)

  pub no_line : (after : Stage) (live : Live) → PassesLimit before → next_fault before ≡ None → move before ≡ Gives live after
      → act_fault after live.line.text ≡ None → ⊥
  no_line after live (limits.PassesLimit.Taking fault is) none moves acts
      = absurd (let bad : Some fault ≡ None = sym is ∙ none in cc)
  no_line after live (limits.PassesLimit.Acting fault live' there is gives acts') none moves acts =
      let both : Gives live' there ≡ Gives live after = sym gives ∙ moves in
      let same_live : live' ≡ live = cc in
      let same_stage : there ≡ after = cc in
      let same : act_fault there live'.line.text ≡ act_fault after live.line.text
      = ap (λ (s : Stage). act_fault s live'.line.text) same_stage ∙ ap (λ (l : Live). act_fault after l.line.text) same_live in
      absurd (let bad : Some fault ≡ None = sym acts' ∙ same ∙ acts in cc)

  -- at a limit there is no further move
  stays_short : (done : List UnfoldedLine) (after : Stage) → PassesLimit before → Leads before done after
      → (done ≡ []) × (after ≡ before)
  stays_short _ _ passed steps.Leads.Stays = (refl, refl)
  stays_short _ _ passed (steps.Leads.Passing done stage after leads fault moves) =
      let earlier = stays_short done stage passed leads in
      absurd (no_pass after passed (subst (λ (s : Stage). next_fault s ≡ None) earlier.1 fault)
      (subst (λ (s : Stage). move s ≡ Passes after) earlier.1 moves))
  stays_short _ _ passed (steps.Leads.Giving done stage after live known leads fault moves acts) =
      let earlier = stays_short done stage passed leads in
      absurd (no_line after live passed (subst (λ (s : Stage). next_fault s ≡ None) earlier.1 fault)
      (subst (λ (s : Stage). move s ≡ Gives live after) earlier.1 moves) acts)

-- if nothing is left, no limit is exceeded
pub no_limit_at_rest : (stage : Stage) → move stage ≡ NothingLeft → PassesLimit stage → ⊥
no_limit_at_rest stage rests (limits.PassesLimit.Acting fault live there is gives acts) =
    absurd (let bad : Gives live there ≡ NothingLeft = sym gives ∙ rests in cc)
no_limit_at_rest stage rests (limits.PassesLimit.Taking fault is) = by_end stage.has_ended stage.left rests is where
  no_rest : (conditions : Option _) (line : SourceLine) (s : Stage) → live_or_skipped conditions line s ≡ NothingLeft → ⊥
  no_rest (Some conditions) line s is = absurd (let bad = is in cc)
  no_rest None line s is = absurd (let bad = is in cc)

  no_rest_line : (opening : Option _) (line : SourceLine) (s : Stage) → line_move opening line s ≡ NothingLeft → ⊥
  no_rest_line (Some opening) line s is = absurd (let bad = is in cc)
  no_rest_line None line s is = no_rest (skipped s.conditions line.text) line s is

  by_end : (has_ended : Bool) (left : List RemainingItem) → (if has_ended then NothingLeft else move_from left stage) ≡ NothingLeft
      → (if has_ended then None else fault_from left stage) ≡ Some fault → ⊥
  by_end true left rests is = absurd (let bad = is in cc)
  by_end false [] rests is = absurd (let bad = is in cc)
  by_end false (End mark ∷ left) rests is = absurd (let bad = is in cc)
  by_end false (Line line ∷ left) rests is = no_rest_line stage.opening line (one_taken left stage) rests

-- ---- no other lines

module _ (tells : List UnfoldedLine → Live
    → KnownSymbols) (source : List SourceLine) (gives done : List UnfoldedLine) (after : Situation) (ending : Ending)
    (stage : Stage) (shaped : Shape source_level beginning source gives after ending) (told : IsKnownBy tells gives)
    (told' : IsKnownBy tells done) (unfolds : Unfolds source done stage) where
  pub no_others : BeginWith gives done
  no_others = by_shape (whole source gives after ending shaped) where
    with_all : (all : HasLiveLines source gives) → GoesOn done stage gives all.stage ⊎ GoesOn gives all.stage done stage
        → BeginWith gives done
    with_all all (inl on) = record { more = on.more; whole = on.whole }
    with_all all (inr on) =
        let same = unfoldings.same_end gives done all.stage stage all.rests on in
        record { more = []; whole = sym same.0 ∙ sym (append-nil done) }

    with_first : (short : IsCutShort (start source) gives)
        → GoesOn done stage short.first short.stage ⊎ GoesOn short.first short.stage done stage
        → BeginWith gives done
    with_first short (inl on) = record {
      more = on.more ++ short.more;
      whole = short.whole ∙ ap (λ (g : List UnfoldedLine). g ++ short.more) on.whole ∙ append_assoc done on.more short.more;
    }
    with_first short (inr on) =
        let still = stays_short short.stage on.more stage short.passes on.leads in
        let same : done ≡ short.first = on.whole ∙ ap (λ (g : List UnfoldedLine). short.first ++ g) still.0 ∙ append-nil short.first in
        record { more = short.more; whole = short.whole ∙ ap (λ (g : List UnfoldedLine). g ++ short.more) (sym same) }

    by_shape : HasLiveLines source gives ⊎ IsCutShort (start source) gives → BeginWith gives done
    by_shape (inl all) = with_all all
        (unfoldings.compared tells (start source) stage all.stage done gives told' told unfolds all.unfolds)
    by_shape (inr short) =
        with_first short (unfoldings.compared tells (start source) stage short.stage done short.first told'
        (unfoldings.front_told tells short.first short.more (subst (λ (g : List UnfoldedLine). IsKnownBy tells g) short.whole told))
        unfolds short.leads)

  pub just_these : move stage ≡ NothingLeft → done ≡ gives
  just_these rests = by_shape (whole source gives after ending shaped) where
    with_first : (short : IsCutShort (start source) gives)
        → GoesOn done stage short.first short.stage ⊎ GoesOn short.first short.stage done stage
        → done ≡ gives
    with_first short (inl on) =
        let same = unfoldings.same_end done short.first stage short.stage rests on in
        absurd (no_limit_at_rest stage rests (subst PassesLimit same.1 short.passes))
    with_first short (inr on) =
        let still = stays_short short.stage on.more stage short.passes on.leads in
        absurd (no_limit_at_rest stage rests (subst PassesLimit (sym still.1) short.passes))

    by_shape : HasLiveLines source gives ⊎ IsCutShort (start source) gives → done ≡ gives
    by_shape (inl all) = (unfoldings.one_end tells (start source) stage all.stage done gives told' told unfolds all.unfolds
        rests all.rests).0
    by_shape (inr short) =
        with_first short (unfoldings.compared tells (start source) stage short.stage done short.first told'
        (unfoldings.front_told tells short.first short.more (subst (λ (g : List UnfoldedLine). IsKnownBy tells g) short.whole told))
        unfolds short.leads)
