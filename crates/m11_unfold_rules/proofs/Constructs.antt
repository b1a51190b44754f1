-- Lines that belong to unfolding, each as one run of steps.
use Rattle.std.proofs.Common.{◌≡◌, ◌∙◌, ℕ, suc, ◌+◌, ◌≤◌, true, false, List, [], ◌∷◌, ◌++◌, map, None, refl, ap, subst, arith}
use Rattle.std.specs.Prelude.{if◌then◌else◌}
use Rattle.m11_base.specs.Rad50.{Name}
use Rattle.m11_scan.specs.Line.{SourceLine}
use Rattle.m11_scan_expressions.specs.Expressions.{KnownSymbols}
use Rattle.m11_unfold_rules.specs.declared.directives.Directive.TheVariants as word
use Rattle.m11_unfold_bodies.specs.Conditions.{OpenConditions, is_skipping}
use Rattle.m11_unfold_bodies.specs.Left.{RemainingItem, Line, End, after_mark, count_in, has_mark, argument_count, is_expanding, marks}
use Rattle.m11_unfold_bodies.specs.declared.mark.Mark.{Mark}
use Rattle.m11_unfold_rules.specs.Acting.{Acted, act, act_fault, acted_by, flagged, own}
use Rattle.m11_unfold_rules.specs.Laws.{IsDirective, IsLive, after_exit, before_exit, exit_live_line}
use Rattle.m11_unfold_rules.specs.Limits.{most_lines}
use Rattle.m11_unfold_rules.specs.Stages.{Macro, Stage, line_left}
use Rattle.m11_unfold_rules.specs.Taking.{Live, ended}
use Rattle.m11_unfold_rules.specs.Unfolding.{UnfoldedLine, Leads, given}
use Rattle.m11_unfold_rules.specs.Unfolding as steps
use Rattle.m11_unfold_rules.proofs.Cases.{fault_by}
use Rattle.m11_unfold_rules.proofs.OtherLines.{becomes_live, no_fault, same_marks, stage_at}

-- ---- a line that becomes live

abbrev pub acted_given : KnownSymbols → List RemainingItem → SourceLine → Acted → UnfoldedLine
acted_given known left line acted = record {
  live = record { line = line; is_expanded = is_expanding left };
  known = known;
  is_own = acted.is_own;
  remarks = acted.remarks;
  arguments = argument_count left;
}

-- a line becomes live, and its operator is executed
pub one_line : (known : KnownSymbols) (conditions : OpenConditions) (macros : List (Name × Macro)) (bytes created taken : ℕ)
    (line : SourceLine) (left : List RemainingItem) (acted : Acted) → is_skipping conditions ≡ false → taken + 1 ≤ most_lines
    → act known (stage_at conditions macros bytes created (taken + 1) left) line.text ≡ acted
    → act_fault (stage_at conditions macros bytes created (taken + 1) left) line.text ≡ None
    → Leads (stage_at conditions macros bytes created taken (Line line ∷ left)) (acted_given known left line acted ∷ []) acted.after
one_line known conditions macros bytes created taken line left acted live most acts faults =
    let here : Stage = stage_at conditions macros bytes created (taken + 1) left in
    let before : Stage = stage_at conditions macros bytes created taken (Line line ∷ left) in
    let shown : Live = record { line = line; is_expanded = is_expanding left } in
    let most' : taken + suc 0 ≤ most_lines = omega (arith, most) in
    let P : Acted → Type 0 = λ a. Leads before (acted_given known left line a ∷ []) a.after in
    subst P acts (steps.Leads.Giving [] before here shown known steps.Leads.Stays
    (no_fault conditions macros bytes created taken 0 line left most')
    (becomes_live conditions macros bytes created taken line left live) faults)

-- ---- `.MEXIT`

past_lines : (rest : List SourceLine) (mark : Mark) (left : List RemainingItem)
    → after_mark (map line_left rest ++ End mark ∷ left) ≡ End mark ∷ left
past_lines [] mark left = refl
past_lines (line ∷ rest) mark left = past_lines rest mark left

pub exits : (known : KnownSymbols) (stage : Stage) (line : SourceLine) (column : ℕ) (rest : List SourceLine) (mark : Mark) (left : List RemainingItem)
    → IsLive stage → IsDirective stage line word.Mexit column → stage.taken + 1 ≤ most_lines
    → Leads (before_exit stage line rest mark left) (exit_live_line known mark left line (flagged 0 line.text column) ∷ [])
    (after_exit stage mark left)
exits known stage line column rest mark left live is most =
    let all : List RemainingItem = map line_left rest ++ End mark ∷ left in
    let at : ℕ → List RemainingItem → Stage = λ taken l. stage_at stage.conditions stage.macros stage.defined_bytes stage.created taken l in
    let here : Stage = at (stage.taken + 1) all in
    let before : Stage = at stage.taken (Line line ∷ all) in
    let after : Stage = at (stage.taken + 1) (End mark ∷ left) in
    let done : Acted = own (flagged 0 line.text column) after in
    let marked : marks all ≡ mark ∷ marks left = same_marks rest (End mark ∷ left) in
    let by_marks : List Mark → Acted = λ m. if has_mark m then own (flagged 0 line.text column) (at (stage.taken + 1) (after_mark all))
    else own (flagged 256 line.text column) here in
    let acts : act known here line.text ≡ done = ap (acted_by known line.text here) is ∙ ap by_marks marked
    ∙ ap (λ (l : List RemainingItem). own (flagged 0 line.text column) (at (stage.taken + 1) l)) (past_lines rest mark left) in
    let faults : act_fault here line.text ≡ None = ap (fault_by here) is in
    let gives = one_line known stage.conditions stage.macros stage.defined_bytes stage.created stage.taken line all done live.taking
    most acts faults in
    let told : List Mark → UnfoldedLine = λ m. record {
      live = record { line = line; is_expanded = has_mark m };
      known = known;
      is_own = true;
      remarks = flagged 0 line.text column;
      arguments = count_in m;
    } in
    let P : List Mark → Type 0 = λ m. Leads before (told m ∷ []) after in
    let first : Leads before (exit_live_line known mark left line (flagged 0 line.text column) ∷ []) after = subst P marked gives in
    let last = steps.Leads.Passing (exit_live_line known mark left line (flagged 0 line.text column) ∷ []) after (ended mark left after) first
    refl refl in
    rw (live.no_body, live.going_on) last
