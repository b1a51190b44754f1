-- Lines that don't belong to unfolding become live one after the other.
use Rattle.std.proofs.Common.{◌≡◌, ◌∙◌, ℕ, suc, ◌+◌, ◌≤◌, false, List, [], ◌∷◌, ◌++◌, length, map, append_assoc, append-nil, None, refl, sym, ap, subst, arith}
use Rattle.std.specs.Prelude.{nat_le, ⊤}
use Rattle.std.proofs.lemmas.Bool.Decides.{nat_tests}
use Rattle.m11_base.specs.Rad50.{Name}
use Rattle.m11_scan.specs.Line.{SourceLine}
use Rattle.m11_scan_expressions.specs.Expressions.{KnownSymbols}
use Rattle.m11_scan_expressions.specs.Remarks.{no_remarks}
use Rattle.m11_unfold_bodies.specs.Conditions.{OpenConditions, is_skipping}
use Rattle.m11_unfold_bodies.specs.declared.mark.Mark.{Mark}
use Rattle.m11_unfold_bodies.specs.Left.{RemainingItem, Line, argument_count, count_in, has_mark, is_expanding, marks}
use Rattle.m11_unfold_rules.specs.Acting.{Acted, Foreign, act, act_fault, acted_by, operation}
use Rattle.m11_unfold_rules.specs.Laws.{AreForeign, IsLive, after_lines, before_lines, foreign_live_line}
use Rattle.m11_unfold_rules.specs.Limits.{most_lines, next_fault}
use Rattle.m11_unfold_rules.specs.Stages.{Macro, Stage, line_left}
use Rattle.m11_unfold_rules.specs.Taking.{Gives, Live, move}
use Rattle.m11_unfold_rules.specs.Unfolding.{UnfoldedLine, Leads, given}
use Rattle.m11_unfold_rules.specs.Unfolding as steps
use Rattle.m11_unfold_rules.proofs.Cases.{fault_by}

pub same_marks : (lines : List SourceLine) (left : List RemainingItem) → marks (map line_left lines ++ left) ≡ marks left
same_marks [] left = refl
same_marks (line ∷ lines) left = same_marks lines left

-- a stage at which no body is open, and no `.END` has become live
abbrev pub stage_at : OpenConditions → List (Name × Macro) → ℕ → ℕ → ℕ → List RemainingItem → Stage
stage_at conditions macros bytes created taken left = record {
  left = left;
  conditions = conditions;
  opening = None;
  macros = macros;
  defined_bytes = bytes;
  created = created;
  taken = taken;
  has_ended = false;
}

-- these lines are foreign as in `AreForeign`, but by the conditions and the macros in place of a whole stage
abbrev pub ForeignHere : OpenConditions → List (Name × Macro) → List SourceLine → Type 0
ForeignHere conditions macros [] = ⊤
ForeignHere conditions macros (line ∷ lines) =
    (operation conditions macros line.text ≡ Foreign) × ForeignHere conditions macros lines

pub has_lines_left : (taken more : ℕ) → taken + suc more ≤ most_lines → nat_le most_lines taken ≡ false
has_lines_left taken more most = grind (arith, nat_tests)

pub no_fault : (conditions : OpenConditions) (macros : List (Name × Macro)) (bytes created taken more : ℕ) (line : SourceLine)
    (left : List RemainingItem) → taken + suc more ≤ most_lines
    → next_fault (stage_at conditions macros bytes created taken (Line line ∷ left)) ≡ None
no_fault conditions macros bytes created taken more line left most = rw (has_lines_left taken more most) refl

pub becomes_live : (conditions : OpenConditions) (macros : List (Name × Macro)) (bytes created taken : ℕ) (line : SourceLine)
    (left : List RemainingItem) → is_skipping conditions ≡ false
    → move (stage_at conditions macros bytes created taken (Line line ∷ left))
    ≡ Gives (record { line = line; is_expanded = is_expanding left }) (stage_at conditions macros bytes created (taken + 1) left)
becomes_live conditions macros bytes created taken line left live = rw live refl

given_alike : (known : KnownSymbols) (left : List RemainingItem) (lines : List SourceLine) (line : SourceLine) (here : Stage)
    → here.left ≡ map line_left lines ++ left
    → act known here line.text ≡ record { is_own = false; remarks = no_remarks; after = here }
    → given known (record { line = line; is_expanded = is_expanding here.left }) here ≡ foreign_live_line known left line
given_alike known left lines line here stands acts =
    let told : Acted → UnfoldedLine = λ acted. record {
      live = record { line = line; is_expanded = is_expanding here.left };
      known = known;
      is_own = acted.is_own;
      remarks = acted.remarks;
      arguments = argument_count here.left;
    } in
    let marked : List Mark → UnfoldedLine = λ ends. record {
      live = record { line = line; is_expanded = has_mark ends };
      known = known;
      is_own = false;
      remarks = no_remarks;
      arguments = count_in ends;
    } in
    ap told acts ∙ ap (λ (l : List RemainingItem). marked (marks l)) stands ∙ ap marked (same_marks lines left)

-- after an unfolding, these lines become live one by one
pub onwards : (before : Stage) (known : KnownSymbols) (conditions : OpenConditions) (macros : List (Name × Macro)) (bytes created : ℕ)
    (left : List RemainingItem) → is_skipping conditions ≡ false → (lines : List SourceLine) (taken : ℕ) (done : List UnfoldedLine)
    → ForeignHere conditions macros lines → taken + length lines ≤ most_lines
    → Leads before done (stage_at conditions macros bytes created taken (map line_left lines ++ left))
    → Leads before (done ++ map (foreign_live_line known left) lines)
    (stage_at conditions macros bytes created (taken + length lines) left)
onwards before known conditions macros bytes created left live [] taken done foreign most so_far =
    let P : List UnfoldedLine → Type 0 = λ all. Leads before all (stage_at conditions macros bytes created taken left) in
    let Q : ℕ → Type 0 = λ n. Leads before (done ++ []) (stage_at conditions macros bytes created n left) in
    let none : taken ≡ taken + 0 = omega arith in
    subst Q none (subst P (sym (append-nil done)) so_far)
onwards before known conditions macros bytes created left live (line ∷ lines) taken done foreign most so_far =
    let rest : List RemainingItem = map line_left lines ++ left in
    let here : Stage = stage_at conditions macros bytes created (taken + 1) rest in
    let acts : act known here line.text ≡ record { is_own = false; remarks = no_remarks; after = here }
    = ap (acted_by known line.text here) foreign.0 in
    let faults : act_fault here line.text ≡ None = ap (fault_by here) foreign.0 in
    let shown : Live = record { line = line; is_expanded = is_expanding rest } in
    let next = steps.Leads.Giving done (stage_at conditions macros bytes created taken (Line line ∷ rest)) here shown known so_far
    (no_fault conditions macros bytes created taken (length lines) line rest most)
    (becomes_live conditions macros bytes created taken line rest live) faults in
    let same : given known shown here ≡ foreign_live_line known left line = given_alike known left lines line here refl acts in
    let Q : Acted → Type 0 = λ acted. Leads before (done ++ given known shown here ∷ []) acted.after in
    let stands = subst Q acts next in
    let R : UnfoldedLine → Type 0 = λ one. Leads before (done ++ one ∷ []) here in
    let stood = subst R same stands in
    let later = onwards before known conditions macros bytes created left live lines (taken + 1)
    (done ++ foreign_live_line known left line ∷ []) foreign.1 (omega (arith, most)) stood in
    let S : List UnfoldedLine → Type 0 = λ all. Leads before all
    (stage_at conditions macros bytes created (taken + 1 + length lines) left) in
    let joined = subst S (append_assoc done (foreign_live_line known left line ∷ []) (map (foreign_live_line known left) lines)) later in
    let T : ℕ → Type 0 = λ n. Leads before (done ++ map (foreign_live_line known left) (line ∷ lines))
    (stage_at conditions macros bytes created n left) in
    let sum : taken + 1 + length lines ≡ taken + suc (length lines) = omega arith in
    subst T sum joined

pub looked_up : (stage : Stage) (lines : List SourceLine) → AreForeign stage lines → ForeignHere stage.conditions stage.macros lines
looked_up stage [] foreign = foreign
looked_up stage (line ∷ lines) foreign = (foreign.0, looked_up stage lines foreign.1)

-- the law, at a stage where nothing is skipped and no body is open
pub lines_live : (known : KnownSymbols) (stage : Stage) (lines : List SourceLine) (left : List RemainingItem) → IsLive stage → AreForeign stage lines
    → stage.taken + length lines ≤ most_lines
    → Leads (before_lines stage lines left) (map (foreign_live_line known left) lines) (after_lines stage lines left)
lines_live known stage lines left live foreign most =
    let here : before_lines stage lines left ≡ stage_at stage.conditions stage.macros stage.defined_bytes stage.created stage.taken
    (map line_left lines ++ left) = rw (live.no_body, live.going_on) refl in
    let there : after_lines stage lines left ≡ stage_at stage.conditions stage.macros stage.defined_bytes stage.created
    (stage.taken + length lines) left = rw (live.no_body, live.going_on) refl in
    let begun : Leads (before_lines stage lines left) [] (before_lines stage lines left) = steps.Leads.Stays in
    let P : Stage → Type 0 = λ s. Leads (before_lines stage lines left) [] s in
    let Q : Stage → Type 0 = λ s. Leads (before_lines stage lines left) (map (foreign_live_line known left) lines) s in
    subst Q (sym there) (onwards (before_lines stage lines left) known stage.conditions stage.macros stage.defined_bytes stage.created
    left live.taking lines stage.taken [] (looked_up stage lines foreign) most (subst P here begun))
