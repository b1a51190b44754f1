-- The lines of a condition become live if it holds, and are skipped if it doesn't.
use Rattle.std.proofs.Common.{◌≡◌, ◌∙◌, ℕ, suc, ◌+◌, ◌<◌, ◌≤◌, Bool, true, false, List, [], ◌∷◌, ◌++◌, length, map, Option, Some, None, refl, sym, ap, subst, arith}
use Rattle.std.specs.Prelude.{◌==◌, ◌||◌, ◌&&◌, not, if◌then◌else◌, nat_lt}
use Rattle.std.proofs.lemmas.Bool.Decides.{nat_tests}
use Rattle.m11_base.specs.Rad50.{Name}
use Rattle.m11_scan.specs.Line.{SourceLine}
use Rattle.m11_unfold_rules.specs.Conditions.{ConditionResult, condition}
use Rattle.m11_unfold_rules.specs.Directives.{directive}
use Rattle.m11_scan_expressions.specs.Expressions.{KnownSymbols}
use Rattle.m11_scan_expressions.specs.Remarks.{Remarks, remarks_of}
use Rattle.m11_unfold_rules.specs.declared.directives.Directive.{Directive}
use Rattle.m11_unfold_rules.specs.declared.directives.Directive.TheVariants as word
use Rattle.m11_unfold_bodies.specs.Conditions.{OpenConditions, closed, entering, is_live_inside, is_skipping, most_conditions, past, unnested}
use Rattle.m11_unfold_bodies.specs.Left.{RemainingItem, Line, conditions_in, conditions_open, count_in, has_mark, is_expanding, marks}
use Rattle.m11_unfold_bodies.specs.declared.mark.Mark.{Mark}
use Rattle.m11_unfold_rules.specs.Acting.{Acted, OwnDirective, act, act_fault, acted_by, condition_opened, flagged, flag_O, operation, own}
use Rattle.m11_unfold_rules.specs.Constructs.{Block, HasConditionLeft, after_block, before_block, condition_remarks}
use Rattle.m11_unfold_rules.specs.Laws.{AreForeign, IsDirective, IsLive, foreign_live_line, own_live_line}
use Rattle.m11_unfold_rules.specs.Limits.{most_lines}
use Rattle.m11_unfold_rules.specs.Stages.{Macro, Stage, line_left}
use Rattle.m11_unfold_rules.specs.Taking.{Gives, Live, Passes, move, skipped_by}
use Rattle.m11_unfold_rules.specs.Unfolding.{UnfoldedLine, Leads}
use Rattle.m11_unfold_rules.specs.Unfolding as steps
use Rattle.m11_unfold_rules.proofs.Cases.{fault_by, live_or_skipped}
use Rattle.m11_unfold_rules.proofs.Constructs.{acted_given, one_line}
use Rattle.m11_unfold_rules.proofs.Following.{follows}
use Rattle.m11_unfold_rules.proofs.Operators.{alike, directive_skipping, foreign_alike, has_no_word, has_word}
use Rattle.m11_unfold_rules.proofs.OtherLines.{ForeignHere, becomes_live, looked_up, no_fault, onwards, same_marks, stage_at}

-- ---- conditions alone

first_of_or : (a b : Bool) → (a || b) ≡ false → a ≡ false
first_of_or false b is = refl
first_of_or true b is = absurd (let bad = is in cc)

pub not_past : (conditions : OpenConditions) → is_skipping conditions ≡ false → conditions.is_past ≡ false
not_past conditions live = first_of_or conditions.is_past (not (is_live_inside conditions.entered)) live

live_in_true : (conditions : OpenConditions) → conditions.is_past ≡ false → is_skipping (entering true conditions) ≡ false
live_in_true conditions none = ap (λ (b : Bool). b || false) none

skipping_in_false : (conditions : OpenConditions) → conditions.is_past ≡ false → is_skipping (entering false conditions) ≡ true
skipping_in_false conditions none = ap (λ (b : Bool). b || true) none

closes_again : (conditions : OpenConditions) (holds : Bool) → conditions.is_past ≡ false
    → closed (entering holds conditions) ≡ conditions
closes_again conditions holds none = go conditions.is_past none where
  again : Bool → Bool → OpenConditions
  again is_past was_past = record {
    entered = if is_past then record { holds = holds; is_live = holds } ∷ conditions.entered else conditions.entered;
    nested = conditions.nested;
    is_past = was_past;
  }

  go : (is_past : Bool) → is_past ≡ false
      → again is_past false ≡ record conditions { is_past = is_past }
  go true is = absurd (let bad = is in cc)
  go false is = refl

-- ---- the `.IF`, and the `.ENDC`

module _ (known : KnownSymbols) (conditions : OpenConditions) (macros : List (Name × Macro)) (bytes created : ℕ) where
  abbrev at : OpenConditions → ℕ → List RemainingItem → Stage
  at c taken left = stage_at c macros bytes created taken left

  opens_condition : (taken column : ℕ) (line : SourceLine) (left : List RemainingItem) (holds : Bool) → is_skipping conditions ≡ false
      → operation conditions macros line.text ≡ OwnDirective word.If column → (condition known line.text column).holds ≡ holds
      → length conditions.entered + conditions_open left < most_conditions → taken + 1 ≤ most_lines
      → Leads (at conditions taken (Line line ∷ left)) (own_live_line known left line (condition_remarks known line.text column) ∷ [])
      (at (entering holds conditions) (taken + 1) left)
  opens_condition taken column line left holds live is answers room most =
      let here : Stage = at conditions (taken + 1) left in
      let remarks : Remarks = condition_remarks known line.text column in
      let asked : ConditionResult = condition known line.text column in
      let has : nat_lt (length conditions.entered + conditions_open left) most_conditions ≡ true = grind (arith, nat_tests) in
      let done : Acted = own remarks (at (entering holds conditions) (taken + 1) left) in
      let acts : act known here line.text ≡ done = ap (acted_by known line.text here) is
      ∙ ap (λ (b : Bool). if b then condition_opened line.text asked here
      else own (remarks_of flag_O []) (record here { conditions = past conditions })) has
      ∙ ap (λ (b : Bool). own remarks (at (entering b conditions) (taken + 1) left)) answers in
      let faults : act_fault here line.text ≡ None = ap (fault_by here) is in
      one_line known conditions macros bytes created taken line left done live most acts faults

  closes_condition : (taken column : ℕ) (line : SourceLine) (left : List RemainingItem) (holds : Bool) → conditions.is_past ≡ false
      → operation (entering holds conditions) macros line.text ≡ OwnDirective word.Endc column
      → move (at (entering holds conditions) taken (Line line ∷ left))
      ≡ Gives (record { line = line; is_expanded = is_expanding left }) (at (entering holds conditions) (taken + 1) left)
      → taken + 1 ≤ most_lines
      → Leads (at (entering holds conditions) taken (Line line ∷ left)) (own_live_line known left line (flagged 0 line.text column) ∷ [])
      (at conditions (taken + 1) left)
  closes_condition taken column line left holds none is gives most =
      let c : OpenConditions = entering holds conditions in
      let before : Stage = at c taken (Line line ∷ left) in
      let here : Stage = at c (taken + 1) left in
      let remarks : Remarks = flagged 0 line.text column in
      let done : Acted = own remarks (at conditions (taken + 1) left) in
      let some : (length c.entered == 0) ≡ false = grind (arith, nat_tests) in
      let acts : act known here line.text ≡ done = ap (acted_by known line.text here) is
      ∙ ap (λ (b : Bool). if not b && length c.entered == 0 then own (flagged flag_O line.text column) here
      else own remarks (at (closed c) (taken + 1) left)) none
      ∙ ap (λ (b : Bool). if b then own (flagged flag_O line.text column) here else own remarks (at (closed c) (taken + 1) left)) some
      ∙ ap (λ (o : OpenConditions). own remarks (at o (taken + 1) left)) (closes_again conditions holds none) in
      let faults : act_fault here line.text ≡ None = ap (fault_by here) is in
      let shown : Live = record { line = line; is_expanded = is_expanding left } in
      let P : Acted → Type 0 = λ a. Leads before (acted_given known left line a ∷ []) a.after in
      subst P acts (steps.Leads.Giving [] before here shown known steps.Leads.Stays
      (no_fault c macros bytes created taken 0 line left (omega (arith, most))) gives faults)

  -- ---- the lines of a condition that doesn't hold

  pub skipped_lines : (before : Stage) (done : List UnfoldedLine) (left : List RemainingItem) → conditions.is_past ≡ false
      → (lines : List SourceLine) (taken : ℕ) → ForeignHere conditions macros lines → taken + length lines ≤ most_lines
      → Leads before done (at (entering false conditions) taken (map line_left lines ++ left))
      → Leads before done (at (entering false conditions) (taken + length lines) left)
  skipped_lines before done left none [] taken foreign most so_far =
      let Q : ℕ → Type 0 = λ n. Leads before done (at (entering false conditions) n left) in
      let same : taken ≡ taken + 0 = omega arith in
      subst Q same so_far
  skipped_lines before done left none (line ∷ lines) taken foreign most so_far =
      let c : OpenConditions = entering false conditions in
      let rest : List RemainingItem = map line_left lines ++ left in
      let here : Stage = at c (taken + 1) rest in
      let moves : move (at c taken (Line line ∷ rest)) ≡ Passes here
      = ap (λ (b : Bool). live_or_skipped (if b then skipped_by c (directive line.text) else None) line here) (skipping_in_false conditions none)
      ∙ ap (λ (d : Option Directive). live_or_skipped (skipped_by c d) line here) (has_no_word macros conditions line.text foreign.0) in
      let next = steps.Leads.Passing done (at c taken (Line line ∷ rest)) here so_far
      (no_fault c macros bytes created taken (length lines) line rest most) moves in
      let later = skipped_lines before done left none lines (taken + 1) foreign.1 (omega (arith, most)) next in
      let Q : ℕ → Type 0 = λ n. Leads before done (at c n left) in
      let sum : taken + 1 + length lines ≡ taken + suc (length lines) = omega arith in
      subst Q sum later

  pub close_is_live : (taken column : ℕ) (line : SourceLine) (left : List RemainingItem) → conditions.is_past ≡ false → conditions.nested ≡ 0
      → operation conditions macros line.text ≡ OwnDirective word.Endc column
      → move (at (entering false conditions) taken (Line line ∷ left))
      ≡ Gives (record { line = line; is_expanded = is_expanding left }) (at (entering false conditions) (taken + 1) left)
  close_is_live taken column line left none outermost is =
      let c : OpenConditions = entering false conditions in
      let here : Stage = at c (taken + 1) left in
      ap (λ (b : Bool). live_or_skipped (if b then skipped_by c (directive line.text) else None) line here) (skipping_in_false conditions none)
      ∙ ap (λ (d : Option Directive). live_or_skipped (skipped_by c d) line here) (has_word macros conditions line.text column word.Endc is)
      ∙ ap (λ (n : ℕ). live_or_skipped (if n == 0 then None else Some (unnested c)) line here) outermost

-- ---- the whole block

module _ (known : KnownSymbols) (stage : Stage) (block : Block) (column end : ℕ) where
  abbrev at_stage : OpenConditions → ℕ → List RemainingItem → Stage
  at_stage c taken left = stage_at c stage.macros stage.defined_bytes stage.created taken left

  abbrev rest : List RemainingItem
  rest = Line block.close ∷ block.left

  abbrev all : List RemainingItem
  all = map line_left block.lines ++ rest

  abbrev head_given : UnfoldedLine
  head_given = own_live_line known block.left block.first (condition_remarks known block.first.text column)

  abbrev close_given : UnfoldedLine
  close_given = own_live_line known block.left block.close (flagged 0 block.close.text end)

  begins : (holds : Bool) → IsLive stage → IsDirective stage block.first word.If column
      → (condition known block.first.text column).holds ≡ holds → HasConditionLeft stage block → stage.taken + 1 ≤ most_lines
      → Leads (at_stage stage.conditions stage.taken (Line block.first ∷ all)) (head_given ∷ [])
      (at_stage (entering holds stage.conditions) (stage.taken + 1) all)
  begins holds live is answers room most =
      let before : Stage = at_stage stage.conditions stage.taken (Line block.first ∷ all) in
      let after : Stage = at_stage (entering holds stage.conditions) (stage.taken + 1) all in
      let marked : marks all ≡ marks block.left = same_marks block.lines rest in
      let P : List Mark → Type 0 = λ m. length stage.conditions.entered + conditions_in m < most_conditions in
      let room' : length stage.conditions.entered + conditions_in (marks all) < most_conditions = subst P (sym marked) room in
      let told : List Mark → UnfoldedLine = λ m. record {
        live = record { line = block.first; is_expanded = has_mark m };
        known = known;
        is_own = true;
        remarks = condition_remarks known block.first.text column;
        arguments = count_in m;
      } in
      let Q : List Mark → Type 0 = λ m. Leads before (told m ∷ []) after in
      subst Q marked (opens_condition known stage.conditions stage.macros stage.defined_bytes stage.created stage.taken column block.first all
      holds live.taking is answers room' most)

  pub condition_holds : IsLive stage → IsDirective stage block.first word.If column → (condition known block.first.text column).holds ≡ true
      → HasConditionLeft stage block → AreForeign stage block.lines → IsDirective stage block.close word.Endc end
      → stage.taken + (length block.lines + 2) ≤ most_lines
      → Leads (before_block stage block) (head_given ∷ map (foreign_live_line known block.left) block.lines ++ close_given ∷ [])
      (after_block stage block 0)
  condition_holds live is answers room foreign closing most =
      let n : ℕ = length block.lines in
      let c : OpenConditions = entering true stage.conditions in
      let none = not_past stage.conditions live.taking in
      let inside : is_skipping c ≡ false = live_in_true stage.conditions none in
      let same : is_skipping stage.conditions ≡ is_skipping c = live.taking ∙ sym inside in
      let before : Stage = at_stage stage.conditions stage.taken (Line block.first ∷ all) in
      let begun = begins true live is answers room (omega (arith, most)) in
      let looked : ForeignHere c stage.macros block.lines
      = foreign_alike stage.macros stage.conditions c block.lines same (looked_up stage block.lines foreign) in
      let lines_left : stage.taken + 1 + n ≤ most_lines = omega (arith, most) in
      let lines = onwards before known c stage.macros stage.defined_bytes stage.created rest inside block.lines (stage.taken + 1)
      (head_given ∷ []) looked lines_left begun in
      let is' : operation c stage.macros block.close.text ≡ OwnDirective word.Endc end
      = sym (alike stage.macros stage.conditions c block.close.text same) ∙ closing in
      let ends = closes_condition known stage.conditions stage.macros stage.defined_bytes stage.created (stage.taken + 1 + n) end block.close
      block.left true none is' (becomes_live c stage.macros stage.defined_bytes stage.created (stage.taken + 1 + n) block.close block.left inside)
      (omega (arith, most)) in
      let last : ℕ → Stage = λ m. at_stage stage.conditions m block.left in
      let whole = follows before (at_stage c (stage.taken + 1 + n) rest) (last (stage.taken + 1 + n + 1))
      (head_given ∷ map (foreign_live_line known block.left) block.lines) (close_given ∷ []) lines ends in
      let sum : stage.taken + 1 + n + 1 ≡ stage.taken + (n + 2) + 0 = omega arith in
      let Q : ℕ → Type 0 = λ m. Leads before (head_given ∷ map (foreign_live_line known block.left) block.lines ++ close_given ∷ []) (last m) in
      let stood : Leads before (head_given ∷ map (foreign_live_line known block.left) block.lines ++ close_given ∷ [])
      (last (stage.taken + (n + 2) + 0)) = subst Q sum whole in
      rw (live.no_body, live.going_on) stood

  pub condition_fails : IsLive stage → IsDirective stage block.first word.If column → (condition known block.first.text column).holds ≡ false
      → HasConditionLeft stage block → stage.conditions.nested ≡ 0 → AreForeign stage block.lines
      → IsDirective stage block.close word.Endc end → stage.taken + (length block.lines + 2) ≤ most_lines
      → Leads (before_block stage block) (head_given ∷ close_given ∷ []) (after_block stage block 0)
  condition_fails live is answers room outermost foreign closing most =
      let n : ℕ = length block.lines in
      let c : OpenConditions = entering false stage.conditions in
      let none = not_past stage.conditions live.taking in
      let skips : is_skipping c ≡ true = skipping_in_false stage.conditions none in
      let before : Stage = at_stage stage.conditions stage.taken (Line block.first ∷ all) in
      let begun = begins false live is answers room (omega (arith, most)) in
      let lines_left : stage.taken + 1 + n ≤ most_lines = omega (arith, most) in
      let lines = skipped_lines known stage.conditions stage.macros stage.defined_bytes stage.created before (head_given ∷ []) rest none
      block.lines (stage.taken + 1) (looked_up stage block.lines foreign) lines_left begun in
      let is' : operation c stage.macros block.close.text ≡ OwnDirective word.Endc end
      = directive_skipping stage.macros stage.conditions c block.close.text end word.Endc skips closing in
      let ends = closes_condition known stage.conditions stage.macros stage.defined_bytes stage.created (stage.taken + 1 + n) end block.close
      block.left false none is' (close_is_live known stage.conditions stage.macros stage.defined_bytes stage.created (stage.taken + 1 + n) end
      block.close block.left none outermost closing) (omega (arith, most)) in
      let last : ℕ → Stage = λ m. at_stage stage.conditions m block.left in
      let whole = follows before (at_stage c (stage.taken + 1 + n) rest) (last (stage.taken + 1 + n + 1))
      (head_given ∷ []) (close_given ∷ []) lines ends in
      let sum : stage.taken + 1 + n + 1 ≡ stage.taken + (n + 2) + 0 = omega arith in
      let Q : ℕ → Type 0 = λ m. Leads before (head_given ∷ close_given ∷ []) (last m) in
      let stood : Leads before (head_given ∷ close_given ∷ []) (last (stage.taken + (n + 2) + 0)) = subst Q sum whole in
      rw (live.no_body, live.going_on) stood
