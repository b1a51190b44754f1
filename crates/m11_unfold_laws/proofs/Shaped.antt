-- Lines with a shape have its live lines.
use Rattle.std.proofs.Common.{◌≡◌, ◌∙◌, ℕ, ◌+◌, Bool, true, false, List, [], ◌∷◌, ◌++◌, length, map, append-nil, Option, Some, None, refl, sym, ap, subst, arith}
use Rattle.std.specs.Prelude.{if◌then◌else◌, nat_lt, ⊤}
use Rattle.std.proofs.lemmas.List.{length-map}
use Rattle.m11_unfold_rules.specs.declared.macros.MacroFormal.{MacroFormal}
use Rattle.m11_base.specs.Devices.{Bytes}
use Rattle.m11_base.specs.Rad50.{Name}
use Rattle.m11_scan.specs.Line.{SourceLine}
use Rattle.m11_unfold_rules.specs.Actuals as actuals
use Rattle.m11_unfold_rules.specs.Actuals.{actuals_from}
use Rattle.m11_unfold_rules.specs.Conditions.{condition}
use Rattle.m11_unfold_rules.specs.Directives.{directive}
use Rattle.m11_unfold_rules.specs.declared.directives.Directive.{Directive}
use Rattle.m11_scan_expressions.specs.Expressions.{KnownSymbols}
use Rattle.m11_unfold_rules.specs.Filling.{filled}
use Rattle.m11_unfold_rules.specs.Immediate as immediate
use Rattle.m11_scan_expressions.specs.Remarks.{Remarks, remarks_of}
use Rattle.m11_unfold_rules.specs.declared.directives.Directive.TheVariants as word
use Rattle.m11_unfold_bodies.specs.Bodies.{Cut, cut_at, nothing_taken, texts_of}
use Rattle.m11_unfold_bodies.specs.Conditions.{is_live_in, is_live_inside, most_conditions, past}
use Rattle.m11_unfold_bodies.specs.Left.{RemainingItem, Line, End, after_mark, conditions_in, count_in, expanded, has_mark, is_expanding, marks}
use Rattle.m11_unfold_bodies.specs.declared.mark.Mark.{Mark}
use Rattle.m11_unfold_rules.specs.Acting.{Acted, Calls, OwnDirective, Operation, act, acted_by, condition_opened, flagged, foreign, flag_O, opens, operation, own}
use Rattle.m11_unfold_rules.specs.Constructs.{condition_remarks, round_lines}
use Rattle.m11_unfold_rules.specs.Stages.{Macro, Purpose, Defines, Repeats, Drops, Stage, line_left}
use Rattle.m11_unfold_rules.specs.Taking.{Gives, Live, move, nesting, skipped_by, used}
use Rattle.m11_unfold_rules.specs.Unfolding.{UnfoldedLine, given}
use Rattle.m11_unfold_rules.proofs.Cases.{live_or_skipped, with_statement}
use Rattle.m11_unfold_rules.proofs.Expanding.{as_lines}
use Rattle.m11_unfold_rules.proofs.Operators.{has_word}
use Rattle.m11_unfold_rules.proofs.OtherLines.{same_marks}
use Rattle.m11_unfold_laws.specs.Laws.{Arrived, IsStopped, before_lines}
use Rattle.m11_unfold_laws.specs.Levels.{Level, Situation, counting, defining, has_condition_left, mark_at, only_entered, operation_at, own_line, stage_of, within_condition, within_expansion}
use Rattle.m11_unfold_laws.specs.Putting.{HasBody, HasNoClose, Opens, Put, Puts}
use Rattle.m11_unfold_laws.specs.Putting as putting
use Rattle.m11_unfold_laws.specs.Shapes.{Begins, Ending, GoesOn, Stops, Ends, IsAstray, IsOther, IsText, OnePart, Parts, Returns, Shape, statement, statement_of, unclosed}
use Rattle.m11_unfold_laws.specs.Shapes as shapes
use Rattle.m11_unfold_laws.proofs.Bodies.{IsOpenAt, closes, stays_open}
use Rattle.m11_unfold_laws.proofs.Lines.{begin_comes, close_comes, cut_further, cut_open, line_by, line_then, parted, past_lines}
use Rattle.m11_unfold_laws.proofs.Runs.{Runs, and_then, from_same, gives_line, passes, stays, weakened}
use Rattle.m11_unfold_laws.proofs.Texts.{skips_text, text_stage}
use Rattle.m11_unfold_laws.proofs.Words.{astray_acts, begins_acts, close_acts, opens_acts, other_acts}

-- lines that stop their expansion are all that is left of it
abbrev pub AtEnd : Ending → List RemainingItem → Type 0
AtEnd GoesOn left = ⊤
AtEnd Stops left = after_mark left ≡ left
AtEnd Ends left = ⊤

pub at_mark : (ending : Ending) (mark : Mark) (left : List RemainingItem) → AtEnd ending (End mark ∷ left)
at_mark GoesOn mark left = tt
at_mark Stops mark left = refl
at_mark Ends mark left = tt

-- ---- bodies

module _ (level : Level) (before : Situation) (purpose : Purpose) (lines others : List SourceLine) (body : List Bytes)
    (left : List RemainingItem) where
  abbrev open_body : Stage
  open_body = opens purpose (stage_of level (counting 1 before) (map line_left lines ++ left))

  pub body_used : HasBody lines body others
      → Runs open_body [] (λ s. s
      ≡ used purpose body (stage_of level (counting (length body + 2) before) (map line_left others ++ left)))
  body_used has =
      let all : List RemainingItem = map line_left lines ++ left in
      let stage : Stage = stage_of level (counting 1 before) all in
      let shut : (cut_at nesting 0 (map line_left lines)).is_closed ≡ true = ap (λ (c : Cut). c.is_closed) has in
      let cut : Cut = record { body = body; is_closed = true; after = map line_left others ++ left } in
      let same : cut_at nesting 0 all ≡ cut = cut_further lines left 0 shut
      ∙ ap (λ (c : Cut). record c { after = c.after ++ left }) has in
      let shut' : (cut_at nesting 0 all).is_closed ≡ true = ap (λ (c : Cut). c.is_closed) same in
      let by : ℕ → Cut → Stage = λ n c. used purpose c.body (stage_of level (record before { taken = n }) c.after) in
      let sum : before.taken + 1 + (length body + 1) ≡ before.taken + (length body + 2) = omega arith in
      let P : Stage → Type 0 = λ s. s ≡ by (before.taken + (length body + 2)) cut in
      let there : by (before.taken + 1 + (length (cut_at nesting 0 all).body + 1)) (cut_at nesting 0 all)
      ≡ by (before.taken + (length body + 2)) cut
      = ap (λ (c : Cut). by (before.taken + 1 + (length c.body + 1)) c) same ∙ ap (λ (n : ℕ). by n cut) sum in
      weakened (λ s. s ≡ by (before.taken + 1 + (length (cut_at nesting 0 all).body + 1)) (cut_at nesting 0 all)) P open_body []
      (λ s is. is ∙ there) (closes purpose stage all nothing_taken (before.taken + 1) shut')

module _ (level : Level) (before : Situation) (purpose : Purpose) (lines : List SourceLine) (left : List RemainingItem) where
  pub body_open : HasNoClose lines → after_mark left ≡ left
      → Runs (opens purpose (stage_of level (counting 1 before) (map line_left lines ++ left))) []
      (IsStopped (counting (length lines + 1) before) left)
  body_open shut ends =
      let all : List RemainingItem = map line_left lines ++ left in
      let stage : Stage = stage_of level (counting 1 before) all in
      let cut : Cut = record { body = texts_of lines; is_closed = false; after = left } in
      let same : cut_at nesting 0 all ≡ cut = cut_open lines left 0 ends shut in
      let shut' : (cut_at nesting 0 all).is_closed ≡ false = ap (λ (c : Cut). c.is_closed) same in
      let long : length (texts_of lines) ≡ length lines = length-map lines (λ l. l.text) in
      let sum : before.taken + 1 + length (texts_of lines) ≡ before.taken + (length lines + 1) = omega (arith, long) in
      let by : ℕ → ℕ → Cut → Stage = λ inner n c. record (stage_of level (record before { taken = n }) c.after) {
        opening = Some (record { purpose = purpose; taken = record { body = c.body; depth = inner } });
      } in
      weakened (IsOpenAt purpose stage nothing_taken (before.taken + 1) (cut_at nesting 0 all))
      (IsStopped (counting (length lines + 1) before) left)
      (opens purpose stage) []
      (λ s stood. record {
        conditions = only_entered level.entered;
        opening = Some (record { purpose = purpose; taken = record { body = texts_of lines; depth = stood.inner } });
        is = stood.is ∙ ap (λ (c : Cut). by stood.inner (before.taken + 1 + length c.body) c) same
            ∙ ap (λ (n : ℕ). by stood.inner n cut) sum;
      })
      (stays_open purpose stage all nothing_taken (before.taken + 1) shut')

-- ---- expansions

module _ (level : Level) (before : Situation) (known : KnownSymbols) (line : SourceLine) (lines : List SourceLine) (left : List RemainingItem)
  where
    abbrev rest : List RemainingItem
    rest = map line_left lines ++ left

    abbrev here : Stage
    here = stage_of level (counting 1 before) rest

    -- the stage with the lines of an expansion in place of its line, and the end of the expansion after them
    abbrev pub put_there : Put → Stage
    put_there put = stage_of (within_expansion put.arguments put.bytes level) put.situation
        (map line_left put.lines ++ End (mark_at level put.arguments put.bytes) ∷ (map line_left put.others ++ left))

    -- the line becomes live, and its expansion replaces it
    abbrev Stands : Put → Type 0
    Stands put = Runs (stage_of level before (Line line ∷ rest)) (own_line level known line put.remarks ∷ []) (λ s. s
        ≡ put_there put)

    pub call_acts : (macro : Macro) (at : ℕ) → operation_at level before line ≡ Calls macro at
        → acted_by known line.text here (operation_at level before line)
        ≡ own (actuals_from known line.text (length macro.formals) at).remarks
        (put_there (putting.put_by_call macro (actuals_from known line.text (length macro.formals) at) before lines))
    call_acts macro at is =
        let given : actuals.ActualTexts = actuals_from known line.text (length macro.formals) at in
        let put : Put = putting.put_by_call macro given before lines in
        let formals : List Name = map (λ (formal : MacroFormal). formal.name) macro.formals in
        let texts : List Bytes = (filled macro.formals given.texts before.created).texts in
        let mark : Mark = mark_at level put.arguments put.bytes in
        let inside : List RemainingItem → Stage = λ l. stage_of (within_expansion put.arguments put.bytes level) put.situation l in
        let lefts : expanded formals (texts ∷ []) macro.body mark rest ≡ map line_left put.lines ++ End mark ∷ rest
        = as_lines formals (texts ∷ []) macro.body mark rest
        ∙ ap (λ (ls : List SourceLine). map line_left ls ++ End mark ∷ rest)
        (append-nil (round_lines formals macro.body texts)) in
        ap (acted_by known line.text here) is ∙ ap (λ (l : List RemainingItem). own given.remarks (inside l)) lefts

    call_stands : (macro : Macro) (at : ℕ) → operation_at level before line ≡ Calls macro at
        → marks left ≡ level.around → is_live_inside level.entered ≡ true
        → Stands (putting.put_by_call macro (actuals_from known line.text (length macro.formals) at) before lines)
    call_stands macro at is around taking =
        let given : actuals.ActualTexts = actuals_from known line.text (length macro.formals) at in
        let put : Put = putting.put_by_call macro given before lines in
        let P : Stage → Type 0 = λ s. s ≡ put_there put in
        line_then P level before known line rest (own given.remarks (put_there put)) [] (same_marks lines left ∙ around) taking
        (call_acts macro at is) (stays P (put_there put) refl)

    repeat_stands : (remarks : Remarks) (formals : List Name) (rounds : List (List Bytes)) (body : List Bytes)
        (others : List SourceLine)
        → Opens known line.text (operation_at level before line) remarks (Repeats formals rounds) → HasBody lines body others
        → marks left ≡ level.around → is_live_inside level.entered ≡ true
        → Stands (putting.put_by_repeat remarks formals rounds body before others)
    repeat_stands remarks formals rounds body others is has around taking =
        let put : Put = putting.put_by_repeat remarks formals rounds body before others in
        let mark : Mark = mark_at level put.arguments put.bytes in
        let after : List RemainingItem = map line_left others ++ left in
        let inside : List RemainingItem → Stage = λ l. stage_of (within_expansion put.arguments put.bytes level) put.situation l in
        let P : Stage → Type 0 = λ s. s ≡ put_there put in
        let Q : Stage → Type 0 = λ s. s
        ≡ used (Repeats formals rounds) body (stage_of level (counting (length body + 2) before) after) in
        let same : inside (expanded formals rounds body mark after) ≡ put_there put
        = ap inside (as_lines formals rounds body mark after) in
        let stood : Runs (opens (Repeats formals rounds) here) [] P
        = weakened Q P (opens (Repeats formals rounds) here) [] (λ s stands. stands ∙ same)
        (body_used level before (Repeats formals rounds) lines others body left has) in
        line_then P level before known line rest (own remarks (opens (Repeats formals rounds) here)) [] (same_marks lines left
        ∙ around) taking
        (opens_acts known line.text here (operation_at level before line) remarks (Repeats formals rounds) is) stood

    stands : (operator : Operation) (put : Put) → operation_at level before line ≡ operator
        → Puts known before line.text lines operator put → marks left ≡ level.around → is_live_inside level.entered ≡ true
        → Stands put
    stands _ _ is (putting.Puts.Call macro at) around taking = call_stands macro at is around taking
    stands _ _ is (putting.Puts.Repeat operator remarks formals rounds body others opened has) around taking =
        repeat_stands remarks formals rounds body others
        (subst (λ (o : Operation). Opens known line.text o remarks (Repeats formals rounds)) (sym is) opened) has around taking

-- from the stage after the lines of an expansion, a run without live lines leads out of the expansion
pub returned : (level : Level) (middle : Situation) (arguments : Option ℕ) (bytes : ℕ) (left : List RemainingItem) (inner : Ending)
    (stage : Stage)
    → Returns inner → Arrived inner (within_expansion arguments bytes level) middle (End (mark_at level arguments bytes) ∷ left)
    stage
    → Runs stage [] (λ s. s ≡ stage_of level middle left)
returned level middle arguments bytes left GoesOn stage returns there =
    let P : Stage → Type 0 = λ s. s ≡ stage_of level middle left in
    let last : Stage = stage_of (within_expansion arguments bytes level) middle (End (mark_at level arguments bytes) ∷ left) in
    from_same P stage last [] there (passes P last (stage_of level middle left) refl refl)
returned level middle arguments bytes left Stops stage returns there =
    let P : Stage → Type 0 = λ s. s ≡ stage_of level middle left in
    let last : Stage = record (stage_of level middle (End (mark_at level arguments bytes) ∷ left)) {
      conditions = there.conditions;
      opening = there.opening;
    } in
    from_same P stage last [] there.is (passes P last (stage_of level middle left) refl refl)
returned level middle arguments bytes left Ends stage returns there = absurd returns

-- ---- conditions

unclosed_end : (ending : Ending) (left : List RemainingItem) → AtEnd (unclosed ending) left → AtEnd ending left
unclosed_end GoesOn left at = tt
unclosed_end Stops left at = at
unclosed_end Ends left at = tt

pub unclosed_arrived : (ending : Ending) (level : Level) (holds is_live : Bool) (after : Situation) (left : List RemainingItem)
    (stage : Stage)
    → Arrived ending (within_condition holds is_live level) after left stage → Arrived (unclosed ending) level after left stage
unclosed_arrived GoesOn level holds is_live after left stage there = record {
  conditions = only_entered (within_condition holds is_live level).entered;
  opening = None;
  is = there;
}
unclosed_arrived Stops level holds is_live after left stage there = there
unclosed_arrived Ends level holds is_live after left stage there = there

module _ (level : Level) (before : Situation) (known : KnownSymbols) (line : SourceLine) (left : List RemainingItem) (at : ℕ) where
  abbrev if_here : Stage
  if_here = stage_of level (counting 1 before) left

  pub if_acts : (room : Bool) → operation_at level before line ≡ OwnDirective word.If at → marks left ≡ level.around
      → has_condition_left level ≡ room
      → acted_by known line.text if_here (operation_at level before line)
      ≡ (if room then condition_opened line.text (condition known line.text at) if_here
      else own (remarks_of flag_O []) (record if_here { conditions = past (only_entered level.entered) }))
  if_acts room is around has =
      let by : Bool → Acted = λ b. if b then condition_opened line.text (condition known line.text at) if_here
      else own (remarks_of flag_O []) (record if_here { conditions = past (only_entered level.entered) }) in
      ap (acted_by known line.text if_here) is
      ∙ ap (λ (m : List Mark). by (nat_lt (length level.entered + conditions_in m) most_conditions)) around
      ∙ ap by has

-- ---- `.IIF`

pub with_next : (level : Level) (situation : Situation) (text : Bytes) (holds : Bool) (at : Option ℕ) (lines : List SourceLine)
    (left : List RemainingItem)
    → with_statement text holds at (stage_of level situation (map line_left lines ++ left))
    ≡ stage_of level situation (map line_left (statement_of text holds at ++ lines) ++ left)
with_next level situation text true (Some at) lines left = refl
with_next level situation text true None lines left = refl
with_next level situation text false at lines left = refl

-- ---- the cases of conditions

-- a 33rd condition, and the text up to its `.ENDC`
module _ (P : Stage → Type 0) (level : Level) (before : Situation) (known last : KnownSymbols) (line close : SourceLine)
    (text lines : List SourceLine)
    (gives : List UnfoldedLine) (at end : ℕ) (left : List RemainingItem) where
  abbrev refused_end : UnfoldedLine
  refused_end = own_line level last close (flagged 0 close.text end)

  abbrev after_text : List RemainingItem
  after_text = map line_left lines ++ left

  close_refused : operation (past (only_entered level.entered)) before.macros close.text ≡ OwnDirective word.Endc end
      → directive close.text ≡ Some word.Endc → marks left ≡ level.around
      → Runs (stage_of level (counting (length text + 2) before) after_text) gives P
      → Runs (text_stage true level 0 (counting (length text) (counting 1 before)) (Line close ∷ after_text))
      (refused_end ∷ gives) P
  close_refused is word around next =
      let count : before.taken + 1 + length text + 1 ≡ before.taken + (length text + 2) = omega arith in
      let here : Stage = text_stage true level 0 (counting 1 (counting (length text) (counting 1 before))) after_text in
      let stands : Stage = text_stage true level 0 (counting (length text) (counting 1 before)) (Line close ∷ after_text) in
      let there : Stage = stage_of level (counting 1 (counting (length text) (counting 1 before))) after_text in
      let live : Live = record { line = close; is_expanded = is_expanding after_text } in
      let moves : move stands ≡ Gives live here
      = ap (λ (w : Option Directive). live_or_skipped (skipped_by (past (only_entered level.entered)) w) close here) word in
      let acted : Acted = own (flagged 0 close.text end) there in
      let acts : act last here close.text ≡ acted = ap (acted_by last close.text here) is in
      let told : List Mark → Acted → UnfoldedLine = λ m a. record {
        live = record { line = close; is_expanded = has_mark m };
        known = last;
        is_own = a.is_own;
        remarks = a.remarks;
        arguments = count_in m;
      } in
      let same : given last live here ≡ refused_end
      = ap (told (marks after_text)) acts ∙ ap (λ (m : List Mark). told m acted) (same_marks lines left ∙ around) in
      let Q : Stage → Type 0 = λ s. s ≡ stage_of level (counting (length text + 2) before) after_text in
      let counted : there ≡ stage_of level (counting (length text + 2) before) after_text
      = ap (λ (n : ℕ). stage_of level (record before { taken = n }) after_text) count in
      and_then Q P stands (refused_end ∷ []) gives (gives_line Q stands here live last refused_end acted moves acts same counted)
      (λ s stood. from_same P s (stage_of level (counting (length text + 2) before) after_text) gives stood next)

  refused_runs : operation_at level before line ≡ OwnDirective word.If at → has_condition_left level ≡ false → IsText true 0 text 0
      → operation (past (only_entered level.entered)) before.macros close.text ≡ OwnDirective word.Endc end
      → marks left ≡ level.around → is_live_inside level.entered ≡ true
      → Runs (stage_of level (counting (length text + 2) before) after_text) gives P
      → Runs (stage_of level before (map line_left (line ∷ text ++ close ∷ lines) ++ left))
      (own_line level known line (remarks_of flag_O []) ∷ refused_end ∷ gives) P
  refused_runs is none skipped closing around taking next =
      let rest : List RemainingItem = map line_left (text ++ close ∷ lines) ++ left in
      let here : Stage = text_stage true level 0 (counting 1 before) rest in
      let word : directive close.text ≡ Some word.Endc
      = has_word before.macros (past (only_entered level.entered)) close.text end word.Endc closing in
      let closed : Stage = text_stage true level 0 (counting (length text) (counting 1 before)) (Line close ∷ after_text) in
      let Q : Stage → Type 0 = λ s. s ≡ closed in
      let split : rest ≡ map line_left text ++ (Line close ∷ after_text) = parted text (close ∷ lines) left in
      let read : Runs here [] Q
      = from_same Q here (text_stage true level 0 (counting 1 before) (map line_left text ++ (Line close ∷ after_text))) []
      (ap (text_stage true level 0 (counting 1 before)) split)
      (skips_text true level 0 text 0 skipped (counting 1 before) (Line close ∷ after_text) refl) in
      let further : Runs here (refused_end ∷ gives) P
      = and_then Q P here [] (refused_end ∷ gives) read
      (λ s stood. from_same P s closed (refused_end ∷ gives) stood (close_refused closing word around next)) in
      line_then P level before known line rest (own (remarks_of flag_O []) here) (refused_end ∷ gives)
      (same_marks (text ++ close ∷ lines) left ∙ around) taking
      (if_acts level before known line rest at false is (same_marks (text ++ close ∷ lines) left ∙ around) none) further

-- a part, and then a directive of the condition
module _ (P : Stage → Type 0) (level : Level) (holds is_live : Bool) (before middle : Situation) (known : KnownSymbols)
    (line : SourceLine)
    (lines others : List SourceLine) (gives later : List UnfoldedLine) (remarks : Remarks) (left : List RemainingItem) where
  abbrev part_stage : Bool → Situation → List RemainingItem → Stage
  part_stage live situation l = stage_of (within_condition holds live level) situation l

  abbrev others_left : List RemainingItem
  others_left = map line_left others ++ left

  after_part : (there : Stage)
      → Runs (part_stage is_live before (map line_left lines ++ (Line line ∷ others_left))) gives
      (λ s. s ≡ part_stage is_live middle (Line line ∷ others_left))
      → marks left ≡ level.around
      → move (part_stage is_live middle (Line line ∷ others_left))
      ≡ Gives (record { line = line; is_expanded = is_expanding others_left })
      (part_stage is_live (counting 1 middle) others_left)
      → acted_by known line.text (part_stage is_live (counting 1 middle) others_left)
      (operation_at (within_condition holds is_live level) middle line) ≡ own remarks there
      → Runs there later P
      → Runs (part_stage is_live before (map line_left (lines ++ line ∷ others) ++ left))
      (gives ++ own_line level known line remarks ∷ later) P
  after_part there part around moves acts next =
      let Q : Stage → Type 0 = λ s. s ≡ part_stage is_live middle (Line line ∷ others_left) in
      let told : List UnfoldedLine = own_line level known line remarks ∷ later in
      let word : Runs (part_stage is_live middle (Line line ∷ others_left)) told P
      = line_by P (within_condition holds is_live level) middle known line others_left (own remarks there) later
      (same_marks others left ∙ around) moves acts next in
      from_same P (part_stage is_live before (map line_left (lines ++ line ∷ others) ++ left))
      (part_stage is_live before (map line_left lines ++ (Line line ∷ others_left))) (gives ++ told)
      (ap (part_stage is_live before) (parted lines (line ∷ others) left))
      (and_then Q P (part_stage is_live before (map line_left lines ++ (Line line ∷ others_left))) gives told part
      (λ s stood. from_same P s (part_stage is_live middle (Line line ∷ others_left)) told stood word))

-- ---- all cases

mutual
  pub shape : (level : Level) (before : Situation) (lines : List SourceLine) (gives : List UnfoldedLine) (after : Situation)
      (ending : Ending)
      → Shape level before lines gives after ending → (left : List RemainingItem) → marks left ≡ level.around
      → is_live_inside level.entered ≡ true → AtEnd ending left
      → Runs (before_lines level before lines left) gives (Arrived ending level after left)
  shape _ _ _ _ _ _ (shapes.Shape.Nothing level before) left around taking end =
      stays (Arrived GoesOn level before left) (stage_of level before left) refl
  shape _ _ _ _ _ _ (shapes.Shape.Other level before after ending known line lines gives is next) left around taking end =
      let rest : List RemainingItem = map line_left lines ++ left in
      let here : Stage = stage_of level (counting 1 before) rest in
      line_then (Arrived ending level after left) level before known line rest (foreign here) gives (same_marks lines left
      ∙ around) taking
      (other_acts known line.text here (operation_at level before line) is)
      (shape level (counting 1 before) lines gives after ending next left around taking end)
  shape _ _ _ _ _ _ (shapes.Shape.Astray level before after ending known line lines gives remarks is next) left around taking end =
      let rest : List RemainingItem = map line_left lines ++ left in
      let here : Stage = stage_of level (counting 1 before) rest in
      line_then (Arrived ending level after left) level before known line rest (own remarks here) gives (same_marks lines left
      ∙ around) taking
      (astray_acts known line.text level (counting 1 before) rest (operation_at level before line) remarks (same_marks lines left
      ∙ around) is)
      (shape level (counting 1 before) lines gives after ending next left around taking end)
  shape _ _ _ _ _ _ (shapes.Shape.Expansion level before middle after inner ending known line lines gives later put puts body
      returns next)
      left around taking end =
      let mark : Mark = mark_at level put.arguments put.bytes in
      let others : List RemainingItem = map line_left put.others ++ left in
      let P : Stage → Type 0 = Arrived ending level after left in
      let Q : Stage → Type 0 = λ s. s ≡ put_there level before known line lines left put in
      let R : Stage → Type 0 = Arrived inner (within_expansion put.arguments put.bytes level) middle (End mark ∷ others) in
      let S : Stage → Type 0 = λ s. s ≡ stage_of level middle others in
      let begun : Runs (before_lines level before (line ∷ lines) left) (own_line level known line put.remarks ∷ []) Q
      = stands level before known line lines left (operation_at level before line) put refl puts around taking in
      let inside : Runs (put_there level before known line lines left put) gives R
      = shape (within_expansion put.arguments put.bytes level) put.situation put.lines gives middle inner body (End mark ∷ others)
      (ap (λ (m : List Mark). mark ∷ m) (same_marks put.others left ∙ around)) refl (at_mark inner mark others) in
      let beyond : Runs (stage_of level middle others) later P
      = shape level middle put.others later after ending next left around taking end in
      and_then Q P (before_lines level before (line ∷ lines) left) (own_line level known line put.remarks ∷ []) (gives ++ later)
      begun
      (λ s is. from_same P s (put_there level before known line lines left put) (gives ++ later) is
      (and_then R P (put_there level before known line lines left put) gives later inside
      (λ t there. and_then S P t [] later (returned level middle put.arguments put.bytes others inner t returns there)
      (λ u is'. from_same P u (stage_of level middle others) later is' beyond))))
  shape _ _ _ _ _ _ (shapes.Shape.LastExpansion level before after known line lines gives put puts body) left around taking end =
      let mark : Mark = mark_at level put.arguments put.bytes in
      let others : List RemainingItem = map line_left put.others ++ left in
      let P : Stage → Type 0 = Arrived Ends level after left in
      let Q : Stage → Type 0 = λ s. s ≡ put_there level before known line lines left put in
      let begun : Runs (before_lines level before (line ∷ lines) left) (own_line level known line put.remarks ∷ []) Q
      = stands level before known line lines left (operation_at level before line) put refl puts around taking in
      let inside : Runs (put_there level before known line lines left put) gives P
      = shape (within_expansion put.arguments put.bytes level) put.situation put.lines gives after Ends body (End mark ∷ others)
      (ap (λ (m : List Mark). mark ∷ m) (same_marks put.others left ∙ around)) refl tt in
      and_then Q P (before_lines level before (line ∷ lines) left) (own_line level known line put.remarks ∷ []) gives begun
      (λ s is. from_same P s (put_there level before known line lines left put) gives is inside)
  shape _ _ _ _ _ _ (shapes.Shape.Definition level before after ending known line lines others gives remarks name formals body is
      has next)
      left around taking end =
      let rest : List RemainingItem = map line_left lines ++ left in
      let here : Stage = stage_of level (counting 1 before) rest in
      let purpose : Purpose = Defines name formals in
      let P : Stage → Type 0 = Arrived ending level after left in
      let defined : Situation = defining name formals body (counting (length body + 2) before) in
      let Q : Stage → Type 0 = λ s. s ≡ stage_of level defined (map line_left others ++ left) in
      line_then P level before known line rest (own remarks (opens purpose here)) gives (same_marks lines left ∙ around) taking
      (opens_acts known line.text here (operation_at level before line) remarks purpose is)
      (and_then Q P (opens purpose here) [] gives (body_used level before purpose lines others body left has)
      (λ s stood. from_same P s (stage_of level defined (map line_left others ++ left)) gives stood
      (shape level defined others gives after ending next left around taking end)))
  shape _ _ _ _ _ _ (shapes.Shape.Dropped level before after ending known line lines others gives remarks body is has next)
      left around taking end =
      let rest : List RemainingItem = map line_left lines ++ left in
      let here : Stage = stage_of level (counting 1 before) rest in
      let P : Stage → Type 0 = Arrived ending level after left in
      let past_it : Situation = counting (length body + 2) before in
      let Q : Stage → Type 0 = λ s. s ≡ stage_of level past_it (map line_left others ++ left) in
      line_then P level before known line rest (own remarks (opens Drops here)) gives (same_marks lines left ∙ around) taking
      (opens_acts known line.text here (operation_at level before line) remarks Drops is)
      (and_then Q P (opens Drops here) [] gives (body_used level before Drops lines others body left has)
      (λ s stood. from_same P s (stage_of level past_it (map line_left others ++ left)) gives stood
      (shape level past_it others gives after ending next left around taking end)))
  shape _ _ _ _ _ _ (shapes.Shape.OpenBody level before known line lines remarks purpose is none) left around taking end =
      let rest : List RemainingItem = map line_left lines ++ left in
      let here : Stage = stage_of level (counting 1 before) rest in
      line_then (IsStopped (counting (length lines + 1) before) left) level before known line rest
      (own remarks (opens purpose here)) []
      (same_marks lines left ∙ around) taking
      (opens_acts known line.text here (operation_at level before line) remarks purpose is)
      (body_open level before purpose lines left none end)
  shape _ _ _ _ _ _ (shapes.Shape.Condition level before after ending known line lines gives at is room next) left around taking
      end =
      let rest : List RemainingItem = map line_left lines ++ left in
      let here : Stage = stage_of level (counting 1 before) rest in
      let holds : Bool = (condition known line.text at).holds in
      line_then (Arrived ending level after left) level before known line rest
      (own (condition_remarks known line.text at) (stage_of (within_condition holds holds level) (counting 1 before) rest)) gives
      (same_marks lines left ∙ around) taking
      (if_acts level before known line rest at true is (same_marks lines left ∙ around) room)
      (parts level holds holds (counting 1 before) lines gives after ending next left around taking end)
  shape _ _ _ _ _ _ (shapes.Shape.Refused level before after ending known last line close text lines gives at end' is none
      skipped closing next)
      left around taking end =
      refused_runs (Arrived ending level after left) level before known last line close text lines gives at end' left is none
      skipped closing
      around taking (shape level (counting (length text + 2) before) lines gives after ending next left around taking end)
  shape _ _ _ _ _ _ (shapes.Shape.OpenRefused level before known line lines at inner is none skipped) left around taking end =
      let rest : List RemainingItem = map line_left lines ++ left in
      let here : Stage = text_stage true level 0 (counting 1 before) rest in
      let sum : before.taken + 1 + length lines ≡ before.taken + (length lines + 1) = omega arith in
      line_then (IsStopped (counting (length lines + 1) before) left) level before known line rest
      (own (remarks_of flag_O []) here) []
      (same_marks lines left ∙ around) taking
      (if_acts level before known line rest at false is (same_marks lines left ∙ around) none)
      (weakened (λ s. s ≡ text_stage true level inner (counting (length lines) (counting 1 before)) left)
      (IsStopped (counting (length lines + 1) before) left) here []
      (λ s stood. record {
        conditions = record { entered = level.entered; nested = inner; is_past = true };
        opening = None;
        is = stood ∙ ap (λ (n : ℕ). text_stage true level inner (record before { taken = n }) left) sum;
      })
      (skips_text true level 0 lines inner skipped (counting 1 before) left refl))
  shape _ _ _ _ _ _ (shapes.Shape.Immediate level before after ending known line lines gives at is next) left around taking end =
      let rest : List RemainingItem = map line_left lines ++ left in
      let here : Stage = stage_of level (counting 1 before) rest in
      let there : Stage = stage_of level (counting 1 before) (map line_left (statement known line.text at ++ lines) ++ left) in
      let remarks : Remarks = immediate.remarks known line.text at in
      line_then (Arrived ending level after left) level before known line rest (own remarks there) gives (same_marks lines left
      ∙ around) taking
      (ap (acted_by known line.text here) is ∙ ap (own remarks) (with_next level (counting 1 before) line.text
      (immediate.immediate known line.text at).holds (immediate.immediate known line.text at).statement lines left))
      (shape level (counting 1 before) (statement known line.text at ++ lines) gives after ending next left around taking end)
  shape _ _ _ _ _ _ (shapes.Shape.Exit level before known line lines at is expanding) left around taking end =
      let rest : List RemainingItem = map line_left lines ++ left in
      let here : Stage = stage_of level (counting 1 before) rest in
      let there : Stage = stage_of level (counting 1 before) left in
      let remarks : Remarks = flagged 0 line.text at in
      let by : Bool → Acted = λ b.
      if b then own remarks (record here { left = after_mark rest }) else own (flagged flag_O line.text at) here in
      line_then (IsStopped (counting 1 before) left) level before known line rest (own remarks there) [] (same_marks lines left
      ∙ around) taking
      (ap (acted_by known line.text here) is ∙ ap (λ (m : List Mark). by (has_mark m)) (same_marks lines left ∙ around)
      ∙ ap by expanding
      ∙ ap (λ (l : List RemainingItem). own remarks (record here { left = l })) (past_lines lines left ∙ end))
      (stays (IsStopped (counting 1 before) left) there (record {
        conditions = only_entered level.entered;
        opening = None;
        is
            = refl;
      }))
  shape _ _ _ _ _ _ (shapes.Shape.End level before known line lines at is) left around taking end =
      let rest : List RemainingItem = map line_left lines ++ left in
      let here : Stage = stage_of level (counting 1 before) rest in
      line_then (Arrived Ends level (counting 1 before) left) level before known line rest
      (foreign (record here { has_ended = true })) []
      (same_marks lines left ∙ around) taking (ap (acted_by known line.text here) is)
      (stays (Arrived Ends level (counting 1 before) left) (record here { has_ended = true }) refl)

  parts : (level : Level) (holds is_live : Bool) (before : Situation) (lines : List SourceLine) (gives : List UnfoldedLine)
      (after : Situation)
      (ending : Ending) → Parts level holds is_live before lines gives after ending → (left : List RemainingItem)
      → marks left ≡ level.around
      → is_live_inside level.entered ≡ true → AtEnd ending left
      → Runs (before_lines (within_condition holds is_live level) before lines left) gives (Arrived ending level after left)
  parts _ _ _ _ _ _ _ _ (shapes.Parts.Next level holds is_live before middle after ending known line lines others gives later
      part at one
      begins next) left around taking end =
      let rest : List RemainingItem = map line_left others ++ left in
      let inside : Level = within_condition holds is_live level in
      after_part (Arrived ending level after left) level holds is_live before middle known line lines others gives later
      (flagged 0 line.text at) left
      (stage_of (within_condition holds (is_live_in part holds) level) (counting 1 middle) rest)
      (one_part level holds is_live before lines gives middle GoesOn one (Line line ∷ rest) (same_marks others left ∙ around) tt)
      around (begin_comes level holds middle line rest is_live (operation_at inside middle line) part at begins refl)
      (begins_acts known line.text level holds is_live (counting 1 middle) rest (operation_at inside middle line) part at begins)
      (parts level holds (is_live_in part holds) (counting 1 middle) others later after ending next left around taking end)
  parts _ _ _ _ _ _ _ _ (shapes.Parts.Close level holds is_live before middle after ending known line lines others gives later
      at one
      closing next) left around taking end =
      let rest : List RemainingItem = map line_left others ++ left in
      let here : Stage = stage_of (within_condition holds is_live level) (counting 1 middle) rest in
      after_part (Arrived ending level after left) level holds is_live before middle known line lines others gives later
      (flagged 0 line.text at) left
      (stage_of level (counting 1 middle) rest)
      (one_part level holds is_live before lines gives middle GoesOn one (Line line ∷ rest) (same_marks others left ∙ around) tt)
      around (close_comes level holds middle line rest is_live at closing)
      (ap (acted_by known line.text here) closing ∙ close_acts known line.text level holds is_live (counting 1 middle) rest at)
      (shape level (counting 1 middle) others later after ending next left around taking end)
  parts _ _ _ _ _ _ _ _ (shapes.Parts.ImmediateInPart level holds before middle after ending known line lines others gives later
      at one
      is next) left around taking end =
      let rest : List RemainingItem = map line_left others ++ left in
      let inside : Level = within_condition holds true level in
      let here : Stage = stage_of inside (counting 1 middle) rest in
      let all : List SourceLine = statement known line.text at ++ others in
      let remarks : Remarks = immediate.remarks known line.text at in
      after_part (Arrived ending level after left) level holds true before middle known line lines others gives later remarks left
      (stage_of inside (counting 1 middle) (map line_left all ++ left))
      (one_part level holds true before lines gives middle GoesOn one (Line line ∷ rest) (same_marks others left ∙ around) tt)
      around refl
      (ap (acted_by known line.text here) is ∙ ap (own remarks) (with_next inside (counting 1 middle) line.text
      (immediate.immediate known line.text at).holds (immediate.immediate known line.text at).statement others left))
      (parts level holds true (counting 1 middle) all later after ending next left around taking end)
  parts _ _ _ _ _ _ _ _ (shapes.Parts.Last level holds is_live before after ending lines gives one) left around taking end =
      weakened (Arrived ending (within_condition holds is_live level) after left) (Arrived (unclosed ending) level after left)
      (before_lines (within_condition holds is_live level) before lines left) gives
      (λ s there. unclosed_arrived ending level holds is_live after left s there)
      (one_part level holds is_live before lines gives after ending one left around (unclosed_end ending left end))

  one_part : (level : Level) (holds is_live : Bool) (before : Situation) (lines : List SourceLine) (gives : List UnfoldedLine)
      (after : Situation)
      (ending : Ending) → OnePart level holds is_live before lines gives after ending → (left : List RemainingItem)
      → marks left ≡ level.around
      → AtEnd ending left
      → Runs (before_lines (within_condition holds is_live level) before lines left) gives
      (Arrived ending (within_condition holds is_live level) after left)
  one_part _ _ _ _ _ _ _ _ (shapes.OnePart.Live level holds before after ending lines gives inside) left around end =
      shape (within_condition holds true level) before lines gives after ending inside left around refl end
  one_part _ _ _ _ _ _ _ _ (shapes.OnePart.Text level holds before lines skipped) left around end =
      skips_text false (within_condition holds false level) 0 lines 0 skipped before left refl
  one_part _ _ _ _ _ _ _ _ (shapes.OnePart.OpenText level holds before lines inner skipped) left around end =
      weakened (λ s. s ≡ text_stage false (within_condition holds false level) inner (counting (length lines) before) left)
      (IsStopped (counting (length lines) before) left) (before_lines (within_condition holds false level) before lines left) []
      (λ s stood. record {
        conditions = record { entered = (within_condition holds false level).entered; nested = inner; is_past = false };
        opening = None;
        is = stood;
      })
      (skips_text false (within_condition holds false level) 0 lines inner skipped before left refl)
