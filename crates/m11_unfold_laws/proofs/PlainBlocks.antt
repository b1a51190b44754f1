-- Blocks without directives and calls of unfolding inside have a shape.
use Rattle.std.proofs.Common.{◌≡◌, ◌∙◌, ℕ, suc, ◌+◌, Bool, true, false, List, [], ◌∷◌, ◌++◌, length, map, append-nil, Some, None, sym, ap, subst, arith}
use Rattle.std.proofs.lemmas.List.{length-map}
use Rattle.m11_base.specs.Devices.{Bytes}
use Rattle.m11_base.specs.Rad50.{Name}
use Rattle.m11_scan.specs.Line.{SourceLine, line_of}
use Rattle.m11_unfold_rules.specs.Actuals.{actuals_from}
use Rattle.m11_unfold_rules.specs.Conditions.{condition}
use Rattle.m11_scan_expressions.specs.Expressions.{KnownSymbols}
use Rattle.m11_scan_expressions.specs.Remarks.{Remarks}
use Rattle.m11_unfold_rules.specs.declared.directives.Directive.TheVariants as word
use Rattle.m11_unfold_bodies.specs.Bodies.{Cut, cut_after, cut_at, depth_after, size_of, texts_of, with_line}
use Rattle.m11_unfold_bodies.specs.Left.{RemainingItem}
use Rattle.m11_unfold_bodies.specs.declared.open_body.Nesting.{Nesting}
use Rattle.m11_unfold_bodies.specs.declared.open_body.Nesting.TheVariants.{Closes}
use Rattle.m11_unfold_rules.specs.Acting.{Calls, OwnDirective, Operation, flagged}
use Rattle.m11_unfold_rules.specs.Constructs.{IsPlainBody, condition_remarks, lines_of_rounds}
use Rattle.m11_unfold_rules.specs.Laws.{AreForeign}
use Rattle.m11_unfold_rules.specs.Stages.{Macro, Repeats, line_left}
use Rattle.m11_unfold_rules.specs.Taking.{nesting}
use Rattle.m11_unfold_rules.specs.Unfolding.{UnfoldedLine}
use Rattle.m11_unfold_rules.proofs.Expanding.{plain_lines}
use Rattle.m11_unfold_rules.proofs.Operators.{has_no_word}
use Rattle.m11_unfold_laws.specs.Levels.{Level, Situation, counting, has_condition_left, only_entered, operation_at, other_line, own_line, stage_of, within_condition, within_expansion}
use Rattle.m11_unfold_laws.specs.Putting.{HasBody, Opens}
use Rattle.m11_unfold_laws.specs.Putting as putting
use Rattle.m11_unfold_laws.specs.Shapes.{IsOther, IsText, Parts, Shape, is_plain}
use Rattle.m11_unfold_laws.specs.Shapes as shapes

-- a shape stays one if the count of lines after it is replaced by an equal number
recounted : (level : Level) (before after : Situation) (one other : ℕ) (lines : List SourceLine) (gives : List UnfoldedLine)
    → one ≡ other
    → Shape level before lines gives (record after { taken = one }) shapes.Ending.GoesOn
    → Shape level before lines gives (record after { taken = other }) shapes.Ending.GoesOn
recounted level before after one other lines gives same shaped =
    subst (λ (n : ℕ). Shape level before lines gives (record after { taken = n }) shapes.Ending.GoesOn) same shaped

pub plain : (known : KnownSymbols) (level : Level) (lines : List SourceLine) (before : Situation)
    → AreForeign (stage_of level before []) lines
    → Shape level before lines (map (other_line level known) lines) (counting (length lines) before) shapes.Ending.GoesOn
plain known level [] before foreign =
    let none : before.taken ≡ before.taken + 0 = omega arith in
    recounted level before before before.taken (before.taken + 0) [] [] none (shapes.Shape.Nothing level before)
plain known level (line ∷ lines) before foreign =
    let sum : before.taken + 1 + length lines ≡ before.taken + suc (length lines) = omega arith in
    let other : IsOther (operation_at level before line) = subst IsOther (sym foreign.0) shapes.IsOther.Other in
    recounted level before before (before.taken + 1 + length lines) (before.taken + suc (length lines)) (line ∷ lines)
    (map (other_line level known) (line ∷ lines)) sum
    (shapes.Shape.Other level before (counting (length lines) (counting 1 before)) shapes.Ending.GoesOn known line lines
    (map (other_line level known) lines) other (plain known level lines (counting 1 before) foreign.1))

-- ---- repeats

abbrev closed_cut : List Bytes → List RemainingItem → Cut
closed_cut body left = record { body = body; is_closed = true; after = left }

plain_body : (lines others : List SourceLine) (close : SourceLine) → IsPlainBody (texts_of lines) → nesting close.text ≡ Closes
    → HasBody (lines ++ close ∷ others) (texts_of lines) others
plain_body [] others close plain is =
    ap (λ (n : Nesting). cut_after close.text (map line_left others) (λ d. cut_at nesting d (map line_left others))
    (depth_after n 0)) is
plain_body (line ∷ lines) others close plain is =
    let left : List RemainingItem = map line_left (lines ++ close ∷ others) in
    ap (λ (n : Nesting). cut_after line.text left (λ d. cut_at nesting d left) (depth_after n 0)) plain.0
    ∙ ap (with_line line.text) (plain_body lines others close plain.1 is)

pub repeats : (known : KnownSymbols) (level : Level) (before : Situation) (first close : SourceLine) (lines : List SourceLine)
    (remarks : Remarks)
    (formals : List Name) (rounds : List (List Bytes))
    → Opens known first.text (operation_at level before first) remarks (Repeats formals rounds)
    → IsPlainBody (texts_of lines) → nesting close.text ≡ Closes
    → AreForeign (stage_of (within_expansion None (size_of (texts_of lines)) level) before [])
    (lines_of_rounds formals rounds (texts_of lines))
    → Shape level before (first ∷ lines ++ close ∷ [])
    (own_line level known first remarks
    ∷ map (other_line (within_expansion None (size_of (texts_of lines)) level) known)
    (lines_of_rounds formals rounds (texts_of lines)))
    (counting (length lines + 2 + length (lines_of_rounds formals rounds (texts_of lines))) before) shapes.Ending.GoesOn
repeats known level before first close lines remarks formals rounds opens body closing foreign =
    let texts : List Bytes = texts_of lines in
    let inside : Level = within_expansion None (size_of texts) level in
    let given : List SourceLine = lines_of_rounds formals rounds texts in
    let long : length texts ≡ length lines = length-map lines (λ l. l.text) in
    let sum : before.taken + (length texts + 2) + length given ≡ before.taken + (length lines + 2 + length given)
    = omega (arith, long) in
    let gives : List UnfoldedLine = map (other_line inside known) given in
    let middle : Situation = counting (length given) (counting (length texts + 2) before) in
    let same : gives ++ [] ≡ gives = append-nil gives in
    recounted level before before (before.taken + (length texts + 2) + length given)
    (before.taken + (length lines + 2 + length given))
    (first ∷ lines ++ close ∷ []) (own_line level known first remarks ∷ gives) sum
    (subst (λ (g : List UnfoldedLine).
    Shape level before (first ∷ lines ++ close ∷ []) (own_line level known first remarks ∷ g) middle shapes.Ending.GoesOn) same
    (shapes.Shape.Expansion level before middle middle shapes.Ending.GoesOn shapes.Ending.GoesOn known first
    (lines ++ close ∷ []) gives []
    (putting.put_by_repeat remarks formals rounds texts before [])
    (putting.Puts.Repeat (operation_at level before first) remarks formals rounds texts [] opens
    (plain_body lines [] close body closing))
    (plain known inside given (counting (length texts + 2) before) foreign) tt (shapes.Shape.Nothing level middle)))

-- ---- calls

pub calls : (known : KnownSymbols) (level : Level) (before : Situation) (line : SourceLine) (body : List Bytes) (at : ℕ)
    → operation_at level before line ≡ Calls (record { formals = []; body = body }) at
    → AreForeign (stage_of (within_expansion (Some 0) 0 level) before []) (map line_of body)
    → Shape level before (line ∷ []) (own_line level known line (actuals_from known line.text 0 at).remarks
    ∷ map (other_line (within_expansion (Some (length (actuals_from known line.text 0 at).texts)) 0 level) known)
    (map line_of body))
    (counting (length body + 1) before) shapes.Ending.GoesOn
calls known level before line body at is foreign =
    let macro : Macro = record { formals = []; body = body } in
    let count : ℕ = length (actuals_from known line.text 0 at).texts in
    let inside : Level = within_expansion (Some count) 0 level in
    let put : putting.Put = putting.put_by_call macro (actuals_from known line.text 0 at) before [] in
    let lines : List SourceLine = map line_of body in
    let gives : List UnfoldedLine = map (other_line inside known) lines in
    let long : length lines ≡ length body = length-map body line_of in
    let sum : before.taken + 1 + length lines ≡ before.taken + (length body + 1) = omega (arith, long) in
    let middle : Situation = counting (length lines) (counting 1 before) in
    let shaped : Shape inside (counting 1 before) lines gives middle shapes.Ending.GoesOn
    = plain known inside lines (counting 1 before) foreign in
    let shaped' : Shape inside (counting 1 before) put.lines gives middle shapes.Ending.GoesOn
    = subst (λ (ls : List SourceLine). Shape inside (counting 1 before) ls gives middle shapes.Ending.GoesOn)
    (sym (plain_lines body)) shaped in
    recounted level before before (before.taken + 1 + length lines) (before.taken + (length body + 1)) (line ∷ [])
    (own_line level known line put.remarks ∷ gives) sum
    (subst (λ (g : List UnfoldedLine).
    Shape level before (line ∷ []) (own_line level known line put.remarks ∷ g) middle shapes.Ending.GoesOn) (append-nil gives)
    (shapes.Shape.Expansion level before middle middle shapes.Ending.GoesOn shapes.Ending.GoesOn known line [] gives [] put
    (subst (λ (o : Operation). putting.Puts known before line.text [] o put) (sym is) (putting.Puts.Call macro at))
    shaped' tt (shapes.Shape.Nothing level middle)))

-- ---- conditions

module _ (known : KnownSymbols) (level : Level) (before : Situation) (first close : SourceLine) (lines : List SourceLine) (at end : ℕ)
  where
    abbrev head : UnfoldedLine
    head = own_line level known first (condition_remarks known first.text at)

    abbrev last : UnfoldedLine
    last = own_line level known close (flagged 0 close.text end)

    by_verdict : (holds : Bool) (gives : List UnfoldedLine) (after : Situation) → operation_at level before first ≡ OwnDirective word.If at
        → has_condition_left level ≡ true → (condition known first.text at).holds ≡ holds
        → Parts level holds holds (counting 1 before) (lines ++ close ∷ []) gives after shapes.Ending.GoesOn
        → Shape level before (first ∷ lines ++ close ∷ []) (head ∷ gives) after shapes.Ending.GoesOn
    by_verdict holds gives after is room verdict parts =
        shapes.Shape.Condition level before after shapes.Ending.GoesOn known first (lines ++ close ∷ []) gives at is room
        (subst (λ (b : Bool). Parts level b b (counting 1 before) (lines ++ close ∷ []) gives after shapes.Ending.GoesOn)
        (sym verdict) parts)

    pub holding : operation_at level before first ≡ OwnDirective word.If at → has_condition_left level ≡ true
        → (condition known first.text at).holds ≡ true → AreForeign (stage_of (within_condition true true level) before []) lines
        → operation_at (within_condition true true level) before close ≡ OwnDirective word.Endc end
        → Shape level before (first ∷ lines ++ close ∷ []) (head ∷ map (other_line level known) lines ++ last ∷ [])
        (counting (length lines + 2) before) shapes.Ending.GoesOn
    holding is room verdict foreign closing =
        let middle : Situation = counting (length lines) (counting 1 before) in
        let sum : before.taken + 1 + length lines + 1 ≡ before.taken + (length lines + 2) = omega arith in
        recounted level before before (before.taken + 1 + length lines + 1) (before.taken + (length lines + 2))
        (first ∷ lines ++ close ∷ [])
        (head ∷ map (other_line level known) lines ++ last ∷ []) sum
        (by_verdict true (map (other_line level known) lines ++ last ∷ []) (counting 1 middle) is room verdict
        (shapes.Parts.Close level true true (counting 1 before) middle (counting 1 middle) shapes.Ending.GoesOn known close
        lines []
        (map (other_line level known) lines) [] end
        (shapes.OnePart.Live level true (counting 1 before) middle shapes.Ending.GoesOn lines (map (other_line level known) lines)
        (plain known (within_condition true true level) lines (counting 1 before) foreign))
        closing (shapes.Shape.Nothing level (counting 1 middle))))

    pub foreign_text : (situation : Situation) (others : List SourceLine) → AreForeign (stage_of level situation []) others
        → IsText false 0 others 0
    foreign_text situation [] foreign = shapes.IsText.Nothing 0
    foreign_text situation (line ∷ others) foreign =
        shapes.IsText.Plain 0 0 line others
        (ap (is_plain false 0) (has_no_word situation.macros (only_entered level.entered) line.text foreign.0))
        (foreign_text situation others foreign.1)

    pub failing : operation_at level before first ≡ OwnDirective word.If at → has_condition_left level ≡ true
        → (condition known first.text at).holds ≡ false → AreForeign (stage_of level before []) lines
        → operation_at (within_condition false false level) before close ≡ OwnDirective word.Endc end
        → Shape level before (first ∷ lines ++ close ∷ []) (head ∷ last ∷ []) (counting (length lines + 2) before)
        shapes.Ending.GoesOn
    failing is room verdict foreign closing =
        let middle : Situation = counting (length lines) (counting 1 before) in
        let sum : before.taken + 1 + length lines + 1 ≡ before.taken + (length lines + 2) = omega arith in
        recounted level before before (before.taken + 1 + length lines + 1) (before.taken + (length lines + 2))
        (first ∷ lines ++ close ∷ [])
        (head ∷ last ∷ []) sum
        (by_verdict false (last ∷ []) (counting 1 middle) is room verdict
        (shapes.Parts.Close level false false (counting 1 before) middle (counting 1 middle) shapes.Ending.GoesOn known close
        lines []
        [] [] end (shapes.OnePart.Text level false (counting 1 before) lines (foreign_text before lines foreign))
        closing (shapes.Shape.Nothing level (counting 1 middle))))
