-- Reading lines yields a shape.
use Rattle.std.proofs.Common.{◌≡◌, ◌∙◌, ◌⊎◌, inl, inr, ℕ, suc, ◌+◌, Bool, true, false, List, [], ◌∷◌, ◌++◌, length, map, append_assoc, append-nil, Option, Some, None, refl, sym, ap, subst, arith}
use Rattle.std.specs.Prelude.{if◌then◌else◌}
use Rattle.m11_base.specs.Devices.{Bytes}
use Rattle.m11_scan.specs.Line.{SourceLine}
use Rattle.m11_unfold_rules.specs.Actuals.{actuals_from}
use Rattle.m11_unfold_rules.specs.Conditions.{condition}
use Rattle.m11_unfold_rules.specs.Directives.{directive}
use Rattle.m11_scan_expressions.specs.Expressions.{KnownSymbols}
use Rattle.m11_unfold_rules.specs.Immediate as immediate
use Rattle.m11_scan_expressions.specs.Remarks.{Remarks, remarks_of}
use Rattle.m11_unfold_rules.specs.declared.directives.Directive.{Directive}
use Rattle.m11_unfold_rules.specs.declared.directives.Directive.TheVariants as word
use Rattle.m11_unfold_bodies.specs.Bodies.{cut_at}
use Rattle.m11_unfold_bodies.specs.Conditions.{is_live_inside, past}
use Rattle.m11_unfold_bodies.specs.Left.{RemainingItem, Line, End, after_mark, count_in, has_mark, is_expanding, marks}
use Rattle.m11_unfold_bodies.specs.declared.conditions.OpenCondition.{OpenCondition}
use Rattle.m11_unfold_bodies.specs.declared.mark.Mark.{Mark}
use Rattle.m11_unfold_rules.specs.Acting.{Acted, Calls, OwnDirective, Operation, act, acted_by, flagged, foreign, flag_O, opens, own}
use Rattle.m11_unfold_rules.specs.Constructs.{condition_remarks, lines_of_rounds}
use Rattle.m11_unfold_rules.specs.Stages.{Macro, Purpose, Defines, Repeats, Drops, Stage, line_left}
use Rattle.m11_unfold_rules.specs.Taking.{Gives, Live, move, nesting, skipped_by, used}
use Rattle.m11_unfold_rules.specs.Unfolding.{UnfoldedLine, given}
use Rattle.m11_unfold_rules.proofs.Cases.{live_or_skipped}
use Rattle.m11_unfold_rules.proofs.Expanding.{as_lines}
use Rattle.m11_unfold_rules.proofs.OtherLines.{same_marks}
use Rattle.m11_unfold_laws.specs.Laws.{Arrived, IsStopped, before_lines}
use Rattle.m11_unfold_laws.specs.Levels.{Level, Situation, counting, defining, has_condition_left, mark_at, only_entered, operation_at, other_line, own_line, stage_of, within_condition, within_expansion}
use Rattle.m11_unfold_laws.specs.Putting.{HasBody, HasNoClose, Opens, Put, Puts}
use Rattle.m11_unfold_laws.specs.Putting as putting
use Rattle.m11_unfold_laws.specs.Shapes.{Begins, Ending, GoesOn, Stops, Ends, IsAstray, IsOther, IsText, Parts, Returns, Shape, statement, statement_of}
use Rattle.m11_unfold_laws.specs.Shapes as shapes
use Rattle.m11_unfold_laws.proofs.Lines.{parted, past_lines, shown}
use Rattle.m11_unfold_laws.proofs.Parsing.{Breaks, IsOwn, Parsed, Reads, ReadsParts, Stop, all_taken, broken, grown, lifted_breaks, lifted_stop, of_gives, of_lines}
use Rattle.m11_unfold_laws.proofs.Resting.{LineGiven, Onward, Rested, given_next, lifted, line_given, live_moves, no_moves, past_run, past_to}
use Rattle.m11_unfold_laws.proofs.Runs.{from_same}
use Rattle.m11_unfold_laws.proofs.Shaped.{body_open, body_used, call_acts, if_acts, returned, with_next}
use Rattle.m11_unfold_laws.proofs.Splits.{IsOwnWord, Kind, SomePurpose, TextSplit, body_split, directed_so, kind, text_split}
use Rattle.m11_unfold_laws.proofs.Texts.{skips_text, text_stage}
use Rattle.m11_unfold_laws.proofs.Words.{astray_acts, opens_acts, other_acts}

-- ---- facts

-- a shape of no lines has no live lines, changes nothing, and goes on
none_of : (level : Level) (before after : Situation) (ending : Ending) (gives : List UnfoldedLine) (lines : List SourceLine)
    → Shape level before lines gives after ending → lines ≡ [] → (gives ≡ []) × (after ≡ before) × (ending ≡ GoesOn)
none_of _ _ _ _ _ _ (shapes.Shape.Nothing level before) none = (refl, refl, refl)
none_of _ _ _ _ _ _ (shapes.Shape.Other level before after ending known line lines gives is next) none
    = absurd (let bad = none in cc)
none_of _ _ _ _ _ _ (shapes.Shape.Astray level before after ending known line lines gives remarks is next) none
    = absurd (let bad = none in cc)
none_of _ _ _ _ _ _ (shapes.Shape.Expansion level before middle after inner ending known line lines gives later put puts body
    returns next) none =
    absurd (let bad = none in cc)
none_of _ _ _ _ _ _ (shapes.Shape.LastExpansion level before after known line lines gives put puts body) none
    = absurd (let bad = none in cc)
none_of _ _ _ _ _ _ (shapes.Shape.Definition level before after ending known line lines others gives remarks name formals body is
    has next) none =
    absurd (let bad = none in cc)
none_of _ _ _ _ _ _ (shapes.Shape.Dropped level before after ending known line lines others gives remarks body is has next) none =
    absurd (let bad = none in cc)
none_of _ _ _ _ _ _ (shapes.Shape.OpenBody level before known line lines remarks purpose is shut) none
    = absurd (let bad = none in cc)
none_of _ _ _ _ _ _ (shapes.Shape.Condition level before after ending known line lines gives at is room next) none
    = absurd (let bad = none in cc)
none_of _ _ _ _ _ _ (shapes.Shape.Refused level before after ending known last line close text lines gives at end is full
    skipped closing next) none =
    absurd (let bad = none in cc)
none_of _ _ _ _ _ _ (shapes.Shape.OpenRefused level before known line lines at inner is full skipped) none
    = absurd (let bad = none in cc)
none_of _ _ _ _ _ _ (shapes.Shape.Immediate level before after ending known line lines gives at is next) none
    = absurd (let bad = none in cc)
none_of _ _ _ _ _ _ (shapes.Shape.Exit level before known line lines at is expanding) none = absurd (let bad = none in cc)
none_of _ _ _ _ _ _ (shapes.Shape.End level before known line lines at is) none = absurd (let bad = none in cc)

-- if no condition is open around lines in their expansion, reading stops only after all of them
pub whole_stop : (level : Level) (n : ℕ) (situation : Situation) (ending : Ending) (others : List SourceLine) (left : List RemainingItem)
    (later : List UnfoldedLine) → level.entered ≡ [] → Stop level n situation ending others left later
    → (others ≡ []) × Onward (Arrived ending level situation left) n later
whole_stop level _ _ _ _ _ _ none (Stop.Whole n situation ending left later stage there rested) =
    (refl, record { stage = stage; holds = there; next = rested })
whole_stop level _ _ _ _ _ _ none (Stop.Broken n situation line others left later inside breaks) = absurd (inside none)

-- if reading stops before further lines, these begin with a directive of the condition around them, or an `.IIF` whose statement is one
stop_breaks : (level : Level) (n : ℕ) (situation : Situation) (ending : Ending) (others : List SourceLine) (left : List RemainingItem)
    (later : List UnfoldedLine) (line : SourceLine) (lines : List SourceLine) → Stop level n situation ending others left later
    → others ≡ line ∷ lines → (level.entered ≡ [] → ⊥) × Breaks level n situation line lines left later
stop_breaks level _ _ _ _ _ _ line lines (Stop.Whole n situation ending left later stage there rested) are =
    absurd (let bad = are in cc)
stop_breaks level _ _ _ _ _ _ line lines (Stop.Broken n situation line' others left later inside breaks) are =
    let same_line : line' ≡ line = cc in
    let same_lines : others ≡ lines = cc in (
      inside,
      subst (λ (ls : List SourceLine). Breaks level n situation line ls left later) same_lines
          (subst (λ (l : SourceLine). Breaks level n situation l others left later) same_line breaks),
    )

-- a statement is one line or none
statement_is : (text : Bytes) (holds : Bool) (at : Option ℕ)
    → (statement_of text holds at ≡ []) ⊎ ((next : SourceLine) × (statement_of text holds at ≡ next ∷ []))
statement_is text true (Some at) = inr (_, refl)
statement_is text true None = inl refl
statement_is text false at = inl refl

own_end : (it : Option Directive) → IsOwnWord true it → it ≡ Some word.Endc
own_end _ IsOwnWord.EndCondition = refl
own_end _ (IsOwnWord.IfFalse full) = absurd (let bad : true ≡ false = full in cc)
own_end _ (IsOwnWord.IfTrue full) = absurd (let bad : true ≡ false = full in cc)
own_end _ (IsOwnWord.IfTrueFalse full) = absurd (let bad : true ≡ false = full in cc)

-- ---- one line, and the lines after it

module _ (n : ℕ) (again : Reads n) (again_parts : ReadsParts n) (level : Level) (before : Situation) (line : SourceLine)
    (left : List RemainingItem) (gives : List UnfoldedLine) (around : marks left ≡ level.around) (taking : is_live_inside level.entered ≡ true)
    (ends : after_mark left ≡ left) where
  abbrev left_of : List SourceLine → List RemainingItem
  left_of lines = map line_left lines ++ left

  abbrev here : List SourceLine → Stage
  here lines = stage_of level (counting 1 before) (left_of lines)

  abbrev Walk : List SourceLine → Type 0
  Walk lines = Rested (suc n) (before_lines level before (line ∷ lines) left) gives

  abbrev Result : List SourceLine → Type 0
  Result lines = Parsed (suc n) level before (line ∷ lines) left gives

  -- the line is the first live line, and the others follow from the effect of its operator
  acted_line : (lines : List SourceLine) (acted : KnownSymbols → Acted)
      → ((known : KnownSymbols) → acted_by known line.text (here lines) (operation_at level before line) ≡ acted known) → Walk lines
      → LineGiven n (λ known. shown level known line (acted known)) (λ known. (acted known).after) gives
  acted_line lines acted acts walk =
      line_given n level before line (left_of lines) gives acted (same_marks lines left ∙ around)
      (live_moves n level before line (left_of lines) gives taking) acts walk

  other : (lines : List SourceLine) → IsOther (operation_at level before line) → Walk lines → Result lines
  other lines is walk =
      let g = acted_line lines (λ known. foreign (here lines))
      (λ known. other_acts known line.text (here lines) (operation_at level before line) is) walk in
      of_gives (suc n) level before (line ∷ lines) left gives (other_line level g.known line ∷ g.more) g.whole
      (grown n level before (counting 1 before) (line ∷ []) lines (other_line level g.known line ∷ []) g.more left
      (again level (counting 1 before) lines left g.more around taking ends g.next)
      (λ taken first after ending shaped. shapes.Shape.Other level before after ending g.known line taken first is shaped))

  astray : (lines : List SourceLine) (remarks : Remarks) → IsAstray level line.text (operation_at level before line) remarks
      → Walk lines
      → Result lines
  astray lines remarks is walk =
      let g = acted_line lines (λ known. own remarks (here lines))
      (λ known. astray_acts known line.text level (counting 1 before) (left_of lines)
      (operation_at level before line) remarks (same_marks lines left ∙ around) is) walk in
      of_gives (suc n) level before (line ∷ lines) left gives (own_line level g.known line remarks ∷ g.more) g.whole
      (grown n level before (counting 1 before) (line ∷ []) lines (own_line level g.known line remarks ∷ []) g.more left
      (again level (counting 1 before) lines left g.more around taking ends g.next)
      (λ taken first after ending shaped. shapes.Shape.Astray level before after ending g.known line taken first remarks is shaped))

  -- ---- expansions

  module _ (known : KnownSymbols) (remarks : Remarks) (arguments : Option ℕ) (bytes : ℕ) (lines : List SourceLine) (situation : Situation)
      (front others : List SourceLine) (more : List UnfoldedLine) where
    abbrev put : List SourceLine → Put
    put rest = record { remarks = remarks; arguments = arguments; bytes = bytes; lines = lines; situation = situation; others = rest }

    abbrev inside : Level
    inside = within_expansion arguments bytes level

    abbrev mark : Mark
    mark = mark_at level arguments bytes

    abbrev After : List SourceLine → List RemainingItem
    After rest = End mark ∷ left_of rest

    abbrev Read : Type 0
    Read = Parsed (suc n) level before (line ∷ front ++ others) left (own_line level known line remarks ∷ more)

    module _ (puts : (rest : List SourceLine)
        → Puts known before line.text (front ++ rest) (operation_at level before line) (put rest)) where
      goes_back : (inner : Ending) (first later : List UnfoldedLine) (middle : Situation) → more ≡ first ++ later → Returns inner
          → Shape inside situation lines first middle inner → Onward (Arrived inner inside middle (After others)) n later → Read
      goes_back inner first later middle are returns shaped on =
          let next : Rested n (stage_of level middle (left_of others)) later
          = past_run on.stage (stage_of level middle (left_of others)) later n
          (returned level middle arguments bytes (left_of others) inner on.stage returns on.holds) on.next in
          of_gives (suc n) level before (line ∷ front ++ others) left (own_line level known line remarks ∷ more)
          (own_line level known line remarks ∷ first ++ later) (ap (λ (g : List UnfoldedLine). own_line level known line remarks ∷ g) are)
          (grown n level before middle (line ∷ front) others (own_line level known line remarks ∷ first) later left
          (again level middle others left later around taking ends next)
          (λ taken found after ending rest.
          shapes.Shape.Expansion level before middle after inner ending known line (front ++ taken) first found
          (put taken) (puts taken) shaped returns rest))

      by_ending : (inner : Ending) (first later : List UnfoldedLine) (middle : Situation) → more ≡ first ++ later
          → Shape inside situation lines first middle inner → Onward (Arrived inner inside middle (After others)) n later → Read
      by_ending GoesOn first later middle are shaped on = goes_back GoesOn first later middle are tt shaped on
      by_ending Stops first later middle are shaped on = goes_back Stops first later middle are tt shaped on
      by_ending Ends first later middle are shaped on =
          of_gives (suc n) level before (line ∷ front ++ others) left (own_line level known line remarks ∷ more)
          (own_line level known line remarks ∷ first ++ later) (ap (λ (g : List UnfoldedLine). own_line level known line remarks ∷ g) are)
          (all_taken (suc n) level before (line ∷ front ++ others) left (own_line level known line remarks ∷ first) later middle
          Ends on.stage
          (shapes.Shape.LastExpansion level before middle known line (front ++ others) first (put others) (puts others) shaped)
          on.holds
          (lifted n on.stage later on.next))

      expansion : Rested n (before_lines inside situation lines (After others)) more → Read
      expansion rested =
          let p = again inside situation lines (After others) more
          (ap (λ (m : List Mark). mark ∷ m) (same_marks others left ∙ around)) refl refl rested in
          let stopped = whole_stop inside n p.after p.ending p.others (After others) p.later refl p.stop in
          let all : lines ≡ p.taken = p.lines_are ∙ ap (λ (o : List SourceLine). p.taken ++ o) stopped.0 ∙ append-nil p.taken in
          by_ending p.ending p.first p.later p.after p.gives_are
          (subst (λ (ls : List SourceLine). Shape inside situation ls p.first p.after p.ending) (sym all) p.shape) stopped.1

  calls : (lines : List SourceLine) (macro : Macro) (at : ℕ) → operation_at level before line ≡ Calls macro at → Walk lines
      → Result lines
  calls lines macro at is walk =
      let put : KnownSymbols → List SourceLine → Put
      = λ known rest. putting.put_by_call macro (actuals_from known line.text (length macro.formals) at) before rest in
      let g = acted_line lines (λ known.
      own (put known lines).remarks (stage_of (within_expansion (put known lines).arguments 0 level) (put known lines).situation
      (map line_left (put known lines).lines ++ End (mark_at level (put known lines).arguments 0) ∷ left_of lines)))
      (λ known. call_acts level before known line lines left macro at is) walk in
      of_gives (suc n) level before (line ∷ lines) left gives (own_line level g.known line (put g.known lines).remarks ∷ g.more)
      g.whole
      (expansion g.known (put g.known lines).remarks (put g.known lines).arguments 0 (put g.known lines).lines
      (put g.known lines).situation [] lines g.more
      (λ rest. subst (λ (o : Operation). Puts g.known before line.text rest o (put g.known rest)) (sym is)
      (putting.Puts.Call macro at)) g.next)

  -- ---- bodies

  module _ (known : KnownSymbols) (remarks : Remarks) (body : List Bytes) (front others : List SourceLine) (more : List UnfoldedLine)
      (is : (rest : List SourceLine) → HasBody (front ++ rest) body rest) where
    closed_body : (purpose : Purpose) → Opens known line.text (operation_at level before line) remarks purpose
        → Rested n (used purpose body (stage_of level (counting (length body + 2) before) (left_of others))) more
        → Parsed (suc n) level before (line ∷ front ++ others) left (own_line level known line remarks ∷ more)
    closed_body (Defines name formals) opens' rested =
        let after_it : Situation = defining name formals body (counting (length body + 2) before) in
        grown n level before after_it (line ∷ front) others (own_line level known line remarks ∷ []) more left
        (again level after_it others left more around taking ends rested)
        (λ taken first after ending shaped.
        shapes.Shape.Definition level before after ending known line (front ++ taken) taken first remarks name
        formals body opens' (is taken) shaped)
    closed_body Drops opens' rested =
        let after_it : Situation = counting (length body + 2) before in
        grown n level before after_it (line ∷ front) others (own_line level known line remarks ∷ []) more left
        (again level after_it others left more around taking ends rested)
        (λ taken first after ending shaped.
        shapes.Shape.Dropped level before after ending known line (front ++ taken) taken first remarks body
        opens' (is taken) shaped)
    closed_body (Repeats formals rounds) opens' rested =
        let bytes : ℕ = (putting.put_by_repeat remarks formals rounds body before others).bytes in
        let after_it : Situation = counting (length body + 2) before in
        let mark' : Mark = mark_at level None bytes in
        let to : List RemainingItem → Stage = λ l. stage_of (within_expansion None bytes level) after_it l in
        expansion known remarks None bytes (lines_of_rounds formals rounds body) after_it front others more
        (λ rest. putting.Puts.Repeat (operation_at level before line) remarks formals rounds body rest opens' (is rest))
        (subst (λ (l : List RemainingItem). Rested n (to l) more) (as_lines formals rounds body mark' (left_of others)) rested)

  module _ (lines : List SourceLine) (opening : (known : KnownSymbols) (text : Bytes)
      → SomePurpose known text (operation_at level before line)) where
    abbrev opened_by : KnownSymbols → Acted
    opened_by known = own (opening known line.text).remarks (opens (opening known line.text).purpose (here lines))

    by_close : LineGiven n (λ known. shown level known line (opened_by known)) (λ known. (opened_by known).after) gives
        → (closed : Bool) → (cut_at nesting 0 (map line_left lines)).is_closed ≡ closed → Result lines
    by_close g false shut =
        let o = opening g.known line.text in
        let on = past_to (IsStopped (counting (length lines + 1) before) left) (opens o.purpose (here lines)) g.more n
        (body_open level before o.purpose lines left shut ends) g.next in
        of_gives (suc n) level before (line ∷ lines) left gives (own_line level g.known line o.remarks ∷ g.more) g.whole
        (all_taken (suc n) level before (line ∷ lines) left (own_line level g.known line o.remarks ∷ []) g.more
        (counting (length lines + 1) before)
        Stops on.stage (shapes.Shape.OpenBody level before g.known line lines o.remarks o.purpose o.opens shut) on.holds
        (lifted n on.stage g.more on.next))
    by_close g true closed =
        let o = opening g.known line.text in
        let split = body_split lines 0 closed in
        let has : HasBody lines split.body split.others
        = subst (λ (ls : List SourceLine). HasBody ls split.body split.others) (sym split.whole) (split.is split.others) in
        let next = past_run (opens o.purpose (here lines))
        (used o.purpose split.body (stage_of level (counting (length split.body + 2) before) (left_of split.others))) g.more n
        (body_used level before o.purpose lines split.others split.body left has) g.next in
        of_gives (suc n) level before (line ∷ lines) left gives (own_line level g.known line o.remarks ∷ g.more) g.whole
        (of_lines (suc n) level before (line ∷ lines) (line ∷ split.front ++ split.others) left
        (own_line level g.known line o.remarks ∷ g.more)
        (ap (λ (ls : List SourceLine). line ∷ ls) split.whole)
        (closed_body g.known o.remarks split.body split.front split.others g.more split.is o.purpose o.opens next))

    bodies : Walk lines → Result lines
    bodies walk = by_close (acted_line lines opened_by
        (λ known. opens_acts known line.text (here lines) (operation_at level before line)
        (opening known line.text).remarks (opening known line.text).purpose (opening known line.text).opens) walk)
        (cut_at nesting 0 (map line_left lines)).is_closed refl

  -- ---- conditions

  module _ (at : ℕ) (is : operation_at level before line ≡ OwnDirective word.If at) where
    refused : (known : KnownSymbols) (more : List UnfoldedLine) (lines : List SourceLine) → has_condition_left level ≡ false
        → TextSplit true 0 lines
        → Rested n (text_stage true level 0 (counting 1 before) (left_of lines)) more
        → Parsed (suc n) level before (line ∷ lines) left (own_line level known line (remarks_of flag_O []) ∷ more)
    refused known more _ full (TextSplit.All _ last lines text) rested =
        let stage : Stage = text_stage true level last (counting (length lines) (counting 1 before)) left in
        let sum : before.taken + 1 + length lines ≡ before.taken + (length lines + 1) = omega arith in
        let next = past_run (text_stage true level 0 (counting 1 before) (left_of lines)) stage more n
        (skips_text true level 0 lines last text (counting 1 before) left refl) rested in
        all_taken (suc n) level before (line ∷ lines) left (own_line level known line (remarks_of flag_O []) ∷ []) more
        (counting (length lines + 1) before) Stops stage
        (shapes.Shape.OpenRefused level before known line lines at last is full text)
        (record {
          conditions = record { entered = level.entered; nested = last; is_past = true };
          opening = None;
          is = ap (λ (k : ℕ). text_stage true level last (record before { taken = k }) left) sum;
        })
        (lifted n stage more next)
    refused known more _ full (TextSplit.UpTo _ text close others skipped own') rested =
        let says : directive close.text ≡ Some word.Endc = own_end (directive close.text) own' in
        let d = directed_so (past (only_entered level.entered)) before.macros close.text word.Endc refl says in
        let read : Situation = counting (length text) (counting 1 before) in
        let before_close : Stage = text_stage true level 0 read (Line close ∷ left_of others) in
        let there : Stage = text_stage true level 0 (counting 1 read) (left_of others) in
        let back : Stage = stage_of level (counting 1 read) (left_of others) in
        let after_it : Situation = counting (length text + 2) before in
        let count : before.taken + 1 + length text + 1 ≡ before.taken + (length text + 2) = omega arith in
        let at_close : Rested n before_close more
        = past_run (text_stage true level 0 (counting 1 before) (left_of (text ++ close ∷ others))) before_close more n
        (from_same (λ s. s ≡ before_close) (text_stage true level 0 (counting 1 before) (left_of (text ++ close ∷ others)))
        (text_stage true level 0 (counting 1 before) (map line_left text ++ (Line close ∷ left_of others))) []
        (ap (text_stage true level 0 (counting 1 before)) (parted text (close ∷ others) left))
        (skips_text true level 0 text 0 skipped (counting 1 before) (Line close ∷ left_of others) refl)) rested in
        let live : Live = record { line = close; is_expanded = is_expanding (left_of others) } in
        let moves : move before_close ≡ Gives live there
        = ap (λ (w : Option Directive). live_or_skipped (skipped_by (past (only_entered level.entered)) w) close there) says in
        let g = given_next n before_close more at_close there live moves in
        let acted : Acted = own (flagged 0 close.text d.at) back in
        let acts : act g.known there close.text ≡ acted = ap (acted_by g.known close.text there) d.is in
        let told : List Mark → Acted → UnfoldedLine = λ m a. record {
          live = record { line = close; is_expanded = has_mark m };
          known = g.known;
          is_own = a.is_own;
          remarks = a.remarks;
          arguments = count_in m;
        } in
        let last : UnfoldedLine = own_line level g.known close (flagged 0 close.text d.at) in
        let shows : given g.known live there ≡ last
        = ap (told (marks (left_of others))) acts ∙ ap (λ (m : List Mark). told m acted) (same_marks others left ∙ around) in
        let whole : more ≡ last ∷ g.more = g.whole ∙ ap (λ (one : UnfoldedLine). one ∷ g.more) shows in
        let next : Rested n (stage_of level after_it (left_of others)) g.more
        = subst (λ (k : ℕ). Rested n (stage_of level (record before { taken = k }) (left_of others)) g.more) count
        (subst (λ (a : Acted). Rested n a.after g.more) acts g.next) in
        let head : UnfoldedLine = own_line level known line (remarks_of flag_O []) in
        of_gives (suc n) level before (line ∷ text ++ close ∷ others) left (head ∷ more) (head ∷ last ∷ g.more)
        (ap (λ (gs : List UnfoldedLine). head ∷ gs) whole)
        (of_lines (suc n) level before (line ∷ text ++ close ∷ others) (line ∷ (text ++ close ∷ []) ++ others) left
        (head ∷ last ∷ g.more)
        (ap (λ (ls : List SourceLine). line ∷ ls) (sym (append_assoc text (close ∷ []) others)))
        (grown n level before after_it (line ∷ text ++ close ∷ []) others (head ∷ last ∷ []) g.more left
        (again level after_it others left g.more around taking ends next)
        (λ taken first after ending shaped.
        subst (λ (ls : List SourceLine). Shape level before (line ∷ ls) (head ∷ last ∷ first) after ending)
        (sym (append_assoc text (close ∷ []) taken))
        (shapes.Shape.Refused level before after ending known g.known line close text taken first at d.at is full skipped d.is
        shaped))))

    conditions : (lines : List SourceLine) (room : Bool) → has_condition_left level ≡ room → Walk lines → Result lines
    conditions lines true room walk =
        let holds : KnownSymbols → Bool = λ known. (condition known line.text at).holds in
        let g = acted_line lines (λ known. own (condition_remarks known line.text at)
        (stage_of (within_condition (holds known) (holds known) level) (counting 1 before) (left_of lines)))
        (λ known. if_acts level before known line (left_of lines) at true is (same_marks lines left ∙ around) room) walk in
        let p = again_parts level (holds g.known) (holds g.known) (counting 1 before) lines left g.more around taking ends
        g.next in
        let head : UnfoldedLine = own_line level g.known line (condition_remarks g.known line.text at) in
        of_gives (suc n) level before (line ∷ lines) left gives (head ∷ g.more) g.whole (record {
          taken = line ∷ p.taken;
          others = p.others;
          lines_are = ap (λ (ls : List SourceLine). line ∷ ls) p.lines_are;
          first = head ∷ p.first;
          later = p.later;
          gives_are = ap (λ (gs : List UnfoldedLine). head ∷ gs) p.gives_are;
          after = p.after;
          ending = p.ending;
          shape = shapes.Shape.Condition level before p.after p.ending g.known line p.taken p.first at is room p.parts;
          stop = lifted_stop level n p.after p.ending p.others left p.later p.stop;
        })
    conditions lines false full walk =
        let g = acted_line lines (λ known. own (remarks_of flag_O []) (text_stage true level 0 (counting 1 before) (left_of lines)))
        (λ known. if_acts level before known line (left_of lines) at false is (same_marks lines left ∙ around) full) walk in
        of_gives (suc n) level before (line ∷ lines) left gives (own_line level g.known line (remarks_of flag_O []) ∷ g.more)
        g.whole
        (refused g.known g.more lines full (text_split true lines 0) g.next)

  -- ---- `.IIF`

  module _ (at : ℕ) (is : operation_at level before line ≡ OwnDirective word.Iif at) (known : KnownSymbols) (more : List UnfoldedLine)
      (lines : List SourceLine) where
    abbrev head : UnfoldedLine
    head = own_line level known line (immediate.remarks known line.text at)

    abbrev Immediate : Type 0
    Immediate = Parsed (suc n) level before (line ∷ lines) left (head ∷ more)

    with_statement : (next : SourceLine) → statement known line.text at ≡ next ∷ []
        → (p : Parsed n level (counting 1 before) (next ∷ lines) left more) → (taken : List SourceLine) → p.taken ≡ taken
        → Immediate
    with_statement next says p [] none =
        let nothing = none_of level (counting 1 before) p.after p.ending p.first p.taken p.shape none in
        let others : p.others ≡ next ∷ lines = sym (p.lines_are ∙ ap (λ (t : List SourceLine). t ++ p.others) none) in
        let stops = stop_breaks level n p.after p.ending p.others left p.later next lines p.stop others in
        let later : p.later ≡ more = sym (p.gives_are ∙ ap (λ (f : List UnfoldedLine). f ++ p.later) nothing.0) in
        let breaks : Breaks level n (counting 1 before) next lines left more
        = subst (λ (gs : List UnfoldedLine). Breaks level n (counting 1 before) next lines left gs) later
        (subst (λ (s : Situation). Breaks level n s next lines left p.later) nothing.1 stops.1) in
        broken (suc n) level before line lines left (head ∷ more) stops.0
        (Breaks.ByStatement (suc n) before line lines left more known at next is says
        (lifted_breaks level n (counting 1 before) next lines left more breaks))
    with_statement next says p (other ∷ taken) some =
        let are : next ∷ lines ≡ other ∷ (taken ++ p.others) = p.lines_are ∙ ap (λ (t : List SourceLine). t ++ p.others) some in
        let same : next ≡ other = cc in
        let lines_are : lines ≡ taken ++ p.others = cc in
        let statement_first : p.taken ≡ statement known line.text at ++ taken
        = some ∙ ap (λ (l : SourceLine). l ∷ taken) (sym same) ∙ ap (λ (ls : List SourceLine). ls ++ taken) (sym says) in
        record {
          taken = line ∷ taken;
          others = p.others;
          lines_are = ap (λ (ls : List SourceLine). line ∷ ls) lines_are;
          first = head ∷ p.first;
          later = p.later;
          gives_are = ap (λ (gs : List UnfoldedLine). head ∷ gs) p.gives_are;
          after = p.after;
          ending = p.ending;
          shape = shapes.Shape.Immediate level before p.after p.ending known line taken p.first at is
              (subst (λ (ls : List SourceLine). Shape level (counting 1 before) ls p.first p.after p.ending) statement_first
              p.shape);
          stop = lifted_stop level n p.after p.ending p.others left p.later p.stop;
        }

    by_statement : Parsed n level (counting 1 before) (statement known line.text at ++ lines) left more
        → (statement known line.text at ≡ []) ⊎ ((next : SourceLine) × (statement known line.text at ≡ next ∷ [])) → Immediate
    by_statement p (inl none) =
        grown n level before (counting 1 before) (line ∷ []) lines (head ∷ []) more left
        (subst (λ (st : List SourceLine). Parsed n level (counting 1 before) (st ++ lines) left more) none p)
        (λ taken first after ending shaped. shapes.Shape.Immediate level before after ending known line taken first at is
        (subst (λ (st : List SourceLine). Shape level (counting 1 before) (st ++ taken) first after ending) (sym none) shaped))
    by_statement p (inr one) =
        let p' = subst (λ (st : List SourceLine). Parsed n level (counting 1 before) (st ++ lines) left more) one.1 p in
        with_statement one.0 one.1 p' p'.taken refl

  immediates : (lines : List SourceLine) (at : ℕ) → operation_at level before line ≡ OwnDirective word.Iif at → Walk lines
      → Result lines
  immediates lines at is walk =
      let g = acted_line lines (λ known. own (immediate.remarks known line.text at)
      (stage_of level (counting 1 before) (map line_left (statement known line.text at ++ lines) ++ left)))
      (λ known. ap (acted_by known line.text (here lines)) is ∙ ap (own (immediate.remarks known line.text at))
      (with_next level (counting 1 before) line.text (immediate.immediate known line.text at).holds
      (immediate.immediate known line.text at).statement lines left)) walk in
      of_gives (suc n) level before (line ∷ lines) left gives
      (own_line level g.known line (immediate.remarks g.known line.text at) ∷ g.more) g.whole
      (by_statement at is g.known g.more lines
      (again level (counting 1 before) (statement g.known line.text at ++ lines) left g.more around taking ends g.next)
      (statement_is line.text (immediate.immediate g.known line.text at).holds
      (immediate.immediate g.known line.text at).statement))

  -- ---- ends

  exits : (lines : List SourceLine) (at : ℕ) → operation_at level before line ≡ OwnDirective word.Mexit at → (marks' : List Mark)
      → level.around ≡ marks' → Walk lines → Result lines
  exits lines at is [] none walk =
      astray lines (flagged flag_O line.text at)
      (subst (λ (o : Operation). IsAstray level line.text o (flagged flag_O line.text at)) (sym is)
      (shapes.IsAstray.MacroExit at none)) walk
  exits lines at is (innermost ∷ marks') some walk =
      let there : Stage = stage_of level (counting 1 before) left in
      let remarks : Remarks = flagged 0 line.text at in
      let by : Bool → Acted = λ b. if b then own remarks (record (here lines) { left = after_mark (left_of lines) })
      else own (flagged flag_O line.text at) (here lines) in
      let expanding : has_mark level.around ≡ true = ap has_mark some in
      let g = acted_line lines (λ known. own remarks there)
      (λ known. ap (acted_by known line.text (here lines)) is
      ∙ ap (λ (m : List Mark). by (has_mark m)) (same_marks lines left ∙ around)
      ∙ ap by expanding ∙ ap (λ (l : List RemainingItem). own remarks (record (here lines) { left = l })) (past_lines lines left ∙ ends))
      walk in
      of_gives (suc n) level before (line ∷ lines) left gives (own_line level g.known line remarks ∷ g.more) g.whole
      (all_taken (suc n) level before (line ∷ lines) left (own_line level g.known line remarks ∷ []) g.more (counting 1 before)
      Stops there
      (shapes.Shape.Exit level before g.known line lines at is expanding)
      (record { conditions = only_entered level.entered; opening = None; is = refl }) (lifted n there g.more g.next))

  ended : (lines : List SourceLine) (at : ℕ) → operation_at level before line ≡ OwnDirective word.End at → Walk lines → Result lines
  ended lines at is walk =
      let there : Stage = record (here lines) { has_ended = true } in
      let g = acted_line lines (λ known. foreign there) (λ known. ap (acted_by known line.text (here lines)) is) walk in
      of_gives (suc n) level before (line ∷ lines) left gives (other_line level g.known line ∷ g.more) g.whole
      (all_taken (suc n) level before (line ∷ lines) left (other_line level g.known line ∷ []) g.more (counting 1 before) Ends
      there
      (shapes.Shape.End level before g.known line lines at is) refl (lifted n there g.more g.next))

  -- ---- a directive of a condition

  own_word : (lines : List SourceLine) (remarks : Remarks) (entered : List OpenCondition) → level.entered ≡ entered
      → IsOwn (operation_at level before line)
      → (level.entered ≡ [] → IsAstray level line.text (operation_at level before line) remarks) → Walk lines → Result lines
  own_word lines remarks [] none is out walk = astray lines remarks (out none) walk
  own_word lines remarks (condition' ∷ entered) some is out walk =
      broken (suc n) level before line lines left gives (λ none. absurd (let bad : condition' ∷ entered ≡ []
      = sym some ∙ none in cc))
      (Breaks.ByWord (suc n) before line lines left gives is walk)

  -- ---- by the kind of the operator

  by_kind : (lines : List SourceLine) (operator : Operation) → operation_at level before line ≡ operator → Kind operator
      → Walk lines → Result lines
  by_kind lines _ is (Kind.Others operator other') walk = other lines (subst IsOther (sym is) other') walk
  by_kind lines _ is (Kind.Called macro at) walk = calls lines macro at is walk
  by_kind lines _ is (Kind.Condition at) walk = conditions at is lines (has_condition_left level) refl walk
  by_kind lines _ is (Kind.OfPart operator part at begins) walk =
      own_word lines (flagged flag_O line.text at) level.entered refl
      (subst IsOwn (sym is) (IsOwn.Begin operator part at begins))
      (λ none. subst (λ (o : Operation). IsAstray level line.text o (flagged flag_O line.text at)) (sym is)
      (shapes.IsAstray.Begin operator part at begins none)) walk
  by_kind lines _ is (Kind.EndCondition at) walk =
      own_word lines (flagged flag_O line.text at) level.entered refl (subst IsOwn (sym is) (IsOwn.Close at))
      (λ none. subst (λ (o : Operation). IsAstray level line.text o (flagged flag_O line.text at)) (sym is)
      (shapes.IsAstray.EndCondition at none)) walk
  by_kind lines _ is (Kind.Immediate at) walk = immediates lines at is walk
  by_kind lines _ is (Kind.Body operator opening) walk =
      bodies lines (λ known text. subst (λ (o : Operation). SomePurpose known text o) (sym is) (opening known text)) walk
  by_kind lines _ is (Kind.EndMacro at) walk =
      astray lines (remarks_of flag_O [])
      (subst (λ (o : Operation). IsAstray level line.text o (remarks_of flag_O [])) (sym is) (shapes.IsAstray.EndMacro at)) walk
  by_kind lines _ is (Kind.EndRepeat at) walk =
      astray lines (remarks_of flag_O [])
      (subst (λ (o : Operation). IsAstray level line.text o (remarks_of flag_O [])) (sym is) (shapes.IsAstray.EndRepeat at)) walk
  by_kind lines _ is (Kind.Exit at) walk = exits lines at is level.around refl walk
  by_kind lines _ is (Kind.End at) walk = ended lines at is walk

-- ---- lines

no_lines : (n : ℕ) (level : Level) (before : Situation) (left : List RemainingItem) (gives : List UnfoldedLine)
    → Rested n (before_lines level before [] left) gives
    → Parsed n level before [] left gives
no_lines n level before left gives rested =
    all_taken n level before [] left [] gives before GoesOn (stage_of level before left) (shapes.Shape.Nothing level before)
    refl rested

pub reads_none : Reads 0
reads_none level before [] left gives around taking ends rested = no_lines 0 level before left gives rested
reads_none level before (line ∷ lines) left gives around taking ends rested =
    let rest : List RemainingItem = map line_left lines ++ left in
    absurd (no_moves (stage_of level before (Line line ∷ rest)) (stage_of level (counting 1 before) rest)
    (record { line = line; is_expanded = is_expanding rest }) gives rested (live_moves 0 level before line rest gives taking))

pub reads_more : (n : ℕ) → Reads n → ReadsParts n → Reads (suc n)
reads_more n again again_parts level before [] left gives around taking ends rested
    = no_lines (suc n) level before left gives rested
reads_more n again again_parts level before (line ∷ lines) left gives around taking ends rested =
    by_kind n again again_parts level before line left gives around taking ends lines (operation_at level before line) refl
    (kind (operation_at level before line)) rested
