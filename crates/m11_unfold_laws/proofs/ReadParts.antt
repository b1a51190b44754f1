-- Reading the rest of a condition yields its parts; and each source that unfolds has a shape.
use Rattle.std.proofs.Common.{◌≡◌, ◌∙◌, ℕ, zero, suc, Bool, true, false, List, [], ◌∷◌, ◌++◌, length, map, append_assoc, append-nil, Option, None, refl, sym, ap, subst}
use Rattle.m11_scan.specs.Line.{SourceLine}
use Rattle.m11_unfold_rules.specs.Directives.{directive}
use Rattle.m11_unfold_rules.specs.Immediate as immediate
use Rattle.m11_unfold_rules.specs.declared.directives.Directive.{Directive}
use Rattle.m11_unfold_rules.specs.declared.directives.Directive.TheVariants as word
use Rattle.m11_unfold_bodies.specs.Conditions.{is_live_in, is_live_inside}
use Rattle.m11_unfold_bodies.specs.Left.{RemainingItem, Line, after_mark, is_expanding, marks}
use Rattle.m11_unfold_bodies.specs.declared.conditions.Part.{Part}
use Rattle.m11_unfold_rules.specs.Acting.{OwnDirective, Operation, acted_by, flagged, own}
use Rattle.m11_unfold_rules.specs.Stages.{Stage, line_left, start}
use Rattle.m11_unfold_rules.specs.Taking.{Gives, Live, NothingLeft, move}
use Rattle.m11_unfold_rules.specs.Unfolding.{UnfoldedLine, Unfolds}
use Rattle.m11_unfold_rules.proofs.OtherLines.{same_marks}
use Rattle.m11_unfold_laws.specs.Laws.{Arrived, HasShape, before_lines}
use Rattle.m11_unfold_laws.specs.Levels.{Level, Situation, beginning, counting, only_entered, operation_at, own_line, source_level, stage_of, within_condition}
use Rattle.m11_unfold_laws.specs.Shapes.{Begins, Ending, GoesOn, Stops, IsText, OnePart, Parts, Shape, statement, unclosed}
use Rattle.m11_unfold_laws.specs.Shapes as shapes
use Rattle.m11_unfold_laws.proofs.Lines.{begin_comes, close_comes, parted}
use Rattle.m11_unfold_laws.proofs.Parsing.{Breaks, IsOwn, PartsParsed, Reads, ReadsParts, Stop, lifted_stop}
use Rattle.m11_unfold_laws.proofs.ReadLines.{reads_more, reads_none, whole_stop}
use Rattle.m11_unfold_laws.proofs.Resting.{Rested, all_moves, line_given, no_moves, past_run, rests_nowhere}
use Rattle.m11_unfold_laws.proofs.Runs.{from_same}
use Rattle.m11_unfold_laws.proofs.Shaped.{unclosed_arrived}
use Rattle.m11_unfold_laws.proofs.Splits.{IsOwnWord, TextSplit, directed_so, text_split}
use Rattle.m11_unfold_laws.proofs.Texts.{skips_text, text_stage}
use Rattle.m11_unfold_laws.proofs.Wholes.{nothing_left}
use Rattle.m11_unfold_laws.proofs.Words.{begins_acts, close_acts}

-- ---- after a part

-- a part, the directive after it, and what is read after that directive
pub record AfterPart (n : ℕ) (level : Level) (holds is_live : Bool) (before : Situation) (lines : List SourceLine)
    (first : List UnfoldedLine)
    (line : SourceLine) (others : List SourceLine) (left : List RemainingItem) (gives : List UnfoldedLine) : Type 0 where
  pub taken : List SourceLine
  pub rest : List SourceLine
  pub lines_are : others ≡ taken ++ rest
  pub more : List UnfoldedLine
  pub later : List UnfoldedLine
  pub gives_are : gives ≡ more ++ later
  pub after : Situation
  pub ending : Ending
  pub parts : Parts level holds is_live before (lines ++ line ∷ taken) (first ++ more) after ending
  pub stop : Stop level n after ending rest left later

-- after a part, lines that begin with a directive of the condition can be read, if they unfold to the end in at most this many moves
abbrev pub ReadsWord : ℕ → Type 0
ReadsWord n = (level : Level) (holds is_live : Bool) (before middle : Situation) (lines : List SourceLine) (first : List UnfoldedLine)
    (line : SourceLine) (others : List SourceLine) (left : List RemainingItem) (gives : List UnfoldedLine)
    → OnePart level holds is_live before lines first middle GoesOn
    → IsOwn (operation_at (within_condition holds is_live level) middle line)
    → marks left ≡ level.around → is_live_inside level.entered ≡ true → after_mark left ≡ left
    → Rested n (before_lines (within_condition holds is_live level) middle (line ∷ others) left) gives
    → AfterPart n level holds is_live before lines first line others left gives

module _ (level : Level) (holds is_live : Bool) (middle : Situation) (line : SourceLine) (others : List SourceLine)
    (left : List RemainingItem) where
  abbrev inside : Level
  inside = within_condition holds is_live level

  abbrev left_of : List RemainingItem
  left_of = map line_left others ++ left

  abbrev here : Stage
  here = stage_of inside (counting 1 middle) left_of

  abbrev live : Live
  live = record { line = line; is_expanded = is_expanding left_of }

  own_comes : (operator : Operation) → operation_at inside middle line ≡ operator → IsOwn operator
      → move (stage_of inside middle (Line line ∷ left_of)) ≡ Gives live here
  own_comes _ is (IsOwn.Begin operator part at begins)
      = begin_comes level holds middle line left_of is_live operator part at begins is
  own_comes _ is (IsOwn.Close at) = close_comes level holds middle line left_of is_live at is

pub word_none : ReadsWord 0
word_none level holds is_live before middle lines first line others left gives one is around taking ends rested =
    absurd (no_moves (stage_of (inside level holds is_live middle line others left) middle
    (Line line ∷ left_of level holds is_live middle line others left))
    (here level holds is_live middle line others left) (live level holds is_live middle line others left) gives rested
    (own_comes level holds is_live middle line others left
    (operation_at (inside level holds is_live middle line others left) middle line) refl is))

module _ (n : ℕ) (reads : Reads n) (reads_parts : ReadsParts n) (level : Level) (holds is_live : Bool) (before middle : Situation)
    (lines : List SourceLine) (first : List UnfoldedLine) (line : SourceLine) (others : List SourceLine) (left : List RemainingItem)
    (gives : List UnfoldedLine)
    (one : OnePart level holds is_live before lines first middle GoesOn) (around : marks left ≡ level.around)
    (taking : is_live_inside level.entered ≡ true) (ends : after_mark left ≡ left)
    (rested : Rested (suc n) (before_lines (within_condition holds is_live level) middle (line ∷ others) left) gives) where
  abbrev part_level : Level
  part_level = within_condition holds is_live level

  abbrev after_left : List RemainingItem
  after_left = map line_left others ++ left

  abbrev part_here : Stage
  part_here = stage_of part_level (counting 1 middle) after_left

  begin_more : (part : Part) (at : ℕ) → Begins (operation_at part_level middle line) part at
      → AfterPart (suc n) level holds is_live before lines first line others left gives
  begin_more part at begins =
      let next_live : Bool = is_live_in part holds in
      let g = line_given n part_level middle line after_left gives
      (λ known. own (flagged 0 line.text at) (stage_of (within_condition holds next_live level) (counting 1 middle) after_left))
      (same_marks others left ∙ around)
      (begin_comes level holds middle line after_left is_live (operation_at part_level middle line) part at begins refl)
      (λ known. begins_acts known line.text level holds is_live (counting 1 middle) after_left
      (operation_at part_level middle line) part at begins)
      rested in
      let p = reads_parts level holds next_live (counting 1 middle) others left g.more around taking ends g.next in
      let told : UnfoldedLine = own_line level g.known line (flagged 0 line.text at) in
      record {
        taken = p.taken;
        rest = p.others;
        lines_are = p.lines_are;
        more = told ∷ p.first;
        later = p.later;
        gives_are = g.whole ∙ ap (λ (gs : List UnfoldedLine). told ∷ gs) p.gives_are;
        after = p.after;
        ending = p.ending;
        parts = shapes.Parts.Next level holds is_live before middle p.after p.ending g.known line lines p.taken first p.first
            part at one begins
            p.parts;
        stop = lifted_stop level n p.after p.ending p.others left p.later p.stop;
      }

  close_more : (at : ℕ) → operation_at part_level middle line ≡ OwnDirective word.Endc at
      → AfterPart (suc n) level holds is_live before lines first line others left gives
  close_more at is =
      let g = line_given n part_level middle line after_left gives
      (λ known. own (flagged 0 line.text at) (stage_of level (counting 1 middle) after_left)) (same_marks others left ∙ around)
      (close_comes level holds middle line after_left is_live at is)
      (λ known. ap (acted_by known line.text part_here) is
      ∙ close_acts known line.text level holds is_live (counting 1 middle) after_left at)
      rested in
      let p = reads level (counting 1 middle) others left g.more around taking ends g.next in
      let told : UnfoldedLine = own_line level g.known line (flagged 0 line.text at) in
      record {
        taken = p.taken;
        rest = p.others;
        lines_are = p.lines_are;
        more = told ∷ p.first;
        later = p.later;
        gives_are = g.whole ∙ ap (λ (gs : List UnfoldedLine). told ∷ gs) p.gives_are;
        after = p.after;
        ending = p.ending;
        parts = shapes.Parts.Close level holds is_live before middle p.after p.ending g.known line lines p.taken first p.first
            at one is p.shape;
        stop = lifted_stop level n p.after p.ending p.others left p.later p.stop;
      }

  own_more : (operator : Operation) → operation_at part_level middle line ≡ operator → IsOwn operator
      → AfterPart (suc n) level holds is_live before lines first line others left gives
  own_more _ is (IsOwn.Begin operator part at begins) =
      begin_more part at (subst (λ (o : Operation). Begins o part at) (sym is) begins)
  own_more _ is (IsOwn.Close at) = close_more at is

pub word_more : (n : ℕ) → Reads n → ReadsParts n → ReadsWord (suc n)
word_more n reads reads_parts level holds is_live before middle lines first line others left gives one is around taking ends
    rested =
    own_more n reads reads_parts level holds is_live before middle lines first line others left gives one around taking ends
    rested
    (operation_at (within_condition holds is_live level) middle line) refl is

-- ---- parts

module _ (n : ℕ) (reads : Reads n) (reads_word : ReadsWord n) (level : Level) (holds : Bool) (left : List RemainingItem)
    (around : marks left ≡ level.around) (taking : is_live_inside level.entered ≡ true) (ends : after_mark left ≡ left) where
  -- after a live part, lines that begin with a directive of the condition, or with an `.IIF` whose statement is one, can be read
  breaks_more : (k : ℕ) (middle : Situation) (line : SourceLine) (others : List SourceLine) (left' : List RemainingItem)
      (later : List UnfoldedLine)
      → Breaks (within_condition holds true level) k middle line others left' later → k ≡ n → left' ≡ left → (before : Situation)
      (lines : List SourceLine) (first : List UnfoldedLine) → OnePart level holds true before lines first middle GoesOn
      → AfterPart n level holds true before lines first line others left later
  breaks_more _ _ _ _ _ _ (Breaks.ByWord k middle line others left' later is rested) count same before lines first one =
      reads_word level holds true before middle lines first line others left later one is around taking ends
      (subst (λ (i : ℕ). Rested i (before_lines (within_condition holds true level) middle (line ∷ others) left) later) count
      (subst (λ (l : List RemainingItem). Rested k (before_lines (within_condition holds true level) middle (line ∷ others) l) later)
      same rested))
  breaks_more _ _ _ _ _ _ (Breaks.ByStatement k middle line others left' later known at next is says breaks) count same before
      lines first one =
      let p = breaks_more k (counting 1 middle) next others left' later breaks count same (counting 1 middle) [] []
      (shapes.OnePart.Live level holds (counting 1 middle) (counting 1 middle) GoesOn [] []
      (shapes.Shape.Nothing (within_condition holds true level) (counting 1 middle))) in
      let told : UnfoldedLine = own_line level known line (immediate.remarks known line.text at) in
      record {
        taken = p.taken;
        rest = p.rest;
        lines_are = p.lines_are;
        more = told ∷ p.more;
        later = p.later;
        gives_are = ap (λ (gs : List UnfoldedLine). told ∷ gs) p.gives_are;
        after = p.after;
        ending = p.ending;
        parts = shapes.Parts.ImmediateInPart level holds before middle p.after p.ending known line lines p.taken first p.more at
            one is
            (subst (λ (st : List SourceLine).
            Parts level holds true (counting 1 middle) (st ++ p.taken) p.more p.after p.ending) (sym says) p.parts);
        stop = p.stop;
      }

  -- a part and the lines read after it are read together as the rest of a condition
  joined : (is_live : Bool) (before : Situation) (lines : List SourceLine) (first : List UnfoldedLine) (line : SourceLine)
      (others : List SourceLine)
      (later : List UnfoldedLine) → AfterPart n level holds is_live before lines first line others left later
      → PartsParsed n level holds is_live before (lines ++ line ∷ others) left (first ++ later)
  joined is_live before lines first line others later p = record {
    taken = lines ++ line ∷ p.taken;
    others = p.rest;
    lines_are = ap (λ (ls : List SourceLine). lines ++ line ∷ ls) p.lines_are ∙ sym (append_assoc lines (line ∷ p.taken) p.rest);
    first = first ++ p.more;
    later = p.later;
    gives_are = ap (λ (gs : List UnfoldedLine). first ++ gs) p.gives_are ∙ sym (append_assoc first p.more p.later);
    after = p.after;
    ending = p.ending;
    parts = p.parts;
    stop = p.stop;
  }

  -- a live part, up to where reading stops, and the lines read after it are the rest of a condition
  after_live : (before : Situation) (lines : List SourceLine) (first later : List UnfoldedLine) (after : Situation) (ending : Ending)
      (others : List SourceLine) (left' : List RemainingItem) (k : ℕ)
      → Stop (within_condition holds true level) k after ending others left' later → k ≡ n → left' ≡ left
      → Shape (within_condition holds true level) before lines first after ending
      → PartsParsed n level holds true before (lines ++ others) left (first ++ later)
  after_live before lines first _ _ _ _ _ _ (Stop.Whole k after ending left' later stage there rested) count same shaped
      = record {
        taken = lines;
        others = [];
        lines_are = refl;
        first = first;
        later = later;
        gives_are = refl;
        after = after;
        ending = unclosed ending;
        parts = shapes.Parts.Last level holds true before after ending lines first
            (shapes.OnePart.Live level holds before after ending lines first shaped);
        stop = Stop.Whole n after (unclosed ending) left later stage
            (unclosed_arrived ending level holds true after left stage
            (subst (λ (l : List RemainingItem). Arrived ending (within_condition holds true level) after l stage) same there))
            (subst (λ (i : ℕ). Rested i stage later) count rested);
      }
  after_live before lines first _ _ _ _ _ _ (Stop.Broken k after line others left' later open' breaks) count same shaped =
      joined true before lines first line others later
      (breaks_more k after line others left' later breaks count same before lines first
      (shapes.OnePart.Live level holds before after GoesOn lines first shaped))

  live_part : (before : Situation) (lines : List SourceLine) (gives : List UnfoldedLine)
      → Rested n (before_lines (within_condition holds true level) before lines left) gives
      → PartsParsed n level holds true before lines left gives
  live_part before lines gives rested =
      let p = reads (within_condition holds true level) before lines left gives around refl ends rested in
      subst (λ (ls : List SourceLine). PartsParsed n level holds true before ls left gives) (sym p.lines_are)
      (subst (λ (gs : List UnfoldedLine). PartsParsed n level holds true before (p.taken ++ p.others) left gs) (sym p.gives_are)
      (after_live before p.taken p.first p.later p.after p.ending p.others left n p.stop refl refl p.shape))

  -- a directive that ends the skipped text of a part is one of the condition
  own_of : (middle : Situation) (line : SourceLine) (it : Option Directive) → IsOwnWord false it → directive line.text ≡ it
      → IsOwn (operation_at (within_condition holds false level) middle line)
  own_of middle line _ IsOwnWord.EndCondition is =
      let d = directed_so (only_entered (within_condition holds false level).entered) middle.macros line.text word.Endc
      refl is in
      subst IsOwn (sym d.is) (IsOwn.Close d.at)
  own_of middle line _ (IsOwnWord.IfFalse live_text) is =
      let d = directed_so (only_entered (within_condition holds false level).entered) middle.macros line.text word.Iff refl
      is in
      subst IsOwn (sym d.is) (IsOwn.Begin (OwnDirective word.Iff d.at) _ d.at (shapes.Begins.IfFalse d.at))
  own_of middle line _ (IsOwnWord.IfTrue live_text) is =
      let d = directed_so (only_entered (within_condition holds false level).entered) middle.macros line.text word.Ift refl
      is in
      subst IsOwn (sym d.is) (IsOwn.Begin (OwnDirective word.Ift d.at) _ d.at (shapes.Begins.IfTrue d.at))
  own_of middle line _ (IsOwnWord.IfTrueFalse live_text) is =
      let d = directed_so (only_entered (within_condition holds false level).entered) middle.macros line.text word.Iftf
      refl is in
      subst IsOwn (sym d.is) (IsOwn.Begin (OwnDirective word.Iftf d.at) _ d.at (shapes.Begins.IfTrueFalse d.at))

  text_part : (before : Situation) (gives : List UnfoldedLine) (lines : List SourceLine) → TextSplit false 0 lines
      → Rested n (before_lines (within_condition holds false level) before lines left) gives
      → PartsParsed n level holds false before lines left gives
  text_part before gives _ (TextSplit.All _ last lines text) rested =
      let inner : Level = within_condition holds false level in
      let after : Situation = counting (length lines) before in
      let stage : Stage = text_stage false inner last after left in
      let next = past_run (before_lines inner before lines left) stage gives n
      (skips_text false inner 0 lines last text before left refl) rested in
      record {
        taken = lines;
        others = [];
        lines_are = sym (append-nil lines);
        first = [];
        later = gives;
        gives_are = refl;
        after = after;
        ending = Stops;
        parts = shapes.Parts.Last level holds false before after Stops lines []
            (shapes.OnePart.OpenText level holds before lines last text);
        stop = Stop.Whole n after Stops left gives stage
            (record {
              conditions = record { entered = inner.entered; nested = last; is_past = false };
              opening = None;
              is = refl;
            })
            next;
      }
  text_part before gives _ (TextSplit.UpTo _ text line others skipped own') rested =
      let inner : Level = within_condition holds false level in
      let middle : Situation = counting (length text) before in
      let there : Stage = before_lines inner middle (line ∷ others) left in
      let next = past_run (before_lines inner before (text ++ line ∷ others) left) there gives n
      (from_same (λ s. s ≡ there) (before_lines inner before (text ++ line ∷ others) left)
      (stage_of inner before (map line_left text ++ (map line_left (line ∷ others) ++ left))) []
      (ap (stage_of inner before) (parted text (line ∷ others) left))
      (skips_text false inner 0 text 0 skipped before (map line_left (line ∷ others) ++ left) refl)) rested in
      joined false before text [] line others gives
      (reads_word level holds false before middle text [] line others left gives
      (shapes.OnePart.Text level holds before text skipped)
      (own_of middle line (directive line.text) own' refl) around taking ends next)

pub parts_by : (n : ℕ) → Reads n → ReadsWord n → ReadsParts n
parts_by n reads reads_word level holds true before lines left gives around taking ends rested =
    live_part n reads reads_word level holds left around taking ends before lines gives rested
parts_by n reads reads_word level holds false before lines left gives around taking ends rested =
    text_part n reads reads_word level holds left around taking ends before gives lines (text_split false lines 0) rested

-- ---- all

pub record ReadsAll (n : ℕ) : Type 0 where
  pub lines : Reads n
  pub parts : ReadsParts n

pub reads_all : (n : ℕ) → ReadsAll n
reads_all zero = record { lines = reads_none; parts = parts_by 0 reads_none word_none }
reads_all (suc n) = next (reads_all n) where
  next : ReadsAll n → ReadsAll (suc n)
  next lower =
      let lines : Reads (suc n) = reads_more n lower.lines lower.parts in
      record { lines = lines; parts = parts_by (suc n) lines (word_more n lower.lines lower.parts) }

-- ---- a whole source

pub has_shape : (source : List SourceLine) (gives : List UnfoldedLine) (stage : Stage) → Unfolds source gives stage → move stage ≡ NothingLeft
    → HasShape source gives
has_shape source gives stage unfolds rests =
    let moves = all_moves (start source) stage gives unfolds rests in
    let rested : Rested moves.moves (before_lines source_level beginning source []) gives
    = subst (λ (s : Stage). Rested moves.moves s gives)
    (ap (stage_of source_level beginning) (sym (append-nil (map line_left source)))) moves.rested in
    let all = reads_all moves.moves in
    let p = all.lines source_level beginning source [] gives refl refl refl rested in
    let stopped = whole_stop source_level moves.moves p.after p.ending p.others [] p.later refl p.stop in
    let on = stopped.1 in
    let none : p.later ≡ [] = rests_nowhere moves.moves on.stage p.later on.next
    (nothing_left p.ending p.after on.stage on.holds) in
    let lines_are : p.taken ≡ source
    = sym (p.lines_are ∙ ap (λ (o : List SourceLine). p.taken ++ o) stopped.0 ∙ append-nil p.taken) in
    let gives_are : p.first ≡ gives = sym (p.gives_are ∙ ap (λ (g : List UnfoldedLine). p.first ++ g) none ∙ append-nil p.first) in
    record {
      after = p.after;
      ending = p.ending;
      shape = subst (λ (g : List UnfoldedLine). Shape source_level beginning source g p.after p.ending) gives_are
          (subst (λ (ls : List SourceLine). Shape source_level beginning ls p.first p.after p.ending) lines_are p.shape);
    }
