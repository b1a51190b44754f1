-- A live line at a level, and the lines after it.
use Rattle.std.proofs.Common.{◌≡◌, ◌∙◌, ℕ, Bool, true, false, List, [], ◌∷◌, ◌++◌, map, append_assoc, Option, Some, None, refl, ap}
use Rattle.std.specs.Prelude.{not, if◌then◌else◌}
use Rattle.std.proofs.lemmas.List.{map-append}
use Rattle.m11_base.specs.Devices.{Bytes}
use Rattle.m11_scan.specs.Line.{SourceLine}
use Rattle.m11_unfold_rules.specs.Directives.{directive}
use Rattle.m11_scan_expressions.specs.Expressions.{KnownSymbols}
use Rattle.m11_unfold_rules.specs.declared.directives.Directive.{Directive}
use Rattle.m11_unfold_rules.specs.declared.directives.Directive.TheVariants as word
use Rattle.m11_unfold_bodies.specs.Bodies.{Cut, cut_after, cut_at, depth_after, texts_of, with_line}
use Rattle.m11_unfold_bodies.specs.Conditions.{OpenConditions, is_live_inside}
use Rattle.m11_unfold_bodies.specs.Left.{RemainingItem, Line, End, after_mark, count_in, has_mark, is_expanding, marks}
use Rattle.m11_unfold_bodies.specs.declared.conditions.Part.{Part}
use Rattle.m11_unfold_bodies.specs.declared.mark.Mark.{Mark}
use Rattle.m11_unfold_rules.specs.Acting.{Acted, OwnDirective, Operation, acted_by}
use Rattle.m11_unfold_rules.specs.Stages.{Stage, line_left}
use Rattle.m11_unfold_rules.specs.Taking.{Gives, Live, move, nesting, skipped_by}
use Rattle.m11_unfold_rules.specs.Unfolding.{UnfoldedLine, given}
use Rattle.m11_unfold_rules.proofs.Cases.{live_or_skipped}
use Rattle.m11_unfold_rules.proofs.Operators.{has_word}
use Rattle.m11_unfold_laws.specs.Levels.{Level, Situation, counting, only_entered, operation_at, stage_of, within_condition}
use Rattle.m11_unfold_laws.specs.Shapes.{Begins}
use Rattle.m11_unfold_laws.specs.Shapes as shapes
use Rattle.m11_unfold_laws.proofs.Runs.{Runs, and_then, from_same, gives_line}

-- ---- what is left

pub parted : (one other : List SourceLine) (left : List RemainingItem)
    → map line_left (one ++ other) ++ left ≡ map line_left one ++ (map line_left other ++ left)
parted one other left = ap (λ (l : List RemainingItem). l ++ left) (map-append line_left one other)
    ∙ append_assoc (map line_left one) (map line_left other) left

pub past_lines : (lines : List SourceLine) (left : List RemainingItem) → after_mark (map line_left lines ++ left) ≡ after_mark left
past_lines [] left = refl
past_lines (line ∷ lines) left = past_lines lines left

-- ---- a live line

abbrev pub shown : Level → KnownSymbols → SourceLine → Acted → UnfoldedLine
shown level known line acted = record {
  live = record { line = line; is_expanded = has_mark level.around };
  known = known;
  is_own = acted.is_own;
  remarks = acted.remarks;
  arguments = count_in level.around;
}

module _ (P : Stage → Type 0) (level : Level) (situation : Situation) (known : KnownSymbols) (line : SourceLine) (left : List RemainingItem)
    (acted : Acted) (gives : List UnfoldedLine) where
  abbrev before : Stage
  before = stage_of level situation (Line line ∷ left)

  abbrev here : Stage
  here = stage_of level (counting 1 situation) left

  abbrev live : Live
  live = record { line = line; is_expanded = is_expanding left }

  -- if the next move makes a line live, the line, followed by a run from the stage after its operator, is a run
  pub line_by : marks left ≡ level.around → move before ≡ Gives live here
      → acted_by known line.text here (operation_at level situation line) ≡ acted → Runs acted.after gives P
      → Runs before (shown level known line acted ∷ gives) P
  line_by around moves acts next =
      let told : List Mark → Acted → UnfoldedLine = λ m a. record {
        live = record { line = line; is_expanded = has_mark m };
        known = known;
        is_own = a.is_own;
        remarks = a.remarks;
        arguments = count_in m;
      } in
      let same : given known live here ≡ shown level known line acted
      = ap (told (marks left)) acts ∙ ap (λ (m : List Mark). told m acted) around in
      let Q : Stage → Type 0 = λ s. s ≡ acted.after in
      and_then Q P before (shown level known line acted ∷ []) gives
      (gives_line Q before here live known (shown level known line acted) acted moves acts same refl)
      (λ s is. from_same P s acted.after gives is next)

  -- at a level whose lines are live, a line, followed by a run from the stage after its operator, is a run
  pub line_then : marks left ≡ level.around → is_live_inside level.entered ≡ true
      → acted_by known line.text here (operation_at level situation line) ≡ acted → Runs acted.after gives P
      → Runs before (shown level known line acted ∷ gives) P
  line_then around taking acts next =
      let moves : move before ≡ Gives live here
      = ap (λ (b : Bool). live_or_skipped
      (if not b then skipped_by (only_entered level.entered) (directive line.text) else None) line here) taking in
      line_by around moves acts next

-- ---- a directive of the condition around the line

module _ (level : Level) (holds : Bool) (situation : Situation) (line : SourceLine) (left : List RemainingItem) where
  abbrev in_part : Bool → Situation → List RemainingItem → Stage
  in_part is_live s l = stage_of (within_condition holds is_live level) s l

  abbrev Comes : Bool → Type 0
  Comes is_live = move (in_part is_live situation (Line line ∷ left))
      ≡ Gives (record { line = line; is_expanded = is_expanding left }) (in_part is_live (counting 1 situation) left)

  by_word : (d : Option Directive) → directive line.text ≡ d
      → skipped_by (only_entered (within_condition holds false level).entered) d ≡ None → Comes false
  by_word d is none =
      let c : OpenConditions = only_entered (within_condition holds false level).entered in
      let there : Stage = in_part false (counting 1 situation) left in
      ap (λ (w : Option Directive). live_or_skipped (skipped_by c w) line there) is
      ∙ ap (λ (o : Option OpenConditions). live_or_skipped o line there) none

  pub begin_comes : (is_live : Bool) (operator : Operation) (part : Part) (at : ℕ) → Begins operator part at
      → operation_at (within_condition holds is_live level) situation line ≡ operator → Comes is_live
  begin_comes true operator part at begins is = refl
  begin_comes false _ _ _ (shapes.Begins.IfFalse at) is =
      by_word (Some word.Iff)
      (has_word situation.macros (only_entered (within_condition holds false level).entered) line.text at word.Iff is) refl
  begin_comes false _ _ _ (shapes.Begins.IfTrue at) is =
      by_word (Some word.Ift)
      (has_word situation.macros (only_entered (within_condition holds false level).entered) line.text at word.Ift is) refl
  begin_comes false _ _ _ (shapes.Begins.IfTrueFalse at) is =
      by_word (Some word.Iftf)
      (has_word situation.macros (only_entered (within_condition holds false level).entered) line.text at word.Iftf is)
      refl

  pub close_comes : (is_live : Bool) (at : ℕ)
      → operation_at (within_condition holds is_live level) situation line ≡ OwnDirective word.Endc at → Comes is_live
  close_comes true at is = refl
  close_comes false at is =
      by_word (Some word.Endc)
      (has_word situation.macros (only_entered (within_condition holds false level).entered) line.text at word.Endc is)
      refl

-- ---- bodies before what is left

abbrev pub with_left : List RemainingItem → Cut → Cut
with_left left cut = record cut { after = cut.after ++ left }

cut_line : (text : Bytes) (lines : List SourceLine) (left : List RemainingItem)
    → ((depth : ℕ) → (cut_at nesting depth (map line_left lines)).is_closed ≡ true
    → cut_at nesting depth (map line_left lines ++ left) ≡ with_left left (cut_at nesting depth (map line_left lines)))
    → (depth : Option ℕ) → (cut_after text (map line_left lines) (λ d. cut_at nesting d (map line_left lines)) depth).is_closed
    ≡ true
    → cut_after text (map line_left lines ++ left) (λ d. cut_at nesting d (map line_left lines ++ left)) depth
    ≡ with_left left (cut_after text (map line_left lines) (λ d. cut_at nesting d (map line_left lines)) depth)
cut_line text lines left more None closed = refl
cut_line text lines left more (Some depth) closed = ap (with_line text) (more depth closed)

pub cut_further : (lines : List SourceLine) (left : List RemainingItem) (depth : ℕ)
    → (cut_at nesting depth (map line_left lines)).is_closed ≡ true
    → cut_at nesting depth (map line_left lines ++ left) ≡ with_left left (cut_at nesting depth (map line_left lines))
cut_further [] left depth closed = absurd (let bad : false ≡ true = closed in cc)
cut_further (line ∷ lines) left depth closed =
    cut_line line.text lines left (λ d shut. cut_further lines left d shut) (depth_after (nesting line.text) depth) closed

no_line : (left rest : List RemainingItem) (line : SourceLine) → after_mark left ≡ Line line ∷ rest → ⊥
no_line [] rest line is = absurd (let bad = is in cc)
no_line (Line other ∷ left) rest line is = no_line left rest line is
no_line (End mark ∷ left) rest line is = absurd (let bad = is in cc)

abbrev open_cut : List Bytes → List RemainingItem → Cut
open_cut body left = record { body = body; is_closed = false; after = left }

nothing_cut : (left : List RemainingItem) (depth : ℕ) → after_mark left ≡ left → cut_at nesting depth left ≡ open_cut [] left
nothing_cut [] depth ends = refl
nothing_cut (End mark ∷ left) depth ends = refl
nothing_cut (Line line ∷ left) depth ends = absurd (no_line left left line ends)

open_line : (text : Bytes) (lines : List SourceLine) (left : List RemainingItem)
    → ((depth : ℕ) → (cut_at nesting depth (map line_left lines)).is_closed ≡ false
    → cut_at nesting depth (map line_left lines ++ left) ≡ open_cut (texts_of lines) left)
    → (depth : Option ℕ) → (cut_after text (map line_left lines) (λ d. cut_at nesting d (map line_left lines)) depth).is_closed
    ≡ false
    → cut_after text (map line_left lines ++ left) (λ d. cut_at nesting d (map line_left lines ++ left)) depth
    ≡ open_cut (text ∷ texts_of lines) left
open_line text lines left more None shut = absurd (let bad : true ≡ false = shut in cc)
open_line text lines left more (Some depth) shut = ap (with_line text) (more depth shut)

pub cut_open : (lines : List SourceLine) (left : List RemainingItem) (depth : ℕ) → after_mark left ≡ left
    → (cut_at nesting depth (map line_left lines)).is_closed ≡ false
    → cut_at nesting depth (map line_left lines ++ left) ≡ open_cut (texts_of lines) left
cut_open [] left depth ends shut = nothing_cut left depth ends
cut_open (line ∷ lines) left depth ends shut =
    open_line line.text lines left (λ d is. cut_open lines left d ends is) (depth_after (nesting line.text) depth) shut
