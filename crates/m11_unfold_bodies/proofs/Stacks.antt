-- What is left, by the expansions that are open.
use Rattle.std.proofs.Common.{◌≡◌, ℕ, ◌+◌, Bool, true, false, List, [], ◌∷◌, ◌++◌, length, drop, get_or, ◌<◌, refl, sym, ap, ◌∙◌, append_assoc, arith, Option, Some, None, inl, inr}
use Rattle.std.specs.Prelude.{if◌then◌else◌}
use Rattle.std.specs.List.{flat_map}
use Rattle.m11_scan.specs.Line.{SourceLine}
use Rattle.m11_unfold_bodies.specs.Bodies.{Template}
use Rattle.m11_unfold_bodies.specs.Substitution.{line_with}
use Rattle.std.proofs.lemmas.List.{drop_all, drop_more}
use Rattle.m11_unfold_bodies.specs.declared.mark.Mark.{Mark}
use Rattle.m11_unfold_bodies.specs.Left.{RemainingItem, Line, End, marks, has_mark, round, expanded, after_mark, count_in, bytes_in, conditions_in}
use Rattle.m11_unfold_bodies.specs.Frames.{Frame, HasNext, of_rounds, lines_of, stacked, line_left, line_where, is_there, has_frame, first_of, without_first, remains, count_from, bytes_from, conditions_from}

-- ---- lines have no end

-- functions of the ends that are left skip the lines before them
module _ (formals : List (ℕ × ℕ)) where
  marks-round : (body actuals : List (List ℕ)) (left : List RemainingItem) → marks (round formals body actuals ++ left) ≡ marks left
  marks-round [] actuals left = refl
  marks-round (text ∷ body) actuals left = marks-round body actuals left

  pub marks-rounds : (body : List (List ℕ)) (rounds : List (List (List ℕ))) (left : List RemainingItem)
      → marks (flat_map (round formals body) rounds ++ left) ≡ marks left
  marks-rounds body [] left = refl
  marks-rounds body (actuals ∷ rounds) left =
      ap marks (append_assoc (round formals body actuals) (flat_map (round formals body) rounds) left)
      ∙ marks-round body actuals (flat_map (round formals body) rounds ++ left) ∙ marks-rounds body rounds left

  marks-of_rounds : (body rest : List (List ℕ)) (rounds : List (List (List ℕ))) (left : List RemainingItem)
      → marks (of_rounds formals body rest rounds ++ left) ≡ marks left
  marks-of_rounds body rest [] left = refl
  marks-of_rounds body rest (actuals ∷ rounds) left =
      ap marks (append_assoc (round formals rest actuals) (flat_map (round formals body) rounds) left)
      ∙ marks-round rest actuals (flat_map (round formals body) rounds ++ left) ∙ marks-rounds body rounds left

  past-round : (body actuals : List (List ℕ)) (left : List RemainingItem) → after_mark (round formals body actuals ++ left) ≡ after_mark left
  past-round [] actuals left = refl
  past-round (text ∷ body) actuals left = past-round body actuals left

  past-rounds : (body : List (List ℕ)) (rounds : List (List (List ℕ))) (left : List RemainingItem)
      → after_mark (flat_map (round formals body) rounds ++ left) ≡ after_mark left
  past-rounds body [] left = refl
  past-rounds body (actuals ∷ rounds) left =
      ap after_mark (append_assoc (round formals body actuals) (flat_map (round formals body) rounds) left)
      ∙ past-round body actuals (flat_map (round formals body) rounds ++ left) ∙ past-rounds body rounds left

  past-of_rounds : (body rest : List (List ℕ)) (rounds : List (List (List ℕ))) (left : List RemainingItem)
      → after_mark (of_rounds formals body rest rounds ++ left) ≡ after_mark left
  past-of_rounds body rest [] left = refl
  past-of_rounds body rest (actuals ∷ rounds) left =
      ap after_mark (append_assoc (round formals rest actuals) (flat_map (round formals body) rounds) left)
      ∙ past-round rest actuals (flat_map (round formals body) rounds ++ left) ∙ past-rounds body rounds left

  pub no_lines : (rounds : List (List (List ℕ))) → of_rounds formals [] [] rounds ≡ []
  no_lines [] = refl
  no_lines (actuals ∷ rounds) = none rounds where
    none : (rounds : List (List (List ℕ))) → flat_map (round formals []) rounds ≡ []
    none [] = refl
    none (actuals ∷ rounds) = none rounds

  pub no_body : (body : List (List ℕ)) (rounds : List (List (List ℕ))) → length body ≡ 0 → of_rounds formals body body rounds ≡ []
  no_body [] rounds empty = no_lines rounds
  no_body (text ∷ body) rounds empty = absurd (omega arith)

marks-lines : (frame : Frame) (left : List RemainingItem) → marks (lines_of frame ++ left) ≡ marks left
marks-lines frame left =
    marks-of_rounds frame.template.formals frame.template.body (drop frame.index frame.template.body) frame.rounds left

past-lines : (frame : Frame) (left : List RemainingItem) → after_mark (lines_of frame ++ left) ≡ after_mark left
past-lines frame left =
    past-of_rounds frame.template.formals frame.template.body (drop frame.index frame.template.body) frame.rounds left

-- ---- the items of the innermost expansion come first

stacked-append : (frames : List Frame) (frame : Frame) (left : List RemainingItem)
    → stacked (frames ++ frame ∷ []) left ≡ lines_of frame ++ End frame.mark ∷ stacked frames left
stacked-append [] frame left = refl
stacked-append (outer ∷ frames) frame left = stacked-append frames frame (lines_of outer ++ End outer.mark ∷ left)

-- ---- counts over marks

abbrev pub marks_onto : List Frame → List Mark → List Mark
marks_onto [] marks = marks
marks_onto (frame ∷ inner) marks = marks_onto inner (frame.mark ∷ marks)

marks-stacked : (frames : List Frame) (left : List RemainingItem) → marks (stacked frames left) ≡ marks_onto frames (marks left)
marks-stacked [] left = refl
marks-stacked (frame ∷ inner) left =
    marks-stacked inner (lines_of frame ++ End frame.mark ∷ left)
    ∙ ap (marks_onto inner) (marks-lines frame (End frame.mark ∷ left))

marks-fed : (fed : Option SourceLine) → marks (line_left fed) ≡ []
marks-fed None = refl
marks-fed (Some line) = refl

pub marks-remains : (statement : Option SourceLine) (frames : List Frame) (fed : Option SourceLine)
    → marks (remains statement frames fed).left ≡ marks_onto frames []
marks-remains None frames fed = marks-stacked frames (line_left fed) ∙ ap (marks_onto frames) (marks-fed fed)
marks-remains (Some line) frames fed = marks-stacked frames (line_left fed) ∙ ap (marks_onto frames) (marks-fed fed)

length-onto : (frames : List Frame) (others : List Mark) → length (marks_onto frames others) ≡ length frames + length others
length-onto [] others = omega arith
length-onto (frame ∷ inner) others = let rest = length-onto inner (frame.mark ∷ others) in omega arith

module _ (statement : Option SourceLine) (frames : List Frame) (fed : Option SourceLine) where
  pub depth-remains : length (marks (remains statement frames fed).left) ≡ length frames
  depth-remains =
      let long = length-onto frames [] in
      let same = ap length (marks-remains statement frames fed) in
      omega arith

  pub count-remains : count_in (marks (remains statement frames fed).left) ≡ count_from None frames
  count-remains = ap count_in (marks-remains statement frames fed) ∙ go frames [] where
    go : (frames : List Frame) (marks : List Mark) → count_in (marks_onto frames marks) ≡ count_from (count_in marks) frames
    go [] marks = refl
    go (frame ∷ inner) marks = go inner (frame.mark ∷ marks)

  pub bytes-remains : bytes_in (marks (remains statement frames fed).left) ≡ bytes_from 0 frames
  bytes-remains = ap bytes_in (marks-remains statement frames fed) ∙ go frames [] where
    go : (frames : List Frame) (marks : List Mark) → bytes_in (marks_onto frames marks) ≡ bytes_from (bytes_in marks) frames
    go [] marks = refl
    go (frame ∷ inner) marks = go inner (frame.mark ∷ marks)

  pub conditions-remains : conditions_in (marks (remains statement frames fed).left) ≡ conditions_from 0 frames
  conditions-remains = ap conditions_in (marks-remains statement frames fed) ∙ go frames [] where
    go : (frames : List Frame) (marks : List Mark) → conditions_in (marks_onto frames marks) ≡ conditions_from (conditions_in marks) frames
    go [] marks = refl
    go (frame ∷ inner) marks = go inner (frame.mark ∷ marks)

has-onto : (frames : List Frame) (mark : Mark) (marks : List Mark) → has_mark (marks_onto frames (mark ∷ marks)) ≡ true
has-onto [] mark marks = refl
has-onto (frame ∷ inner) mark marks = has-onto inner frame.mark (mark ∷ marks)

pub expanding-remains : (statement : Option SourceLine) (frames : List Frame) (fed : Option SourceLine)
    → has_mark (marks (remains statement frames fed).left) ≡ has_frame frames
expanding-remains statement [] fed = ap has_mark (marks-remains statement [] fed)
expanding-remains statement (frame ∷ inner) fed =
    ap has_mark (marks-remains statement (frame ∷ inner) fed) ∙ has-onto inner frame.mark []

-- ---- calls

module _ (fed : Option SourceLine) (frames front : List Frame) (frame : Frame) (innermost : frames ≡ front ++ frame ∷ []) where
  in_front : stacked frames (line_left fed) ≡ lines_of frame ++ End frame.mark ∷ stacked front (line_left fed)
  in_front = ap (λ (f : List Frame). stacked f (line_left fed)) innermost ∙ stacked-append front frame (line_left fed)

  pub takes_line : (line : SourceLine) (frame' : Frame) → lines_of frame ≡ Line line ∷ lines_of frame' → frame'.mark ≡ frame.mark
      → stacked frames (line_left fed) ≡ Line line ∷ stacked (front ++ frame' ∷ []) (line_left fed)
  takes_line line frame' next same =
      in_front ∙ ap (λ (l : List RemainingItem). l ++ End frame.mark ∷ stacked front (line_left fed)) next
      ∙ ap (λ (m : Mark). Line line ∷ (lines_of frame' ++ End m ∷ stacked front (line_left fed))) (sym same)
      ∙ ap (λ (l : List RemainingItem). Line line ∷ l) (sym (stacked-append front frame' (line_left fed)))

  pub takes_end : lines_of frame ≡ [] → stacked frames (line_left fed) ≡ End frame.mark ∷ stacked front (line_left fed)
  takes_end none = in_front ∙ ap (λ (l : List RemainingItem). l ++ End frame.mark ∷ stacked front (line_left fed)) none

  pub leaves : (statement : Option SourceLine) (frame' : Frame) → lines_of frame' ≡ [] → frame'.mark ≡ frame.mark
      → stacked (front ++ frame' ∷ []) (line_left fed) ≡ after_mark (remains statement frames fed).left
  leaves statement frame' none same =
      stacked-append front frame' (line_left fed)
      ∙ ap (λ (l : List RemainingItem). l ++ End frame'.mark ∷ stacked front (line_left fed)) none
      ∙ ap (λ (m : Mark). End m ∷ stacked front (line_left fed)) same
      ∙ sym (past-lines frame (End frame.mark ∷ stacked front (line_left fed)))
      ∙ sym (ap after_mark in_front) ∙ sym (before statement)
    where
      before : (statement : Option SourceLine) → after_mark (remains statement frames fed).left ≡ after_mark (stacked frames (line_left fed))
      before None = refl
      before (Some line) = refl

has-last : (front : List Frame) (frame : Frame) → has_frame (front ++ frame ∷ []) ≡ true
has-last [] frame = refl
has-last (outer ∷ front) frame = refl

pub expanding-last : (front : List Frame) (frame : Frame) (fed : Option SourceLine)
    → has_mark (marks (stacked (front ++ frame ∷ []) (line_left fed))) ≡ true
expanding-last front frame fed = expanding-remains None (front ++ frame ∷ []) fed ∙ has-last front frame

pub no_statement : (statement : Option SourceLine) → is_there statement ≡ false → statement ≡ None
no_statement None free = refl
no_statement (Some line) free = absurd cc

-- with neither a statement nor an open expansion, nothing is left if the line of the source isn't, and otherwise that line comes first
pub none_fed : (statement : Option SourceLine) (frames : List Frame) (has_fed : Bool) (fed : SourceLine) → is_there statement ≡ false
    → has_frame frames ≡ false → has_fed ≡ false → (remains statement frames (line_where has_fed fed)).left ≡ []
none_fed (Some line) frames has_fed fed free bare is = absurd cc
none_fed None (frame ∷ inner) has_fed fed free bare is = absurd cc
none_fed None [] true fed free bare is = absurd cc
none_fed None [] false fed free bare is = refl

pub one_fed : (statement : Option SourceLine) (frames : List Frame) (has_fed : Bool) (fed : SourceLine) → is_there statement ≡ false
    → has_frame frames ≡ false → has_fed ≡ true
    → (remains statement frames (line_where has_fed fed)).left ≡ Line fed ∷ (remains statement frames None).left
one_fed (Some line) frames has_fed fed free bare is = absurd cc
one_fed None (frame ∷ inner) has_fed fed free bare is = absurd cc
one_fed None [] false fed free bare is = absurd cc
one_fed None [] true fed free bare is = refl

pub feeds : (statement : Option SourceLine) (frames : List Frame) (fed : Option SourceLine) (line : SourceLine)
    → (remains statement frames fed).left ≡ [] → line_left statement ++ stacked frames (Line line ∷ []) ≡ Line line ∷ []
feeds None [] fed line none = refl
feeds None (frame ∷ inner) fed line none =
    let deep = depth-remains None (frame ∷ inner) fed in
    let flat = ap (λ (l : List RemainingItem). length (marks l)) none in
    absurd (omega arith)
feeds (Some statement) frames fed line none = let long = ap length none in absurd (omega arith)

all_rounds : (formals : List (ℕ × ℕ)) (body : List (List ℕ)) (rounds : List (List (List ℕ)))
    → of_rounds formals body body rounds ≡ flat_map (round formals body) rounds
all_rounds formals body [] = refl
all_rounds formals body (actuals ∷ rounds) = refl

module _ (formals : List (ℕ × ℕ)) (rounds : List (List (List ℕ))) (body : List (List ℕ)) (mark : Mark) (frames frames' : List Frame)
    (frame : Frame) (fed : Option SourceLine) where
  pub expands : (statement : Option SourceLine) → is_there statement ≡ false → frames' ≡ frames ++ frame ∷ []
      → lines_of frame ≡ of_rounds formals body body rounds → frame.mark ≡ mark
      → line_left statement ++ stacked frames' (line_left fed) ≡ expanded formals rounds body mark (remains statement frames fed).left
  expands None free pushed lines same =
      ap (λ (f : List Frame). stacked f (line_left fed)) pushed ∙ stacked-append frames frame (line_left fed)
      ∙ ap (λ (l : List RemainingItem). l ++ End frame.mark ∷ stacked frames (line_left fed)) (lines ∙ all_rounds formals body rounds)
      ∙ ap (λ (m : Mark). flat_map (round formals body) rounds ++ End m ∷ stacked frames (line_left fed)) same
  expands (Some line) free pushed lines same =
      let no : ◌≡◌ {A = ℕ} 1 0 = ap (λ (b : Bool). if b then 1 else 0) free in
      absurd (omega (arith, no))

-- ---- a line of a frame

abbrev how_many : Option (List (List ℕ)) → ℕ
how_many None = 0
how_many (Some actuals) = 1

not_none : {actuals : List (List ℕ)} → None ≡ Some actuals → ⊥
not_none some = let no : ◌≡◌ {A = ℕ} 0 1 = ap how_many some in omega (arith, no)

module _ (formals : List (ℕ × ℕ)) (body : List (List ℕ)) (index : ℕ) (actuals : List (List ℕ)) (inside : index < length body) where
  head_first : drop index body ≡ get_or body index [] ∷ drop (index + 1) body
  head_first = drop_more body index [] inside

  pub next_inside : (rounds : List (List (List ℕ))) → first_of rounds ≡ Some actuals
      → of_rounds formals body (drop index body) rounds
      ≡ Line (line_with formals actuals (get_or body index [])) ∷ of_rounds formals body (drop (index + 1) body) rounds
  next_inside [] first = absurd (not_none first)
  next_inside (actuals' ∷ rounds) first =
      ap (λ (t : List (List ℕ)). of_rounds formals body t (actuals' ∷ rounds)) head_first
      ∙ ap (λ (a : Option (List (List ℕ))). line_by a ∷ of_rounds formals body (drop (index + 1) body) (actuals' ∷ rounds)) first
    where
      line_by : Option (List (List ℕ)) → RemainingItem
      line_by None = Line (line_with formals actuals (get_or body index []))
      line_by (Some a) = Line (line_with formals a (get_or body index []))

  pub next_last : (rounds : List (List (List ℕ))) → first_of rounds ≡ Some actuals → index + 1 ≡ length body
      → of_rounds formals body (drop index body) rounds
      ≡ Line (line_with formals actuals (get_or body index [])) ∷ of_rounds formals body body (without_first rounds)
  next_last [] first last = absurd (not_none first)
  next_last (actuals' ∷ rounds) first last =
      next_inside (actuals' ∷ rounds) first
      ∙ ap (λ (t : List (List ℕ)). Line (line_with formals actuals (get_or body index [])) ∷ of_rounds formals body t (actuals' ∷ rounds))
      (drop_all (index + 1) body (omega arith))
      ∙ ap (λ (l : List RemainingItem). Line (line_with formals actuals (get_or body index [])) ∷ l) (sym (all_rounds formals body rounds))

-- ---- a frame after its next line

abbrev pub frame_at : Template → Mark → ℕ → List (List (List ℕ)) → Frame
frame_at template mark index rounds = record { template = template; index = index; rounds = rounds; mark = mark }

module _ (template : Template) (mark : Mark) (index : ℕ) (rounds : List (List (List ℕ))) (formals : List (ℕ × ℕ))
    (actuals : List (List ℕ)) (text : List ℕ) (line : SourceLine) (old new : Frame) (was : frame_at template mark index rounds ≡ old)
    (made : line ≡ line_with formals actuals text) (named : formals ≡ template.formals)
    (read : text ≡ get_or template.body index []) (first : first_of rounds ≡ Some actuals)
    (next : HasNext (frame_at template mark index rounds)) where
  same_line : line_with template.formals actuals (get_or template.body index []) ≡ line
  same_line = sym (made ∙ ap (λ (f : List (ℕ × ℕ)). line_with f actuals text) named
      ∙ ap (λ (t : List ℕ). line_with template.formals actuals t) read)

  pub in_round : new ≡ frame_at template mark (index + 1) rounds → lines_of old ≡ Line line ∷ lines_of new
  in_round is = elim next [
    | inl inside ↦
        ap lines_of (sym was) ∙ next_inside template.formals template.body index actuals inside rounds first
        ∙ ap (λ (l : SourceLine). Line l ∷ lines_of (frame_at template mark (index + 1) rounds)) same_line
        ∙ ap (λ (f : Frame). Line line ∷ lines_of f) (sym is)
    | inr none ↦ absurd (not_none (sym (ap first_of none) ∙ first))
  ]

  pub at_end : (others : List (List (List ℕ))) → new ≡ frame_at template mark 0 others → others ≡ without_first rounds
      → index + 1 ≡ length template.body → lines_of old ≡ Line line ∷ lines_of new
  at_end others is passed last = elim next [
    | inl inside ↦
        ap lines_of (sym was) ∙ next_last template.formals template.body index actuals inside rounds first last
        ∙ ap (λ (l : SourceLine). Line l ∷ of_rounds template.formals template.body template.body (without_first rounds)) same_line
        ∙ ap (λ (r : List (List (List ℕ))). Line line ∷ of_rounds template.formals template.body template.body r) (sym passed)
        ∙ ap (λ (f : Frame). Line line ∷ lines_of f) (sym is)
    | inr none ↦ absurd (not_none (sym (ap first_of none) ∙ first))
  ]
