-- When nothing is left to take.
use Rattle.std.proofs.Common.{◌≡◌, Bool, true, false, List, [], ◌∷◌, ◌++◌, Option, Some, None, refl}
use Rattle.m11_scan.specs.Line.{SourceLine}
use Rattle.m11_unfold_bodies.specs.declared.mark.Mark.{Mark}
use Rattle.m11_unfold_bodies.specs.Left.{RemainingItem, End, is_empty}
use Rattle.m11_unfold_bodies.specs.Frames.{Frame, has_frame, is_none_of, is_there, line_left, line_where, lines_of, remains, stacked}

ended : (lines : List RemainingItem) (mark : Mark) (left : List RemainingItem) → is_empty (lines ++ End mark ∷ left) ≡ false
ended [] mark left = refl
ended (line ∷ lines) mark left = refl

stacked-more : (frames : List Frame) (left : List RemainingItem) → is_empty left ≡ false → is_empty (stacked frames left) ≡ false
stacked-more [] left more = more
stacked-more (frame ∷ frames) left more =
    stacked-more frames (lines_of frame ++ End frame.mark ∷ left) (ended (lines_of frame) frame.mark left)

none_beside : (has_fed has_frame : Bool) → is_none_of has_fed true has_frame ≡ false
none_beside true has_frame = refl
none_beside false has_frame = refl

pub empty-remains : (statement : Option SourceLine) (frames : List Frame) (has_fed : Bool) (fed : SourceLine)
    → is_none_of has_fed (is_there statement) (has_frame frames) ≡ is_empty (remains statement frames (line_where has_fed fed)).left
empty-remains (Some line) frames has_fed fed = none_beside has_fed (has_frame frames)
empty-remains None [] true fed = refl
empty-remains None [] false fed = refl
empty-remains None (frame ∷ frames) true fed =
    let left = line_left (line_where true fed) in
    let more = stacked-more frames (lines_of frame ++ End frame.mark ∷ left) (ended (lines_of frame) frame.mark left) in
    rw more refl
empty-remains None (frame ∷ frames) false fed =
    let left = line_left (line_where false fed) in
    let more = stacked-more frames (lines_of frame ++ End frame.mark ∷ left) (ended (lines_of frame) frame.mark left) in
    rw more refl
