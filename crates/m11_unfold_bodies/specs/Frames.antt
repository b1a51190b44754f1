-- Open expansions, each with its body, the index of its next line, its remaining rounds and its end; and what is left to unfold while they
-- are open. (This project's own.)
use Rattle.std.specs.Prelude.{◌≡◌, ◌<◌, ◌⊎◌, ℕ, ◌+◌, List, [], ◌∷◌, ◌++◌, length, drop, Bool, true, false, not, ◌&&◌, Option, Some, None}
use Rattle.std.specs.List.{flat_map}
use Rattle.std.specs.Option.{option_or}
use Rattle.m11_base.specs.Devices.{Bytes}
use Rattle.m11_base.specs.Rad50.{Name}
use Rattle.m11_scan.specs.Line.{SourceLine}
use Rattle.m11_unfold_bodies.specs.Bodies.{Template}
use Rattle.m11_unfold_bodies.specs.Left.{RemainingItem, Line, End, Remains, round}
use Rattle.m11_unfold_bodies.specs.declared.mark.Mark.{Mark}

-- a body with its formals, the index of its next line, the actuals of the remaining rounds (the current one first), and the end of the
-- expansion
pub record Frame : Type 0 where
  pub template : Template
  pub index : ℕ
  pub rounds : List (List Bytes)
  pub mark : Mark

-- the lines of the remaining rounds; for the first of these rounds, only the rest of the body
abbrev pub of_rounds : List Name → List Bytes → List Bytes → List (List Bytes) → List RemainingItem
of_rounds formals body rest [] = []
of_rounds formals body rest (actuals ∷ rounds) = round formals rest actuals ++ flat_map (round formals body) rounds

abbrev pub lines_of : Frame → List RemainingItem
lines_of frame = of_rounds frame.template.formals frame.template.body (drop frame.index frame.template.body) frame.rounds

-- the items of open expansions, followed by what is left; the list of frames begins with the outermost expansion, and the items with those
-- of the innermost
abbrev pub stacked : List Frame → List RemainingItem → List RemainingItem
stacked [] left = left
stacked (frame ∷ frames) left = stacked frames (lines_of frame ++ End frame.mark ∷ left)

-- there is a next line, or no round is left
abbrev pub HasNext : Frame → Type 0
HasNext frame = (frame.index < length frame.template.body) ⊎ (frame.rounds ≡ [])

-- what is left to unfold of a line that may be absent: the line itself, if there is one
abbrev pub line_left : Option SourceLine → List RemainingItem
line_left None = []
line_left (Some line) = Line line ∷ []

-- the line if the flag is true, otherwise none
abbrev pub line_where : Bool → SourceLine → Option SourceLine
line_where false line = None
line_where true line = Some line

abbrev pub is_there : Option SourceLine → Bool
is_there None = false
is_there (Some line) = true

-- whether there is no line of the source, no statement and no open expansion
abbrev pub is_none_of : Bool → Bool → Bool → Bool
is_none_of has_fed has_statement has_frame = not has_fed && (not has_statement && not has_frame)

-- what is left of a statement, open expansions (the outermost first) and the line of the source
abbrev pub remains : Option SourceLine → List Frame → Option SourceLine → Remains
remains statement frames fed =
    record { left = line_left statement ++ stacked frames (line_left fed); has_statement = is_there statement }

-- the actuals of the first round, if any is left
abbrev pub first_of : List (List Bytes) → Option (List Bytes)
first_of [] = None
first_of (actuals ∷ rounds) = Some actuals

abbrev pub without_first : List (List Bytes) → List (List Bytes)
without_first [] = []
without_first (actuals ∷ rounds) = rounds

-- the number of actuals of the innermost macro call among these frames; `count` if none of them is a call
abbrev pub count_from : Option ℕ → List Frame → Option ℕ
count_from count [] = count
count_from count (frame ∷ inner) = count_from (option_or frame.mark.arguments count) inner

-- `bytes` plus the number of bytes in the bodies of the repeats among these frames
abbrev pub bytes_from : ℕ → List Frame → ℕ
bytes_from bytes [] = bytes
bytes_from bytes (frame ∷ inner) = bytes_from (bytes + frame.mark.bytes) inner

-- `count` plus the number of conditions open around each of these frames
abbrev pub conditions_from : ℕ → List Frame → ℕ
conditions_from count [] = count
conditions_from count (frame ∷ inner) = conditions_from (count + length frame.mark.conditions.entered) inner

abbrev pub has_frame : List Frame → Bool
has_frame [] = false
has_frame (frame ∷ inner) = true
