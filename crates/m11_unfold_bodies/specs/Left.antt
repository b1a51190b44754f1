-- What is left to unfold: lines, and the ends of open expansions. (MACRO-11 Language Reference Manual, "Macro directives" and "Repeat
-- block directive". This project's own: all of it is one list.)
use Rattle.std.specs.Prelude.{◌≡◌, ℕ, ◌+◌, Bool, true, false, List, [], ◌∷◌, ◌++◌, map, length, Option, Some, None}
use Rattle.std.specs.List.{flat_map}
use Rattle.std.specs.Option.{option_or}
use Rattle.m11_base.specs.Devices.{Bytes}
use Rattle.m11_base.specs.Rad50.{Name}
use Rattle.m11_scan.specs.Line.{SourceLine}
use Rattle.m11_unfold_bodies.specs.Substitution.{line_with}
use Rattle.m11_unfold_bodies.specs.declared.mark.Mark.{Mark}
use Rattle.m11_unfold_bodies.specs.declared.left.LineOrEnd.{LineOrEnd}
use Rattle.m11_unfold_bodies.specs.declared.left.LineOrEnd.TheVariants as taken

pub data RemainingItem : Type 0 where
  Line : SourceLine → RemainingItem
  End : Mark → RemainingItem

abbrev pub is_empty : List RemainingItem → Bool
is_empty [] = true
is_empty (next ∷ left) = false

-- the ends that are left, the innermost expansion's first
abbrev pub marks : List RemainingItem → List Mark
marks [] = []
marks (Line line ∷ left) = marks left
marks (End mark ∷ left) = mark ∷ marks left

-- the number of open expansions
abbrev pub depth : List RemainingItem → ℕ
depth left = length (marks left)

-- the most expansions that may be open
abbrev pub most_expansions : ℕ
most_expansions = 16

-- whether an expansion is open
abbrev pub has_mark : List Mark → Bool
has_mark [] = false
has_mark (mark ∷ marks) = true

abbrev pub is_expanding : List RemainingItem → Bool
is_expanding left = has_mark (marks left)

-- the number of actuals of the innermost macro call, if one is open
abbrev pub count_in : List Mark → Option ℕ
count_in [] = None
count_in (mark ∷ marks) = option_or mark.arguments (count_in marks)

abbrev pub argument_count : List RemainingItem → Option ℕ
argument_count left = count_in (marks left)

-- the number of bytes in the bodies of open repeats
abbrev pub bytes_in : List Mark → ℕ
bytes_in [] = 0
bytes_in (mark ∷ marks) = bytes_in marks + mark.bytes

abbrev pub bytes_held : List RemainingItem → ℕ
bytes_held left = bytes_in (marks left)

-- the number of conditions that the ends of open expansions restore: those open around each of the expansions
abbrev pub conditions_in : List Mark → ℕ
conditions_in [] = 0
conditions_in (mark ∷ marks) = conditions_in marks + length mark.conditions.entered

abbrev pub conditions_open : List RemainingItem → ℕ
conditions_open left = conditions_in (marks left)

-- what is left after `.MEXIT`: the end of the innermost expansion and everything after it; nothing if no expansion is open
abbrev pub after_mark : List RemainingItem → List RemainingItem
after_mark [] = []
after_mark (Line line ∷ left) = after_mark left
after_mark (End mark ∷ left) = End mark ∷ left

-- the lines of a body with the actuals of one round
abbrev pub round : List Name → List Bytes → List Bytes → List RemainingItem
round formals body actuals = map (λ text. Line (line_with formals actuals text)) body

-- an expansion before what is left: the body's lines with the actuals of each round, and after them the expansion's end
abbrev pub expanded : List Name → List (List Bytes) → List Bytes → Mark → List RemainingItem → List RemainingItem
expanded formals rounds body mark left = flat_map (round formals body) rounds ++ End mark ∷ left

-- what is left, and whether it begins with the statement of an `.IIF`
pub record Remains : Type 0 where
  pub left : List RemainingItem
  pub has_statement : Bool

-- the first item is removed from what is left, and stored in `line` if it is a line; or nothing is left
abbrev pub Takes : List RemainingItem → List RemainingItem → SourceLine → Option LineOrEnd → Type 0
Takes old new line None = (old ≡ []) × (new ≡ [])
Takes old new line (Some (taken.Line is_expanded)) = (old ≡ Line line ∷ new) × (is_expanded ≡ is_expanding new)
Takes old new line (Some (taken.End mark)) = old ≡ End mark ∷ new
