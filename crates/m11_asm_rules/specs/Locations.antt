-- The locations of the lines of a section. (MACRO-11 Language Reference Manual, "Current location counter": each section has a counter of
-- its own. This project's own: the counter is taken modulo 65536.)
use Rattle.std.specs.Prelude.{ℕ, ◌+◌, ◌%◌, ◌==◌, Bool, true, false, if◌then◌else◌, max, List, [], ◌∷◌, ◌++◌}
use Rattle.std.specs.List.{list_any}

-- a move of the location counter by a line
pub data Move : Type 0 where
  -- the counter moves on by this many bytes
  Steps : ℕ → Move
  -- the counter is set to this location
  Goes : ℕ → Move

abbrev pub is_set : Move → Bool
is_set (Steps size) = false
is_set (Goes location) = true

abbrev pub has_set : List Move → Bool
has_set moves = list_any is_set moves

-- the last location set, or 0 if none was set
abbrev pub last_set : List Move → ℕ
last_set [] = 0
last_set (Steps size ∷ moves) = last_set moves
last_set (Goes location ∷ moves) = if has_set moves then last_set moves else location

-- the sum of the sizes since the last location was set, or of all sizes if none was set
abbrev pub sizes_since : List Move → ℕ
sizes_since [] = 0
sizes_since (Steps size ∷ moves) = if has_set moves then sizes_since moves else size + sizes_since moves
sizes_since (Goes location ∷ moves) = sizes_since moves

-- the location after some moves in a section, modulo 65536
abbrev pub location_after : List Move → ℕ
location_after moves = (last_set moves + sizes_since moves) % 65536

-- ---- moves in all sections

-- a move of the counter of one section
pub record SectionMove : Type 0 where
  pub section : ℕ
  pub move : Move

abbrev pub in_section : ℕ → Move → SectionMove
in_section section move = record { section = section; move = move }

-- the moves of one section
abbrev pub moves_in : ℕ → List SectionMove → List Move
moves_in section [] = []
moves_in section (moved ∷ more) =
    if moved.section == section then moved.move ∷ moves_in section more else moves_in section more

-- the location counter of a section after moves in all sections
abbrev pub location_in : ℕ → List SectionMove → ℕ
location_in section moves = location_after (moves_in section moves)

-- the greatest location of a counter after any move of the second list, if the moves of the first list come before; 0 if the second list is
-- empty
abbrev pub greatest_after : List Move → List Move → ℕ
greatest_after before [] = 0
greatest_after before (move ∷ moves) = max (location_after (before ++ move ∷ [])) (greatest_after (before ++ move ∷ []) moves)

-- the size of a section in bytes: the greatest location of its counter after any of its moves; 0 if it has none
abbrev pub size_in : ℕ → List SectionMove → ℕ
size_in section moves = greatest_after [] (moves_in section moves)
