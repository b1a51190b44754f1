-- A counter changes line by line, by the move of each line.
use Rattle.std.proofs.Common.{◌≡◌, ◌≢◌, ℕ, ◌+◌, ◌%◌, Bool, true, false, List, [], ◌∷◌, ◌++◌, refl, sym, ap, arith}
use Rattle.std.specs.Prelude.{◌==◌, if◌then◌else◌}
use Rattle.std.proofs.Math.Nat.{mod-add-mod}
use Rattle.std.proofs.lemmas.Bool.Decides.{nat_tests}
use Rattle.m11_asm_rules.specs.Locations.{Move, SectionMove, Steps, Goes, has_set, in_section, last_set, location_after, location_in, moves_in, sizes_since}

-- ---- one section

set_before_steps : (moves : List Move) (size : ℕ) → has_set (moves ++ Steps size ∷ []) ≡ has_set moves
set_before_steps [] size = refl
set_before_steps (Steps more ∷ moves) size = set_before_steps moves size
set_before_steps (Goes location ∷ moves) size = refl

last_before_steps : (moves : List Move) (size : ℕ) → last_set (moves ++ Steps size ∷ []) ≡ last_set moves
last_before_steps [] size = refl
last_before_steps (Steps more ∷ moves) size = last_before_steps moves size
last_before_steps (Goes location ∷ moves) size = rw (set_before_steps moves size, last_before_steps moves size) refl

added_by : (is_set : Bool) (more sizes size : ℕ)
    → (if is_set then sizes + size else more + (sizes + size)) ≡ (if is_set then sizes else more + sizes) + size
added_by true more sizes size = refl
added_by false more sizes size = omega arith

sizes_with_steps : (moves : List Move) (size : ℕ) → sizes_since (moves ++ Steps size ∷ []) ≡ sizes_since moves + size
sizes_with_steps [] size = omega arith
sizes_with_steps (Steps more ∷ moves) size =
    rw (set_before_steps moves size, sizes_with_steps moves size) (added_by (has_set moves) more (sizes_since moves) size)
sizes_with_steps (Goes location ∷ moves) size = sizes_with_steps moves size

steps_in_section : (moves : List Move) (size : ℕ) → location_after (moves ++ Steps size ∷ []) ≡ (location_after moves + size) % 65536
steps_in_section moves size =
    let sum : last_set moves + (sizes_since moves + size) ≡ last_set moves + sizes_since moves + size = omega arith in
    rw (last_before_steps moves size, sizes_with_steps moves size, sum)
    (sym (mod-add-mod (last_set moves + sizes_since moves) 65536 size))

set_before_goes : (moves : List Move) (location : ℕ) → has_set (moves ++ Goes location ∷ []) ≡ true
set_before_goes [] location = refl
set_before_goes (Steps size ∷ moves) location = set_before_goes moves location
set_before_goes (Goes other ∷ moves) location = refl

last_at_goes : (moves : List Move) (location : ℕ) → last_set (moves ++ Goes location ∷ []) ≡ location
last_at_goes [] location = refl
last_at_goes (Steps size ∷ moves) location = last_at_goes moves location
last_at_goes (Goes other ∷ moves) location = rw (set_before_goes moves location) (last_at_goes moves location)

no_sizes_at_goes : (moves : List Move) (location : ℕ) → sizes_since (moves ++ Goes location ∷ []) ≡ 0
no_sizes_at_goes [] location = refl
no_sizes_at_goes (Steps size ∷ moves) location = rw (set_before_goes moves location) (no_sizes_at_goes moves location)
no_sizes_at_goes (Goes other ∷ moves) location = no_sizes_at_goes moves location

goes_in_section : (moves : List Move) (location : ℕ) → location_after (moves ++ Goes location ∷ []) ≡ location % 65536
goes_in_section moves location =
    let none : location + 0 ≡ location = omega arith in
    rw (last_at_goes moves location, no_sizes_at_goes moves location, none) refl

-- ---- lines of all sections

is_itself : (section : ℕ) → (section == section) ≡ true
is_itself section = grind (arith, nat_tests)

is_no_other : (section other : ℕ) → other ≢ section → (other == section) ≡ false
is_no_other section other differs = grind (arith, nat_tests)

moves_here : (section : ℕ) (moves : List SectionMove) (move : Move)
    → moves_in section (moves ++ in_section section move ∷ []) ≡ moves_in section moves ++ move ∷ []
moves_here section [] move = rw (is_itself section) refl
moves_here section (first ∷ moves) move =
    rw (moves_here section moves move) (by_first (first.section == section) first.move (moves_in section moves) move)
  where
    by_first : (is_here : Bool) (first : Move) (before : List Move) (move : Move)
        → (if is_here then first ∷ (before ++ move ∷ []) else before ++ move ∷ [])
        ≡ (if is_here then first ∷ before else before) ++ move ∷ []
    by_first true first before move = refl
    by_first false first before move = refl

moves_there : (section other : ℕ) → other ≢ section → (moves : List SectionMove) (move : Move)
    → moves_in section (moves ++ in_section other move ∷ []) ≡ moves_in section moves
moves_there section other differs [] move = rw (is_no_other section other differs) refl
moves_there section other differs (first ∷ moves) move = rw (moves_there section other differs moves move) refl

pub steps_on : (section size : ℕ) (moves : List SectionMove)
    → location_in section (moves ++ in_section section (Steps size) ∷ []) ≡ (location_in section moves + size) % 65536
steps_on section size moves = rw (moves_here section moves (Steps size)) (steps_in_section (moves_in section moves) size)

pub goes_there : (section location : ℕ) (moves : List SectionMove)
    → location_in section (moves ++ in_section section (Goes location) ∷ []) ≡ location % 65536
goes_there section location moves = rw (moves_here section moves (Goes location)) (goes_in_section (moves_in section moves) location)

pub stays_there : (section other : ℕ) (move : Move) (moves : List SectionMove) → other ≢ section
    → location_in section (moves ++ in_section other move ∷ []) ≡ location_in section moves
stays_there section other move moves differs = ap location_after (moves_there section other differs moves move)
