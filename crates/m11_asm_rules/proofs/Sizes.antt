-- The size of a section after its counter moves.
use Rattle.std.proofs.Common.{◌≡◌, ◌∙◌, ℕ, ◌==◌, Bool, true, false, if◌then◌else◌, max, List, [], ◌∷◌, ◌++◌, refl, sym, ap, arith}
use Rattle.std.proofs.Math.Nat.{max_comm}
use Rattle.std.proofs.lemmas.List.{append-nil, append_assoc}
use Rattle.m11_asm_rules.specs.Locations.{Move, SectionMove, greatest_after, in_section, location_after, location_in, moves_in, size_in}

-- ---- one section

max_moves : (a b c : ℕ) → max a (max b c) ≡ max (max a b) c
max_moves a b c = grind arith

greatest_more : (before moves : List Move) (move : Move)
    → greatest_after before (moves ++ move ∷ []) ≡ max (greatest_after before moves) (location_after ((before ++ moves) ++ move ∷ []))
greatest_more before [] move =
    max_comm (location_after (before ++ move ∷ [])) 0
    ∙ ap (λ (l : List Move). max 0 (location_after (l ++ move ∷ []))) (sym (append-nil before))
greatest_more before (first ∷ moves) move =
    ap (max (location_after (before ++ first ∷ []))) (greatest_more (before ++ first ∷ []) moves move)
    ∙ max_moves (location_after (before ++ first ∷ [])) (greatest_after (before ++ first ∷ []) moves)
    (location_after (((before ++ first ∷ []) ++ moves) ++ move ∷ []))
    ∙ ap (λ (l : List Move). max (greatest_after before (first ∷ moves)) (location_after (l ++ move ∷ [])))
    (append_assoc before (first ∷ []) moves)

-- ---- all sections

moves_joined : (section : ℕ) (first second : List SectionMove)
    → moves_in section (first ++ second) ≡ moves_in section first ++ moves_in section second
moves_joined section [] second = refl
moves_joined section (moved ∷ first) second =
    rw (moves_joined section first second)
    (by_first (moved.section == section) moved.move (moves_in section first) (moves_in section second))
  where
    by_first : (is_here : Bool) (move : Move) (first second : List Move)
        → (if is_here then move ∷ (first ++ second) else first ++ second) ≡ (if is_here then move ∷ first else first) ++ second
    by_first true move first second = refl
    by_first false move first second = refl

pub size_here : (section other : ℕ) (moves : List SectionMove) (move : Move) → (other == section) ≡ true
    → size_in section (moves ++ in_section other move ∷ [])
    ≡ max (size_in section moves) (location_in section (moves ++ in_section other move ∷ []))
size_here section other moves move e =
    let here : moves_in section (moves ++ in_section other move ∷ []) ≡ moves_in section moves ++ move ∷ []
    = moves_joined section moves (in_section other move ∷ [])
    ∙ ap (λ (b : Bool). moves_in section moves ++ (if b then move ∷ [] else [])) e in
    ap (greatest_after []) here ∙ greatest_more [] (moves_in section moves) move
    ∙ ap (λ (l : List Move). max (size_in section moves) (location_after l)) (sym here)

pub size_there : (section other : ℕ) (moves : List SectionMove) (move : Move) → (other == section) ≡ false
    → size_in section (moves ++ in_section other move ∷ []) ≡ size_in section moves
size_there section other moves move e =
    ap (greatest_after [])
    (moves_joined section moves (in_section other move ∷ [])
    ∙ ap (λ (b : Bool). moves_in section moves ++ (if b then move ∷ [] else [])) e
    ∙ append-nil (moves_in section moves))
