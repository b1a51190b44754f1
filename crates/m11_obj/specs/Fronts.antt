-- The division of a list into fronts: each front is the longest prefix of the remaining items that passes a test. (This
-- project's own: pieces are divided into texts in this way, and entries into records.)
use Rattle.std.specs.Prelude.{◌≡◌, ℕ, zero, suc, Bool, true, false, if◌then◌else◌, List, [], ◌∷◌, ◌++◌, length, take, drop, ⊤}
use Rattle.std.specs.List.{flat_map}

-- the longest prefix of 1 to n items that passes the test; the empty list if none of these prefixes passes
abbrev pub longest_front : {A : Type 0} → (List A → Bool) → ℕ → List A → List A
longest_front passes zero items = []
longest_front passes (suc most) items =
    if passes (take (suc most) items) then take (suc most) items else longest_front passes most items

-- the first fronts of a list, at most n of them
abbrev pub fronts_by : {A : Type 0} → (List A → Bool) → ℕ → List A → List (List A)
fronts_by passes zero items = []
fronts_by passes (suc most) [] = []
fronts_by passes (suc most) (item ∷ items) =
    let front = longest_front passes (length (item ∷ items)) (item ∷ items) in
    front ∷ fronts_by passes most (drop (length front) (item ∷ items))

-- the fronts of a list, each the longest prefix of the remaining items that passes the test
unfoldable pub fronts_of : {A : Type 0} → (List A → Bool) → List A → List (List A)
fronts_of passes items = fronts_by passes (length items) items

-- ---- properties of fronts, independent of the way they are found

-- the items of all fronts, in order
abbrev pub joined : {A : Type 0} → List (List A) → List A
joined fronts = flat_map (λ front. front) fronts

-- a front wouldn't pass the test with the next item added, if one is left
abbrev pub IsMaximal : {A : Type 0} → (List A → Bool) → List A → List A → Type 0
IsMaximal passes front [] = ⊤
IsMaximal passes front (next ∷ items) = passes (front ++ next ∷ []) ≡ false

-- each front passes the test, and wouldn't with the next item added, if one is left
abbrev pub AreLongest : {A : Type 0} → (List A → Bool) → List (List A) → Type 0
AreLongest passes [] = ⊤
AreLongest passes (front ∷ fronts) =
    (passes front ≡ true) × IsMaximal passes front (joined fronts) × AreLongest passes fronts
