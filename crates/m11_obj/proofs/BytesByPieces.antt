-- Bytes that are written piece after piece, one piece for each item of a list.
use Rattle.std.proofs.Common.{◌≡◌, ℕ, ◌+◌, ◌<◌, ◌≤◌, List, [], ◌∷◌, ◌++◌, length, take, get_or, All, sym, ap, subst, ◌∙◌, arith, length-append}
use Rattle.std.specs.List.{flat_map}
use Rattle.std.proofs.lemmas.List.{flat_map_more, take_more, take_all}
use Rattle.std.proofs.lemmas.List.Folds.{length-flat_map-take}
use Rattle.std.proofs.lemmas.List.Elements.{All-more}

module _ {X : Type 0} where
  -- if the bytes have the pieces of the items so far, they have those of one more item once its piece is added
  pub pieces_more : (f : X → List ℕ) (head : List ℕ) (xs : List X) (i : ℕ) (x : X) (bytes next : List ℕ)
      → i < length xs → x ≡ get_or xs i x → bytes ≡ head ++ flat_map f (take i xs) → next ≡ bytes ++ f x
      → next ≡ head ++ flat_map f (take (i + 1) xs)
  pieces_more f head xs i x bytes next lt is so_far added =
      let here : bytes ++ f x ≡ (head ++ flat_map f (take i xs)) ++ f (get_or xs i x) = cc in
      let longer : head ++ flat_map f (take (i + 1) xs) ≡ head ++ flat_map f (take i xs ++ get_or xs i x ∷ []) =
      rw (take_more xs i x lt) in
      added ∙ here ∙ flat_map_more f head (take i xs) (get_or xs i x) ∙ sym longer

  -- if all pieces fit, those so far leave room for the next one
  pub piece_has_room : (f : X → List ℕ) (xs : List X) (i : ℕ) (x : X) (bytes : List ℕ) (head : List ℕ) (limit : ℕ)
      → i < length xs → x ≡ get_or xs i x → bytes ≡ head ++ flat_map f (take i xs)
      → length (flat_map f xs) + length head ≤ limit → length bytes + length (f x) ≤ limit
  piece_has_room f xs i x bytes head limit lt is so_far fits =
      let most = length-flat_map-take f xs i x lt in
      let here : length (f x) ≡ length (f (get_or xs i x)) = ap (λ (y : X). length (f y)) is in
      let front : length bytes ≡ length head + length (flat_map f (take i xs)) =
      ap length so_far ∙ length-append head (flat_map f (take i xs)) in
      omega arith

  -- a property of the items so far and of the next one is a property of one more item
  pub fact_more : (P : X → Type 0) (xs : List X) (i : ℕ) (x : X) → i < length xs → x ≡ get_or xs i x
      → All P (take i xs) → P x → All P (take (i + 1) xs)
  fact_more P xs i x lt is before here = All-more P xs i x lt before (subst P is here)

  -- after the last item, the bytes have all pieces
  pub pieces_all : (f : X → List ℕ) (head : List ℕ) (xs : List X) (i : ℕ) (bytes : List ℕ) → length xs ≤ i
      → bytes ≡ head ++ flat_map f (take i xs) → bytes ≡ head ++ flat_map f xs
  pieces_all f head xs i bytes le is = is ∙ rw (take_all i xs le)

  pub fact_all : (P : X → Type 0) (xs : List X) (i : ℕ) → length xs ≤ i → All P (take i xs) → All P xs
  fact_all P xs i le before = let Q : List X → Type 0 = λ ys. All P ys in subst Q (take_all i xs le) before
