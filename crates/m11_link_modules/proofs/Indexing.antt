-- Lists whose items are read by their index.
use Rattle.std.proofs.Common.{◌≡◌, ℕ, ◌+◌, ◌<◌, List, ◌∷◌, length, drop, get_or, slice_get, Some, sym, subst, ap, ◌∙◌}
use Rattle.std.proofs.lemmas.List.{drop_more}
use Rattle.std.proofs.lemmas.Option.{slice_get-get_or, slice_get_within, get_or_from_slice_get}

-- the items left at an index are the item at this index, and then the items left at the next one
pub drop_at : {X : Type 0} (xs : List X) (index : ℕ) (x : X) → slice_get xs index ≡ Some x
    → drop index xs ≡ x ∷ drop (index + 1) xs
drop_at {X} xs index x e =
    let P : X → Type 0 = λ y. drop index xs ≡ y ∷ drop (index + 1) xs in
    subst P (get_or_from_slice_get xs index x x e) (drop_more xs index x (slice_get_within xs index x e))

-- the item that a loop reads at an index within the list is the list's item at this index
pub found_at : {X : Type 0} (xs : List X) (index : ℕ) (x : X) → index < length xs → x ≡ get_or xs index x
    → slice_get xs index ≡ Some x
found_at {X} xs index x lt is = slice_get-get_or xs index x lt ∙ ap (λ (y : X). Some y) (sym is)
