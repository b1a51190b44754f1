-- Lists whose items are shown one after another.
use Rattle.std.proofs.Common.{◌≡◌, ◌∙◌, ℕ, ◌+◌, ◌≤◌, List, [], ◌∷◌, ◌++◌, append-nil, append_assoc, length, drop, slice_get, Some, Result, Ok, Err, OnOk, sym, ap, subst}
use Rattle.std.specs.List.{flat_map}
use Rattle.std.proofs.lemmas.List.{drop_more, drop_all}
use Rattle.std.proofs.lemmas.Option.{slice_get_within, get_or_from_slice_get}

-- what remains of a list at an index begins with the item at that index
pub drop_at : {X : Type 0} (xs : List X) (index : ℕ) (x : X) → slice_get xs index ≡ Some x
    → drop index xs ≡ x ∷ drop (index + 1) xs
drop_at {X} xs index x e =
    let P : X → Type 0 = λ y. drop index xs ≡ y ∷ drop (index + 1) xs in
    subst P (get_or_from_slice_get xs index x x e) (drop_more xs index x (slice_get_within xs index x e))

-- the text so far, and the items left to show, make the same text as the first text and all items
module _ {X : Type 0} (show : X → List ℕ) (first : List ℕ) (all : List X) where
  abbrev pub Leads : List ℕ → List X → Type 0
  Leads now left = now ++ flat_map show left ≡ first ++ flat_map show all

  -- this still holds after one more item is shown
  pub one_shown : (now later : List ℕ) (x : X) (rest : List X) → Leads now (x ∷ rest) → later ≡ now ++ show x → Leads later rest
  one_shown now later x rest leads e =
      ap (λ (text : List ℕ). text ++ flat_map show rest) e ∙ append_assoc now (show x) (flat_map show rest) ∙ leads

  pub one_shown_at : (now later : List ℕ) (index : ℕ) (x : X) → slice_get all index ≡ Some x → Leads now (drop index all)
      → later ≡ now ++ show x → Leads later (drop (index + 1) all)
  one_shown_at now later index x e leads is =
      let P : List X → Type 0 = λ xs. Leads now xs in
      one_shown now later x (drop (index + 1) all) (subst P (drop_at all index x e) leads) is

  -- if no item is left, all items are shown
  pub all_shown : (now : List ℕ) → Leads now [] → now ≡ first ++ flat_map show all
  all_shown now leads = sym (append-nil now) ∙ leads

  pub all_shown_at : (now : List ℕ) (index : ℕ) → length all ≤ index → Leads now (drop index all) → now ≡ first ++ flat_map show all
  all_shown_at now index le leads =
      let P : List X → Type 0 = λ xs. Leads now xs in all_shown now (subst P (drop_all index all le) leads)

-- if a proposition holds where the result is a success, so does any that follows from it
pub on_ok : {A E : Type 0} (r : Result A E) (P Q : Type 0) → (P → Q) → OnOk r P → OnOk r Q
on_ok (Ok x) P Q f p = f p
on_ok (Err e) P Q f p = tt

-- if four pieces are added one after another, the text ends with the four pieces in order
pub four_put : (first a b c d one two three four : List ℕ) → one ≡ first ++ a → two ≡ one ++ b → three ≡ two ++ c
    → four ≡ three ++ d → four ≡ first ++ (((a ++ b) ++ c) ++ d)
four_put first a b c d one two three four e1 e2 e3 e4 =
    let all : (((first ++ a) ++ b) ++ c) ++ d ≡ first ++ (((a ++ b) ++ c) ++ d) = simp append_assoc in
    e4 ∙ ap (λ (t : List ℕ). t ++ d) (e3 ∙ ap (λ (t : List ℕ). t ++ c) (e2 ∙ ap (λ (t : List ℕ). t ++ b) e1)) ∙ all

-- if the items so far and the remaining ones are all items, they still are after the first remaining item is moved to the end of the former
pub one_kept : {X : Type 0} (all now later rest : List X) (x : X) → now ++ (x ∷ rest) ≡ all → later ≡ now ++ x ∷ [] → later ++ rest ≡ all
one_kept {X} all now later rest x leads is = ap (λ (l : List X). l ++ rest) is ∙ append_assoc now (x ∷ []) rest ∙ leads
