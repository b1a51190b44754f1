-- The results that further items add, if they change none of the earlier results.
use Rattle.std.proofs.Common.{◌≡◌, ℕ, ◌-◌, List, [], ◌∷◌, ◌++◌, length, take, drop, sym, ap, ◌∙◌, append_assoc, append-nil, arith, length-append}
use Rattle.std.proofs.Math.Seq.{drop-append_seam, take-append_seam}
use Rattle.std.proofs.lemmas.List.{append_cancel_left, take-append-drop}
use Rattle.m11_asm_outputs.specs.Object.{added, last_alone, without_last}

pub without_last-push : {A : Type 0} (xs : List A) (x : A) → without_last (xs ++ x ∷ []) ≡ xs
without_last-push {A} xs x =
    let fewer : length (xs ++ x ∷ []) - 1 ≡ length xs = omega (arith, length-append xs (x ∷ [])) in
    ap (λ (n : ℕ). take n (xs ++ x ∷ [])) fewer ∙ take-append_seam xs (x ∷ [])

pub with_last : {A : Type 0} (xs : List A) → without_last xs ++ last_alone xs ≡ xs
with_last xs = take-append-drop (length xs - 1) xs

module _ {A C : Type 0} (made : List A → List C)
    (grows : (xs ys : List A) → (more : List C) × (made (xs ++ ys) ≡ made xs ++ more)) where
  pub made-append : (xs ys : List A) → made (xs ++ ys) ≡ made xs ++ added made xs ys
  unfolding added
  made-append xs ys =
      let e = grows xs ys in
      e.1 ∙ ap (λ (t : List C). made xs ++ t)
      (sym (ap (drop (length (made xs))) e.1 ∙ drop-append_seam (made xs) e.0))

  pub added_is : (xs ys : List A) (more : List C) → made (xs ++ ys) ≡ made xs ++ more → more ≡ added made xs ys
  added_is xs ys more e = append_cancel_left (made xs) more (added made xs ys) (sym e ∙ made-append xs ys)

  pub added-nil : (xs : List A) → [] ≡ added made xs []
  added-nil xs = added_is xs [] [] (ap made (append-nil xs) ∙ sym (append-nil (made xs)))

  pub added-append : (xs ys zs : List A)
      → added made xs (ys ++ zs) ≡ added made xs ys ++ added made (xs ++ ys) zs
  added-append xs ys zs = sym (added_is xs (ys ++ zs) (added made xs ys ++ added made (xs ++ ys) zs)
      (ap made (sym (append_assoc xs ys zs)) ∙ made-append (xs ++ ys) zs
      ∙ ap (λ (t : List C). t ++ added made (xs ++ ys) zs) (made-append xs ys)
      ∙ append_assoc (made xs) (added made xs ys) (added made (xs ++ ys) zs)))
