-- Lists divided into fronts, the longest beginnings that pass a test: how one more item changes the fronts, and that they have
-- their properties.
use Rattle.std.proofs.Common.{◌≡◌, ℕ, ◌+◌, ◌<◌, ◌≤◌, zero, suc, Bool, true, false, cond, List, [], ◌∷◌, ◌++◌, take, drop, length, refl, sym, ap, subst, ◌∙◌, append_assoc, arith}
use Rattle.std.proofs.lemmas.Bool.{false≢true, true≢false}
use Rattle.std.proofs.lemmas.List.{append-nil, length-append, take_all}
use Rattle.std.proofs.Math.Seq.{take-append_seam, drop-append_seam}
use Rattle.m11_obj.specs.Fronts.{longest_front, fronts_by, fronts_of, joined, IsMaximal, AreLongest}

z+-suc : (n : ℕ) → 0 + suc n ≡ suc n
z+-suc n = omega arith

shifted : (m n : ℕ) → suc m + n ≡ suc (m + n)
shifted m n = omega arith

none_more : (n : ℕ) → n + 0 ≡ n
none_more n = omega arith

one_fewer : (m n : ℕ) → m + suc n ≡ suc m + n
one_fewer m n = omega arith

-- a test that each single item passes, and that a beginning of a list passes if the list does
module _ {A : Type 0} (passes : List A → Bool) (nothing : passes [] ≡ false)
    (beginning : (x : A) (xs ys : List A) → passes ((x ∷ xs) ++ ys) ≡ true → passes (x ∷ xs) ≡ true)
    (alone : (x : A) → passes (x ∷ []) ≡ true) where
  -- ---- longest fronts are those that the definition finds

  no_more : (x : A) (xs : List A) (p : A) (ps : List A) → passes ((x ∷ xs) ++ p ∷ []) ≡ false
      → passes ((x ∷ xs) ++ p ∷ ps) ≡ false
  no_more x xs p ps e = by_test (passes ((x ∷ xs) ++ p ∷ ps)) refl
    where
      by_test : (b : Bool) → passes ((x ∷ xs) ++ p ∷ ps) ≡ b → b ≡ false
      by_test false f = refl
      by_test true f = absurd (true≢false
          (sym (beginning x (xs ++ p ∷ []) ps (ap passes (append_assoc (x ∷ xs) (p ∷ []) ps) ∙ f)) ∙ e))

  take_after : (xs : List A) (p : A) (ps : List A) (n : ℕ)
      → take (length xs + suc n) (xs ++ p ∷ ps) ≡ xs ++ p ∷ take n ps
  take_after [] p ps n = ap (λ (m : ℕ). take m (p ∷ ps)) (z+-suc n)
  take_after (x ∷ xs) p ps n = ap (λ (m : ℕ). take m (x ∷ (xs ++ p ∷ ps))) (shifted (length xs) (suc n))
      ∙ ap (λ (t : List A). x ∷ t) (take_after xs p ps n)

  longest-end : (x : A) (xs : List A) → passes (x ∷ xs) ≡ true
      → longest_front passes (length (x ∷ xs)) (x ∷ xs) ≡ x ∷ xs
  longest-end x xs one =
      ap (λ (t : List A). cond (passes t) t (longest_front passes (length xs) (x ∷ xs)))
      (take_all (length (x ∷ xs)) (x ∷ xs) (omega arith))
      ∙ ap (λ (b : Bool). cond b (x ∷ xs) (longest_front passes (length xs) (x ∷ xs))) one

  longest-more : (x : A) (xs : List A) (p : A) (ps : List A) → passes (x ∷ xs) ≡ true
      → passes ((x ∷ xs) ++ p ∷ []) ≡ false
      → (n : ℕ) → longest_front passes (length (x ∷ xs) + n) ((x ∷ xs) ++ p ∷ ps) ≡ x ∷ xs
  longest-more x xs p ps one none zero =
      let whole = (x ∷ xs) ++ p ∷ ps in
      ap (λ (n : ℕ). longest_front passes n whole) (none_more (length (x ∷ xs)))
      ∙ ap (λ (t : List A). cond (passes t) t (longest_front passes (length xs) whole))
      (take-append_seam (x ∷ xs) (p ∷ ps))
      ∙ ap (λ (b : Bool). cond b (x ∷ xs) (longest_front passes (length xs) whole)) one
  longest-more x xs p ps one none (suc n) =
      let whole = (x ∷ xs) ++ p ∷ ps in
      let fewer : ℕ = length xs + suc n in
      ap (λ (m : ℕ). longest_front passes m whole) (shifted (length xs) (suc n))
      ∙ ap (λ (t : List A). cond (passes t) t (longest_front passes fewer whole))
      (ap (λ (m : ℕ). take m whole) (sym (shifted (length xs) (suc n))) ∙ take_after (x ∷ xs) p ps n)
      ∙ ap (λ (b : Bool). cond b ((x ∷ xs) ++ p ∷ take n ps) (longest_front passes fewer whole))
      (no_more x xs p (take n ps) none)
      ∙ ap (λ (m : ℕ). longest_front passes m whole) (one_fewer (length xs) n)
      ∙ longest-more x xs p ps one none n

  longest : (x : A) (xs rest : List A) → passes (x ∷ xs) ≡ true → IsMaximal passes (x ∷ xs) rest
      → longest_front passes (length ((x ∷ xs) ++ rest)) ((x ∷ xs) ++ rest) ≡ x ∷ xs
  longest x xs [] one none =
      ap (λ (t : List A). longest_front passes (length t) t) (append-nil (x ∷ xs)) ∙ longest-end x xs one
  longest x xs (p ∷ ps) one none =
      ap (λ (n : ℕ). longest_front passes n ((x ∷ xs) ++ p ∷ ps)) (length-append (x ∷ xs) (p ∷ ps))
      ∙ longest-more x xs p ps one none (length (p ∷ ps))

  fronts_are : (most : ℕ) (fronts : List (List A)) → AreLongest passes fronts → length (joined fronts) ≤ most
      → fronts_by passes most (joined fronts) ≡ fronts
  fronts_are zero [] h e = refl
  fronts_are (suc most) [] h e = refl
  fronts_are most ([] ∷ fronts) h e = absurd (false≢true (sym nothing ∙ h.0))
  fronts_are zero ((x ∷ xs) ∷ fronts) h e = absurd (omega arith)
  fronts_are (suc most) ((x ∷ xs) ∷ fronts) h e =
      ap (λ (front : List A). front ∷ fronts_by passes most (drop (length front) ((x ∷ xs) ++ joined fronts)))
      (longest x xs (joined fronts) h.0 h.1)
      ∙ ap (λ (t : List A). (x ∷ xs) ∷ fronts_by passes most t) (drop-append_seam (x ∷ xs) (joined fronts))
      ∙ ap (λ (t : List (List A)). (x ∷ xs) ∷ t)
      (fronts_are most fronts h.2 (omega (arith, length-append (x ∷ xs) (joined fronts))))

  the_fronts : (fronts : List (List A)) → AreLongest passes fronts → fronts_of passes (joined fronts) ≡ fronts
  unfolding fronts_of
  the_fronts fronts h = fronts_are (length (joined fronts)) fronts h (omega arith)

  -- ---- one more item

  no_less : (front xs ys : List A) → 0 < length xs → IsMaximal passes front xs → IsMaximal passes front (xs ++ ys)
  no_less front [] ys some h = absurd (omega arith)
  no_less front (x ∷ xs) ys some h = h

  is_some : (front : List A) → passes front ≡ true → 0 < length front
  is_some [] e = absurd (false≢true (sym nothing ∙ e))
  is_some (x ∷ xs) e = omega arith

  some_items : (closed : List (List A)) (front : List A) → 0 < length front → 0 < length (joined (closed ++ front ∷ []))
  some_items [] front h = omega (arith, length-append front [])
  some_items (c ∷ closed) front h =
      omega (arith, some_items closed front h, length-append c (joined (closed ++ front ∷ [])))

  last_passes : (closed : List (List A)) (front : List A) → AreLongest passes (closed ++ front ∷ [])
      → passes front ≡ true
  last_passes [] front h = h.0
  last_passes (c ∷ closed) front h = last_passes closed front h.2

  joined-grown : (closed : List (List A)) (front : List A) (p : A)
      → joined (closed ++ (front ++ p ∷ []) ∷ []) ≡ joined (closed ++ front ∷ []) ++ p ∷ []
  joined-grown [] front p = append-nil (front ++ p ∷ []) ∙ ap (λ (t : List A). t ++ p ∷ []) (sym (append-nil front))
  joined-grown (c ∷ closed) front p = ap (λ (t : List A). c ++ t) (joined-grown closed front p)
      ∙ sym (append_assoc c (joined (closed ++ front ∷ [])) (p ∷ []))

  joined-opened : (closed : List (List A)) (front : List A) (p : A)
      → joined (closed ++ front ∷ (p ∷ []) ∷ []) ≡ joined (closed ++ front ∷ []) ++ p ∷ []
  joined-opened [] front p = ap (λ (t : List A). t ++ p ∷ []) (sym (append-nil front))
  joined-opened (c ∷ closed) front p = ap (λ (t : List A). c ++ t) (joined-opened closed front p)
      ∙ sym (append_assoc c (joined (closed ++ front ∷ [])) (p ∷ []))

  grown : (closed : List (List A)) (front : List A) (p : A) → AreLongest passes (closed ++ front ∷ [])
      → passes (front ++ p ∷ []) ≡ true → AreLongest passes (closed ++ (front ++ p ∷ []) ∷ [])
  grown [] front p h e = (e, tt, tt)
  grown (c ∷ closed) front p h e = (
    h.0,
    subst (λ (t : List A). IsMaximal passes c t) (sym (joined-grown closed front p))
        (no_less c (joined (closed ++ front ∷ [])) (p ∷ [])
        (some_items closed front (is_some front (last_passes closed front h.2))) h.1),
    grown closed front p h.2 e,
  )

  opened : (closed : List (List A)) (front : List A) (p : A) → AreLongest passes (closed ++ front ∷ [])
      → passes (front ++ p ∷ []) ≡ false → AreLongest passes (closed ++ front ∷ (p ∷ []) ∷ [])
  opened [] front p h e = (h.0, e, (alone p, tt, tt))
  opened (c ∷ closed) front p h e = (
    h.0,
    subst (λ (t : List A). IsMaximal passes c t) (sym (joined-opened closed front p))
        (no_less c (joined (closed ++ front ∷ [])) (p ∷ [])
        (some_items closed front (is_some front (last_passes closed front h.2))) h.1),
    opened closed front p h.2 e,
  )

  -- ---- each list has its fronts

  record Cut (items : List A) : Type 0 where
    closed : List (List A)
    front : List A
    longest-is : AreLongest passes (closed ++ front ∷ [])
    joined-is : joined (closed ++ front ∷ []) ≡ items

  one_more : (items : List A) (p : A) → Cut items → Cut (items ++ p ∷ [])
  one_more items p c = by_test (passes (c.front ++ p ∷ [])) refl
    where
      by_test : (b : Bool) → passes (c.front ++ p ∷ []) ≡ b → Cut (items ++ p ∷ [])
      by_test true e = record {
        closed = c.closed;
        front = c.front ++ p ∷ [];
        longest-is = grown c.closed c.front p c.longest-is e;
        joined-is = joined-grown c.closed c.front p ∙ ap (λ (t : List A). t ++ p ∷ []) c.joined-is;
      }
      by_test false e = record {
        closed = c.closed ++ c.front ∷ [];
        front = p ∷ [];
        longest-is = subst (λ (t : List (List A)). AreLongest passes t)
            (sym (append_assoc c.closed (c.front ∷ []) ((p ∷ []) ∷ []))) (opened c.closed c.front p c.longest-is e);
        joined-is = ap joined (append_assoc c.closed (c.front ∷ []) ((p ∷ []) ∷ []))
            ∙ joined-opened c.closed c.front p ∙ ap (λ (t : List A). t ++ p ∷ []) c.joined-is;
      }

  more : (done items : List A) → Cut done → Cut (done ++ items)
  more done [] c = subst (λ (t : List A). Cut t) (sym (append-nil done)) c
  more done (p ∷ items) c = subst (λ (t : List A). Cut t) (append_assoc done (p ∷ []) items)
      (more (done ++ p ∷ []) items (one_more done p c))

  pub record IsCut (items : List A) (fronts : List (List A)) : Type 0 where
    pub longest-is : AreLongest passes fronts
    pub joined-is : joined fronts ≡ items

  cut_as : (items : List A) (fronts : List (List A)) → AreLongest passes fronts → joined fronts ≡ items
      → IsCut items (fronts_of passes items)
  cut_as items fronts h e = subst (λ (t : List A). IsCut t (fronts_of passes t)) e
      (subst (λ (t : List (List A)). IsCut (joined fronts) t) (sym (the_fronts fronts h))
      (record { longest-is = h; joined-is = refl }))

  -- the fronts are the longest ones, and hold exactly the items
  pub are_cut : (items : List A) → IsCut items (fronts_of passes items)
  are_cut [] = cut_as [] [] tt refl
  are_cut (x ∷ xs) =
      let c = more (x ∷ []) xs
      (record { closed = []; front = x ∷ []; longest-is = (alone x, tt, tt); joined-is = append-nil (x ∷ []) }) in
      cut_as (x ∷ xs) (c.closed ++ c.front ∷ []) c.longest-is c.joined-is

  pub first_front : (p : A) → fronts_of passes (p ∷ []) ≡ (p ∷ []) ∷ []
  first_front p = the_fronts ((p ∷ []) ∷ []) (alone p, tt, tt)

  module _ (items : List A) (closed : List (List A)) (front : List A)
      (e : fronts_of passes items ≡ closed ++ front ∷ []) where
    longest_so_far : AreLongest passes (closed ++ front ∷ [])
    longest_so_far = subst (λ (t : List (List A)). AreLongest passes t) e (are_cut items).longest-is

    joined_so_far : joined (closed ++ front ∷ []) ≡ items
    joined_so_far = ap joined (sym e) ∙ (are_cut items).joined-is

    pub the_last_passes : passes front ≡ true
    the_last_passes = last_passes closed front longest_so_far

    -- if the last front passes with one more item, the item joins it
    pub fronts-grown : (p : A) → passes (front ++ p ∷ []) ≡ true
        → fronts_of passes (items ++ p ∷ []) ≡ closed ++ (front ++ p ∷ []) ∷ []
    fronts-grown p h =
        ap (λ (t : List A). fronts_of passes (t ++ p ∷ [])) (sym joined_so_far)
        ∙ ap (fronts_of passes) (sym (joined-grown closed front p))
        ∙ the_fronts (closed ++ (front ++ p ∷ []) ∷ []) (grown closed front p longest_so_far h)

    -- if the last front doesn't pass with one more item, the item begins another front
    pub fronts-opened : (p : A) → passes (front ++ p ∷ []) ≡ false
        → fronts_of passes (items ++ p ∷ []) ≡ (closed ++ front ∷ []) ++ (p ∷ []) ∷ []
    fronts-opened p h =
        ap (λ (t : List A). fronts_of passes (t ++ p ∷ [])) (sym joined_so_far)
        ∙ ap (fronts_of passes) (sym (joined-opened closed front p))
        ∙ the_fronts (closed ++ front ∷ (p ∷ []) ∷ []) (opened closed front p longest_so_far h)
        ∙ sym (append_assoc closed (front ∷ []) ((p ∷ []) ∷ []))
