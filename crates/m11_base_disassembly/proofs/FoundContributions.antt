-- The contributions that were found in the first lines of a load map, or before the place of a listing.
use Rattle.std.proofs.Common.{◌≡◌, ◌∙◌, ℕ, ◌-◌, ◌<◌, ◌≤◌, Bool, false, cond, List, [], ◌∷◌, ◌++◌, append_assoc, length, get_or, take, drop, Option, Some, None, Result, Ok, Err, refl, sym, subst, ap, arith}
use Rattle.std.proofs.Math.Seq.{take-append_seam}
use Rattle.std.proofs.lemmas.List.{length-append, take_all}
use Rattle.std.specs.Prelude.{codes}
use Rattle.std.specs.Str.{bytes_eq}
use Rattle.m11_base_disassembly.specs.Contributions.{contribution_in, contributions_in, with_contribution}
use Rattle.m11_base_disassembly.specs.Places.{Place, after_module, with_other, place_of, place_with}
use Rattle.m11_base_disassembly.specs.declared.contributions.Contribution.{Contribution}
use Rattle.m11_base_disassembly.specs.declared.map_fault.MapFault.{MapFault}

abbrev pub with_contributions : List Contribution → Result (List Contribution) MapFault → Result (List Contribution) MapFault
with_contributions done (Ok more) = Ok (done ++ more)
with_contributions done (Err fault) = Err fault

-- if the line after these contributions shows one more, that one follows them
pub one_more : (done : List Contribution) (contribution : Contribution) (more : Result (List Contribution) MapFault)
    → with_contributions done (with_contribution (Ok contribution) more) ≡ with_contributions (done ++ contribution ∷ []) more
one_more done contribution (Ok others) = ap Ok (sym (append_assoc done (contribution ∷ []) others))
one_more done contribution (Err fault) = refl

pub one_found : (lines rest : List (List ℕ)) (line : List ℕ) (others : List (List ℕ)) (found new : List Contribution)
    (contribution : Contribution) → contributions_in lines ≡ with_contributions found (contributions_in rest) → rest ≡ line ∷ others
    → bytes_eq line (codes "GLOBALS") ≡ false → contribution_in line ≡ Ok contribution → new ≡ found ++ contribution ∷ []
    → contributions_in lines ≡ with_contributions new (contributions_in others)
one_found lines rest line others found new contribution so_far first other is added =
    let to : Result Contribution MapFault → Result (List Contribution) MapFault = λ r. with_contribution r (contributions_in others) in
    let here : contributions_in (line ∷ others) ≡ to (Ok contribution) =
    ap (λ (b : Bool). cond b (Ok []) (to (contribution_in line))) other ∙ ap to is in
    so_far ∙ ap (λ (r : List (List ℕ)). with_contributions found (contributions_in r)) first ∙ ap (with_contributions found) here
    ∙ one_more found contribution (contributions_in others)
    ∙ ap (λ (n : List Contribution). with_contributions n (contributions_in others)) (sym added)

-- a place, with these contributions in front of the others
abbrev pub with_others : List Contribution → Option Place → Option Place
with_others [] place = place
with_others (contribution ∷ done) place = with_other contribution (with_others done place)

pub one_more_other : (done : List Contribution) (contribution : Contribution) (place : Option Place)
    → with_others done (with_other contribution place) ≡ with_others (done ++ contribution ∷ []) place
one_more_other [] contribution place = refl
one_more_other (first ∷ done) contribution place = ap (with_other first) (one_more_other done contribution place)

pub none_with_others : (done : List Contribution) → with_others done None ≡ None
none_with_others [] = refl
none_with_others (contribution ∷ done) = ap (with_other contribution) (none_with_others done)

pub found_after : (done own rest : List Contribution)
    → with_others done (Some (place_with own rest)) ≡ Some (place_with own (done ++ rest))
found_after [] own rest = refl
found_after (contribution ∷ done) own rest = ap (with_other contribution) (found_after done own rest)

front_is : (done own : List Contribution) → take (length (done ++ own) - length own) (done ++ own) ≡ done
front_is done own =
    let same : length (done ++ own) - length own ≡ length done = omega (arith, length-append done own) in
    ap (λ (n : ℕ). take n (done ++ own)) same ∙ take-append_seam done own

-- at the end there is no place
pub no_place : (sections : List (List ℕ)) (all done own : List Contribution) → length own < 1
    → place_of sections all ≡ with_others done (place_of sections own) → place_of sections all ≡ None
no_place sections all done [] few so_far = so_far ∙ none_with_others done
no_place sections all done (contribution ∷ rest) few so_far = absurd (omega (arith, few))

module _ (sections : List (List ℕ)) (all done : List Contribution) (item : Contribution) where
  -- the place of a listing, if its module is the first one after these contributions
  pub place_found : (own after : List Contribution) → 1 ≤ length own → item ≡ get_or own 0 item → all ≡ done ++ own
      → place_of sections all ≡ with_others done (place_of sections own)
      → after_module item.module_name sections own ≡ Some after
      → place_of sections all ≡ Some (place_with own (take (length all - length own) all ++ after))
  place_found [] after some first whole so_far found = absurd (omega (arith, some))
  place_found (contribution ∷ rest) after some first whole so_far found =
      let own : List Contribution = contribution ∷ rest in
      let to : Option (List Contribution) → Option Place =
      λ r. elim r [ Some others ↦ Some (place_with own others) | None ↦ with_other contribution (place_of sections rest) ] in
      let here : place_of sections own ≡ to (Some after) =
      ap to (subst (λ (c : Contribution). after_module c.module_name sections own ≡ Some after) first found) in
      let front : take (length all - length own) all ≡ done =
      ap (λ (l : List Contribution). take (length l - length own) l) whole ∙ front_is done own in
      so_far ∙ ap (with_others done) here ∙ found_after done own after
      ∙ ap (λ (f : List Contribution). Some (place_with own (f ++ after))) (sym front)

  -- if it is none of these contributions and not the one after them, the listing is searched after that one too
  pub place_after : (own next : List Contribution) → 1 ≤ length own → item ≡ get_or own 0 item → all ≡ done ++ own
      → place_of sections all ≡ with_others done (place_of sections own) → after_module item.module_name sections own ≡ None
      → next ≡ take (length own - 1) (drop 1 own)
      → (more : List Contribution) × (all ≡ more ++ next) × (place_of sections all ≡ with_others more (place_of sections next))
  place_after [] next some first whole so_far none rest_is = absurd (omega (arith, some))
  place_after (contribution ∷ rest) next some first whole so_far none rest_is =
      let own : List Contribution = contribution ∷ rest in
      let to : Option (List Contribution) → Option Place =
      λ r. elim r [ Some others ↦ Some (place_with own others) | None ↦ with_other contribution (place_of sections rest) ] in
      let here : place_of sections own ≡ with_other contribution (place_of sections rest) =
      ap to (subst (λ (c : Contribution). after_module c.module_name sections own ≡ None) first none) in
      let next_is : next ≡ rest = rest_is ∙ take_all (length own - 1) rest (omega arith) in (
        done ++ contribution ∷ [],
        whole ∙ sym (append_assoc done (contribution ∷ []) rest)
            ∙ ap (λ (l : List Contribution). (done ++ contribution ∷ []) ++ l) (sym next_is),
        so_far ∙ ap (with_others done) here ∙ one_more_other done contribution (place_of sections rest)
            ∙ ap (λ (l : List Contribution). with_others (done ++ contribution ∷ []) (place_of sections l)) (sym next_is),
      )
