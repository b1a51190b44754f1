-- What parts report, after one more part.
use Rattle.std.proofs.Common.{◌≡◌, ℕ, List, [], ◌∷◌, ◌++◌, append-nil, Option, Some, None, refl, sym, ap, ◌∙◌}
use Rattle.std.specs.List.{cons_option}
use Rattle.std.specs.Map.{keys_of}
use Rattle.std.proofs.Math.Seq.{append_snoc}
use Rattle.std.proofs.lemmas.List.{map-append}
use Rattle.indexmap.specs.IndexSet.{insert_key}
use Rattle.m11_base.specs.Rad50.{is_same_name}
use Rattle.m11_link_modules.specs.Parts.{Part}
use Rattle.m11_link_modules.specs.Positions.{distinct, distinct_after}
use Rattle.m11_link_layout.specs.Modules.{reported_after}

module _ {X : Type 0} (report : List Part → Part → Option X) where
  cons_append : (found : Option X) (xs ys : List X) → cons_option found (xs ++ ys) ≡ cons_option found xs ++ ys
  cons_append None xs ys = refl
  cons_append (Some x) xs ys = refl

  after_more : (done before : List Part) (part : Part)
      → reported_after report done (before ++ part ∷ [])
      ≡ reported_after report done before ++ cons_option (report (done ++ before) part) []
  after_more done [] part = ap (λ all. cons_option (report all part) []) (sym (append-nil done))
  after_more done (first ∷ before) part =
      let rest = after_more (done ++ first ∷ []) before part
      ∙ ap (λ all. reported_after report (done ++ first ∷ []) before ++ cons_option (report all part) [])
      (append_snoc done first before) in
      ap (λ these. cons_option (report done first) these) rest
      ∙ cons_append (report done first) (reported_after report (done ++ first ∷ []) before)
      (cons_option (report (done ++ first ∷ before) part) [])

  pub reported_more : (before : List Part) (part : Part)
      → reported_after report [] (before ++ part ∷ []) ≡ reported_after report [] before ++ cons_option (report before part) []
  reported_more before part = after_more [] before part

-- the distinct names after one more name are those so far, with this name inserted
distinct_more : (seen names : List (ℕ × ℕ)) (name : ℕ × ℕ)
    → distinct_after seen (names ++ name ∷ []) ≡ insert_key is_same_name (distinct_after seen names) name
distinct_more seen [] name = refl
distinct_more seen (first ∷ names) name = distinct_more (insert_key is_same_name seen first) names name

pub names_more : {X : Type 0} (pairs : List ((ℕ × ℕ) × X)) (pair : (ℕ × ℕ) × X)
    → distinct (keys_of (pairs ++ pair ∷ [])) ≡ insert_key is_same_name (distinct (keys_of pairs)) pair.0
unfolding distinct
names_more pairs pair =
    ap (λ names. distinct_after [] names) (map-append (λ e. e.0) pairs (pair ∷ []))
    ∙ distinct_more [] (keys_of pairs) pair.0
