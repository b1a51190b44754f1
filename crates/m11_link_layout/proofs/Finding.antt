-- Look-ups in lists of pairs, and lists of distinct names.
use Rattle.std.proofs.Common.{◌≡◌, ℕ, ◌==◌, ◌&&◌, Bool, true, false, cond, ◌||◌, if◌then◌else◌, List, [], ◌∷◌, ◌++◌, map, option_map, Option, Some, refl, sym, ap, ◌∙◌, subst, true≢false, arith}
use Rattle.std.specs.List.{cons_option, filter_map, list_any}
use Rattle.std.specs.Map.{keys_of, lookup}
use Rattle.std.specs.Option.{option_or}
use Rattle.std.proofs.lemmas.Bool.Decides.{nat_tests}
use Rattle.std.proofs.lemmas.List.Folds.{list_any-append}
use Rattle.indexmap.specs.IndexMap.{insert_entry}
use Rattle.indexmap.specs.IndexSet.{insert_key}
use Rattle.m11_base.specs.Rad50.{is_same_name}
use Rattle.m11_base.proofs.SameNames.{same_name_equal, same_name_itself}
use Rattle.m11_link_modules.specs.Positions.{distinct, distinct_after}
use Rattle.m11_link_layout.specs.Tables.{is_contribution}

-- ---- two names are equal if the test is true for them

both : (b c : Bool) → (b && c) ≡ true → (b ≡ true) × (c ≡ true)
both true c e = (refl, e)
both false c e = search

same_number : (a b : ℕ) → (a == b) ≡ true → a ≡ b
same_number a b e = grind (arith, nat_tests)

number_itself : (a : ℕ) → (a == a) ≡ true
number_itself a = grind (arith, nat_tests)

joined_pair : {A B : Type 0} (a c : A) (b d : B) → a ≡ c → b ≡ d → ◌≡◌ {A = A × B} (a, b) (c, d)
joined_pair a c b d e f = cc

pub is_contribution_same : (one other : ℕ × (ℕ × ℕ)) → is_contribution one other ≡ true → one ≡ other
is_contribution_same (i, a) (j, b) e =
    let h = both (i == j) (is_same_name a b) e in joined_pair i j a b (same_number i j h.0) (same_name_equal a b h.1)

pub is_contribution_itself : (one : ℕ × (ℕ × ℕ)) → is_contribution one one ≡ true
is_contribution_itself (i, a) =
    let P : Bool → Type 0 = λ t. (t && is_same_name a a) ≡ true in subst P (sym (number_itself i)) (same_name_itself a)

-- ---- look-ups

swap_tests : {A : Type 0} (b c : Bool) (x y z : A) → (b ≡ true → c ≡ true → ⊥)
    → cond b x (cond c y z) ≡ cond c y (cond b x z)
swap_tests true true x y z h = absurd (h refl refl)
swap_tests true false x y z h = refl
swap_tests false c x y z h = refl

same_tests : {A : Type 0} (b : Bool) (x y z : A) → cond b x y ≡ cond b x (cond b z y)
same_tests true x y z = refl
same_tests false x y z = refl

chosen_or : {X : Type 0} (b : Bool) (x : X) (this following more : Option X) → this ≡ option_or following more
    → cond b (Some x) this ≡ option_or (cond b (Some x) following) more
chosen_or true x this following more e = refl
chosen_or false x this following more e = e

pub lookup_append : {K X : Type 0} (test : K → Bool) (es fs : List (K × X))
    → lookup test (es ++ fs) ≡ option_or (lookup test es) (lookup test fs)
lookup_append test [] fs = refl
lookup_append test (e ∷ es) fs = chosen_or (test e.0) e.1 _ _ (lookup test fs) (lookup_append test es fs)

-- names are distinct: no two of them are the same
module _ {K : Type 0} (eq : K → K → Bool) where
  abbrev pub Apart : List K → Type 0
  Apart [] = Unit {0}
  Apart (k ∷ ks) = (list_any (eq k) ks ≡ false) × Apart ks

pub neither : (b c : Bool) → (b || c) ≡ false → (b ≡ false) × (c ≡ false)
neither true c e = search
neither false c e = (refl, e)

same_some : {X : Type 0} (x y : X) → Some x ≡ Some y → x ≡ y
same_some x y e = cc

pub or_true : (b c : Bool) → c ≡ true → (b || c) ≡ true
or_true true c e = refl
or_true false c e = e

paired : {K X : Type 0} (e : K × X) (es : List (K × X)) (x : X) (fs : List (K × X)) → e.1 ≡ x → es ≡ fs
    → e ∷ es ≡ (e.0, x) ∷ fs
paired e es x fs p q = λ j. (e.0, p j) ∷ q j

module _ {K : Type 0} (eq : K → K → Bool) (same : (x y : K) → eq x y ≡ true → x ≡ y) (itself : (x : K)
    → eq x x ≡ true) where
  inserted : {X : Type 0} (q k : K) (v : X) (e : K × X) (es : List (K × X)) (b : Bool) → eq k e.0 ≡ b
      → lookup (eq q) (insert_entry eq es k v) ≡ cond (eq q k) (Some v) (lookup (eq q) es)
      → lookup (eq q) (if b then (e.0, v) ∷ es else e ∷ insert_entry eq es k v)
      ≡ cond (eq q k) (Some v) (cond (eq q e.0) (Some e.1) (lookup (eq q) es))
  inserted q k v e es true t h =
      let P : K → Type 0 = λ x. cond (eq q e.0) (Some v) (lookup (eq q) es)
      ≡ cond (eq q x) (Some v) (cond (eq q e.0) (Some e.1) (lookup (eq q) es)) in
      subst P (sym (same k e.0 t)) (same_tests (eq q e.0) (Some v) (lookup (eq q) es) (Some e.1))
  inserted q k v e es false f h =
      let two : (eq q e.0 ≡ true → eq q k ≡ true → ⊥) = λ s t.
      let P : K → Type 0 = λ x. eq x e.0 ≡ true in true≢false (sym (subst P (same q k t) s) ∙ f) in
      ap (λ o. cond (eq q e.0) (Some e.1) o) h ∙ swap_tests (eq q e.0) (eq q k) (Some e.1) (Some v)
      (lookup (eq q) es) two

  -- after a pair is inserted, a look-up of its name finds its value, and any other look-up finds what it found before
  pub lookup_inserted : {X : Type 0} (q k : K) (v : X) (es : List (K × X))
      → lookup (eq q) (insert_entry eq es k v) ≡ cond (eq q k) (Some v) (lookup (eq q) es)
  lookup_inserted q k v [] = refl
  lookup_inserted q k v (e ∷ es) = inserted q k v e es (eq k e.0) refl (lookup_inserted q k v es)

  none_or : (b c : Bool) → b ≡ false → c ≡ false → (b || (c || false)) ≡ false
  none_or b c e f =
      let P : Bool → Type 0 = λ x. (x || (c || false)) ≡ false in
      let Q : Bool → Type 0 = λ x. (x || false) ≡ false in subst P (sym e) (subst Q (sym f) refl)

  pub turned : (x k : K) (b : Bool) → eq x k ≡ b → eq k x ≡ false → eq x k ≡ false
  turned x k false e f = e
  turned x k true e f =
      let P : K → Type 0 = λ y. eq y x ≡ false in absurd (true≢false (sym (itself x) ∙ subst P (sym (same x k e)) f))

  -- if names are distinct and a name isn't among them, they are distinct with this name at the end
  apart_more : (ks : List K) (k : K) → list_any (eq k) ks ≡ false → Apart eq ks → Apart eq (ks ++ k ∷ [])
  apart_more [] k e d = (refl, tt)
  apart_more (x ∷ ks) k e d =
      let n = neither (eq k x) (list_any (eq k) ks) e in (
        list_any-append (eq x) ks (k ∷ []) ∙ none_or (list_any (eq x) ks) (eq x k) d.0
            (turned x k (eq x k) refl n.0),
        apart_more ks k n.1 d.1,
      )

  inserted_apart : (b : Bool) (ks : List K) (k : K) → list_any (eq k) ks ≡ b → Apart eq ks
      → Apart eq (if b then ks else ks ++ k ∷ [])
  inserted_apart true ks k e d = d
  inserted_apart false ks k e d = apart_more ks k e d

  pub apart_inserted : (ks : List K) (k : K) → Apart eq ks → Apart eq (insert_key eq ks k)
  apart_inserted ks k d = inserted_apart (list_any (eq k) ks) ks k refl d

  found_after : {X : Type 0} (f : K → X) (e : K × X) (es : List (K × X)) (q : K) (b : Bool) → eq q e.0 ≡ b
      → list_any (eq e.0) (keys_of es) ≡ false
      → list_any (eq q) (keys_of es) ≡ true → cond (eq q e.0) (Some e.1) (lookup (eq q) es) ≡ Some (f q)
      → lookup (eq q) es ≡ Some (f q)
  found_after {X} f e es q false t d a h =
      let P : Bool → Type 0 = λ b. cond b (Some e.1) (lookup (eq q) es) ≡ Some (f q) in subst P t h
  found_after f e es q true t d a h =
      let P : K → Type 0 = λ k. list_any (eq k) (keys_of es) ≡ true in
      absurd (true≢false (sym (subst P (same q e.0 t) a) ∙ d))

  -- if the names of pairs are distinct, and each is looked up as this value, the pairs are these names with these values
  pub pairs_found : {X : Type 0} (f : K → X) (es : List (K × X)) → Apart eq (keys_of es)
      → ((q : K) → list_any (eq q) (keys_of es) ≡ true → lookup (eq q) es ≡ Some (f q))
      → es ≡ map (λ k. (k, f k)) (keys_of es)
  pairs_found f [] d h = refl
  pairs_found {X} f (e ∷ es) d h =
      let P : Bool → Type 0 = λ b. (b || list_any (eq e.0) (keys_of es)) ≡ true in
      let Q : Bool → Type 0 = λ b. cond b (Some e.1) (lookup (eq e.0) es) ≡ Some (f e.0) in
      let first = same_some e.1 (f e.0) (subst Q (itself e.0) (h e.0 (subst P (sym (itself e.0)) refl))) in
      let rest = pairs_found f es d.1 (λ q t. found_after f e es q (eq q e.0) refl d.0 t
      (h q (or_true (eq q e.0) (list_any (eq q) (keys_of es)) t))) in
      paired e es (f e.0) (map (λ k. (k, f k)) (keys_of es)) first rest

  found_later : {X : Type 0} (e : K × X) (es : List (K × X)) (q : K) (b : Bool) (found : Option X) → eq q e.0 ≡ b
      → list_any (eq e.0) (keys_of es) ≡ false → list_any (eq q) (keys_of es) ≡ true
      → found ≡ cond (eq q e.0) (Some e.1) (lookup (eq q) es) → found ≡ lookup (eq q) es
  found_later e es q false found t d a h = h ∙ ap (λ b. cond b (Some e.1) (lookup (eq q) es)) t
  found_later e es q true found t d a h =
      let P : K → Type 0 = λ k. list_any (eq k) (keys_of es) ≡ true in
      absurd (true≢false (sym (subst P (same q e.0 t) a) ∙ d))

  -- if no name occurs twice in a list of pairs, a report on each name with what is found under it is a report on each pair
  pub each_reported : {X Y : Type 0} (report : K → X → Y) (find : K → Option X) (es : List (K × X)) → Apart eq (keys_of es)
      → ((q : K) → list_any (eq q) (keys_of es) ≡ true → find q ≡ lookup (eq q) es)
      → filter_map (λ k. option_map (report k) (find k)) (keys_of es) ≡ map (λ e. report e.0 e.1) es
  each_reported report find [] d h = refl
  each_reported report find (e ∷ es) d h =
      let P : Bool → Type 0 = λ b. (b || list_any (eq e.0) (keys_of es)) ≡ true in
      let first = h e.0 (subst P (sym (itself e.0)) refl)
      ∙ ap (λ b. cond b (Some e.1) (lookup (eq e.0) es)) (itself e.0) in
      let rest = each_reported report find es d.1 (λ q t. found_later e es q (eq q e.0) (find q) refl d.0 t
      (h q (or_true (eq q e.0) (list_any (eq q) (keys_of es)) t))) in
      λ j. cons_option (option_map (report e.0) (first j)) (rest j)

-- names in the order of first appearance are distinct
apart_after : (seen names : List (ℕ × ℕ)) → Apart is_same_name seen → Apart is_same_name (distinct_after seen names)
apart_after seen [] d = d
apart_after seen (name ∷ names) d =
    apart_after (insert_key is_same_name seen name) names (apart_inserted is_same_name same_name_equal same_name_itself seen name d)

pub apart_distinct : (names : List (ℕ × ℕ)) → Apart is_same_name (distinct names)
unfolding distinct
apart_distinct names = apart_after [] names tt
