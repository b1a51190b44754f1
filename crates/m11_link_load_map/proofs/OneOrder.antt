-- Two lists of globals in the order of their values, with the same globals in the same order at each address, are equal.
use Rattle.std.proofs.Common.{◌≡◌, ◌∙◌, ℕ, zero, suc, ◌<◌, ◌≤◌, nat_eq, Bool, true, false, if◌then◌else◌, List, [], ◌∷◌, length, get_or, refl, sym, ap, subst, arith}
use Rattle.std.specs.List.{filter}
use Rattle.std.specs.List.Sorted.{IsNonDecreasingBy}
use Rattle.std.proofs.lemmas.Bool.Decides.{nat_tests}
use Rattle.m11_link_modules.specs.Parts.{Part}
use Rattle.m11_link_layout.specs.Modules.{name_at}
use Rattle.m11_link_layout.specs.Sections.{module_base, top}
use Rattle.m11_link_layout.specs.declared.planned.PlannedGlobal.{PlannedGlobal}
use Rattle.m11_link_load_map.specs.LoadMap.{IsLoadMap, contributions_of, lies_at, map_text}

abbrev Rise : List PlannedGlobal → Type 0
Rise globals = IsNonDecreasingBy (λ (global : PlannedGlobal). global.value) globals

rise_on : (x : PlannedGlobal) (xs : List PlannedGlobal) → Rise (x ∷ xs) → Rise xs
rise_on x xs h = λ i j d le lt. h (suc i) (suc j) d (omega arith) (omega arith)

equal : (a b : ℕ) → nat_eq a b ≡ true → a ≡ b
equal a b e = grind (arith, nat_tests)

itself : (a : ℕ) → nat_eq a a ≡ true
itself a = grind (arith, nat_tests)

-- one of these globals has this address as its value
pub record LiesAmong (address : ℕ) (globals : List PlannedGlobal) : Type 0 where
  pub index : ℕ
  pub inside : index < length globals
  pub value : (d : PlannedGlobal) → (get_or globals index d).value ≡ address

later : (address : ℕ) (z : PlannedGlobal) (zs : List PlannedGlobal) → LiesAmong address zs → LiesAmong address (z ∷ zs)
later address z zs among = record { index = suc among.index; inside = omega (arith, among.inside); value = among.value }

among_by : (address : ℕ) (z y : PlannedGlobal) (zs ys : List PlannedGlobal) (b : Bool) → nat_eq z.value address ≡ b
    → (filter (lies_at address) zs ≡ y ∷ ys → LiesAmong address zs)
    → (if b then z ∷ filter (lies_at address) zs else filter (lies_at address) zs) ≡ y ∷ ys → LiesAmong address (z ∷ zs)
among_by address z y zs ys true t h e =
    record { index = zero; inside = omega arith; value = λ d. equal z.value address t }
among_by address z y zs ys false t h e = later address z zs (h e)

lies_among : (address : ℕ) (y : PlannedGlobal) (zs ys : List PlannedGlobal) → filter (lies_at address) zs ≡ y ∷ ys
    → LiesAmong address zs
lies_among address y [] ys e = absurd (none_some e)
  where
    none_some : ◌≡◌ {A = List PlannedGlobal} [] (y ∷ ys) → ⊥
    none_some same = cc
lies_among address y (z ∷ zs) ys e =
    among_by address z y zs ys (nat_eq z.value address) refl (lies_among address y zs ys) e

first_least : (address : ℕ) (x y : PlannedGlobal) (xs ys : List PlannedGlobal) → Rise (x ∷ xs)
    → filter (lies_at address) (x ∷ xs) ≡ y ∷ ys → x.value ≤ address
first_least address x y xs ys rise e =
    let among = lies_among address y (x ∷ xs) ys e in
    let P : ℕ → Type 0 = λ n. x.value ≤ n in
    subst P (among.value x) (rise zero among.index x (omega arith) among.inside)

-- the globals at the first global's address begin with the first global
first_kept : (x : PlannedGlobal) (xs : List PlannedGlobal) (address : ℕ) → x.value ≡ address
    → filter (lies_at address) (x ∷ xs) ≡ x ∷ filter (lies_at address) xs
first_kept x xs address e =
    let P : ℕ → Type 0 = λ n. nat_eq x.value n ≡ true in
    ap (λ (b : Bool). if b then x ∷ filter (lies_at address) xs else filter (lies_at address) xs) (subst P e (itself x.value))

first_same : (x y : PlannedGlobal) (xs ys : List PlannedGlobal) → x ∷ xs ≡ y ∷ ys → x ≡ y
first_same x y xs ys e = cc

rest_same : (b : Bool) (x : PlannedGlobal) (xs ys : List PlannedGlobal)
    → (if b then x ∷ xs else xs) ≡ (if b then x ∷ ys else ys) → xs ≡ ys
rest_same true x xs ys e = cc
rest_same false x xs ys e = e

not_first : (y : PlannedGlobal) (ys : List PlannedGlobal) → ◌≡◌ {A = List PlannedGlobal} [] (y ∷ ys) → ⊥
not_first y ys e = cc

one_order : (xs ys : List PlannedGlobal) → Rise xs → Rise ys
    → ((address : ℕ) → filter (lies_at address) xs ≡ filter (lies_at address) ys) → xs ≡ ys
one_order [] [] rise rise' same = refl
one_order [] (y ∷ ys) rise rise' same =
    absurd (not_first y (filter (lies_at y.value) ys) (same y.value ∙ first_kept y ys y.value refl))
one_order (x ∷ xs) [] rise rise' same =
    absurd (not_first x (filter (lies_at x.value) xs) (sym (same x.value) ∙ first_kept x xs x.value refl))
one_order (x ∷ xs) (y ∷ ys) rise rise' same =
    let below = first_least x.value y x ys (filter (lies_at x.value) xs) rise' (sym (same x.value) ∙ first_kept x xs x.value refl) in
    let above = first_least y.value x y xs (filter (lies_at y.value) ys) rise (same y.value ∙ first_kept y ys y.value refl) in
    let at : y.value ≡ x.value = omega (arith, below, above) in
    let first = first_same x y (filter (lies_at x.value) xs) (filter (lies_at x.value) ys)
    (sym (first_kept x xs x.value refl) ∙ same x.value ∙ first_kept y ys x.value at) in
    let P : PlannedGlobal → Type 0 = λ z. (address : ℕ) → filter (lies_at address) (x ∷ xs) ≡ filter (lies_at address) (z ∷ ys) in
    let again = subst P (sym first) same in
    let rest = one_order xs ys (rise_on x xs rise) (rise_on y ys rise') (λ address.
    rest_same (nat_eq x.value address) x (filter (lies_at address) xs) (filter (lies_at address) ys) (again address)) in
    (λ i. first i ∷ rest i)

pub one_map : (bottom : ℕ) (parts : List Part) (text other : List ℕ) → IsLoadMap bottom parts text → IsLoadMap bottom parts other
    → text ≡ other
one_map bottom parts text other a b =
    let order = one_order a.0 b.0 a.1.rise b.1.rise (λ address. a.1.ties address ∙ sym (b.1.ties address)) in
    a.2 ∙ ap (λ (these : List PlannedGlobal). map_text (module_base bottom parts) (name_at parts) bottom (top bottom parts)
    (contributions_of parts) these) order ∙ sym b.2
