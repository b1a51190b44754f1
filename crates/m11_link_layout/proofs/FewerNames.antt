-- Distinct names are no more than the names that they are among.
use Rattle.std.proofs.Common.{◌≡◌, ℕ, ◌+◌, ◌≤◌, Bool, true, false, ◌||◌, if◌then◌else◌, List, [], ◌∷◌, length, refl, sym, ap, ◌∙◌, subst, arith, true≢false}
use Rattle.indexmap.specs.IndexSet.{insert_key}
use Rattle.m11_base.specs.Rad50.{is_same_name}
use Rattle.m11_base.proofs.SameNames.{same_name_itself, same_name_equal}
use Rattle.m11_link_modules.specs.Names.{is_among}
use Rattle.m11_link_modules.specs.Positions.{distinct, distinct_after}
use Rattle.m11_link_layout.proofs.ReferenceSteps.{among_inserted}
use Rattle.m11_link_layout.proofs.Finding.{Apart, apart_distinct, or_true}

abbrev Name : Type 0
Name = ℕ × ℕ

-- each of these names is among the others
abbrev pub Within : List (ℕ × ℕ) → List (ℕ × ℕ) → Type 0
Within names others = (name : ℕ × ℕ) → is_among names name ≡ true → is_among others name ≡ true

-- ---- one name fewer

abbrev without : Name → List Name → List Name
without name [] = []
without name (first ∷ names) = if is_same_name name first then without name names else first ∷ without name names

still_among : (name other : Name) (names : List Name) → is_same_name other name ≡ false → is_among names other ≡ true
    → is_among (without name names) other ≡ true
still_among name other [] d a = a
still_among name other (first ∷ names) d a =
    by (is_same_name name first) (is_same_name other first) refl refl (still_among name other names d) a
  where
    by : (b c : Bool) → is_same_name name first ≡ b → is_same_name other first ≡ c
        → (is_among names other ≡ true → is_among (without name names) other ≡ true)
        → (c || is_among names other) ≡ true
        → is_among (if b then without name names else first ∷ without name names) other ≡ true
    by true true e f k h =
        let P : Name → Type 0 = λ n. is_same_name other n ≡ true in
        absurd (true≢false (sym (subst P (sym (same_name_equal name first e)) f) ∙ d))
    by true false e f k h = k h
    by false true e f k h = ap (λ b. b || is_among (without name names) other) f
    by false false e f k h = or_true (is_same_name other first) (is_among (without name names) other) (k h)

none_at_most : (n : ℕ) → 0 ≤ n
none_at_most n = omega arith

no_longer : (name : Name) (names : List Name) → length (without name names) ≤ length names
no_longer name [] = none_at_most 0
no_longer name (first ∷ names) = by (is_same_name name first) (no_longer name names)
  where
    by : (b : Bool) → length (without name names) ≤ length names
        → length (if b then without name names else first ∷ without name names) ≤ length (first ∷ names)
    by true h = omega arith
    by false h = omega arith

shorter : (name : Name) (names : List Name) → is_among names name ≡ true
    → length (without name names) + 1 ≤ length names
shorter name [] a = absurd (true≢false (sym a))
shorter name (first ∷ names) a = by (is_same_name name first) (no_longer name names) (shorter name names) a
  where
    by : (b : Bool) → length (without name names) ≤ length names
        → (is_among names name ≡ true → length (without name names) + 1 ≤ length names)
        → (b || is_among names name) ≡ true
        → length (if b then without name names else first ∷ without name names) + 1 ≤ length (first ∷ names)
    by true l k h = omega (arith, l)
    by false l k h = let m = k h in omega (arith, m)

-- ---- at most as many names

differs : (name other : Name) (names : List Name) → is_among names name ≡ false → is_among names other ≡ true
    → is_same_name other name ≡ false
differs name other names d a = by (is_same_name other name) refl
  where
    by : (b : Bool) → is_same_name other name ≡ b → b ≡ false
    by false e = refl
    by true e =
        let P : Name → Type 0 = λ n. is_among names n ≡ true in
        absurd (true≢false (sym (subst P (same_name_equal other name e) a) ∙ d))

pub no_more : (names others : List (ℕ × ℕ)) → Apart is_same_name names → Within names others
    → length names ≤ length others
no_more [] others d w = none_at_most (length others)
no_more (name ∷ names) others d w =
    let less = shorter name others (w name (ap (λ b. b || is_among names name) (same_name_itself name))) in
    let rest = no_more names (without name others) d.1
    (λ other a. still_among name other others (differs name other names d.0 a)
    (w other (or_true (is_same_name other name) (is_among names other) a))) in
    omega arith

-- ---- names that are added at the end if they are new

or_false : (b : Bool) → (b || false) ≡ b
or_false true = refl
or_false false = refl

moved_or : (a b c : Bool) → ((a || (b || false)) || c) ≡ (a || (b || c))
moved_or true b c = refl
moved_or false true c = refl
moved_or false false c = refl

distinct_among : (seen names : List Name) (other : Name)
    → is_among (distinct_after seen names) other ≡ (is_among seen other || is_among names other)
distinct_among seen [] other = sym (or_false (is_among seen other))
distinct_among seen (name ∷ names) other =
    distinct_among (insert_key is_same_name seen name) names other
    ∙ ap (λ b. b || is_among names other) (among_inserted seen name other)
    ∙ moved_or (is_among seen other) (is_same_name other name) (is_among names other)

-- a name is among the distinct names of a list if and only if it is in the list
pub among_distinct : (names : List (ℕ × ℕ)) (other : ℕ × ℕ) → is_among (distinct names) other ≡ is_among names other
unfolding distinct
among_distinct names other = distinct_among [] names other

pub distinct_no_more : (names others : List (ℕ × ℕ)) → Within names others
    → length (distinct names) ≤ length (distinct others)
distinct_no_more names others w =
    no_more (distinct names) (distinct others) (apart_distinct names)
    (λ name a. among_distinct others name ∙ w name (sym (among_distinct names name) ∙ a))
