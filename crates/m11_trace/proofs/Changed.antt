-- The addresses that are shown are those of the words that changed.
use Rattle.std.proofs.Common.{◌≡◌, ◌≢◌, ◌↔◌, ◌∙◌, ℕ, zero, suc, ◌*◌, ◌%◌, ◌<◌, Bool, true, false, cond, not, List, [], ◌∷◌, ◌++◌, inl, inr, sym, subst, ap, arith}
use Rattle.std.specs.List.{Contains, filter}
use Rattle.std.proofs.lemmas.Bool.{cases_lt, eq-eqb, ne_eqb}
use Rattle.std.proofs.lemmas.List.Elements.{All-contains, All-contains_itself, All-filter, Contains-append_left, Contains-push, Contains-push_cases, filter-append, filter_passes}
use Rattle.m11_cpu_machine.specs.Memory.{most_words, word_at}
use Rattle.m11_trace.specs.Changes.{HasAnotherWord, changed_addresses, changed_among, even_addresses, has_changed}

-- ---- even addresses

even_inside : (count address : ℕ) → Contains (even_addresses count) address → (address % 2 ≡ 0) × (address < 2 * count)
unfolding even_addresses
even_inside zero address h = absurd (omega (arith, h.1))
even_inside (suc count) address h =
    elim (Contains-push_cases (even_addresses count) (2 * count) address h) [
      | inl k ↦ let fewer = even_inside count address k in (fewer.0, omega (arith, fewer.1))
      | inr e ↦ (omega (arith, e), omega (arith, e))
    ]

-- ---- the addresses at which the words differ

differs : (before later : List ℕ) (address : ℕ) → has_changed before later address ≡ true → word_at before address ≢ word_at later address
differs before later address h e =
    let same : has_changed before later address ≡ false = ap not (eq-eqb _ _ e) in
    let no : true ≡ false = sym h ∙ same in absurd cc

only_changed : (count address : ℕ) (before later : List ℕ) → Contains (changed_among count before later) address
    → (address % 2 ≡ 0) × (address < 2 * count) × (word_at before address ≢ word_at later address)
unfolding changed_among
only_changed count address before later h =
    let test : ℕ → Bool = has_changed before later in
    let evens : List ℕ = even_addresses count in
    let among = All-contains (Contains evens) (filter test evens) address
    (All-filter test (Contains evens) evens (All-contains_itself evens)) h in
    let inside = even_inside count address among in
    let passes = All-contains (λ x. test x ≡ true) (filter test evens) address (filter_passes test evens) h in
    (inside.0, inside.1, differs before later address passes)

all_changed : (count address : ℕ) (before later : List ℕ) → address % 2 ≡ 0 → address < 2 * count
    → word_at before address ≢ word_at later address → Contains (changed_among count before later) address
unfolding changed_among even_addresses
all_changed zero address before later even lt other = absurd (omega (arith, lt))
all_changed (suc count) address before later even lt other =
    let test : ℕ → Bool = has_changed before later in
    let first : List ℕ = filter test (even_addresses count) in
    let parts : filter test (even_addresses count ++ 2 * count ∷ []) ≡ first ++ filter test (2 * count ∷ []) =
    filter-append test (even_addresses count) (2 * count ∷ []) in
    let P : List ℕ → Type 0 = λ xs. Contains xs address in
    subst P (sym parts) (elim (cases_lt address (2 * count)) [
      | inl below ↦ Contains-append_left first (filter test (2 * count ∷ [])) address
          (all_changed count address before later even below other)
      | inr above ↦
          let here : 2 * count ≡ address = omega (arith, even, lt, above) in
          let passes : test (2 * count) ≡ true =
          ap test here ∙ ap not (ne_eqb (word_at before address) (word_at later address) other) in
          let Q : Bool → Type 0 = λ b. Contains (first ++ cond b (2 * count ∷ []) []) address in
          subst Q (sym passes) (subst (λ (x : ℕ). Contains (first ++ 2 * count ∷ []) x) here (Contains-push first (2 * count)))
    ])

pub shown_are_changed : (address : ℕ) (before later : List ℕ)
    → Contains (changed_addresses before later) address ↔ HasAnotherWord before later address
shown_are_changed address before later =
    (only_changed most_words address before later, λ h. all_changed most_words address before later h.0 h.1 h.2)
