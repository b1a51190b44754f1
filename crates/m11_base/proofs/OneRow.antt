-- No word matches two rows, since no two rows agree on the bits that both masks have.
use Rattle.std.proofs.Common.{◌≡◌, ℕ, ◌+◌, ◌≤◌, Bool, true, false, not, cond, eqb, List, [], ◌∷◌, refl, sym, ap, subst, ◌∙◌, arith}
use Rattle.std.specs.Prelude.{◌&&◌, bit_and, count_by}
use Rattle.std.specs.List.{list_all}
use Rattle.std.proofs.lemmas.Bool.{and_parts, eq-eqb, eqb-true, false≢true}
use Rattle.std.proofs.lemmas.Nat.{and_assoc, and_comm}
use Rattle.std.proofs.lemmas.List.Sums.{sum_by-cons}
use Rattle.m11_base.specs.declared.instruction_list.Row.{Row}
use Rattle.m11_base.specs.Instructions.{rows, is_of}

are_apart : Row → Row → Bool
are_apart row other = not (eqb (bit_and row.value other.mask) (bit_and other.value row.mask))

all_apart : List Row → Bool
all_apart [] = true
all_apart (row ∷ others) = list_all (are_apart row) others && all_apart others

rows_apart : all_apart rows ≡ true
unfolding all_apart are_apart rows
rows_apart = refl

order_free : (word a b : ℕ) → bit_and (bit_and word a) b ≡ bit_and (bit_and word b) a
order_free word a b = and_assoc b word a ∙ ap (bit_and word) (and_comm a b) ∙ sym (and_assoc a word b)

meet : (word : ℕ) (row other : Row) → is_of word row ≡ true → is_of word other ≡ true
    → bit_and row.value other.mask ≡ bit_and other.value row.mask
meet word row other e f =
    ap (λ n. bit_and n other.mask) (sym (eqb-true (bit_and word row.mask) row.value e))
    ∙ order_free word row.mask other.mask
    ∙ ap (λ n. bit_and n row.mask) (eqb-true (bit_and word other.mask) other.value f)

not_other : (word : ℕ) (row other : Row) → is_of word row ≡ true → are_apart row other ≡ true → is_of word other ≡ false
unfolding are_apart
not_other word row other e apart = by_test (is_of word other) refl
  where
    by_test : (b : Bool) → is_of word other ≡ b → b ≡ false
    by_test false f = refl
    by_test true f = absurd
        (false≢true (ap not (sym
        (eq-eqb (bit_and row.value other.mask) (bit_and other.value row.mask) (meet word row other e f))) ∙ apart))

none_after : (word : ℕ) (row : Row) (others : List Row) → is_of word row ≡ true
    → list_all (are_apart row) others ≡ true → count_by (is_of word) others ≡ 0
none_after word row [] e all = refl
none_after word row (other ∷ others) e all =
    let parts = and_parts (are_apart row other) (list_all (are_apart row) others) all in
    sum_by-cons (λ x. cond (is_of word x) 1 0) other others
    ∙ ap (λ (b : Bool). cond b 1 0 + count_by (is_of word) others) (not_other word row other e parts.0)
    ∙ zero_more _ (none_after word row others e parts.1)
  where
    zero_more : (n : ℕ) → n ≡ 0 → 0 + n ≡ 0
    zero_more n e = omega arith

one_among : (word : ℕ) (others : List Row) → all_apart others ≡ true → count_by (is_of word) others ≤ 1
unfolding all_apart
one_among word [] all = omega arith
one_among word (row ∷ others) all =
    let parts = and_parts (list_all (are_apart row) others) (all_apart others) all in
    subst (λ n. n ≤ 1) (sym (sum_by-cons (λ x. cond (is_of word x) 1 0) row others))
    (by_test (is_of word row) refl parts.0 (one_among word others parts.1))
  where
    by_test : (b : Bool) → is_of word row ≡ b → list_all (are_apart row) others ≡ true
        → count_by (is_of word) others ≤ 1
        → cond b 1 0 + count_by (is_of word) others ≤ 1
    by_test true e apart rest = omega (arith, none_after word row others e apart)
    by_test false e apart rest = omega (arith, rest)

pub one_row : (word : ℕ) → count_by (is_of word) rows ≤ 1
one_row word = one_among word rows rows_apart
