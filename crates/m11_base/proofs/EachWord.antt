-- Facts about each of the 65,536 words, proved by testing every word. That takes long, so this file proves nothing else.
use Rattle.std.proofs.Common.{◌≡◌, ℕ, zero, suc, ◌+◌, ◌^◌, ◌<◌, ◌≤◌, Bool, true, eqb, inl, inr, refl, ap, subst, ◌∙◌, arith}
use Rattle.std.specs.Prelude.{◌&&◌, is_none, Option, Some, None}
use Rattle.std.proofs.lemmas.Bool.{and_parts, cases_lt, eqb-true, false≢true}
use Rattle.std.proofs.Math.Nat.{pow-suc}
use Rattle.m11_base.specs.declared.instruction.Op.{Op}
use Rattle.m11_base.specs.declared.instruction_list.Row.{Row}
use Rattle.m11_base.specs.Instructions.{rows, row_of, with_fields}
use Rattle.m11_base.specs.Encoding.{code_of, fits}
use Rattle.m11_base.specs.OperationTables.{operation_by_tables, doubles, extended, bare, last, low, high}

-- if a word has a row, its instruction fits and has the word as its code; otherwise the tables have no operation for the word
check_found : Option Row → ℕ → Bool
check_found None word = is_none (operation_by_tables word)
check_found (Some row) word =
    eqb (code_of (with_fields row.operation word)) word && fits (with_fields row.operation word)

check : ℕ → Bool
check word = check_found (row_of word) word

-- all words of a block pass the test; the block has 2 ^ depth words and begins at `start`
all_in : ℕ → ℕ → Bool
all_in zero start = check start
all_in (suc depth) start = all_in depth start && all_in depth (start + 2 ^ depth)

block-0 : all_in 12 0 ≡ true
unfolding all_in check check_found rows row_of doubles extended bare last low high
block-0 = refl

block-1 : all_in 12 0o10000 ≡ true
unfolding all_in check check_found rows row_of doubles extended bare last low high
block-1 = refl

block-2 : all_in 12 0o20000 ≡ true
unfolding all_in check check_found rows row_of doubles extended bare last low high
block-2 = refl

block-3 : all_in 12 0o30000 ≡ true
unfolding all_in check check_found rows row_of doubles extended bare last low high
block-3 = refl

block-4 : all_in 12 0o40000 ≡ true
unfolding all_in check check_found rows row_of doubles extended bare last low high
block-4 = refl

block-5 : all_in 12 0o50000 ≡ true
unfolding all_in check check_found rows row_of doubles extended bare last low high
block-5 = refl

block-6 : all_in 12 0o60000 ≡ true
unfolding all_in check check_found rows row_of doubles extended bare last low high
block-6 = refl

block-7 : all_in 12 0o70000 ≡ true
unfolding all_in check check_found rows row_of doubles extended bare last low high
block-7 = refl

block-8 : all_in 12 0o100000 ≡ true
unfolding all_in check check_found rows row_of doubles extended bare last low high
block-8 = refl

block-9 : all_in 12 0o110000 ≡ true
unfolding all_in check check_found rows row_of doubles extended bare last low high
block-9 = refl

block-10 : all_in 12 0o120000 ≡ true
unfolding all_in check check_found rows row_of doubles extended bare last low high
block-10 = refl

block-11 : all_in 12 0o130000 ≡ true
unfolding all_in check check_found rows row_of doubles extended bare last low high
block-11 = refl

block-12 : all_in 12 0o140000 ≡ true
unfolding all_in check check_found rows row_of doubles extended bare last low high
block-12 = refl

block-13 : all_in 12 0o150000 ≡ true
unfolding all_in check check_found rows row_of doubles extended bare last low high
block-13 = refl

block-14 : all_in 12 0o160000 ≡ true
unfolding all_in check check_found rows row_of doubles extended bare last low high
block-14 = refl

block-15 : all_in 12 0o170000 ≡ true
unfolding all_in check check_found rows row_of doubles extended bare last low high
block-15 = refl

both_of : (a b : Bool) → a ≡ true → b ≡ true → (a && b) ≡ true
both_of a b e f = ap (λ (t : Bool). t && b) e ∙ f

joined : (depth start : ℕ) → all_in depth start ≡ true → all_in depth (start + 2 ^ depth) ≡ true
    → all_in (suc depth) start ≡ true
unfolding all_in
joined depth start e f = both_of (all_in depth start) (all_in depth (start + 2 ^ depth)) e f

all_words : all_in 16 0 ≡ true
all_words =
    joined 15 0 (joined 14 0 (joined 13 0 (joined 12 0 (block-0) (block-1)) (joined 12 0o20000 (block-2) (block-3)))
    (joined 13 0o40000 (joined 12 0o40000 (block-4) (block-5)) (joined 12 0o60000 (block-6) (block-7))))
    (joined 14 0o100000 (joined 13 0o100000 (joined 12 0o100000 (block-8) (block-9))
    (joined 12 0o120000 (block-10) (block-11)))
    (joined 13 0o140000 (joined 12 0o140000 (block-12) (block-13))
    (joined 12 0o160000 (block-14) (block-15))))

-- if all words of a block pass the test, each word of the block does
found_in : (depth start : ℕ) → all_in depth start ≡ true → (word : ℕ) → start ≤ word → word < start + 2 ^ depth
    → check word ≡ true
unfolding all_in
found_in zero start e word h k = subst (λ (w : ℕ). check w ≡ true) (only start word h k) e
  where
    only : (a b : ℕ) → a ≤ b → b < a + 2 ^ 0 → a ≡ b
    only a b h k = omega arith
found_in (suc depth) start e word h k = elim (cases_lt word (start + 2 ^ depth)) [
  | inl below ↦ found_in depth start (and_parts (all_in depth start) (all_in depth (start + 2 ^ depth)) e).0 word h
      below
  | inr above ↦ found_in depth (start + 2 ^ depth)
      (and_parts (all_in depth start) (all_in depth (start + 2 ^ depth)) e).1 word above
      (omega (arith, pow-suc 2 depth))
]

checked : (word : ℕ) → word < 65536 → check word ≡ true
checked word h = found_in 16 0 all_words word (omega arith) (omega arith)

abbrev pub IsChecked : Option Row → ℕ → Type 0
IsChecked None word = operation_by_tables word ≡ None
IsChecked (Some row) word =
    (code_of (with_fields row.operation word) ≡ word) × (fits (with_fields row.operation word) ≡ true)

is_checked : (row : Option Row) (word : ℕ) → check_found row word ≡ true → IsChecked row word
unfolding check_found
is_checked None word e = none (operation_by_tables word) e
  where
    none : (t : Option Op) → is_none t ≡ true → t ≡ None
    none None e = refl
    none (Some o) e = absurd (false≢true e)
is_checked (Some row) word e =
    let parts =
    and_parts (eqb (code_of (with_fields row.operation word)) word) (fits (with_fields row.operation word)) e in
    (eqb-true (code_of (with_fields row.operation word)) word parts.0, parts.1)

pub row_checked : (word : ℕ) → word < 65536 → IsChecked (row_of word) word
unfolding check
row_checked word h = is_checked (row_of word) word (checked word h)
