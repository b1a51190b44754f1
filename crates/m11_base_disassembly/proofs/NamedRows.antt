-- Each name in the two lists means the operation of its row.
use Rattle.std.proofs.Common.{◌≡◌, ℕ, ◌+◌, ◌≤◌, ◌<◌, Bool, true, false, List, [], ◌∷◌, find, slice_index, Option, Some, refl, subst, arith}
use Rattle.std.specs.Prelude.{◌==◌, ◌&&◌, ◌||◌, not, nat_le, bit_and, if◌then◌else◌}
use Rattle.std.specs.List.{AllByRecursion, list_all}
use Rattle.std.specs.Int.Bits.{or_add_and}
use Rattle.std.proofs.lemmas.Bool.{and_parts}
use Rattle.std.proofs.lemmas.Nat.{and_le_l, or_lt}
use Rattle.m11_base.specs.Encoding.{code_of}
use Rattle.m11_base.specs.declared.instruction.Insn.TheVariants as insn
use Rattle.m11_base.specs.Instructions.{other_names, rows}
use Rattle.m11_base.specs.Mnemonics.{operation_named}
use Rattle.m11_base.specs.declared.instruction.Op.{Op}
use Rattle.m11_base.specs.declared.instruction.Op.TheVariants as op
use Rattle.m11_base.specs.declared.instruction_list.Row.{Row}
use Rattle.m11_base_disassembly.specs.Names.{bare_name}

abbrev pub is_blank : Row → Bool
is_blank row = slice_index row.name 0 == 32

-- the name in a row, unless it is blank, means the row's operation
abbrev pub IsNamed : Row → Type 0
IsNamed row = is_blank row ≡ false → operation_named (bare_name row.name) ≡ Some row.operation

infixr 5 ◌⨾◌
abbrev ◌⨾◌ : {A B : Type 0} → A → B → A × B
a ⨾ b = (a, b)

pub rows_named : AllByRecursion IsNamed rows
unfolding rows other_names
rows_named =
    (λ e. refl) ⨾ (λ e. refl) ⨾ (λ e. refl) ⨾ (λ e. refl) ⨾ (λ e. refl) ⨾ (λ e. refl) ⨾ (λ e. refl) ⨾ (λ e. refl) ⨾
    (λ e. refl) ⨾ (λ e. refl) ⨾ (λ e. refl) ⨾ (λ e. refl) ⨾ (λ e. refl) ⨾ (λ e. refl) ⨾ (λ e. refl) ⨾ (λ e. refl) ⨾
    (λ e. refl) ⨾ (λ e. refl) ⨾ (λ e. refl) ⨾ (λ e. refl) ⨾ (λ e. refl) ⨾ (λ e. refl) ⨾ (λ e. refl) ⨾ (λ e. refl) ⨾
    (λ e. refl) ⨾ (λ e. refl) ⨾ (λ e. refl) ⨾ (λ e. refl) ⨾ (λ e. refl) ⨾ (λ e. refl) ⨾ (λ e. refl) ⨾ (λ e. refl) ⨾
    (λ e. refl) ⨾ (λ e. refl) ⨾ (λ e. refl) ⨾ (λ e. refl) ⨾ (λ e. refl) ⨾ (λ e. refl) ⨾ (λ e. refl) ⨾ (λ e. refl) ⨾
    (λ e. refl) ⨾ (λ e. refl) ⨾ (λ e. refl) ⨾ (λ e. refl) ⨾ (λ e. refl) ⨾ (λ e. refl) ⨾ (λ e. refl) ⨾ (λ e. refl) ⨾
    (λ e. refl) ⨾ (λ e. refl) ⨾ (λ e. refl) ⨾ (λ e. refl) ⨾ (λ e. refl) ⨾ (λ e. refl) ⨾ (λ e. refl) ⨾ (λ e. refl) ⨾
    (λ e. refl) ⨾ (λ e. cc) ⨾ (λ e. cc) ⨾ (λ e. refl) ⨾ (λ e. refl) ⨾ (λ e. refl) ⨾ (λ e. refl) ⨾ (λ e. refl) ⨾
    (λ e. refl) ⨾ (λ e. refl) ⨾ (λ e. refl) ⨾ (λ e. refl) ⨾ (λ e. refl) ⨾ (λ e. refl) ⨾ (λ e. refl) ⨾ (λ e. refl) ⨾
    (λ e. refl) ⨾ (λ e. refl) ⨾ tt

pub others_named : AllByRecursion IsNamed other_names
unfolding rows other_names
others_named =
    (λ e. refl) ⨾ (λ e. refl) ⨾ (λ e. refl) ⨾ (λ e. refl) ⨾ (λ e. refl) ⨾ (λ e. refl) ⨾ (λ e. refl) ⨾ (λ e. refl) ⨾
    (λ e. refl) ⨾ (λ e. refl) ⨾ (λ e. refl) ⨾ (λ e. refl) ⨾ (λ e. refl) ⨾ (λ e. refl) ⨾ (λ e. refl) ⨾ tt

-- if P holds of all rows, then P and the test hold of the row that a search finds
found_by : (test : Row → Bool) (P : Row → Type 0) (first : Row) (others : Option Row) (row : Row) (b : Bool) → test first ≡ b → P first
    → (others ≡ Some row → P row × (test row ≡ true)) → (if b then Some first else others) ≡ Some row
    → P row × (test row ≡ true)
found_by test P first others row true is p rest e =
    let same : first ≡ row = cc in
    let Q : Row → Type 0 = λ r. P r × (test r ≡ true) in subst Q same (p, is)
found_by test P first others row false is p rest e = rest e

pub found_of : (test : Row → Bool) (P : Row → Type 0) (list : List Row) (row : Row) → AllByRecursion P list
    → find test list ≡ Some row → P row × (test row ≡ true)
found_of test P [] row all e = cc
found_of test P (first ∷ rest) row all e =
    found_by test P first (find test rest) row (test first) refl all.0 (λ f. found_of test P rest row all.1 f) e

-- ---- the operations of the rows

-- false for CALL, RETURN and the operations on condition codes, and true for any other operation
abbrev pub is_own : Op → Bool
is_own (op.Condition operation) = false
is_own op.Call = false
is_own op.Return = false
is_own (op.Codes operation condition_codes) = false
is_own other = true

abbrev pub is_condition : Op → Bool
is_condition (op.Condition operation) = true
is_condition other = false

abbrev pub is_sound : Row → Bool
is_sound row =
    if is_blank row then is_condition row.operation && (row.mask == 65520 && (nat_le 160 row.value && nat_le row.value 176))
    else is_own row.operation

-- a row of the second list matches only the code of its operation on condition codes, or no word from octal 240 to 277
abbrev pub is_coded : Op → ℕ → ℕ → Bool
is_coded (op.Codes operation condition_codes) mask value =
    mask == 65535 && value == code_of (insn.Condition operation condition_codes)
is_coded other mask value = (mask == 65535 && value == 135) || nat_le 192 value

abbrev pub is_other : Row → Bool
is_other row = not (is_blank row) && is_coded row.operation row.mask row.value

all_by : (test : Row → Bool) (list : List Row) → list_all test list ≡ true → AllByRecursion (λ row. test row ≡ true) list
all_by test [] e = tt
all_by test (row ∷ list) e =
    let parts = and_parts (test row) (list_all test list) e in (parts.0, all_by test list parts.1)

pub rows_sound : AllByRecursion (λ row. is_sound row ≡ true) rows
unfolding rows
rows_sound = all_by is_sound rows refl

pub others_coded : AllByRecursion (λ row. is_other row ≡ true) other_names
unfolding other_names
others_coded = all_by is_other other_names refl

-- ---- words of rows

-- if a word has a value under the mask of all but the low four bits, it is at least that value and at most 15 more
pub word_near : (word value : ℕ) → word < 65536 → bit_and word 65520 ≡ value → (value ≤ word) × (word ≤ value + 15)
word_near word value h e =
    let sum = or_add_and word 65520 in
    let most = or_lt 16 word 65520 (omega arith) (omega arith) in
    let least = and_le_l word 65520 in (omega (arith, e, least), omega (arith, e, sum, most))

-- if a word has a value under the mask of all bits, it is that value
pub word_same : (word value : ℕ) → word < 65536 → bit_and word 65535 ≡ value → word ≡ value
word_same word value h e =
    let sum = or_add_and word 65535 in
    let most = or_lt 16 word 65535 (omega arith) (omega arith) in
    let least = and_le_l word 65535 in omega (arith, e, sum, most, least)
