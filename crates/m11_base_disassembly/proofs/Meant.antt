-- Lines of source mean the words from which they were written.
use Rattle.std.proofs.Common.{◌≡◌, ◌∙◌, ℕ, suc, ◌+◌, ◌*◌, ◌/◌, ◌%◌, ◌≤◌, ◌<◌, Bool, true, false, List, [], ◌∷◌, find, length, ◌++◌, slice_index, Option, Some, None, inl, inr, take, refl, sym, ap, ap₂, subst, arith}
use Rattle.std.specs.Prelude.{◌==◌, ◌&&◌, ◌||◌, not, nat_le, bit_and, if◌then◌else◌}
use Rattle.std.specs.Int.{cast_signed, w8}
use Rattle.std.proofs.Math.Facts.{Fits-of_lt, sfits_to_z}
use Rattle.std.proofs.lemmas.Bool.{and_parts, eqb-true, false≢true, leb-true, or_cases}
use Rattle.std.proofs.lemmas.Nat.{and_le_l}
use Rattle.m11_base.proofs.Words.{code_again}
use Rattle.m11_base.specs.Encoding.{code_of, number_limit}
use Rattle.m11_base.specs.Instructions.{instruction_of, is_of, meaning, number_in, operation_in, other_names, row_of, rows, with_fields}
use Rattle.m11_base.specs.Mnemonics.{operation_named}
use Rattle.m11_base.specs.Operand.{operand_of, register_of}
use Rattle.m11_base.specs.declared.instruction.Insn.{Insn}
use Rattle.m11_base.specs.declared.instruction.Insn.TheVariants as insn
use Rattle.m11_base.specs.declared.instruction.NumberOp.{NumberOp}
use Rattle.m11_base.specs.declared.instruction.NumberOp.TheVariants.{Mark, Emt, Trap}
use Rattle.m11_base.specs.declared.instruction.Op.{Op}
use Rattle.m11_base.specs.declared.instruction.Op.TheVariants as op
use Rattle.m11_base.specs.declared.instruction_list.Row.{Row}
use Rattle.m11_base.specs.declared.operand.Operand.{Operand}
use Rattle.m11_base_disassembly.proofs.NamedRows.{IsNamed, found_of, is_blank, is_coded, is_condition, is_other, is_own, is_sound, others_coded, others_named, rows_named, rows_sound, word_near, word_same}
use Rattle.m11_base_disassembly.proofs.Written.{both_are, first_are, operand_again}
use Rattle.m11_base_disassembly.specs.Arguments.{operand_meant, words_of}
use Rattle.m11_base_disassembly.specs.Instructions.{first_argument, named_row, location_after, operands_of, row_named, second_argument, size_by, size_of, statement_by, statement_of, words_after}
use Rattle.m11_base_disassembly.specs.Meaning.{AreWords, IsMeant, Means, first_words, second_words}
use Rattle.m11_base_disassembly.specs.Statements.{Nothing, Named}
use Rattle.m11_base_disassembly.specs.Names.{bare_name}

-- ---- an instruction by its operation

take_one : (n word : ℕ) (more : List ℕ) → take (1 + n) (word ∷ more) ≡ word ∷ take n more
take_one n word more = let e : 1 + n ≡ suc n = omega arith in ap (λ (i : ℕ). take i (word ∷ more)) e

joined : (a b : ℕ) (xs ys : List ℕ) → a ≡ b → xs ≡ ys → a ∷ xs ≡ b ∷ ys
joined a b xs ys e f = ap₂ (λ (x : ℕ) (l : List ℕ). x ∷ l) e f

number_fits : (o : NumberOp) (word : ℕ) → number_in o word < number_limit o
number_fits Mark word = omega arith
number_fits Emt word = omega arith
number_fits Trap word = omega arith

low_byte : (word : ℕ) → word % 256 < 256
low_byte word = omega arith

low_digits : (word : ℕ) → word % 64 < 64
low_digits word = omega arith

-- the words of an instruction with one operand are its code and the word of the operand as it is written, if the operand has one
with_one : (location : ℕ) (more : List ℕ) (word : ℕ) (o : Operand) (of : Operand → Insn) → AreWords more → words_of o ≤ length more
    → code_of (of o) ≡ word
    → take (1 + words_of o) (word ∷ more)
    ≡ code_of (of (operand_meant (first_argument location more o))) ∷ first_words location (first_argument location more o)
with_one location more word o of all there code =
    let first = first_argument location more o in
    take_one (words_of o) word more
    ∙ joined word (code_of (of (operand_meant first))) (take (words_of o) more) (first_words location first)
    (sym (ap (λ (x : Operand). code_of (of x)) (operand_again o (location_after location 4) (slice_index more 0)) ∙ code))
    (sym (first_are location more o all there))

own_meant : (o : Op) (location word : ℕ) (more : List ℕ) → AreWords more → is_own o ≡ true → code_of (with_fields o word) ≡ word
    → words_after (with_fields o word) ≤ length more
    → Means o (operands_of location more (with_fields o word)) location (take (1 + words_after (with_fields o word)) (word ∷ more))
own_meant (op.Double operation size) location word more all own code there =
    let s = operand_of (word / 64 % 64) in
    let d = operand_of (word % 64) in
    let first = first_argument location more s in
    let second = second_argument location more s d in
    take_one (words_of s + words_of d) word more
    ∙ joined word (code_of (insn.Double operation size (operand_meant first) (operand_meant second)))
    (take (words_of s + words_of d) more) (first_words location first ++ second_words location first second)
    (sym (ap₂ (λ (x y : Operand). code_of (insn.Double operation size x y))
    (operand_again s (location_after location 4) (slice_index more 0))
    (operand_again d (location_after location (4 + 2 * words_of s)) (slice_index more (words_of s))) ∙ code))
    (sym (both_are location more s d all there))
own_meant (op.Extended operation) location word more all own code there =
    with_one location more word (operand_of (word % 64)) (λ x. insn.Extended operation (register_of (word / 64 % 8)) x) all there code
own_meant (op.Register operation) location word more all own code there =
    with_one location more word (operand_of (word % 64)) (λ x. insn.Register operation (register_of (word / 64 % 8)) x) all there code
own_meant op.Sob location word more all own code there =
    (word % 64, low_digits word, refl, ap (λ (w : ℕ). w ∷ []) (sym code))
own_meant (op.Single operation size) location word more all own code there =
    with_one location more word (operand_of (word % 64)) (λ x. insn.Single operation size x) all there code
own_meant op.Rts location word more all own code there = ap (λ (w : ℕ). w ∷ []) (sym code)
own_meant (op.Number operation) location word more all own code there =
    (number_fits operation word, ap (λ (w : ℕ). w ∷ []) (sym code))
own_meant (op.Bare operation) location word more all own code there = ap (λ (w : ℕ). w ∷ []) (sym code)
own_meant (op.Condition operation) location word more all own code there = absurd (false≢true own)
own_meant (op.Branch operation) location word more all own code there = (
  cast_signed w8 (word % 256),
  sfits_to_z {w = w8} {n = word % 256} (Fits-of_lt {w = w8} {n = word % 256} (low_byte word)),
  refl,
  ap (λ (w : ℕ). w ∷ []) (sym code),
)
own_meant op.Call location word more all own code there = absurd (false≢true own)
own_meant op.Return location word more all own code there = absurd (false≢true own)
own_meant (op.Codes operation condition_codes) location word more all own code there = absurd (false≢true own)

-- ---- a line of a row

-- the row of a word is the one that a search of the list finds
in_rows : (word : ℕ) (row : Row) → row_of word ≡ Some row → find (is_of word) rows ≡ Some row
unfolding row_of
in_rows word row e = e

instruction_is : (word : ℕ) (row : Row) → row_of word ≡ Some row → with_fields row.operation word ≡ instruction_of word
instruction_is word row e = ap (λ (r : Option Row). meaning (operation_in r) word) (sym e)

otherwise : (b x y : Bool) → (if b then x else y) ≡ true → b ≡ false → y ≡ true
otherwise true x y e f = absurd (false≢true (sym f))
otherwise false x y e f = e

then_so : (b x y : Bool) → (if b then x else y) ≡ true → b ≡ true → x ≡ true
then_so true x y e f = e
then_so false x y e f = absurd (false≢true f)

not_so : (b : Bool) → not b ≡ true → b ≡ false
not_so true e = absurd (false≢true e)
not_so false e = refl

-- the line that is written for a word by its row, or as data if there is no row, means the words from which it was written
abbrev IsMeantBy : ℕ → ℕ → List ℕ → Option Row → Type 0
IsMeantBy location word more row = IsMeant location (statement_by row location word more) (take (size_by row word) (word ∷ more))

-- a row of the second list that isn't one of condition codes matches no word from octal 240 to 277
no_other : (mask value word : ℕ) → word < 65536 → ((mask == 65535 && value == 135) || nat_le 192 value) ≡ true
    → bit_and word mask ≡ value → 160 ≤ word → word ≤ 191 → ⊥
no_other mask value word fits coded is least most =
    elim (or_cases (mask == 65535 && value == 135) (nat_le 192 value) coded) [
      | inl both ↦ same_word (and_parts (mask == 65535) (value == 135) both)
      | inr high ↦ omega (arith, and_le_l word mask, is, leb-true 192 value high, most)
    ]
  where
    same_word : (mask == 65535) ≡ true × (value == 135) ≡ true → ⊥
    same_word parts =
        let P : ℕ → Type 0 = λ m. bit_and word m ≡ value in
        let same = word_same word value fits (subst P (eqb-true mask 65535 parts.0) is) in
        let small = eqb-true value 135 parts.1 in omega (arith, same, small, least)

-- if a row of the second list matches a word from octal 240 to 277, its operation has no operands, and the word is its code
coded_meant : (o : Op) (mask value location word : ℕ) → word < 65536 → is_coded o mask value ≡ true → bit_and word mask ≡ value
    → 160 ≤ word → word ≤ 191 → Means o Nothing location (word ∷ [])
coded_meant (op.Codes operation condition_codes) mask value location word fits coded is least most =
    let parts = and_parts (mask == 65535) (value == code_of (insn.Condition operation condition_codes)) coded in
    let P : ℕ → Type 0 = λ m. bit_and word m ≡ value in
    let same = word_same word value fits (subst P (eqb-true mask 65535 parts.0) is) in
    ap (λ (w : ℕ). w ∷ [])
    (same ∙ eqb-true value (code_of (insn.Condition operation condition_codes)) parts.1)
coded_meant other mask value location word fits coded is least most =
    absurd (no_other mask value word fits coded is least most)

module _ (location word : ℕ) (more : List ℕ) (fits : word < 65536) (all : AreWords more)
    (there : words_after (instruction_of word) ≤ length more) where
  own_row : (row : Row) → row_of word ≡ Some row → is_blank row ≡ false → IsMeantBy location word more (Some row)
  own_row row e named =
      let is = instruction_is word row e in
      let own = otherwise (is_blank row) _ (is_own row.operation)
      (found_of (is_of word) (λ r. is_sound r ≡ true) rows row rows_sound (in_rows word row e)).0 named in
      let P : Insn → Type 0 = λ i. Means row.operation (operands_of location more i) location (take (1 + words_after i) (word ∷ more)) in
      let Q : Insn → Type 0 = λ i. words_after i ≤ length more in (
        row.operation,
        (found_of (is_of word) IsNamed rows row rows_named (in_rows word row e)).0 named,
        subst P is (own_meant row.operation location word more all own (ap code_of is ∙ code_again word fits) (subst Q (sym is) there)),
      )

  -- a row without a name is one of condition codes, so its line has no operands
  no_operands : (o : Op) → is_condition o ≡ true → with_fields o word ≡ instruction_of word → (name : List ℕ) (other : Op)
      → operation_named (bare_name name) ≡ Some other → Means other Nothing location (word ∷ [])
      → IsMeant location (Named name (operands_of location more (instruction_of word)))
      (take (1 + words_after (instruction_of word)) (word ∷ more))
  no_operands (op.Condition operation) so is name other named means =
      let P : Insn → Type 0 = λ i. IsMeant location (Named name (operands_of location more i)) (take (1 + words_after i) (word ∷ more)) in
      subst P is (other, named, means)
  no_operands other so is name o named means = absurd (false≢true so)

  other_row : (row other : Row) → row_of word ≡ Some row → is_blank row ≡ true → find (is_of word) other_names ≡ Some other
      → IsMeantBy location word more (Some other)
  other_row row other e blank f =
      let found = found_of (is_of word) (λ r. is_sound r ≡ true) rows row rows_sound (in_rows word row e) in
      let so = then_so (is_blank row) (is_condition row.operation && (row.mask == 65520 && (nat_le 160 row.value && nat_le row.value 176)))
      (is_own row.operation) found.0 blank in
      let parts = and_parts (is_condition row.operation) (row.mask == 65520 && (nat_le 160 row.value && nat_le row.value 176)) so in
      let bits = and_parts (row.mask == 65520) (nat_le 160 row.value && nat_le row.value 176) parts.1 in
      let range = and_parts (nat_le 160 row.value) (nat_le row.value 176) bits.1 in
      let P : ℕ → Type 0 = λ m. bit_and word m ≡ row.value in
      let near = word_near word row.value fits
      (subst P (eqb-true row.mask 65520 bits.0) (eqb-true (bit_and word row.mask) row.value found.1)) in
      let given = found_of (is_of word) (λ r. is_other r ≡ true) other_names other others_coded f in
      let coded = and_parts (not (is_blank other)) (is_coded other.operation other.mask other.value) given.0 in
      let named = (found_of (is_of word) IsNamed other_names other others_named f).0 (not_so (is_blank other) coded.0) in
      no_operands row.operation parts.0 (instruction_is word row e) other.name other.operation named
      (coded_meant other.operation other.mask other.value location word fits coded.1
      (eqb-true (bit_and word other.mask) other.value given.1)
      (omega (arith, near.0, leb-true 160 row.value range.0)) (omega (arith, near.1, leb-true row.value 176 range.1)))

  blank_row : (row : Row) → row_of word ≡ Some row → is_blank row ≡ true → (found : Option Row)
      → find (is_of word) other_names ≡ found → IsMeantBy location word more found
  blank_row row e blank None f = refl
  blank_row row e blank (Some other) f = other_row row other e blank f

  any_row : (row : Row) → row_of word ≡ Some row → (b : Bool) → is_blank row ≡ b
      → IsMeantBy location word more (if b then find (is_of word) other_names else Some row)
  any_row row e true blank = blank_row row e blank (find (is_of word) other_names) refl
  any_row row e false named = own_row row e named

  named_meant : (row : Option Row) → row_of word ≡ row → IsMeantBy location word more (named_row row word)
  named_meant None e = refl
  named_meant (Some row) e = any_row row e (is_blank row) refl

whole_meant : (location word : ℕ) (more : List ℕ) → word < 65536 → AreWords more → (b : Bool)
    → nat_le (words_after (instruction_of word)) (length more) ≡ b → IsMeantBy location word more (if b then row_named word else None)
whole_meant location word more fits all true whole =
    named_meant location word more fits all (leb-true (words_after (instruction_of word)) (length more) whole) (row_of word) refl
whole_meant location word more fits all false part = refl

-- the line of a word and of the words that follow it means as many of these words as its size says
pub line_meant : (location word : ℕ) (more : List ℕ) → word < 65536 → AreWords more
    → IsMeant location (statement_of location word more) (take (size_of word more) (word ∷ more))
line_meant location word more fits all =
    whole_meant location word more fits all (nat_le (words_after (instruction_of word)) (length more)) refl
