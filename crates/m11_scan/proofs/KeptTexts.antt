-- A text of characters that are never skipped, with or without a comment after them, has no skipped piece.
use Rattle.std.proofs.Common.{◌≡◌, ℕ, zero, suc, ◌+◌, ◌-◌, ◌≤◌, Bool, true, false, cond, List, [], ◌∷◌, refl, sym, ap, ◌∙◌, subst, arith, inl, inr}
use Rattle.std.specs.Prelude.{◌==◌, ◌||◌, if◌then◌else◌, drop, length, min, not}
use Rattle.std.specs.List.{list_any, prefix_len}
use Rattle.std.proofs.lemmas.Bool.{cases_Bool, eqb-true, false≢true, true≢false}
use Rattle.m11_base.specs.NameCharacters.{is_name_character}
use Rattle.m11_scan.specs.Classes.{is_blank, is_digit, is_kept, is_mark}
use Rattle.m11_scan.specs.Cutting.{pieces_after}
use Rattle.m11_scan.specs.Pieces.{caret_piece, doubled_piece, first_piece, mark_form, mark_piece, number_ending, number_piece, token}
use Rattle.m11_scan.specs.Skipped.{has_skipped, has_unkept, is_skipped}
use Rattle.m11_scan.specs.declared.pieces.Piece.{Piece}
use Rattle.m11_scan.specs.declared.sort.Form.{Form}
use Rattle.m11_scan.specs.declared.sort.Form.TheVariants.{Cut, Blank, Comment}
use Rattle.m11_scan.specs.declared.sort.Sort.{Sort}
use Rattle.m11_scan.specs.declared.sort.Sort.TheVariants.{Name, Number, DecimalNumber, LocalSymbol, Character, TwoCharacters, Plus, Minus, Times, Over, And, Or, Less, Greater, Percent, NumberSign, At, Open, Close, Comma, Colon, TwoColons, Equals, TwoEquals}

abbrev IsKept : Piece → Type 0
IsKept piece = is_skipped piece.form ≡ false

number_kept : (digits : ℕ) (is_decimal is_local : Bool)
    → IsKept (if is_decimal then token DecimalNumber (digits + 1) else (if is_local then token LocalSymbol (digits + 1) else token Number digits))
number_kept digits true is_local = refl
number_kept digits false true = refl
number_kept digits false false = refl

ending_kept : (digits : ℕ) (text : List ℕ) → IsKept (number_ending digits text)
ending_kept digits [] = refl
ending_kept digits (byte ∷ rest) = number_kept digits (byte == 0o56) (byte == 0o44)

twice_kept : (single double : Sort) (is_double : Bool) → IsKept (if is_double then token double 2 else token single 1)
twice_kept single double true = refl
twice_kept single double false = refl

doubled_kept : (byte : ℕ) (single double : Sort) (text : List ℕ) → IsKept (doubled_piece byte single double text)
doubled_kept byte single double [] = refl
doubled_kept byte single double (next ∷ rest) = twice_kept single double (next == byte)

marks_kept : (is_quote is_double is_caret is_colon is_equals : Bool) (size : ℕ) (caret colons equals other : Piece)
    → (is_caret ≡ true → ⊥) → IsKept colons → IsKept equals → IsKept other
    → IsKept (if is_quote then token Character (min size 2) else (if is_double then token TwoCharacters (min size 3)
    else (if is_caret then caret else (if is_colon then colons else (if is_equals then equals else other)))))
marks_kept true is_double is_caret is_colon is_equals size caret colons equals other none two same last = refl
marks_kept false true is_caret is_colon is_equals size caret colons equals other none two same last = refl
marks_kept false false true is_colon is_equals size caret colons equals other none two same last = absurd (none refl)
marks_kept false false false true is_equals size caret colons equals other none two same last = two
marks_kept false false false false true size caret colons equals other none two same last = same
marks_kept false false false false false size caret colons equals other none two same last = last

classes_kept : (is_number is_name is_space is_comment : Bool) (number name space comment mark : Piece)
    → IsKept number → IsKept name → IsKept space → IsKept comment → (is_name ≡ false → is_space ≡ false → IsKept mark)
    → IsKept (if is_number then number else (if is_name then name else (if is_space then space else (if is_comment then comment else mark))))
classes_kept true is_name is_space is_comment number name space comment mark one two three four five = one
classes_kept false true is_space is_comment number name space comment mark one two three four five = two
classes_kept false false true is_comment number name space comment mark one two three four five = three
classes_kept false false false true number name space comment mark one two three four five = four
classes_kept false false false false number name space comment mark one two three four five = five refl refl

-- a character that is a piece by itself is a token if it is a mark; otherwise it is skipped
either_formed : (is : Bool) (sort : Sort) (others : Bool) (form : Form) → others ≡ not (is_skipped form)
    → (is || others) ≡ not (is_skipped (if is then Cut sort else form))
either_formed true sort others form e = refl
either_formed false sort others form e = e

marks_formed : (byte : ℕ) → is_mark byte ≡ not (is_skipped (mark_form byte))
marks_formed byte =
    either_formed (byte == 0o53) Plus _ _ (either_formed (byte == 0o55) Minus _ _ (either_formed (byte == 0o52) Times _ _
    (either_formed (byte == 0o57) Over _ _ (either_formed (byte == 0o46) And _ _ (either_formed (byte == 0o41) Or _ _
    (either_formed (byte == 0o74) Less _ _ (either_formed (byte == 0o76) Greater _ _ (either_formed (byte == 0o45) Percent _ _
    (either_formed (byte == 0o43) NumberSign _ _ (either_formed (byte == 0o100) At _ _ (either_formed (byte == 0o50) Open _ _
    (either_formed (byte == 0o51) Close _ _ (either_formed (byte == 0o54) Comma _ _ (either_formed (byte == 0o72) Colon _ _
    (either_formed (byte == 0o75) Equals _ _ refl)))))))))))))))

mark_kept : (is_name is_space is_mark is_other : Bool) → is_mark ≡ not is_other → (is_name || is_space || is_mark) ≡ true
    → is_name ≡ false → is_space ≡ false → is_other ≡ false
mark_kept true is_space is_mark is_other same kept name space = absurd (true≢false name)
mark_kept false true is_mark is_other same kept name space = absurd (true≢false space)
mark_kept false false is_mark true same kept name space = absurd (false≢true (sym same ∙ kept))
mark_kept false false is_mark false same kept name space = refl

no_caret : (byte : ℕ) → is_kept byte ≡ true → (byte == 0o136) ≡ true → ⊥
no_caret byte kept is =
    let P : ℕ → Type 0 = λ b. is_kept b ≡ true in
    false≢true (subst P (eqb-true byte 0o136 is) kept)

piece_kept : (byte : ℕ) (rest : List ℕ) → is_kept byte ≡ true → IsKept (first_piece (byte ∷ rest))
unfolding first_piece
piece_kept byte rest kept =
    classes_kept (is_digit byte) (is_name_character byte) (is_blank byte) (byte == 0o73) (number_piece (byte ∷ rest))
    (token Name (prefix_len is_name_character (byte ∷ rest))) (record { form = Blank; length = 1 })
    (record { form = Comment; length = length (byte ∷ rest) }) (mark_piece (byte ∷ rest))
    (ending_kept (prefix_len is_digit (byte ∷ rest)) (drop (prefix_len is_digit (byte ∷ rest)) (byte ∷ rest))) refl refl refl
    (λ name space.
    marks_kept (byte == 0o47) (byte == 0o42) (byte == 0o136) (byte == 0o72) (byte == 0o75) (length (byte ∷ rest)) (caret_piece rest)
    (doubled_piece 0o72 Colon TwoColons rest) (doubled_piece 0o75 Equals TwoEquals rest)
    (record { form = mark_form byte; length = 1 }) (no_caret byte kept) (doubled_kept 0o72 Colon TwoColons rest)
    (doubled_kept 0o75 Equals TwoEquals rest)
    (mark_kept (is_name_character byte) (is_blank byte) (is_mark byte) (is_skipped (mark_form byte)) (marks_formed byte) kept name space))

-- ---- the end of a piece that begins with a character that is never skipped

absent : (other byte : ℕ) → is_kept other ≡ false → is_kept byte ≡ true → (byte == other) ≡ false
absent other byte unkept kept = elim (cases_Bool (byte == other)) [
  | inl same ↦
      let P : ℕ → Type 0 = λ b. is_kept b ≡ true in
      absurd (true≢false (sym (subst P (eqb-true byte other same) kept) ∙ unkept))
  | inr differs ↦ differs
]

third : (a b c d : Bool) → c ≡ true → (a || (b || (c || d))) ≡ true
third true b c d e = refl
third false true c d e = refl
third false false true d e = refl
third false false false d e = absurd (false≢true e)

name_kept : (byte : ℕ) → is_name_character byte ≡ true → is_kept byte ≡ true
name_kept byte e = rw e refl

digit_named : (byte : ℕ) → is_digit byte ≡ true → is_name_character byte ≡ true
digit_named byte e = third _ _ (is_digit byte) _ e

longer : (p q : Bool) (n m : ℕ) → (p ≡ true → q ≡ true) → n ≤ m → cond p (1 + n) 0 ≤ cond q (1 + m) 0
longer true true n m same le = omega arith
longer true false n m same le = absurd (false≢true (same refl))
longer false q n m same le = omega arith

run_within : (p q : ℕ → Bool) → ((byte : ℕ) → p byte ≡ true → q byte ≡ true) → (text : List ℕ)
    → prefix_len p text ≤ prefix_len q text
run_within p q same [] = omega arith
run_within p q same (byte ∷ text) =
    longer (p byte) (q byte) (prefix_len p text) (prefix_len q text) (same byte) (run_within p q same text)

ending_within : (digits byte : ℕ) (text : List ℕ)
    → (number_ending digits (byte ∷ text)).length ≤ digits + prefix_len is_kept (byte ∷ text)
ending_within digits byte text = elim (cases_Bool (byte == 0o56)) [
  | inl point ↦
      let P : ℕ → Type 0 = λ b. (number_ending digits (b ∷ text)).length ≤ digits + prefix_len is_kept (b ∷ text) in
      subst P (sym (eqb-true byte 0o56 point)) (omega arith)
  | inr no_point ↦ elim (cases_Bool (byte == 0o44)) [
    | inl dollar ↦
        let P : ℕ → Type 0 = λ b. (number_ending digits (b ∷ text)).length ≤ digits + prefix_len is_kept (b ∷ text) in
        subst P (sym (eqb-true byte 0o44 dollar)) (omega arith)
    | inr no_dollar ↦ rw (no_point, no_dollar) (omega arith)
  ]
]

number_within : (before digits : ℕ) (text : List ℕ) → digits ≡ before + prefix_len is_digit text
    → (number_ending digits (drop (prefix_len is_digit text) text)).length ≤ before + prefix_len is_kept text
number_within before digits [] e = omega arith
number_within before digits (byte ∷ text) e = elim (cases_Bool (is_digit byte)) [
  | inl digit ↦
      let later : 1 + prefix_len is_digit text ≡ suc (prefix_len is_digit text) = omega arith in
      let count : digits ≡ (before + 1) + prefix_len is_digit text = rw digit at e ∙ omega arith in
      let within = number_within (before + 1) digits text count in
      rw (name_kept byte (digit_named byte digit), digit, later) (omega (arith, within))
  | inr other ↦
      let count : digits ≡ before = rw other at e ∙ omega arith in
      let within = ending_within digits byte text in
      let none : prefix_len is_digit (byte ∷ text) ≡ 0 = rw other refl in
      let P : ℕ → Type 0 = λ n. (number_ending digits (drop n (byte ∷ text))).length ≤ before + prefix_len is_kept (byte ∷ text) in
      subst P (sym none) (omega (arith, within, count))
]

doubled_within : (byte : ℕ) (single double : Sort) (text : List ℕ) → is_kept byte ≡ true
    → (doubled_piece byte single double text).length ≤ 1 + prefix_len is_kept text
doubled_within byte single double [] kept = omega arith
doubled_within byte single double (next ∷ rest) kept = elim (cases_Bool (next == byte)) [
  | inl same ↦ let again = ap is_kept (eqb-true next byte same) ∙ kept in rw (same, again) (omega arith)
  | inr differs ↦ rw differs (omega arith)
]

marks_within : (is_quote is_double is_caret is_colon is_equals : Bool) (one two three four five other : Piece) (n : ℕ)
    → is_quote ≡ false → is_double ≡ false → is_caret ≡ false → four.length ≤ n → five.length ≤ n → other.length ≤ n
    → (if is_quote then one else (if is_double then two else (if is_caret then three else (if is_colon then four
    else (if is_equals then five else other))))).length ≤ n
marks_within true is_double is_caret is_colon is_equals one two three four five other n a b c d e f = absurd (true≢false a)
marks_within false true is_caret is_colon is_equals one two three four five other n a b c d e f = absurd (true≢false b)
marks_within false false true is_colon is_equals one two three four five other n a b c d e f = absurd (true≢false c)
marks_within false false false true is_equals one two three four five other n a b c d e f = d
marks_within false false false false true one two three four five other n a b c d e f = e
marks_within false false false false false one two three four five other n a b c d e f = f

classes_within : (is_number is_name is_space is_comment : Bool) (number name space comment mark : Piece) (n : ℕ)
    → number.length ≤ n → name.length ≤ n → space.length ≤ n → is_comment ≡ false → mark.length ≤ n
    → (if is_number then number else (if is_name then name else (if is_space then space else (if is_comment then comment
    else mark)))).length ≤ n
classes_within true is_name is_space is_comment number name space comment mark n a b c d e = a
classes_within false true is_space is_comment number name space comment mark n a b c d e = b
classes_within false false true is_comment number name space comment mark n a b c d e = c
classes_within false false false true number name space comment mark n a b c d e = absurd (true≢false d)
classes_within false false false false number name space comment mark n a b c d e = e

-- a piece that begins with a character that is never skipped ends before the first character that may be skipped
piece_within : (byte : ℕ) (rest : List ℕ) → is_kept byte ≡ true
    → (first_piece (byte ∷ rest)).length ≤ 1 + prefix_len is_kept rest
unfolding first_piece
piece_within byte rest kept =
    let whole : prefix_len is_kept (byte ∷ rest) ≡ 1 + prefix_len is_kept rest = rw kept refl in
    let number = number_within 0 (prefix_len is_digit (byte ∷ rest)) (byte ∷ rest) (omega arith) in
    let name = run_within is_name_character is_kept name_kept (byte ∷ rest) in
    classes_within (is_digit byte) (is_name_character byte) (is_blank byte) (byte == 0o73) (number_piece (byte ∷ rest))
    (token Name (prefix_len is_name_character (byte ∷ rest))) (record { form = Blank; length = 1 })
    (record { form = Comment; length = length (byte ∷ rest) }) (mark_piece (byte ∷ rest)) (1 + prefix_len is_kept rest)
    (omega (arith, number, whole)) (omega (arith, name, whole)) (omega arith) (absent 0o73 byte refl kept)
    (marks_within (byte == 0o47) (byte == 0o42) (byte == 0o136) (byte == 0o72) (byte == 0o75)
    (token Character (min (length (byte ∷ rest)) 2)) (token TwoCharacters (min (length (byte ∷ rest)) 3)) (caret_piece rest)
    (doubled_piece 0o72 Colon TwoColons rest) (doubled_piece 0o75 Equals TwoEquals rest)
    (record { form = mark_form byte; length = 1 }) (1 + prefix_len is_kept rest) (absent 0o47 byte refl kept)
    (absent 0o42 byte refl kept) (absent 0o136 byte refl kept) (doubled_within 0o72 Colon TwoColons rest refl)
    (doubled_within 0o75 Equals TwoEquals rest refl) (omega arith))

-- ---- texts

neither : (a b : Bool) → a ≡ false → b ≡ false → (a || b) ≡ false
neither true b e f = absurd (true≢false e)
neither false b e f = f

is_not : (is : Bool) → not is ≡ false → is ≡ true
is_not true e = refl
is_not false e = absurd (true≢false e)

spent : (left : ℕ) (text : List ℕ) → length text ≤ left → pieces_after left text ≡ []
spent left [] le = refl
spent zero (byte ∷ text) le = absurd (omega arith)
spent (suc left) (byte ∷ text) le = spent left text (omega arith)

-- a comment is the last piece, and isn't skipped
comment_last : (byte : ℕ) (text : List ℕ) → (byte == 0o73) ≡ true
    → list_any (λ (piece : Piece). is_skipped piece.form) (pieces_after 0 (byte ∷ text)) ≡ false
unfolding first_piece
comment_last byte text is =
    let P : ℕ → Type 0 = λ b. list_any (λ (piece : Piece). is_skipped piece.form) (pieces_after 0 (b ∷ text)) ≡ false in
    subst P (sym (eqb-true byte 0o73 is))
    (ap (list_any (λ (piece : Piece). is_skipped piece.form)) (spent (length (0o73 ∷ text) - 1) text (omega arith)))

pieces_kept : (left : ℕ) (text : List ℕ) → has_unkept text ≡ false → left ≤ prefix_len is_kept text
    → list_any (λ (piece : Piece). is_skipped piece.form) (pieces_after left text) ≡ false
pieces_kept left [] free le = refl
pieces_kept zero (byte ∷ text) free le = elim (cases_Bool (is_kept byte)) [
  | inl kept ↦
      let within = piece_within byte text kept in
      neither _ _ (piece_kept byte text kept)
      (pieces_kept ((first_piece (byte ∷ text)).length - 1) text (rw kept at free) (omega (arith, within)))
  | inr other ↦ comment_last byte text (is_not (byte == 0o73) (rw other at free))
]
pieces_kept (suc left) (byte ∷ text) free le = elim (cases_Bool (is_kept byte)) [
  | inl kept ↦
      let within : suc left ≤ 1 + prefix_len is_kept text = rw kept at le in
      pieces_kept left text (rw kept at free) (omega (arith, within))
  | inr other ↦ let within : suc left ≤ 0 = rw other at le in absurd (omega (arith, within))
]

pub none_skipped : (text : List ℕ) → has_unkept text ≡ false → has_skipped text ≡ false
none_skipped text kept = pieces_kept 0 text kept (omega arith)
