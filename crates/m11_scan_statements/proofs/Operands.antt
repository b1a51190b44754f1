-- A name before an operand, or at the end of its line, isn't assigned.
use Rattle.std.proofs.Common.{◌≡◌, ℕ, suc, ◌+◌, ◌-◌, Bool, true, false, List, [], ◌∷◌, ◌++◌, None, refl, subst, ap, ◌∙◌, sym, arith}
use Rattle.std.specs.Prelude.{◌==◌, ◌||◌, cond, if◌then◌else◌, drop}
use Rattle.std.specs.List.{prefix_len}
use Rattle.std.proofs.lemmas.Bool.{eqb-true, false≢true, true≢false}
use Rattle.m11_base.specs.Devices.{Bytes}
use Rattle.m11_base.specs.NameCharacters.{is_name_character}
use Rattle.m11_scan.specs.Classes.{is_blank, is_digit}
use Rattle.m11_scan.specs.Cutting.{Lexeme, lexemes_at, lexemes_from, pieces_after, pieces_of, text_between, tokens_from}
use Rattle.m11_scan.specs.Pieces.{first_piece, number_ending, number_piece, token}
use Rattle.m11_scan.specs.Skipped.{skipped_between}
use Rattle.m11_scan.specs.declared.pieces.Piece.{Piece}
use Rattle.m11_scan.specs.declared.sort.Form.{Form}
use Rattle.m11_scan.specs.declared.sort.Form.TheVariants.{Cut, Blank, Comment, Skipped}
use Rattle.m11_scan.specs.declared.sort.Sort.{Sort}
use Rattle.m11_scan.specs.declared.sort.Sort.TheVariants.{Name, Number, DecimalNumber, LocalSymbol, Equals, TwoEquals}
use Rattle.m11_scan_statements.specs.Bodies.{assignment_to, begins_operand, begins_or_ends, is_operand_start, set_by}

abbrev sets : Sort → Bool
sets Equals = true
sets TwoEquals = true
sets _ = false

-- a token other than `=` and `==` assigns nothing
module _ (target : Lexeme) (end : ℕ) where
  name_unset : (sign : Sort) → sets sign ≡ false → set_by Name sign target end ≡ None
  name_unset Equals other = absurd (true≢false other)
  name_unset TwoEquals other = absurd (true≢false other)
  name_unset _ other = refl

  by_sort : (sign : Sort) → sets sign ≡ false → (sort : Sort) → set_by sort sign target end ≡ None
  by_sort sign other Name = name_unset sign other
  by_sort sign other _ = refl

module _ (line : Bytes) (target : Lexeme) where
  apart_or : (equals : Lexeme) → sets equals.sort ≡ false → (is_apart : Bool)
      → (if is_apart then None else set_by target.sort equals.sort target equals.end) ≡ None
  apart_or equals other true = refl
  apart_or equals other false = by_sort target equals.end equals.sort other target.sort

  unset_before : (equals : Lexeme) (tokens : List Lexeme) → sets equals.sort ≡ false
      → assignment_to line target (equals ∷ tokens) ≡ None
  unset_before equals tokens other = apart_or equals other (skipped_between line target.end equals.start)

-- a piece is a token that assigns nothing
abbrev IsOther : Form → Type 0
IsOther (Cut sort) = sets sort ≡ false
IsOther Blank = ⊥
IsOther Comment = ⊥
IsOther Skipped = ⊥

number_other : (digits : ℕ) (is_decimal is_local : Bool)
    → IsOther (if is_decimal then token DecimalNumber (digits + 1) else (if is_local then token LocalSymbol (digits + 1) else token Number digits)).form
number_other digits true is_local = refl
number_other digits false true = refl
number_other digits false false = refl

ending_other : (digits : ℕ) (text : List ℕ) → IsOther (number_ending digits text).form
ending_other digits [] = refl
ending_other digits (byte ∷ rest) = number_other digits (byte == 0o56) (byte == 0o44)

classes_other : (is_number is_name : Bool) (number name other : Piece) → is_name ≡ true → IsOther number.form → IsOther name.form
    → IsOther (if is_number then number else (if is_name then name else other)).form
classes_other true is_name number name other named one two = one
classes_other false true number name other named one two = two
classes_other false false number name other named one two = absurd (false≢true named)

name_other : (byte : ℕ) (rest : List ℕ) → is_name_character byte ≡ true → IsOther (first_piece (byte ∷ rest)).form
unfolding first_piece
name_other byte rest named =
    classes_other (is_digit byte) (is_name_character byte) (number_piece (byte ∷ rest)) _ _ named
    (ending_other (prefix_len is_digit (byte ∷ rest)) (drop (prefix_len is_digit (byte ∷ rest)) (byte ∷ rest))) refl

mark_other : (byte mark : ℕ) (rest : List ℕ) → (byte == mark) ≡ true → IsOther (first_piece (mark ∷ rest)).form
    → IsOther (first_piece (byte ∷ rest)).form
mark_other byte mark rest is other =
    let P : ℕ → Type 0 = λ b. IsOther (first_piece (b ∷ rest)).form in subst P (sym (eqb-true byte mark is)) other

sign_other : (rest : List ℕ) → IsOther (first_piece (0o43 ∷ rest)).form
unfolding first_piece
sign_other rest = refl

at_other : (rest : List ℕ) → IsOther (first_piece (0o100 ∷ rest)).form
unfolding first_piece
at_other rest = refl

open_other : (rest : List ℕ) → IsOther (first_piece (0o50 ∷ rest)).form
unfolding first_piece
open_other rest = refl

minus_other : (rest : List ℕ) → IsOther (first_piece (0o55 ∷ rest)).form
unfolding first_piece
minus_other rest = refl

start_other : (byte : ℕ) (rest : List ℕ) (is_name is_sign is_at is_open is_minus : Bool)
    → is_name ≡ is_name_character byte → is_sign ≡ (byte == 0o43) → is_at ≡ (byte == 0o100) → is_open ≡ (byte == 0o50)
    → is_minus ≡ (byte == 0o55) → (is_name || (is_sign || (is_at || (is_open || is_minus)))) ≡ true
    → IsOther (first_piece (byte ∷ rest)).form
start_other byte rest true is_sign is_at is_open is_minus a b c d e start = name_other byte rest (sym a)
start_other byte rest false true is_at is_open is_minus a b c d e start = mark_other byte 0o43 rest (sym b) (sign_other rest)
start_other byte rest false false true is_open is_minus a b c d e start = mark_other byte 0o100 rest (sym c) (at_other rest)
start_other byte rest false false false true is_minus a b c d e start = mark_other byte 0o50 rest (sym d) (open_other rest)
start_other byte rest false false false false true a b c d e start = mark_other byte 0o55 rest (sym e) (minus_other rest)
start_other byte rest false false false false false a b c d e start = absurd (false≢true start)

blank_is : (byte : ℕ) (rest : List ℕ) (is_space is_tab : Bool) → is_space ≡ (byte == 0o40) → is_tab ≡ (byte == 0o11)
    → (is_space || is_tab) ≡ true → first_piece (byte ∷ rest) ≡ record { form = Blank; length = 1 }
unfolding first_piece
blank_is byte rest true is_tab a b blank =
    let P : ℕ → Type 0 = λ c. first_piece (c ∷ rest) ≡ record { form = Blank; length = 1 } in
    subst P (sym (eqb-true byte 0o40 (sym a))) refl
blank_is byte rest false true a b blank =
    let P : ℕ → Type 0 = λ c. first_piece (c ∷ rest) ≡ record { form = Blank; length = 1 } in
    subst P (sym (eqb-true byte 0o11 (sym b))) refl
blank_is byte rest false false a b blank = absurd (false≢true blank)

blank_begins : (byte : ℕ) (text : List ℕ) → is_blank byte ≡ true → begins_operand text ≡ begins_operand (byte ∷ text)
blank_begins byte text blank =
    let n : ℕ = prefix_len is_blank text in
    let P : Bool → Type 0 = λ b. begins_operand text ≡ begins_or_ends (drop (cond b (1 + n) 0) (byte ∷ text)) in
    let one : suc n ≡ 1 + n = omega arith in
    subst P (sym blank) (ap (λ m. begins_or_ends (drop m (byte ∷ text))) one)

other_begins : (byte : ℕ) (text : List ℕ) → is_blank byte ≡ false → is_operand_start byte ≡ begins_operand (byte ∷ text)
other_begins byte text other =
    let n : ℕ = prefix_len is_blank text in
    let P : Bool → Type 0 = λ b. is_operand_start byte ≡ begins_or_ends (drop (cond b (1 + n) 0) (byte ∷ text)) in
    subst P (sym other) refl

module _ (line : Bytes) (target : Lexeme) where
  form_unset : (column end : ℕ) (form : Form) (tokens : List Lexeme) → IsOther form
      → assignment_to line target (lexemes_at line column end form ++ tokens) ≡ None
  form_unset column end (Cut sort) tokens other =
      unset_before line target (record { sort = sort; start = column; end = end; text = text_between line column end }) tokens other
  form_unset column end Blank tokens other = absurd other
  form_unset column end Comment tokens other = absurd other
  form_unset column end Skipped tokens other = absurd other

  abbrev Unset : ℕ → List ℕ → Type 0
  Unset column text = assignment_to line target (lexemes_from line column (pieces_of text)) ≡ None

  first_unset : (column : ℕ) (byte : ℕ) (text : List ℕ) → is_operand_start byte ≡ true → Unset column (byte ∷ text)
  first_unset column byte text start =
      form_unset column (column + (first_piece (byte ∷ text)).length) (first_piece (byte ∷ text)).form
      (lexemes_from line (column + (first_piece (byte ∷ text)).length)
      (pieces_after ((first_piece (byte ∷ text)).length - 1) text))
      (start_other byte text (is_name_character byte) (byte == 0o43) (byte == 0o100) (byte == 0o50) (byte == 0o55) refl refl refl refl
      refl start)

  blank_unset : (column : ℕ) (byte : ℕ) (text : List ℕ) → is_blank byte ≡ true → Unset (column + 1) text → Unset column (byte ∷ text)
  blank_unset column byte text blank later =
      let P : Piece → Type 0 = λ p. assignment_to line target (lexemes_at line column (column + p.length) p.form
      ++ lexemes_from line (column + p.length) (pieces_after (p.length - 1) text)) ≡ None in
      subst P (sym (blank_is byte text (byte == 0o40) (byte == 0o11) refl refl blank)) later

  byte_unset : (column : ℕ) (byte : ℕ) (text : List ℕ) (blank : Bool) → blank ≡ is_blank byte
      → begins_operand (byte ∷ text) ≡ true → ((later : ℕ) → begins_operand text ≡ true → Unset later text)
      → Unset column (byte ∷ text)
  byte_unset column byte text true is begins unset =
      blank_unset column byte text (sym is) (unset (column + 1) (blank_begins byte text (sym is) ∙ begins))
  byte_unset column byte text false is begins unset =
      first_unset column byte text (other_begins byte text (sym is) ∙ begins)

  text_unset : (text : List ℕ) (column : ℕ) → begins_operand text ≡ true → Unset column text
  text_unset [] column begins = refl
  text_unset (byte ∷ text) column begins =
      byte_unset column byte text (is_blank byte) refl begins (λ later found. text_unset text later found)

  pub operand_unset : (column : ℕ) → begins_operand (drop column line) ≡ true
      → assignment_to line target (tokens_from line column) ≡ None
  operand_unset column begins = text_unset (drop column line) column begins
