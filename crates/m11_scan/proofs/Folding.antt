-- A text is cut in the same way in upper and in lower case.
use Rattle.std.proofs.Common.{◌≡◌, ℕ, zero, suc, ◌+◌, ◌-◌, ◌<◌, min, Bool, true, false, List, [], ◌∷◌, ◌++◌, length, drop, take, map, refl, sym, ap, ◌∙◌, inl, inr, arith, nat_le, nat_lt, lit<, get_or}
use Rattle.std.specs.Prelude.{◌==◌, ◌&&◌, if◌then◌else◌}
use Rattle.std.specs.List.{list_any, prefix_len}
use Rattle.std.proofs.lemmas.Bool.{cases_Bool}
use Rattle.std.proofs.lemmas.Bool.Decides.{nat_tests}
use Rattle.std.proofs.lemmas.List.{drop-map, length-map, map-append, take-map}
use Rattle.std.proofs.Math.ListN.{get_or-map}
use Rattle.m11_base.specs.NameCharacters.{character_at, folded, is_name_character, six_of}
use Rattle.m11_scan.specs.Classes.{is_blank, is_digit}
use Rattle.m11_scan.specs.declared.sort.Sort.{Sort}
use Rattle.m11_scan.specs.declared.sort.Sort.TheVariants.{Name, Character, TwoCharacters, Packed, Colon, TwoColons, Equals, TwoEquals}
use Rattle.m11_scan.specs.declared.sort.Form.{Form}
use Rattle.m11_scan.specs.declared.sort.Form.TheVariants.{Cut, Blank, Comment, Skipped}
use Rattle.m11_scan.specs.declared.pieces.Piece.{Piece}
use Rattle.m11_scan.specs.Pieces.{caret_piece, doubled_piece, first_piece, mark_form, mark_piece, number_ending, number_piece, token}
use Rattle.m11_scan.specs.Cutting.{Lexeme, lexemes_at, lexemes_from, pieces_after, pieces_of, text_between, tokens_from}
use Rattle.m11_scan.specs.Skipped.{has_skipped, is_skipped, skipped_between}

pub if_cong : {A : Type 0} {b c : Bool} {x y z w : A} → b ≡ c → x ≡ y → z ≡ w
    → (if b then x else z) ≡ (if c then y else w)
if_cong p q r = λ i. if p i then q i else r i

-- a character in upper case is in the same classes as the character itself
pub digit-folded : (byte : ℕ) → is_digit (folded byte) ≡ is_digit byte
digit-folded byte = grind (arith, nat_tests)

pub name-folded : (byte : ℕ) → is_name_character (folded byte) ≡ is_name_character byte
name-folded byte = grind (arith, nat_tests)

blank-folded : (byte : ℕ) → is_blank (folded byte) ≡ is_blank byte
blank-folded byte = grind (arith, nat_tests)

pub mark-folded : (byte mark : ℕ) → mark < 65 → (folded byte == mark) ≡ (byte == mark)
mark-folded byte mark lt = grind (arith, nat_tests)

caret-folded : (byte : ℕ) → (folded byte == 94) ≡ (byte == 94)
caret-folded byte = grind (arith, nat_tests)

pub folded-twice : (byte : ℕ) → folded (folded byte) ≡ folded byte
folded-twice byte = grind (arith, nat_tests)

digit-itself : (byte : ℕ) → is_digit byte ≡ true → folded byte ≡ byte
digit-itself byte is = grind (arith, nat_tests)

-- a run in upper case has the same length, and digits are unchanged
pub run-folded : (passes : ℕ → Bool) → ((byte : ℕ) → passes (folded byte) ≡ passes byte) → (text : List ℕ)
    → prefix_len passes (map folded text) ≡ prefix_len passes text
run-folded passes same [] = refl
run-folded passes same (byte ∷ text) = if_cong (same byte) (ap (λ n. 1 + n) (run-folded passes same text)) refl

one_more : (n : ℕ) → 1 + n ≡ suc n
one_more n = omega arith

pub digits-folded : (text : List ℕ)
    → map folded (take (prefix_len is_digit text) text) ≡ take (prefix_len is_digit text) text
digits-folded [] = refl
digits-folded (byte ∷ text) = elim (cases_Bool (is_digit byte)) [
  | inl is ↦ rw (is, one_more (prefix_len is_digit text))
      (λ i. digit-itself byte is i ∷ digits-folded text i)
  | inr other ↦ rw other refl
]

-- a text in upper case has the same pieces as the text itself
ending-folded : (digits : ℕ) (text : List ℕ) → number_ending digits (map folded text) ≡ number_ending digits text
ending-folded digits [] = refl
ending-folded digits (byte ∷ text) =
    if_cong (mark-folded byte 46 (lit< tt)) refl (if_cong (mark-folded byte 36 (lit< tt)) refl refl)

number-folded : (text : List ℕ) → number_piece (map folded text) ≡ number_piece text
number-folded text =
    let run = run-folded is_digit digit-folded text in
    ap (λ n. number_ending n (drop n (map folded text))) run
    ∙ ap (number_ending (prefix_len is_digit text)) (drop-map folded (prefix_len is_digit text) text)
    ∙ ending-folded (prefix_len is_digit text) (drop (prefix_len is_digit text) text)

caret_piece-folded : (text : List ℕ) → caret_piece (map folded text) ≡ caret_piece text
caret_piece-folded [] = refl
caret_piece-folded (flag ∷ text) =
    let same = folded-twice flag in
    if_cong (ap (λ l. l == 66) same) refl
    (if_cong (ap (λ l. l == 79) same) refl
    (if_cong (ap (λ l. l == 68) same) refl
    (if_cong (ap (λ l. l == 67) same) refl
    (if_cong (ap (λ l. l == 82) same)
    (ap (λ n. token Packed (n + 2)) (run-folded is_name_character name-folded text)) refl))))

doubled-folded : (byte : ℕ) (single double : Sort) (text : List ℕ) → byte < 65
    → doubled_piece byte single double (map folded text) ≡ doubled_piece byte single double text
doubled-folded byte single double [] lt = refl
doubled-folded byte single double (next ∷ text) lt = if_cong (mark-folded next byte lt) refl refl

mark_form-folded : (byte : ℕ) → mark_form (folded byte) ≡ mark_form byte
mark_form-folded byte =
    if_cong (mark-folded byte 43 (lit< tt)) refl
    (if_cong (mark-folded byte 45 (lit< tt)) refl
    (if_cong (mark-folded byte 42 (lit< tt)) refl
    (if_cong (mark-folded byte 47 (lit< tt)) refl
    (if_cong (mark-folded byte 38 (lit< tt)) refl
    (if_cong (mark-folded byte 33 (lit< tt)) refl
    (if_cong (mark-folded byte 60 (lit< tt)) refl
    (if_cong (mark-folded byte 62 (lit< tt)) refl
    (if_cong (mark-folded byte 37 (lit< tt)) refl
    (if_cong (mark-folded byte 35 (lit< tt)) refl
    (if_cong (mark-folded byte 64 (lit< tt)) refl
    (if_cong (mark-folded byte 40 (lit< tt)) refl
    (if_cong (mark-folded byte 41 (lit< tt)) refl
    (if_cong (mark-folded byte 44 (lit< tt)) refl
    (if_cong (mark-folded byte 58 (lit< tt)) refl
    (if_cong (mark-folded byte 61 (lit< tt)) refl refl)))))))))))))))

mark_piece-folded : (byte : ℕ) (text : List ℕ) → mark_piece (folded byte ∷ map folded text) ≡ mark_piece (byte ∷ text)
mark_piece-folded byte text =
    let size : length (folded byte ∷ map folded text) ≡ length (byte ∷ text) = ap suc (length-map text folded) in
    if_cong (mark-folded byte 39 (lit< tt)) (ap (λ n. token Character (min n 2)) size)
    (if_cong (mark-folded byte 34 (lit< tt)) (ap (λ n. token TwoCharacters (min n 3)) size)
    (if_cong (caret-folded byte) (caret_piece-folded text)
    (if_cong (mark-folded byte 58 (lit< tt)) (doubled-folded 58 Colon TwoColons text (lit< tt))
    (if_cong (mark-folded byte 61 (lit< tt)) (doubled-folded 61 Equals TwoEquals text (lit< tt))
    (ap (λ (f : Form). record { form = f; length = 1 }) (mark_form-folded byte))))))

first_piece-folded : (text : List ℕ) → first_piece (map folded text) ≡ first_piece text
unfolding first_piece
first_piece-folded [] = refl
first_piece-folded (byte ∷ text) =
    let size : length (folded byte ∷ map folded text) ≡ length (byte ∷ text) = ap suc (length-map text folded) in
    if_cong (digit-folded byte) (number-folded (byte ∷ text))
    (if_cong (name-folded byte) (ap (token Name) (run-folded is_name_character name-folded (byte ∷ text)))
    (if_cong (blank-folded byte) refl
    (if_cong (mark-folded byte 59 (lit< tt)) (ap (λ (n : ℕ). record { form = Comment; length = n }) size)
    (mark_piece-folded byte text))))

pieces_after-folded : (left : ℕ) (text : List ℕ) → pieces_after left (map folded text) ≡ pieces_after left text
pieces_after-folded left [] = refl
pieces_after-folded zero (byte ∷ text) =
    ap (λ (p : Piece). p ∷ pieces_after (p.length - 1) (map folded text)) (first_piece-folded (byte ∷ text))
    ∙ ap (λ ps. first_piece (byte ∷ text) ∷ ps) (pieces_after-folded ((first_piece (byte ∷ text)).length - 1) text)
pieces_after-folded (suc left) (byte ∷ text) = pieces_after-folded left text

-- the tokens of a line in upper case are those of the line itself, with their texts in upper case
unfoldable pub folded_token : Lexeme → Lexeme
folded_token token =
    record { sort = token.sort; start = token.start; end = token.end; text = map folded token.text }

if-folded : (b : Bool) (text : List ℕ) → (if b then map folded text else []) ≡ map folded (if b then text else [])
if-folded true text = refl
if-folded false text = refl

text_between-folded : (line : List ℕ) (start end : ℕ)
    → text_between (map folded line) start end ≡ map folded (text_between line start end)
text_between-folded line start end =
    let within = nat_le start end && nat_le end (length line) in
    if_cong (ap (λ n. nat_le start end && nat_le end n) (length-map line folded))
    (ap (take (end - start)) (drop-map folded start line) ∙ take-map folded (end - start) (drop start line)) refl
    ∙ if-folded within (take (end - start) (drop start line))

lexemes_at-folded : (line : List ℕ) (start end : ℕ) (form : Form)
    → lexemes_at (map folded line) start end form ≡ map folded_token (lexemes_at line start end form)
unfolding folded_token
lexemes_at-folded line start end (Cut sort) =
    ap (λ (t : List ℕ). record { sort = sort; start = start; end = end; text = t } ∷ []) (text_between-folded line start end)
lexemes_at-folded line start end Blank = refl
lexemes_at-folded line start end Comment = refl
lexemes_at-folded line start end Skipped = refl

lexemes_from-folded : (line : List ℕ) (column : ℕ) (pieces : List Piece)
    → lexemes_from (map folded line) column pieces ≡ map folded_token (lexemes_from line column pieces)
lexemes_from-folded line column [] = refl
lexemes_from-folded line column (piece ∷ pieces) =
    let end = column + piece.length in
    (λ i. lexemes_at-folded line column end piece.form i ++ lexemes_from-folded line end pieces i)
    ∙ sym (map-append folded_token (lexemes_at line column end piece.form) (lexemes_from line end pieces))

pub tokens_from-folded : (line : List ℕ) (column : ℕ) → tokens_from (map folded line) column ≡ map folded_token (tokens_from line column)
tokens_from-folded line column =
    ap (λ text. lexemes_from (map folded line) column (pieces_of text)) (drop-map folded column line)
    ∙ ap (lexemes_from (map folded line) column) (pieces_after-folded 0 (drop column line))
    ∙ lexemes_from-folded line column (pieces_of (drop column line))

pub skipped_between-folded : (line : List ℕ) (start end : ℕ)
    → skipped_between (map folded line) start end ≡ skipped_between line start end
skipped_between-folded line start end =
    ap has_skipped (text_between-folded line start end)
    ∙ ap (list_any (λ (piece : Piece). is_skipped piece.form)) (pieces_after-folded 0 (text_between line start end))

-- a text in upper case has the same six characters of a name as the text itself
character-folded : (text : List ℕ) (column : ℕ) → character_at (map folded text) column ≡ character_at text column
character-folded text column =
    if_cong (ap (nat_lt column) (length-map text folded))
    (ap folded (get_or-map folded text column 0) ∙ folded-twice (get_or text column 0)) refl

pub six_of-folded : (text : List ℕ) → six_of (map folded text) ≡ six_of text
six_of-folded text =
    λ i. character-folded text 0 i ∷ (character-folded text 1 i ∷ (character-folded text 2 i
    ∷ (character-folded text 3 i ∷ (character-folded text 4 i ∷ (character-folded text 5 i ∷ [])))))
