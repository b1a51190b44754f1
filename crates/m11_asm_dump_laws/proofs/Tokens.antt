-- The tokens of a line, at a column where they are written.
use Rattle.std.proofs.Common.{◌≡◌, ◌∙◌, ℕ, suc, ◌+◌, ◌-◌, ◌<◌, Bool, true, false, cond, not, ◌&&◌, [], ◌∷◌, ◌++◌, length, take, drop, refl, sym, ap, subst, arith}
use Rattle.std.specs.Prelude.{nat_le, if◌then◌else◌}
use Rattle.std.specs.List.{list_all, prefix_len}
use Rattle.std.proofs.Math.Seq.{take-append_seam, drop-append_seam}
use Rattle.std.proofs.lemmas.Bool.{and_parts, le-leb}
use Rattle.std.proofs.lemmas.List.{drop-drop, length-append, length-drop}
use Rattle.m11_base.specs.Devices.{Bytes}
use Rattle.m11_base.specs.NameCharacters.{is_name_character}
use Rattle.m11_scan.specs.Classes.{is_digit}
use Rattle.m11_scan.specs.Cutting.{Lexeme, lexemes_at, lexemes_from, pieces_of, text_between, tokens_from}
use Rattle.m11_scan.specs.Pieces.{first_piece, number_ending, token}
use Rattle.m11_scan.specs.declared.pieces.Piece.{Piece}
use Rattle.m11_scan.specs.declared.sort.Form.TheVariants.{Blank, Cut}
use Rattle.m11_scan.specs.declared.sort.Sort.{Sort}
use Rattle.m11_scan.specs.declared.sort.Sort.TheVariants.{Name, Number, Open, Close, Comma, Plus, Minus, At, NumberSign}
use Rattle.m11_scan.proofs.NextPieces.{pieces_of-first}
pub use Rattle.m11_asm_dump_laws.specs.Operands.{is_name_text}

-- ---- the text of a line at a column

-- after the first characters at a column, the rest is left
pub past : (line first rest : Bytes) (column : ℕ) → drop column line ≡ first ++ rest → drop (column + length first) line ≡ rest
past line first rest column at =
    sym (drop-drop (length first) column line) ∙ ap (drop (length first)) at ∙ drop-append_seam first rest

-- the text between two columns is what is written there
pub between : (line first rest : Bytes) (column : ℕ) → drop column line ≡ first ++ rest → 0 < length first
    → text_between line column (column + length first) ≡ first
between line first rest column at some =
    let sized : length line - column ≡ length first + length rest =
    sym (length-drop column line) ∙ ap length at ∙ length-append first rest in
    let starts : nat_le column (column + length first) ≡ true = le-leb column (column + length first) (omega arith) in
    let ends : nat_le (column + length first) (length line) ≡ true =
    le-leb (column + length first) (length line) (omega (arith, sized)) in
    let size : column + length first - column ≡ length first = omega arith in
    rw (starts, ends) (ap (λ n. take n (drop column line)) size ∙ ap (take (length first)) at ∙ take-append_seam first rest)

-- ---- the first token of a text

-- a text begins with these characters as its first token, which has this sort
pub record Begins (sort : Sort) (first rest : Bytes) : Type 0 where
  pub some : 0 < length first
  pub is : first_piece (first ++ rest) ≡ token sort (length first)

-- the token with these characters at a column
abbrev pub token_at : Sort → ℕ → Bytes → Lexeme
token_at sort column text = record { sort = sort; start = column; end = column + length text; text = text }

pub token_first : (sort : Sort) (first rest line : Bytes) (column : ℕ) → Begins sort first rest → drop column line ≡ first ++ rest
    → tokens_from line column ≡ token_at sort column first ∷ tokens_from line (column + length first)
token_first sort first rest line column begins at =
    let P : Piece → Type 0 = λ p. 0 < p.length in
    let pieces : pieces_of (first ++ rest) ≡ token sort (length first) ∷ pieces_of rest =
    pieces_of-first (first ++ rest) (omega (arith, length-append first rest, begins.some)) (subst P (sym begins.is) begins.some)
    ∙ ap (λ p. p ∷ pieces_of (drop p.length (first ++ rest))) begins.is
    ∙ ap (λ text. token sort (length first) ∷ pieces_of text) (drop-append_seam first rest) in
    ap (λ text. lexemes_from line column (pieces_of text)) at
    ∙ ap (lexemes_from line column) pieces
    ∙ ap (λ text. lexemes_at line column (column + length first) (Cut sort)
    ++ lexemes_from line (column + length first) (pieces_of text)) (sym (past line first rest column at))
    ∙ ap (λ text. record { sort = sort; start = column; end = column + length first; text = text }
    ∷ tokens_from line (column + length first)) (between line first rest column at begins.some)

-- no token comes after the end of a line
pub no_token : (line : Bytes) (column : ℕ) → drop column line ≡ [] → tokens_from line column ≡ []
no_token line column at = ap (λ text. lexemes_from line column (pieces_of text)) at

-- a blank is no token
pub blank_first : (rest line : Bytes) (column : ℕ) → drop column line ≡ 0o40 ∷ rest → tokens_from line column ≡ tokens_from line (column + 1)
unfolding first_piece
blank_first rest line column at =
    let pieces : pieces_of (0o40 ∷ rest) ≡ record { form = Blank; length = 1 } ∷ pieces_of rest =
    pieces_of-first (0o40 ∷ rest) (omega arith) (omega arith) in
    ap (λ text. lexemes_from line column (pieces_of text)) at
    ∙ ap (lexemes_from line column) pieces
    ∙ ap (λ text. lexemes_from line (column + 1) (pieces_of text)) (sym (past line (0o40 ∷ []) rest column at))

-- a tab is no token
pub tab_at : (line rest : Bytes) (column : ℕ) → drop column line ≡ 9 ∷ rest → tokens_from line column ≡ tokens_from line (column + 1)
unfolding first_piece
tab_at line rest column at =
    let pieces : pieces_of (9 ∷ rest) ≡ record { form = Blank; length = 1 } ∷ pieces_of rest =
    pieces_of-first (9 ∷ rest) (omega arith) (omega arith) in
    ap (λ text. lexemes_from line column (pieces_of text)) at
    ∙ ap (lexemes_from line column) pieces
    ∙ ap (λ text. lexemes_from line (column + 1) (pieces_of text)) (sym (past line (9 ∷ []) rest column at))

pub tab_first : (line rest : Bytes) → line ≡ 9 ∷ rest → tokens_from line 0 ≡ tokens_from line 1
tab_first line rest at = tab_at line rest 0 at

-- ---- names, numbers and marks

-- what follows isn't part of a name or a number before it
pub record Stops (rest : Bytes) : Type 0 where
  pub name : prefix_len is_name_character rest ≡ 0
  pub digits : prefix_len is_digit rest ≡ 0
  pub number : (count : ℕ) → number_ending count rest ≡ token Number count

if_true : {A : Type 0} (b : Bool) (x y : A) → b ≡ true → (if b then x else y) ≡ x
if_true b x y is = ap (λ c. if c then x else y) is

if_false : {A : Type 0} (b : Bool) (x y : A) → b ≡ false → (if b then x else y) ≡ y
if_false b x y is = ap (λ c. if c then x else y) is

not_so : (b : Bool) → not b ≡ true → b ≡ false
not_so true e = absurd (cc)
not_so false e = refl

one_more : (n : ℕ) → 1 + n ≡ suc n
one_more n = omega arith

prefix_all : (passes : ℕ → Bool) (xs rest : Bytes) → list_all passes xs ≡ true → prefix_len passes rest ≡ 0
    → prefix_len passes (xs ++ rest) ≡ length xs
prefix_all passes [] rest all stops = stops
prefix_all passes (x ∷ xs) rest all stops =
    let now = and_parts (passes x) (list_all passes xs) all in
    ap (λ b. cond b (1 + prefix_len passes (xs ++ rest)) 0) now.0
    ∙ ap (λ n. 1 + n) (prefix_all passes xs rest now.1 stops) ∙ one_more (length xs)

pub name_begins : (name rest : Bytes) → is_name_text name ≡ true → Stops rest → Begins Name name rest
unfolding first_piece
name_begins [] rest named stops = absurd (cc)
name_begins (byte ∷ name) rest named stops =
    let parts = and_parts (not (is_digit byte)) (list_all is_name_character (byte ∷ name)) named in
    let first = and_parts (is_name_character byte) (list_all is_name_character name) parts.1 in
    record {
      some = omega arith;
      is = if_false (is_digit byte) _ _ (not_so (is_digit byte) parts.0) ∙ if_true (is_name_character byte) _ _ first.0
          ∙ ap (λ n. token Name n) (prefix_all is_name_character (byte ∷ name) rest parts.1 stops.name);
    }

pub number_begins : (digits rest : Bytes) → 0 < length digits → list_all is_digit digits ≡ true → Stops rest → Begins Number digits rest
unfolding first_piece
number_begins [] rest some all stops = absurd (omega arith)
number_begins (byte ∷ digits) rest some all stops =
    let first = and_parts (is_digit byte) (list_all is_digit digits) all in
    let text : Bytes = (byte ∷ digits) ++ rest in
    let run : prefix_len is_digit text ≡ length (byte ∷ digits) = prefix_all is_digit (byte ∷ digits) rest all stops.digits in
    record {
      some = omega arith;
      is = if_true (is_digit byte) _ _ first.0
          ∙ ap (λ n. number_ending n (drop n text)) run
          ∙ ap (number_ending (length (byte ∷ digits))) (drop-append_seam (byte ∷ digits) rest)
          ∙ stops.number (length (byte ∷ digits));
    }

pub none_stops : Stops []
none_stops = record { name = refl; digits = refl; number = λ count. refl }

pub comma_stops : (rest : Bytes) → Stops (0o54 ∷ rest)
comma_stops rest = record { name = refl; digits = refl; number = λ count. refl }

pub open_stops : (rest : Bytes) → Stops (0o50 ∷ rest)
open_stops rest = record { name = refl; digits = refl; number = λ count. refl }

pub close_stops : (rest : Bytes) → Stops (0o51 ∷ rest)
close_stops rest = record { name = refl; digits = refl; number = λ count. refl }

pub blank_stops : (rest : Bytes) → Stops (0o40 ∷ rest)
blank_stops rest = record { name = refl; digits = refl; number = λ count. refl }

pub open_begins : (rest : Bytes) → Begins Open (0o50 ∷ []) rest
unfolding first_piece
open_begins rest = record { some = omega arith; is = refl }

pub close_begins : (rest : Bytes) → Begins Close (0o51 ∷ []) rest
unfolding first_piece
close_begins rest = record { some = omega arith; is = refl }

pub plus_begins : (rest : Bytes) → Begins Plus (0o53 ∷ []) rest
unfolding first_piece
plus_begins rest = record { some = omega arith; is = refl }

pub minus_begins : (rest : Bytes) → Begins Minus (0o55 ∷ []) rest
unfolding first_piece
minus_begins rest = record { some = omega arith; is = refl }

pub comma_begins : (rest : Bytes) → Begins Comma (0o54 ∷ []) rest
unfolding first_piece
comma_begins rest = record { some = omega arith; is = refl }

pub at_begins : (rest : Bytes) → Begins At (0o100 ∷ []) rest
unfolding first_piece
at_begins rest = record { some = omega arith; is = refl }

pub sharp_begins : (rest : Bytes) → Begins NumberSign (0o43 ∷ []) rest
unfolding first_piece
sharp_begins rest = record { some = omega arith; is = refl }
