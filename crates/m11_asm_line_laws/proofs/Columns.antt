-- What is read at a column of a line depends on the text from that column on alone.
use Rattle.std.proofs.Common.{◌≡◌, ℕ, zero, suc, ◌+◌, ◌-◌, ◌<◌, ◌≤◌, Bool, true, false, ◌&&◌, List, [], ◌∷◌, ◌++◌, length, take, drop, map, ◌⊎◌, inl, inr, refl, sym, ap, ◌∙◌, arith}
use Rattle.std.specs.Prelude.{nat_le, if◌then◌else◌}
use Rattle.std.specs.Int.RustNames.{bit_or}
use Rattle.std.proofs.lemmas.Bool.{le-leb, lt-leb, leb-true, leb-false}
use Rattle.std.proofs.lemmas.List.{map-append}
use Rattle.m11_base.specs.Devices.{Bytes}
use Rattle.m11_scan.specs.Cutting.{Lexeme, lexemes_at, lexemes_from, pieces_of, text_between, tokens_from}
use Rattle.m11_scan.specs.Ends.{column_after, expression_end, sort_in, taken_of}
use Rattle.m11_scan.specs.ErrorFlags.{flag_I, flag_Q, flag_if}
use Rattle.m11_scan.specs.Expressions.{begin, taken}
use Rattle.m11_scan.specs.Skipped.{has_skipped}
use Rattle.m11_scan.specs.declared.pieces.Piece.{Piece}
use Rattle.m11_scan.specs.declared.sort.Form.{Form}
use Rattle.m11_scan.specs.declared.sort.Form.TheVariants.{Cut, Blank, Comment, Skipped}
use Rattle.m11_scan_expressions.specs.LeftOvers.{has_token, left_over, rest_flags, skip_flags}
use Rattle.m11_scan_expressions.specs.Tokens.{expression, plain}

pub two_ways : (b : Bool) → (b ≡ true) ⊎ (b ≡ false)
two_ways true = inl refl
two_ways false = inr refl

-- a token one column further on
abbrev pub up : Lexeme → Lexeme
up token = record { sort = token.sort; start = suc token.start; end = suc token.end; text = token.text }

nat_le_suc : (m n : ℕ) → nat_le (suc m) (suc n) ≡ nat_le m n
nat_le_suc m n =
    elim (two_ways (nat_le m n)) [
      | inl is ↦ let le : m ≤ n = leb-true m n is in le-leb (suc m) (suc n) (omega (arith, le)) ∙ sym is
      | inr is ↦ let lt : n < m = leb-false m n is in lt-leb (suc m) (suc n) (omega (arith, lt)) ∙ sym is
    ]

take_all : {A : Type 0} (n : ℕ) (xs : List A) (f : A → A) → map f (take n xs) ≡ take n (map f xs)
take_all zero xs f = refl
take_all (suc n) [] f = refl
take_all (suc n) (x ∷ xs) f = ap (λ ys. f x ∷ ys) (take_all n xs f)

-- ---- tokens one column further on

pub has_up : (tokens : List Lexeme) → has_token (map up tokens) ≡ has_token tokens
has_up [] = refl
has_up (token ∷ tokens) = refl

sorts_up : (tokens : List Lexeme) → map sort_in (map up tokens) ≡ map sort_in tokens
sorts_up [] = refl
sorts_up (token ∷ tokens) = ap (λ ss. token.sort ∷ ss) (sorts_up tokens)

plain_up : (tokens : List Lexeme) → map plain (map up tokens) ≡ map plain tokens
plain_up [] = refl
plain_up (token ∷ tokens) = ap (λ ts. plain token ∷ ts) (plain_up tokens)

taken_up : (tokens : List Lexeme) → taken_of begin (map up tokens) ≡ map up (taken_of begin tokens)
taken_up tokens =
    ap (λ ss. take (taken ss begin) (map up tokens)) (sorts_up tokens)
    ∙ sym (take_all (taken (map sort_in tokens) begin) tokens up)

column_after_up : (column : ℕ) (tokens : List Lexeme) → column_after (suc column) (map up tokens) ≡ suc (column_after column tokens)
column_after_up column [] = refl
column_after_up column (token ∷ tokens) = column_after_up token.end tokens

-- a line with one more character in front, and columns one further on
module _ (byte : ℕ) (line : Bytes) where
  abbrev longer : Bytes
  longer = byte ∷ line

  pub text_up : (start end : ℕ) → text_between longer (suc start) (suc end) ≡ text_between line start end
  text_up start end =
      let size : suc end - suc start ≡ end - start = omega arith in
      ap (λ b. if b && nat_le (suc end) (suc (length line)) then take (suc end - suc start) (drop start line) else [])
      (nat_le_suc start end)
      ∙ ap (λ b. if nat_le start end && b then take (suc end - suc start) (drop start line) else []) (nat_le_suc end (length line))
      ∙ ap (λ n. if nat_le start end && nat_le end (length line) then take n (drop start line) else []) size

  lexemes_at_up : (start end : ℕ) (form : Form)
      → lexemes_at longer (suc start) (suc end) form ≡ map up (lexemes_at line start end form)
  lexemes_at_up start end (Cut sort) =
      ap (λ t. record { sort = sort; start = suc start; end = suc end; text = t } ∷ []) (text_up start end)
  lexemes_at_up start end Blank = refl
  lexemes_at_up start end Comment = refl
  lexemes_at_up start end Skipped = refl

  lexemes_up : (column : ℕ) (pieces : List Piece)
      → lexemes_from longer (suc column) pieces ≡ map up (lexemes_from line column pieces)
  lexemes_up column [] = refl
  lexemes_up column (piece ∷ pieces) =
      let on : suc column + piece.length ≡ suc (column + piece.length) = omega arith in
      ap (λ n. lexemes_at longer (suc column) n piece.form ++ lexemes_from longer n pieces) on
      ∙ ap (λ ts. ts ++ lexemes_from longer (suc (column + piece.length)) pieces)
      (lexemes_at_up column (column + piece.length) piece.form)
      ∙ ap (λ ts. map up (lexemes_at line column (column + piece.length) piece.form) ++ ts)
      (lexemes_up (column + piece.length) pieces)
      ∙ sym (map-append up (lexemes_at line column (column + piece.length) piece.form)
      (lexemes_from line (column + piece.length) pieces))

  pub tokens_up : (column : ℕ) → tokens_from longer (suc column) ≡ map up (tokens_from line column)
  tokens_up column = lexemes_up column (pieces_of (drop column line))

  -- ---- flags

  pub skip_flags_up : (start end : ℕ) → skip_flags longer (suc start) (suc end) ≡ skip_flags line start end
  skip_flags_up start end = ap (λ t. flag_if (has_skipped t) flag_I) (text_up start end)

  pub rest_flags_up : (column : ℕ) → rest_flags longer (suc column) ≡ rest_flags line column
  rest_flags_up column = skip_flags_up column (length line)

  pub left_over_up : (column : ℕ) → left_over longer (suc column) ≡ left_over line column
  left_over_up column =
      ap (λ ts. bit_or (flag_if (has_token ts) flag_Q) (rest_flags longer (suc column))) (tokens_up column)
      ∙ ap (λ b. bit_or (flag_if b flag_Q) (rest_flags longer (suc column))) (has_up (tokens_from line column))
      ∙ ap (bit_or (flag_if (has_token (tokens_from line column)) flag_Q)) (rest_flags_up column)

  -- ---- expressions

  pub expression_up : (column : ℕ) → expression longer (suc column) ≡ expression line column
  expression_up column =
      ap (λ ts. map plain (taken_of begin ts)) (tokens_up column)
      ∙ ap (map plain) (taken_up (tokens_from line column)) ∙ plain_up (taken_of begin (tokens_from line column))

  pub expression_end_up : (column : ℕ) → expression_end longer (suc column) ≡ suc (expression_end line column)
  expression_end_up column =
      ap (λ ts. column_after (suc column) (taken_of begin ts)) (tokens_up column)
      ∙ ap (column_after (suc column)) (taken_up (tokens_from line column))
      ∙ column_after_up column (taken_of begin (tokens_from line column))
