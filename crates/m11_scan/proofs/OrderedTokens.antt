-- The tokens of a line are in order, and with the characters between them they are the line.
use Rattle.std.proofs.Common.{◌≡◌, ℕ, ◌+◌, ◌-◌, ◌<◌, ◌≤◌, List, [], ◌∷◌, ◌++◌, length, drop, refl, sym, ap, ◌∙◌, subst, arith}
use Rattle.std.proofs.lemmas.Bool.{le-leb}
use Rattle.std.proofs.lemmas.List.{drop-drop, length-drop, take-append-drop}
use Rattle.m11_scan.specs.declared.sort.Sort.{Sort}
use Rattle.m11_scan.specs.declared.sort.Form.{Form}
use Rattle.m11_scan.specs.declared.sort.Form.TheVariants.{Cut, Blank, Comment, Skipped}
use Rattle.m11_scan.specs.declared.pieces.Piece.{Piece}
use Rattle.m11_scan.specs.Cutting.{Lexeme, lexemes_at, lexemes_from, pieces_of, text_between, tokens_from, tokens_of}
use Rattle.m11_scan.specs.Cuts.{AreOrdered, IsCut, joined_from}
use Rattle.m11_scan.specs.Pieces.{first_piece}
use Rattle.m11_scan.proofs.NextPieces.{other_stands}
use Rattle.m11_scan.proofs.OnlyCut.{pieces_of-cut}

from_earlier : (size low high : ℕ) (tokens : List Lexeme) → low ≤ high → AreOrdered size high tokens
    → AreOrdered size low tokens
from_earlier size low high [] le o = omega arith
from_earlier size low high (token ∷ tokens) le o =
    let first = o.0 in (omega arith, o.1, o.2)

-- if tokens after a piece are in order, so are these tokens and the piece's own, if it is a token
with_piece : (line : List ℕ) (size start end : ℕ) (form : Form) (tokens : List Lexeme) → start < end
    → AreOrdered size end tokens → AreOrdered size start (lexemes_at line start end form ++ tokens)
with_piece line size start end (Cut sort) tokens lt o = (omega arith, lt, o)
with_piece line size start end Blank tokens lt o = from_earlier size start end tokens (omega arith) o
with_piece line size start end Comment tokens lt o = from_earlier size start end tokens (omega arith) o
with_piece line size start end Skipped tokens lt o = from_earlier size start end tokens (omega arith) o

ordered : (line : List ℕ) (column : ℕ) (pieces : List Piece) → column ≤ length line → IsCut pieces (drop column line)
    → AreOrdered (length line) column (lexemes_from line column pieces)
ordered line column [] le cut = le
ordered line column (piece ∷ pieces) le (next, cut) =
    let begins = next.begins in
    let within = next.within in
    let left = length-drop column line in
    with_piece line (length line) column (column + piece.length) piece.form
    (lexemes_from line (column + piece.length) pieces) (omega arith)
    (ordered line (column + piece.length) pieces (omega arith) (subst (IsCut pieces) (drop-drop piece.length column line) cut))

-- the characters between two columns, followed by those at or after the second, are those at or after the first
between : (line : List ℕ) (start end : ℕ) → start ≤ end → end ≤ length line
    → text_between line start end ++ drop end line ≡ drop start line
between line start end ordered within =
    let gap : start + (end - start) ≡ end = omega arith in
    let rest : drop end line ≡ drop (end - start) (drop start line) =
    sym (drop-drop (end - start) start line ∙ ap (λ n. drop n line) gap) in
    rw (le-leb start end ordered, le-leb end (length line) within, rest)
    (take-append-drop (end - start) (drop start line))

joined_with : (line : List ℕ) (before start end : ℕ) (form : Form) (tokens : List Lexeme) → before ≤ start → start < end
    → end ≤ length line → ((column : ℕ) → column ≤ end → joined_from line column tokens ≡ drop column line)
    → joined_from line before (lexemes_at line start end form ++ tokens) ≡ drop before line
joined_with line before start end (Cut sort) tokens le lt within rest =
    ap (λ text. text_between line before start ++ (text_between line start end ++ text)) (rest end (omega arith))
    ∙ ap (λ text. text_between line before start ++ text) (between line start end (omega arith) within)
    ∙ between line before start le (omega arith)
joined_with line before start end Blank tokens le lt within rest = rest before (omega arith)
joined_with line before start end Comment tokens le lt within rest = rest before (omega arith)
joined_with line before start end Skipped tokens le lt within rest = rest before (omega arith)

joined : (line : List ℕ) (column : ℕ) (pieces : List Piece) → column ≤ length line → IsCut pieces (drop column line)
    → (before : ℕ) → before ≤ column → joined_from line before (lexemes_from line column pieces) ≡ drop before line
joined line column [] le cut before early = refl
joined line column (piece ∷ pieces) le (next, cut) before early =
    let begins = next.begins in
    let within = next.within in
    let left = length-drop column line in
    joined_with line before column (column + piece.length) piece.form (lexemes_from line (column + piece.length) pieces)
    early (omega arith) (omega arith)
    (joined line (column + piece.length) pieces (omega arith) (subst (IsCut pieces) (drop-drop piece.length column line) cut))

pub tokens_of-ordered : (line : List ℕ) → AreOrdered (length line) 0 (tokens_of line)
tokens_of-ordered line = ordered line 0 (pieces_of line) (omega arith) (pieces_of-cut line)

pub tokens_from-ordered : (line : List ℕ) (column : ℕ) → column ≤ length line → AreOrdered (length line) column (tokens_from line column)
tokens_from-ordered line column le = ordered line column (pieces_of (drop column line)) le (pieces_of-cut (drop column line))

-- if the piece at a column isn't a token, the next token begins after the column
pub next_later : (line : List ℕ) (start : ℕ) (piece : Piece) → start < length line → piece ≡ first_piece (drop start line)
    → 0 < piece.length → start + piece.length ≤ length line → ((sort : Sort) → piece.form ≡ Cut sort → ⊥)
    → (token : Lexeme) (tokens : List Lexeme) → tokens_from line start ≡ token ∷ tokens → start < token.start
next_later line start piece inside is begins within other token tokens stands =
    let after : tokens_from line (start + piece.length) ≡ token ∷ tokens =
    sym (other_stands line start piece inside is begins other) ∙ stands in
    let P : List Lexeme → Type 0 = λ ts. AreOrdered (length line) (start + piece.length) ts in
    let all = subst P after (tokens_from-ordered line (start + piece.length) within) in
    let first = all.0 in
    omega arith

pub tokens_of-joined : (line : List ℕ) → joined_from line 0 (tokens_of line) ≡ line
tokens_of-joined line = joined line 0 (pieces_of line) (omega arith) (pieces_of-cut line) 0 (omega arith)

pub ruleset orders = (tokens_of-ordered, tokens_of-joined)
