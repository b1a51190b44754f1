-- The pieces of a line, and its tokens with their columns. (MACRO-11 Language Reference Manual, "Symbols and expressions".)
use Rattle.std.specs.Prelude.{ℕ, zero, suc, ◌+◌, ◌-◌, nat_le, ◌&&◌, if◌then◌else◌, List, [], ◌∷◌, ◌++◌, length, take, drop}
use Rattle.m11_base.specs.Devices.{Bytes}
use Rattle.m11_scan.specs.declared.sort.Sort.{Sort}
use Rattle.m11_scan.specs.declared.sort.Form.{Form}
use Rattle.m11_scan.specs.declared.sort.Form.TheVariants.{Cut}
use Rattle.m11_scan.specs.declared.pieces.Piece.{Piece}
use Rattle.m11_scan.specs.Pieces.{first_piece}

-- the pieces of a text after its first `left` characters, which belong to an earlier piece
abbrev pub pieces_after : ℕ → Bytes → List Piece
pieces_after left [] = []
pieces_after zero (byte ∷ text) =
    first_piece (byte ∷ text) ∷ pieces_after ((first_piece (byte ∷ text)).length - 1) text
pieces_after (suc left) (byte ∷ text) = pieces_after left text

-- the pieces of a text: each begins where the one before it ends
abbrev pub pieces_of : Bytes → List Piece
pieces_of text = pieces_after 0 text

-- a token: its sort, its first column in its line and the column after its last one, and its characters
pub record Lexeme : Type 0 where
  pub sort : Sort
  pub start : ℕ
  pub end : ℕ
  pub text : Bytes

-- the characters of a line from `start` up to but not including `end`; none if `end` is before `start` or past the line's end
abbrev pub text_between : Bytes → ℕ → ℕ → Bytes
text_between line start end =
    if nat_le start end && nat_le end (length line) then take (end - start) (drop start line) else []

-- a list with the token between two columns of a line; an empty list if the piece there isn't a token
abbrev pub lexemes_at : Bytes → ℕ → ℕ → Form → List Lexeme
lexemes_at line start end (Cut sort) =
    record { sort = sort; start = start; end = end; text = text_between line start end } ∷ []
lexemes_at line start end _ = []

-- the tokens among consecutive pieces of a line, the first of which begins at this column
abbrev pub lexemes_from : Bytes → ℕ → List Piece → List Lexeme
lexemes_from line column [] = []
lexemes_from line column (piece ∷ pieces) =
    lexemes_at line column (column + piece.length) piece.form ++ lexemes_from line (column + piece.length) pieces

-- the tokens of the part of a line that begins at a column; none if the column is past the end
abbrev pub tokens_from : Bytes → ℕ → List Lexeme
tokens_from line column = lexemes_from line column (pieces_of (drop column line))

-- the tokens of a line
abbrev pub tokens_of : Bytes → List Lexeme
tokens_of line = tokens_from line 0
