-- Replacement of formals in the lines of a body. (MACRO-11 Language Reference Manual, "Arguments in macro definitions and macro
-- calls" and "Concatenation of macro arguments". This project's own: strings and comments are no exception, and the first of
-- two formals with the same name counts.)
use Rattle.std.specs.Prelude.{ℕ, Bool, false, ◌||◌, ◌&&◌, ◌==◌, if◌then◌else◌, List, [], ◌∷◌, ◌++◌, Option, Some, None, is_some, option_and_then, unwrap_or}
use Rattle.m11_base.specs.Devices.{Bytes}
use Rattle.m11_base.specs.NameCharacters.{is_name_character, six_of}
use Rattle.m11_base.specs.Rad50.{Name, is_same_name, name_of}
use Rattle.m11_scan.specs.Line.{SourceLine, line_of}

-- a piece of a body's line: a longest run of name characters, or one other character
pub data Piece : Type 0 where
  Run : Bytes → Piece
  Other : ℕ → Piece

-- the pieces of a text: a name character joins the run directly after it, or is a run of its own
abbrev pub pieces_of : Bytes → List Piece
pieces_of [] = []
pieces_of (byte ∷ text) =
    if is_name_character byte then (elim (pieces_of text) [
      | [] ↦ Run (byte ∷ []) ∷ []
      | Run run ∷ pieces ↦ Run (byte ∷ run) ∷ pieces
      | Other other ∷ pieces ↦ Run (byte ∷ []) ∷ Other other ∷ pieces
    ]) else Other byte ∷ pieces_of text

-- the piece made of these characters: a run of all of them, if the first is a name character, otherwise the first alone
abbrev pub piece_of : Bytes → Piece
piece_of [] = Run []
piece_of (byte ∷ text) = if is_name_character byte then Run (byte ∷ text) else Other byte

-- the actual of the first formal with this name; None if there is no such formal, or no actual for it
abbrev pub actual_named : List Name → List Bytes → Name → Option Bytes
actual_named [] actuals name = None
actual_named (formal ∷ formals) [] name = None
actual_named (formal ∷ formals) (actual ∷ actuals) name =
    if is_same_name formal name then Some actual else actual_named formals actuals name

-- the actual that replaces a piece: that of the formal named by the first six characters of a run; None if there is no such formal, or no
-- actual for it
abbrev pub actual_for : List Name → List Bytes → Piece → Option Bytes
actual_for formals actuals (Run run) = option_and_then (actual_named formals actuals) (name_of (six_of run))
actual_for formals actuals (Other byte) = None

abbrev pub is_replaced : List Name → List Bytes → Piece → Bool
is_replaced formals actuals piece = is_some (actual_for formals actuals piece)

-- whether the first of these pieces is replaced; false if there are none
abbrev pub begins_replaced : List Name → List Bytes → List Piece → Bool
begins_replaced formals actuals [] = false
begins_replaced formals actuals (piece ∷ pieces) = is_replaced formals actuals piece

abbrev pub is_quote : Piece → Bool
is_quote (Run run) = false
is_quote (Other byte) = byte == 0o47

abbrev pub text_of : Piece → Bytes
text_of (Run run) = run
text_of (Other byte) = byte ∷ []

-- the text of these pieces with actuals in place of formals; a `'` directly before or after a replaced piece is left out; the flag
-- says whether the piece before them is replaced
abbrev pub joined : List Name → List Bytes → Bool → List Piece → Bytes
joined formals actuals is_after [] = []
joined formals actuals is_after (piece ∷ pieces) =
    unwrap_or (actual_for formals actuals piece)
    (if is_quote piece && (is_after || begins_replaced formals actuals pieces) then [] else text_of piece)
    ++ joined formals actuals (is_replaced formals actuals piece) pieces

-- a text with actuals in place of the formals
abbrev pub substituted : List Name → List Bytes → Bytes → Bytes
substituted formals actuals text = joined formals actuals false (pieces_of text)

-- the line that a text of a body becomes in one round of an expansion
abbrev pub line_with : List Name → List Bytes → Bytes → SourceLine
line_with formals actuals text = line_of (substituted formals actuals text)
