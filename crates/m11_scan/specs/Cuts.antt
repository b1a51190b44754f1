-- The cut of a line into pieces: each piece is the longest prefix of the rest that has a form; and the order of a line's tokens.
-- (MACRO-11 Language Reference Manual, "Symbols and expressions" and "Character set".)
use Rattle.std.specs.Prelude.{◌≡◌, ℕ, ◌<◌, ◌≤◌, Bool, ◌==◌, nat_le, if◌then◌else◌, List, [], ◌∷◌, ◌++◌, length, take, drop, Option, Some, None}
use Rattle.std.specs.List.{list_all}
use Rattle.m11_base.specs.Devices.{Bytes}
use Rattle.m11_base.specs.NameCharacters.{folded, is_name_character}
use Rattle.m11_scan.specs.Classes.{is_blank, is_digit}
use Rattle.m11_scan.specs.Cutting.{Lexeme, text_between}
use Rattle.m11_scan.specs.Pieces.{mark_form}
use Rattle.m11_scan.specs.declared.sort.Sort.{Sort}
use Rattle.m11_scan.specs.declared.sort.Sort.TheVariants.{Name, Number, DecimalNumber, LocalSymbol, Character, TwoCharacters, Packed, BinaryRadix, OctalRadix, DecimalRadix, Complement, Colon, TwoColons, Equals, TwoEquals}
use Rattle.m11_scan.specs.declared.sort.Form.{Form}
use Rattle.m11_scan.specs.declared.sort.Form.TheVariants.{Cut, Blank, Comment, Skipped}
use Rattle.m11_scan.specs.declared.pieces.Piece.{Piece}

-- this form if no more characters follow, otherwise none
abbrev pub alone : Form → Bytes → Option Form
alone form [] = Some form
alone form (byte ∷ more) = None

-- this form if at most `count` more characters follow, otherwise none
abbrev pub at_most : ℕ → Form → Bytes → Option Form
at_most count form more = if nat_le (length more) count then Some form else None

-- this form if all characters that follow pass a test, otherwise none
abbrev pub all_pass : (ℕ → Bool) → Form → Bytes → Option Form
all_pass passes form more = if list_all passes more then Some form else None

-- the form of a piece made up of a digit and these characters after it; none unless they are all digits, except for an optional dot or `$`
-- at the end
abbrev pub number_form : Bytes → Option Form
number_form [] = Some (Cut Number)
number_form (byte ∷ more) =
    if is_digit byte then number_form more
    else (if byte == 0o56 then alone (Cut DecimalNumber) more
    else (if byte == 0o44 then alone (Cut LocalSymbol) more else None))

-- the form of a piece made up of a `^` and these characters after it; none if together they aren't a single piece. A `^` alone is skipped.
-- A token has one of B, O, D and C after the `^`, or R and any number of characters of names. Letters may be of either case
abbrev pub caret_form : Bytes → Option Form
caret_form [] = Some Skipped
caret_form (flag ∷ more) =
    if folded flag == 0o102 then alone (Cut BinaryRadix) more
    else (if folded flag == 0o117 then alone (Cut OctalRadix) more
    else (if folded flag == 0o104 then alone (Cut DecimalRadix) more
    else (if folded flag == 0o103 then alone (Cut Complement) more
    else (if folded flag == 0o122 then all_pass is_name_character (Cut Packed) more else None))))

-- the form of a piece made up of this character and those after it; none unless together they are this character once or twice
abbrev pub doubled_form : ℕ → Sort → Sort → Bytes → Option Form
doubled_form byte single double [] = Some (Cut single)
doubled_form byte single double (next ∷ more) = if next == byte then alone (Cut double) more else None

-- the form of a piece made up of this character and those after it; none if together they aren't a single piece. This character isn't a
-- digit, a letter, `$`, `.`, a blank, a tab or `;`
abbrev pub marked_form : ℕ → Bytes → Option Form
marked_form byte more =
    if byte == 0o47 then at_most 1 (Cut Character) more
    else (if byte == 0o42 then at_most 2 (Cut TwoCharacters) more
    else (if byte == 0o136 then caret_form more
    else (if byte == 0o72 then doubled_form 0o72 Colon TwoColons more
    else (if byte == 0o75 then doubled_form 0o75 Equals TwoEquals more
    else alone (mark_form byte) more))))

-- the form of a text, if it is a single piece
abbrev pub form_of : Bytes → Option Form
form_of [] = None
form_of (byte ∷ more) =
    if is_digit byte then number_form more
    else (if is_name_character byte then all_pass is_name_character (Cut Name) more
    else (if is_blank byte then alone Blank more
    else (if byte == 0o73 then Some Comment
    else marked_form byte more)))

-- a piece is the next one of a text: the text's prefix of the piece's length isn't empty and has the piece's form, and every longer
-- prefix has none
pub record IsNext (piece : Piece) (text : Bytes) : Type 0 where
  pub begins : 0 < piece.length
  pub within : piece.length ≤ length text
  pub form : form_of (take piece.length text) ≡ Some piece.form
  pub longest : (n : ℕ) → piece.length < n → n ≤ length text → form_of (take n text) ≡ None

-- pieces are a cut of a text: each is the next piece of the text that is left after those before it, and nothing is left after the
-- last
abbrev pub IsCut : List Piece → Bytes → Type 0
IsCut [] text = text ≡ []
IsCut (piece ∷ pieces) text = IsNext piece text × IsCut pieces (drop piece.length text)

-- tokens are in order and don't overlap, and none is empty; the first begins at this column or later, and all are within a line of this
-- many characters; without tokens, the column is at most that number
abbrev pub AreOrdered : ℕ → ℕ → List Lexeme → Type 0
AreOrdered size column [] = column ≤ size
AreOrdered size column (token ∷ tokens) =
    (column ≤ token.start) × (token.start < token.end) × AreOrdered size token.end tokens

-- the part of a line that begins at a column, put together from the characters of these tokens and those before, between and
-- after them
abbrev pub joined_from : Bytes → ℕ → List Lexeme → Bytes
joined_from line column [] = drop column line
joined_from line column (token ∷ tokens) =
    text_between line column token.start ++ (token.text ++ joined_from line token.end tokens)
