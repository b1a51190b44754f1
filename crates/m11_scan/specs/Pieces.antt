-- The pieces of a line: tokens, blanks, the comment, and characters that begin no token. (MACRO-11 Language Reference Manual, "Symbols and
-- expressions" and "Character set". Which characters begin no token, and the treatment of `'` and `"` at the end of a line, are this
-- project's own choices.)
use Rattle.std.specs.Prelude.{ℕ, ◌+◌, min, ◌==◌, if◌then◌else◌, [], ◌∷◌, length, drop}
use Rattle.std.specs.List.{prefix_len}
use Rattle.m11_base.specs.Devices.{Bytes}
use Rattle.m11_base.specs.NameCharacters.{folded, is_name_character}
use Rattle.m11_scan.specs.Classes.{is_blank, is_digit}
use Rattle.m11_scan.specs.declared.sort.Sort.{Sort}
use Rattle.m11_scan.specs.declared.sort.Sort.TheVariants.{Name, Number, DecimalNumber, LocalSymbol, Character, TwoCharacters, Packed, BinaryRadix, OctalRadix, DecimalRadix, Complement, Plus, Minus, Times, Over, And, Or, Less, Greater, Percent, NumberSign, At, Open, Close, Comma, Colon, TwoColons, Equals, TwoEquals}
use Rattle.m11_scan.specs.declared.sort.Form.{Form}
use Rattle.m11_scan.specs.declared.sort.Form.TheVariants.{Cut, Blank, Comment, Skipped}
use Rattle.m11_scan.specs.declared.pieces.Piece.{Piece}

-- the form of a character that is a piece by itself: a token, or skipped
abbrev pub mark_form : ℕ → Form
mark_form byte =
    if byte == 0o53 then Cut Plus
    else (if byte == 0o55 then Cut Minus
    else (if byte == 0o52 then Cut Times
    else (if byte == 0o57 then Cut Over
    else (if byte == 0o46 then Cut And
    else (if byte == 0o41 then Cut Or
    else (if byte == 0o74 then Cut Less
    else (if byte == 0o76 then Cut Greater
    else (if byte == 0o45 then Cut Percent
    else (if byte == 0o43 then Cut NumberSign
    else (if byte == 0o100 then Cut At
    else (if byte == 0o50 then Cut Open
    else (if byte == 0o51 then Cut Close
    else (if byte == 0o54 then Cut Comma
    else (if byte == 0o72 then Cut Colon
    else (if byte == 0o75 then Cut Equals
    else Skipped)))))))))))))))

-- a piece that is a token of this sort and length
abbrev pub token : Sort → ℕ → Piece
token sort length = record { form = Cut sort; length = length }

-- a number of this many digits, with the dot or the `$` directly after them if there is one
abbrev pub number_ending : ℕ → Bytes → Piece
number_ending digits [] = token Number digits
number_ending digits (byte ∷ rest) =
    if byte == 0o56 then token DecimalNumber (digits + 1)
    else (if byte == 0o44 then token LocalSymbol (digits + 1) else token Number digits)

abbrev pub number_piece : Bytes → Piece
number_piece text = number_ending (prefix_len is_digit text) (drop (prefix_len is_digit text) text)

-- the piece that begins with a `^` followed by this text: a token if the text begins with B, O, D, C or R, in either case; otherwise the
-- `^` alone, which is skipped
abbrev pub caret_piece : Bytes → Piece
caret_piece [] = record { form = Skipped; length = 1 }
caret_piece (flag ∷ rest) =
    if folded flag == 0o102 then token BinaryRadix 2
    else (if folded flag == 0o117 then token OctalRadix 2
    else (if folded flag == 0o104 then token DecimalRadix 2
    else (if folded flag == 0o103 then token Complement 2
    else (if folded flag == 0o122 then token Packed (prefix_len is_name_character rest + 2)
    else record { form = Skipped; length = 1 }))))

-- a token of this character alone, or of the character doubled if the same one follows it
abbrev pub doubled_piece : ℕ → Sort → Sort → Bytes → Piece
doubled_piece byte single double [] = token single 1
doubled_piece byte single double (next ∷ rest) = if next == byte then token double 2 else token single 1

abbrev pub mark_piece : Bytes → Piece
mark_piece [] = record { form = Skipped; length = 1 }
mark_piece (byte ∷ rest) =
    if byte == 0o47 then token Character (min (length (byte ∷ rest)) 2)
    else (if byte == 0o42 then token TwoCharacters (min (length (byte ∷ rest)) 3)
    else (if byte == 0o136 then caret_piece rest
    else (if byte == 0o72 then doubled_piece 0o72 Colon TwoColons rest
    else (if byte == 0o75 then doubled_piece 0o75 Equals TwoEquals rest
    else record { form = mark_form byte; length = 1 }))))

unfoldable pub first_piece : Bytes → Piece
first_piece [] = record { form = Skipped; length = 1 }
first_piece (byte ∷ rest) =
    if is_digit byte then number_piece (byte ∷ rest)
    else (if is_name_character byte then token Name (prefix_len is_name_character (byte ∷ rest))
    else (if is_blank byte then record { form = Blank; length = 1 }
    else (if byte == 0o73 then record { form = Comment; length = length (byte ∷ rest) }
    else mark_piece (byte ∷ rest))))
