-- Characters that begin no token. (MACRO-11 Language Reference Manual, "Character set". That such characters are skipped wherever tokens
-- are read is this project's own choice.)
use Rattle.std.specs.Prelude.{ℕ, Bool, true, false, not, ◌==◌, if◌then◌else◌, [], ◌∷◌}
use Rattle.std.specs.List.{list_any}
use Rattle.m11_base.specs.Devices.{Bytes}
use Rattle.m11_scan.specs.Classes.{is_kept}
use Rattle.m11_scan.specs.declared.sort.Form.{Form}
use Rattle.m11_scan.specs.declared.sort.Form.TheVariants.{Skipped}
use Rattle.m11_scan.specs.declared.pieces.Piece.{Piece}
use Rattle.m11_scan.specs.Cutting.{pieces_of, text_between}

abbrev pub is_skipped : Form → Bool
is_skipped Skipped = true
is_skipped _ = false

-- whether any piece of a text is a character that begins no token
abbrev pub has_skipped : Bytes → Bool
has_skipped text = list_any (λ (piece : Piece). is_skipped piece.form) (pieces_of text)

-- whether any character of a text before its comment, if it has one, is `'`, `"`, `^` or a character that begins no token
abbrev pub has_unkept : Bytes → Bool
has_unkept [] = false
has_unkept (byte ∷ text) = if is_kept byte then has_unkept text else not (byte == 0o73)

-- whether any piece of the text between two columns of a line is a character that begins no token
abbrev pub skipped_between : Bytes → ℕ → ℕ → Bool
skipped_between line start end = has_skipped (text_between line start end)
