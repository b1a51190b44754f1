-- A line whose end hasn't been read, in bounded memory. (This project's own.)
use Rattle.std.specs.Prelude.{ℕ, Bool, true, false, ◌==◌, if◌then◌else◌, [], ◌∷◌}
use Rattle.m11_base.specs.Devices.{Bytes}
use Rattle.m11_scan.specs.Line.{SourceLine, no_line, with_bytes}
use Rattle.m11_scan.specs.Lines.{as_read, is_empty}

-- the characters so far without a trailing CR, and whether there is such a CR, which may belong to the end of the line
pub record OpenLine : Type 0 where
  pub kept : SourceLine
  pub has_return : Bool

abbrev pub nothing_open : OpenLine
nothing_open = record { kept = no_line; has_return = false }

-- the line with the trailing CR, if there is one, as its last character
abbrev pub with_return : OpenLine → SourceLine
with_return line = if line.has_return then with_bytes line.kept (13 ∷ []) else line.kept

-- the line with the CR that was held back, if there is one, and then these bytes added unchanged; without bytes nothing is added
abbrev pub with_plain : OpenLine → Bytes → OpenLine
with_plain line [] = line
with_plain line (byte ∷ bytes) = record { kept = with_bytes (with_return line) (byte ∷ bytes); has_return = false }

-- the line after one more byte, which isn't a line feed. A NUL changes nothing. Before any other byte the CR that was held back, if
-- there is one, becomes a character of the line; a CR is then held back in its turn, and a form feed becomes a blank
abbrev pub with_byte : OpenLine → ℕ → OpenLine
with_byte line byte =
    if byte == 0 then line
    else if byte == 13 then record { kept = with_return line; has_return = true }
    else record { kept = with_bytes (with_return line) (as_read byte ∷ []); has_return = false }

abbrev pub with_all : OpenLine → Bytes → OpenLine
with_all line [] = line
with_all line (byte ∷ bytes) = with_all (with_byte line byte) bytes

-- whether nothing but NULs has been read, not even a CR
abbrev pub is_unbegun : OpenLine → Bool
is_unbegun line = if line.has_return then false else is_empty line.kept.text
