-- The texts of plain lines, and inputs made of such lines.
use Rattle.std.specs.Prelude.{◌≡◌, ⊤, true, List, [], ◌∷◌, ◌++◌}
use Rattle.m11_base.specs.Devices.{Bytes}
use Rattle.m11_scan.specs.Lines.{RawLine}
use Rattle.m11_scan.specs.Classes.{is_plain}

-- a text without NULs, line feeds, form feeds or CRs
abbrev pub IsPlainText : Bytes → Type 0
IsPlainText [] = ⊤
IsPlainText (byte ∷ text) = (is_plain byte ≡ true) × IsPlainText text

abbrev pub ArePlainTexts : List Bytes → Type 0
ArePlainTexts [] = ⊤
ArePlainTexts (text ∷ texts) = IsPlainText text × ArePlainTexts texts

-- lines, each followed by a line feed
abbrev pub written : List Bytes → Bytes
written [] = []
written (line ∷ lines) = line ++ 0o12 ∷ written lines

abbrev pub with_line_feed : Bytes → RawLine
with_line_feed line = record { bytes = line; has_line_feed = true }
