-- Columns of printed lines. (That a byte without a printed form is shown as `?`, and that tabs aren't expanded, are this project's own
-- choices.)
use Rattle.std.specs.Prelude.{ℕ, ◌-◌, ◌==◌, ◌&&◌, ◌||◌, nat_le, if◌then◌else◌, ◌++◌, length, map, replicate}
use Rattle.m11_base.specs.Devices.{Bytes}

abbrev pub blanks : ℕ → Bytes
blanks count = replicate count 0o40

-- a text aligned to the left in a column of this width
abbrev pub at_left : ℕ → Bytes → Bytes
at_left width text = text ++ blanks (width - length text)

-- a text aligned to the right in a column of this width
abbrev pub at_right : ℕ → Bytes → Bytes
at_right width text = blanks (width - length text) ++ text

-- ---- the text of a source line

-- octal 40 to 176 and a tab have a printed form; any other byte is shown as `?`
abbrev pub shown : ℕ → ℕ
shown byte = if (nat_le 0o040 byte && nat_le byte 0o176) || byte == 0o011 then byte else 0o77

abbrev pub printed : Bytes → Bytes
printed text = map shown text
