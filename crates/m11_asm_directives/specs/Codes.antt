-- Characters of RADIX-50. (MACRO-11 Language Reference Manual, appendix on the RADIX-50 character set.)
use Rattle.std.specs.Prelude.{ℕ, nat_lt, if◌then◌else◌, length, slice_index, Option, Some, None}
use Rattle.m11_base.specs.Devices.{Bytes}
use Rattle.m11_base.specs.Rad50.{code_of}

abbrev pub coded_by : ℕ → Option ℕ → ℕ
coded_by character (Some code) = character
coded_by character None = 0o40

-- a character if it has a code, or else a blank
abbrev pub coded : ℕ → ℕ
coded character = coded_by character (code_of character)

-- the character of a text at an index; a blank if that character has no code, or if the text ends before the index
abbrev pub coded_at : Bytes → ℕ → ℕ
coded_at text location = if nat_lt location (length text) then coded (slice_index text location) else 0o40
