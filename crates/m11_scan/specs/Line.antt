-- The characters of one line. (MACRO-11 Language Reference Manual, "Source program format": a line has at most 132 characters; that the
-- rest is dropped is this project's own choice.)
use Rattle.std.specs.Prelude.{ℕ, Bool, false, nat_lt, ◌||◌, [], ◌++◌, length, take}
use Rattle.m11_base.specs.Devices.{Bytes}

-- the stored characters, and whether there were more
pub record SourceLine : Type 0 where
  pub text : Bytes
  pub is_over_long : Bool

abbrev pub line_limit : ℕ
line_limit = 132

abbrev pub no_line : SourceLine
no_line = record { text = []; is_over_long = false }

-- a line of the first 132 of these characters; the line is over-long if there are more
abbrev pub line_of : Bytes → SourceLine
line_of bytes = record { text = take line_limit bytes; is_over_long = nat_lt line_limit (length bytes) }

-- a line with these characters added, up to 132 in all; it is over-long if it was before or if there are more than 132
abbrev pub with_bytes : SourceLine → Bytes → SourceLine
with_bytes line bytes = record {
  text = take line_limit (line.text ++ bytes);
  is_over_long = line.is_over_long || nat_lt line_limit (length (line.text ++ bytes));
}
