-- Classes of the characters of a source. (MACRO-11 Language Reference Manual, "Character set", ".ASCII directive" and "Arguments
-- in macro definitions and macro calls". `NameCharacters` of m11_base defines the characters of names. Three things are this project's own:
-- which characters are never skipped, which have no printed form, and which a line contains unchanged.)
use Rattle.std.specs.Prelude.{ℕ, Bool, not, ◌||◌, ◌&&◌, ◌==◌, nat_le, nat_lt, codes}
use Rattle.std.specs.List.{list_any}
use Rattle.m11_base.specs.NameCharacters.{is_name_character}
use Rattle.m11_scan.specs.declared.classes.Class.{Class}
use Rattle.m11_scan.specs.declared.classes.Class.TheVariants.{Blank, Digit, Name, Kept, Bare, Unprinted, Plain}

-- a blank or a tab
abbrev pub is_blank : ℕ → Bool
is_blank byte = byte == 0o40 || byte == 0o11

abbrev pub is_digit : ℕ → Bool
is_digit byte = nat_le 0o60 byte && nat_le byte 0o71

-- a character that is a token by itself, though `:` and `=` may also be doubled
abbrev pub is_mark : ℕ → Bool
is_mark byte = list_any (λ mark. byte == mark) (codes "+-*/&!<>%#@(),:=")

-- a blank, a tab, or a character other than `'`, `"` and `^` that begins a token: none of these is ever skipped
abbrev pub is_kept : ℕ → Bool
is_kept byte = is_name_character byte || is_blank byte || is_mark byte

-- a character of an actual without brackets: any but a blank, a tab, `,` and `;`
abbrev pub is_bare : ℕ → Bool
is_bare byte = not (is_blank byte || (byte == 0o54 || byte == 0o73))

-- a blank, or a character without a printed form
abbrev pub is_unprinted : ℕ → Bool
is_unprinted byte = nat_le byte 0o40 || nat_lt 0o176 byte

-- any byte but NUL, line feed, form feed and CR
abbrev pub is_plain : ℕ → Bool
is_plain byte = not (byte == 0 || byte == 0o12 || byte == 0o14 || byte == 0o15)

-- whether a byte is in a class
abbrev pub is_of : Class → ℕ → Bool
is_of Blank = is_blank
is_of Digit = is_digit
is_of Name = is_name_character
is_of Kept = is_kept
is_of Bare = is_bare
is_of Unprinted = is_unprinted
is_of Plain = is_plain

-- the bit of a class in an entry of the table of classes
abbrev pub bit_of : Class → ℕ
bit_of Blank = 0o001
bit_of Digit = 0o002
bit_of Name = 0o004
bit_of Kept = 0o010
bit_of Bare = 0o020
bit_of Unprinted = 0o040
bit_of Plain = 0o100
