-- The characters of names in a source: which ones a name may have, and the six that count. (MACRO-11 Language Reference Manual,
-- "Symbols".)
use Rattle.std.specs.Prelude.{ℕ, ◌-◌, Bool, ◌&&◌, ◌||◌, ◌==◌, nat_le, nat_lt, if◌then◌else◌, List, [], ◌∷◌, length, map, slice_index}

-- the character is a letter of either case, a digit, `$` or `.`
abbrev pub is_name_character : ℕ → Bool
is_name_character byte = (nat_le 0o101 byte && nat_le byte 0o132) || ((nat_le 0o141 byte && nat_le byte 0o172)
    || ((nat_le 0o60 byte && nat_le byte 0o71) || (byte == 0o44 || byte == 0o56)))

-- a character in upper case
abbrev pub folded : ℕ → ℕ
folded byte = if nat_le 0o141 byte && nat_le byte 0o172 then byte - 0o40 else byte

-- the character of a text at an index, in upper case; a blank past the end of the text
abbrev pub character_at : List ℕ → ℕ → ℕ
character_at text index = if nat_lt index (length text) then folded (slice_index text index) else 0o40

-- the six characters that count: the first six of a text in upper case, padded with blanks
abbrev pub six_of : List ℕ → List ℕ
six_of text = map (character_at text) (0 ∷ 1 ∷ 2 ∷ 3 ∷ 4 ∷ 5 ∷ [])
