-- Names, and the characters after `^R`. (MACRO-11 Language Reference Manual, "Symbols": the first six characters of a name count; "Radix-50
-- operator": `^R` packs three.) `NameCharacters` of m11_base defines the six characters of a name, and `Rad50` their words.
use Rattle.std.specs.Prelude.{ℕ, Bool, [], ◌∷◌, map, unwrap_or}
use Rattle.std.specs.List.{list_all}
use Rattle.m11_base.specs.Devices.{Bytes}
use Rattle.m11_base.specs.NameCharacters.{character_at, is_name_character}
use Rattle.m11_base.specs.Rad50.{packed_at}
use Rattle.m11_scan.specs.ErrorFlags.{flag_Q}

-- whether a text has nothing but letters, digits, `$` and `.`
abbrev pub has_name_characters_alone : Bytes → Bool
has_name_characters_alone text = list_all is_name_character text

-- the word of the characters after `^R`: the first three in upper case, padded with blanks; 0 if one of them has no code
abbrev pub packed_word : Bytes → ℕ
packed_word characters = unwrap_or (packed_at (map (character_at characters) (0 ∷ 1 ∷ 2 ∷ [])) 0) 0

-- Q if no characters follow `^R`, otherwise no flags
abbrev pub packed_flags : Bytes → ℕ
packed_flags [] = flag_Q
packed_flags (character ∷ characters) = 0
