-- Packing codes into words of RADIX-50. (MACRO-11 Language Reference Manual, ".RAD50 directive".)
use Rattle.std.specs.Prelude.{ℕ, List, [], ◌∷◌, ◌++◌, map}
use Rattle.m11_base.specs.Devices.{Bytes}
use Rattle.m11_asm_directives.specs.declared.packing.Waiting.{Waiting}
use Rattle.m11_asm_directives.specs.declared.packing.Waiting.TheVariants.{Nothing, One, Two}
use Rattle.m11_asm_rules.specs.Contents.{Emission, followed_by, emission}
use Rattle.m11_asm_rules.specs.Strings.{Codes, character_code, character_flags, packed_words}

-- the codes of a word that isn't complete yet
abbrev pub waiting_codes : Waiting → List ℕ
waiting_codes Nothing = []
waiting_codes (One first) = first ∷ []
waiting_codes (Two first second) = first ∷ (second ∷ [])

abbrev pub codes_of : List ℕ → ℕ → Codes
codes_of codes flags = record { codes = codes; flags = flags }

-- the codes of characters, and their flags
abbrev pub text_codes : Bytes → Codes
text_codes text = codes_of (map character_code text) (character_flags text)

-- codes put before others, with the flags of the others
abbrev pub codes_first : List ℕ → Codes → Codes
codes_first codes more = codes_of (codes ++ more.codes) more.flags

-- the words and flags emitted so far, followed by the words that pack the waiting codes and then the codes of `more`, with the flags of
-- `more`
abbrev pub packing : Emission → Waiting → Codes → Emission
packing done waiting more = followed_by done (emission (packed_words (waiting_codes waiting ++ more.codes)) more.flags)
