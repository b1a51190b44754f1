-- Numbers in a source: octal, without leading zeros. (MACRO-11 Language Reference Manual, "Numbers". Omitting leading zeros is this
-- project's own choice.)
use Rattle.std.specs.Prelude.{ℕ, ◌==◌, ◌&&◌, nat_lt, if◌then◌else◌, [], ◌∷◌, length}
use Rattle.m11_base.specs.Devices.{Bytes}
use Rattle.m11_base.specs.Octal.{octal_text}

-- digits without leading zeros; the last digit remains even if it is 0
abbrev pub significant : Bytes → Bytes
significant [] = []
significant (digit ∷ digits) = if digit == 48 && nat_lt 0 (length digits) then significant digits else digit ∷ digits

-- a word in octal digits, without leading zeros
abbrev pub number_text : ℕ → Bytes
number_text word = significant (octal_text word)

-- `+` and a distance in octal, or nothing if it is 0
abbrev pub distance_text : ℕ → Bytes
distance_text distance = if distance == 0 then [] else 43 ∷ number_text distance
