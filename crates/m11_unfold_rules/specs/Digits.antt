-- The digits of a number. (MACRO-11 Language Reference Manual, "Numeric arguments passed as symbols" and "Automatic creation of local
-- symbols".)
use Rattle.std.specs.Prelude.{ℕ, zero, suc, ◌+◌, ◌/◌, ◌%◌, nat_lt, if◌then◌else◌, [], ◌∷◌, ◌++◌}
use Rattle.m11_base.specs.Devices.{Bytes}

-- the last `bound` digits of a number in a base, or all of them if it has fewer
abbrev pub last_digits : ℕ → ℕ → ℕ → Bytes
last_digits zero base number = []
last_digits (suc bound) base number =
    if nat_lt number base then (0o60 + number) ∷ [] else last_digits bound base (number / base) ++ (0o60 + number % base) ∷ []

-- the digits of a word in a base, without leading zeros: at most 16
abbrev pub digits_of : ℕ → ℕ → Bytes
digits_of base number = last_digits 16 base number
