-- Bytes as a case of the suite writes them. (This project's own.)
use Rattle.std.specs.Prelude.{ℕ, ◌+◌, ◌*◌, List, [], ◌∷◌, Option, Some, None, if◌then◌else◌, nat_lt}
use Rattle.std.specs.Char.{digit_value}

-- the value of a character as a digit, if it is one in this base
abbrev pub digit_of : ℕ → ℕ → Option ℕ
digit_of base c = if nat_lt (digit_value c) base then Some (digit_value c) else None

-- the byte that two hexadecimal digits spell; None for any other text
abbrev pub hex_byte : List ℕ → Option ℕ
hex_byte [] = None
hex_byte (high ∷ []) = None
hex_byte (high ∷ low ∷ []) = if nat_lt (digit_value high) 16
    then (if nat_lt (digit_value low) 16 then Some (digit_value high * 16 + digit_value low) else None) else None
hex_byte (high ∷ low ∷ more ∷ rest) = None

-- the byte that three octal digits spell if the first is below 4; None for any other text
abbrev pub octal_byte : List ℕ → Option ℕ
octal_byte [] = None
octal_byte (high ∷ []) = None
octal_byte (high ∷ middle ∷ []) = None
octal_byte (high ∷ middle ∷ low ∷ []) = if nat_lt (digit_value high) 4
    then (if nat_lt (digit_value middle) 8
    then (if nat_lt (digit_value low) 8
    then Some (digit_value high * 64 + (digit_value middle * 8 + digit_value low)) else None) else None) else None
octal_byte (high ∷ middle ∷ low ∷ more ∷ rest) = None
