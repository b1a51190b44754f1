-- Words as octal digits, and the words that octal digits spell. (MACRO-11 Language Reference Manual, "Numbers", for the digits; two things
-- are this project's own: that a text may have any number of leading zeros, and the faults with their order.)
use Rattle.std.specs.Prelude.{ℕ, ◌+◌, ◌-◌, ◌*◌, ◌/◌, ◌%◌, ◌^◌, List, [], ◌∷◌, length, map, codes, Bool, ◌&&◌, not, IsTrue, nat_le, nat_lt, if◌then◌else◌, Result, Ok, Err}
use Rattle.std.specs.List.{list_all, list_any}
use Rattle.m11_base.specs.declared.fault.OctalFault.{OctalFault}
use Rattle.m11_base.specs.declared.fault.OctalFault.TheVariants.{Empty, BadDigit, TooLarge}

-- the character is a digit from `0` to `7`
abbrev pub is_octal_digit : ℕ → Bool
is_octal_digit character = nat_le 0o60 character && nat_le character 0o67

-- every character is an octal digit
abbrev pub HasOnlyDigits : List ℕ → Type 0
HasOnlyDigits text = IsTrue (list_all is_octal_digit text)

-- some character isn't an octal digit
abbrev pub HasBadDigit : List ℕ → Type 0
HasBadDigit text = IsTrue (list_any (λ character. not (is_octal_digit character)) text)

-- the number that octal digits spell: each digit counts for its value times 8 to the power of the number of digits after it
abbrev pub octal_value : List ℕ → ℕ
octal_value [] = 0
octal_value (digit ∷ digits) = (digit - 0o60) * 8 ^ length digits + octal_value digits

-- a number as a word, or `TooLarge` if it doesn't fit one
abbrev pub word_of_number : ℕ → Result ℕ OctalFault
word_of_number number = if nat_lt number 0o200000 then Ok number else Err TooLarge

-- the word that a text spells, or the lowest-numbered fault that applies
abbrev pub octal_of : List ℕ → Result ℕ OctalFault
octal_of [] = Err Empty
octal_of (first ∷ rest) =
    if list_all is_octal_digit (first ∷ rest) then word_of_number (octal_value (first ∷ rest))
    else Err BadDigit

-- the octal digit of a word at an index, in ASCII; index 0 is the last digit
abbrev pub octal_digit : ℕ → ℕ → ℕ
octal_digit word index = 0o60 + word / 8 ^ index % 8

-- a word as six octal digits
abbrev pub octal_text : ℕ → List ℕ
octal_text word = map (octal_digit word) (5 ∷ 4 ∷ 3 ∷ 2 ∷ 1 ∷ 0 ∷ [])

-- the number by which a fault is reported
abbrev pub fault_number : OctalFault → ℕ
fault_number Empty = 1
fault_number BadDigit = 2
fault_number TooLarge = 3

abbrev pub fault_name : OctalFault → List ℕ
fault_name Empty = codes "Empty"
fault_name BadDigit = codes "BadDigit"
fault_name TooLarge = codes "TooLarge"
