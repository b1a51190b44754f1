-- Tokens as parts of an expression: their sorts, and their values as terms. (MACRO-11 Language Reference Manual, "Terms", "Symbols", "Local
-- symbols", "Current location counter", "Numbers", "ASCII conversion" and "Radix-50 operator". That a term with too few characters is
-- missing, and that a local symbol outside 1 to 65535 is 0, flagged A, are this project's own choices.)
use Rattle.std.specs.Prelude.{◌+◌, ◌-◌, ◌*◌, ◌%◌, ◌==◌, if◌then◌else◌, Bool, false, [], ◌∷◌, length, take, Option, Some, None, option_map, unwrap_or}
use Rattle.m11_base.specs.Devices.{Bytes}
use Rattle.m11_base.specs.NameCharacters.{six_of}
use Rattle.m11_base.specs.Rad50.{name_of}
use Rattle.m11_scan.specs.Cutting.{Lexeme}
use Rattle.m11_scan.specs.ErrorFlags.{flag_A}
use Rattle.m11_scan.specs.Names.{packed_flags, packed_word}
use Rattle.m11_scan.specs.Numbers.{number_flags, number_of}
use Rattle.m11_scan.specs.declared.radix.Radix.{Radix}
use Rattle.m11_scan.specs.declared.radix.Radix.TheVariants.{Decimal}
use Rattle.m11_scan.specs.declared.sort.Sort.{Sort}
use Rattle.m11_scan.specs.declared.sort.Sort.TheVariants as sorts
use Rattle.m11_scan_expressions.specs.declared.names.Symbol.{Symbol}
use Rattle.m11_scan_expressions.specs.declared.names.Symbol.TheVariants.{Ordinary, Local, Counter}
use Rattle.m11_scan_expressions.specs.Quantities.{Quantity, absolute, missing}
use Rattle.m11_scan_expressions.specs.Tokens.{PlainToken, plain}

-- a term of one token: digits, whose value depends on the radix, or a value
pub data Atom : Type 0 where
  Digits : Bytes → Atom
  Fixed : Quantity → Atom

-- a token as part of an expression
pub record Item : Type 0 where
  pub sort : Sort
  pub atom : Atom

-- the value of digits in a radix, with the flags of the number
abbrev pub number : Radix → Bytes → Quantity
number radix digits = absolute (number_of radix digits % 65536) (number_flags radix digits)

abbrev pub atom_value : Radix → Atom → Quantity
atom_value radix (Digits digits) = number radix digits
atom_value radix (Fixed value) = value

abbrev pub is_counter : Bytes → Bool
is_counter (byte ∷ []) = byte == 0o56
is_counter text = false

abbrev pub name_symbol : Bytes → Option Symbol
name_symbol text = if is_counter text then Some Counter else option_map Ordinary (name_of (six_of text))

-- all but the last character
abbrev pub front_of : Bytes → Bytes
front_of text = take (length text - 1) text

-- the local symbol with this number; none for 0, or for a flagged number, which was over 65535
abbrev pub local_of : Quantity → Option Symbol
local_of value = if value.number == 0 then None else (if value.flags == 0 then Some (Local value.number) else None)

abbrev pub local_symbol : Bytes → Option Symbol
local_symbol digits = local_of (number Decimal digits)

-- the symbol that a token refers to, if it refers to one
abbrev pub symbol_in : Sort → Bytes → Option Symbol
symbol_in sorts.Name text = name_symbol text
symbol_in sorts.LocalSymbol text = local_symbol (front_of text)
symbol_in sort text = None

-- the value of `'` and a character; that of a missing term if there is no character
abbrev pub character : Bytes → Quantity
character (mark ∷ first ∷ rest) = absolute first 0
character text = missing

-- the value of `"` and two characters, the first one in the low byte; that of a missing term if there are fewer characters
abbrev pub two_characters : Bytes → Quantity
two_characters (mark ∷ first ∷ second ∷ rest) = absolute (first + 256 * second) 0
two_characters text = missing

-- the value of `^R` and the characters after it; that of a missing term if there are no characters
abbrev pub packed : Bytes → Quantity
packed (mark ∷ flag ∷ characters) = absolute (packed_word characters) (packed_flags characters)
packed text = missing

-- a token of this sort and text as a term; a token that isn't a term counts as a missing one
abbrev pub atom_of : (Symbol → Quantity) → Sort → Bytes → Atom
atom_of value_of_symbol sorts.Name text = Fixed (unwrap_or (option_map value_of_symbol (name_symbol text)) missing)
atom_of value_of_symbol sorts.LocalSymbol text =
    Fixed (unwrap_or (option_map value_of_symbol (local_symbol (front_of text))) (absolute 0 flag_A))
atom_of value_of_symbol sorts.Number text = Digits text
atom_of value_of_symbol sorts.DecimalNumber text = Fixed (number Decimal (front_of text))
atom_of value_of_symbol sorts.Character text = Fixed (character text)
atom_of value_of_symbol sorts.TwoCharacters text = Fixed (two_characters text)
atom_of value_of_symbol sorts.Packed text = Fixed (packed text)
atom_of value_of_symbol sort text = Fixed missing

abbrev pub plain_item : (Symbol → Quantity) → PlainToken → Item
plain_item value_of_symbol token = record { sort = token.sort; atom = atom_of value_of_symbol token.sort token.text }

abbrev pub item : (Symbol → Quantity) → Lexeme → Item
item value_of_symbol token = plain_item value_of_symbol (plain token)
