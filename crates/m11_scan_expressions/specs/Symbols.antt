-- The symbols in an expression, and tokens that differ only in the case of letters. (MACRO-11 Language Reference Manual,
-- "Symbols" and "Character set".)
use Rattle.std.specs.Prelude.{◌≡◌, List, [], ◌∷◌, map, filter_map}
use Rattle.m11_base.specs.Devices.{Bytes}
use Rattle.m11_base.specs.NameCharacters.{folded}
use Rattle.m11_scan.specs.Cutting.{Lexeme, text_between}
use Rattle.m11_scan.specs.declared.cutting.Token.{Token}
use Rattle.m11_scan.specs.declared.sort.Sort.{Sort}
use Rattle.m11_scan.specs.declared.sort.Sort.TheVariants.{Name, Packed, BinaryRadix, OctalRadix, DecimalRadix, Complement}
use Rattle.m11_scan_expressions.specs.declared.names.Symbol.{Symbol}
use Rattle.m11_scan_expressions.specs.Quantities.{Quantity}
use Rattle.m11_scan_expressions.specs.Terms.{symbol_in}

-- the symbols in these tokens of a line, in order
abbrev pub symbols_of : Bytes → List Token → List Symbol
symbols_of line tokens = filter_map (λ token. symbol_in token.sort (text_between line token.start token.end)) tokens

-- two functions give these symbols the same values
abbrev pub AgreeOn : List Symbol → (Symbol → Quantity) → (Symbol → Quantity) → Type 0
AgreeOn [] first second = Unit {0}
AgreeOn (symbol ∷ symbols) first second = (first symbol ≡ second symbol) × AgreeOn symbols first second

-- two texts of tokens of this sort differ at most in the case of letters, and only where case has no meaning: in names, after `^R`,
-- and in `^B`, `^O`, `^D` and `^C`
abbrev pub IsSameText : Sort → Bytes → Bytes → Type 0
IsSameText Name first second = map folded first ≡ map folded second
IsSameText Packed first second = map folded first ≡ map folded second
IsSameText BinaryRadix first second = map folded first ≡ map folded second
IsSameText OctalRadix first second = map folded first ≡ map folded second
IsSameText DecimalRadix first second = map folded first ≡ map folded second
IsSameText Complement first second = map folded first ≡ map folded second
IsSameText sort first second = first ≡ second

-- two lists of tokens have the same sorts, and texts that differ at most in the case of letters where case has no meaning
pub data AreSame : List Lexeme → List Lexeme → Type 0 where
  NoToken : AreSame [] []
  OneMore : (first second : Lexeme) (firsts seconds : List Lexeme) → first.sort ≡ second.sort
      → IsSameText first.sort first.text second.text → AreSame firsts seconds → AreSame (first ∷ firsts) (second ∷ seconds)
