-- The value of an expression, by itself and at a column of a line. (MACRO-11 Language Reference Manual, "Expressions".)
use Rattle.std.specs.Prelude.{◌≡◌, ℕ, ◌&&◌, Bool, true, false, not, List, [], ◌∷◌, map, filter_map, Option, Some, None}
use Rattle.std.specs.Int.RustNames.{bit_or}
use Rattle.m11_base.specs.Devices.{Bytes}
use Rattle.m11_scan.specs.Cutting.{Lexeme, tokens_from}
use Rattle.m11_scan.specs.Ends.{expression_end, taken_of}
use Rattle.m11_scan.specs.Views.{lexeme}
use Rattle.m11_scan.specs.declared.cutting.Token.{Token}
use Rattle.m11_scan.specs.Expressions.{begin, role_of}
use Rattle.m11_scan.specs.declared.expressions.Role.{Role}
use Rattle.m11_scan.specs.declared.expressions.Role.TheVariants.{Term, Sign, Operator}
use Rattle.m11_scan.specs.declared.radix.Radix.{Radix}
use Rattle.m11_scan_expressions.specs.declared.names.Symbol.{Symbol}
use Rattle.m11_scan_expressions.specs.Operations.{absence}
use Rattle.m11_scan_expressions.specs.Quantities.{Quantity}
use Rattle.m11_scan_expressions.specs.Terms.{plain_item, symbol_in}
use Rattle.m11_scan_expressions.specs.Tokens.{Expression, expression, is_empty}
use Rattle.m11_scan_expressions.specs.Values.{value_of}
use Rattle.m11_scan_expressions.specs.LeftOvers.{skip_flags}

-- what an expression is evaluated with: the radix, and the value of each symbol
pub record KnownSymbols : Type 0 where
  pub radix : Radix
  pub value_of_symbol : Symbol → Quantity

abbrev pub known_by : Radix → (Symbol → Quantity) → KnownSymbols
known_by radix value_of_symbol = record { radix = radix; value_of_symbol = value_of_symbol }

-- the value of an expression
abbrev pub value : KnownSymbols → Expression → Quantity
value known tokens = value_of known.radix (map (plain_item known.value_of_symbol) tokens)

-- the number of an expression's value, whatever its kind
abbrev pub number : KnownSymbols → Expression → ℕ
number known tokens = (value known tokens).number

-- the symbols in an expression, in order
abbrev pub symbols : Expression → List Symbol
symbols tokens = filter_map (λ token. symbol_in token.sort token.text) tokens

-- ---- the expression at a column of a line

-- whether an expression begins at a column: whether the next token can begin one
abbrev pub has_expression : Bytes → ℕ → Bool
has_expression line column = not (is_empty (expression line column))

-- the value of the expression at a column; without an expression, the value of a missing term
abbrev pub value_at : KnownSymbols → Bytes → ℕ → Quantity
value_at known line column = value known (expression line column)

-- the number of the expression at a column, whatever its kind
abbrev pub number_at : KnownSymbols → Bytes → ℕ → ℕ
number_at known line column = number known (expression line column)

-- the flags of the expression at a column: those of its value, R for a register or A for another kind that isn't absolute, and I for a
-- skipped character between the column and its end
abbrev pub number_flags : KnownSymbols → Bytes → ℕ → ℕ
number_flags known line column =
    bit_or (bit_or (value_at known line column).flags (absence (value_at known line column).kind))
    (skip_flags line column (expression_end line column))

-- the symbols in the expression at a column, in order
abbrev pub symbols_at : Bytes → ℕ → List Symbol
symbols_at line column = symbols (expression line column)

-- ---- one token

abbrev pub is_term : Role → Bool
is_term Term = true
is_term role = false

-- whether a token with this role joins the term before it to another term
abbrev pub joins : Role → Bool
joins Sign = true
joins Operator = true
joins role = false

-- whether an expression of one token ends before these tokens
abbrev pub ends_before : List Lexeme → Bool
ends_before [] = true
ends_before (token ∷ tokens) = not (joins (role_of token.sort))

-- whether the expression at the beginning of these tokens is one token, which is a term
abbrev pub is_single : List Lexeme → Bool
is_single [] = false
is_single (token ∷ tokens) = is_term (role_of token.sort) && ends_before tokens

-- whether the token after a term, if there is one, joins this term to another
abbrev pub joins_next : Option Token → Bool
joins_next (Some token) = joins (role_of token.sort)
joins_next None = false

-- a token is a term, and is the whole expression at a column
abbrev pub IsAlone : Bytes → ℕ → Token → Type 0
IsAlone line column term =
    (role_of term.sort ≡ Term) × (taken_of begin (tokens_from line column) ≡ lexeme line term ∷ [])

-- a token is the first one of a line at or after a column
abbrev pub IsNext : Bytes → ℕ → Token → Type 0
IsNext line column token = tokens_from line column ≡ lexeme line token ∷ tokens_from line token.end
