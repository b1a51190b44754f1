-- Conditions that are refused because the condition's name is missing or unknown, or an argument is bad or missing. (MACRO-11 Language
-- Reference Manual, "Conditional assembly block directives". The effect of bad and missing arguments is this project's own.)
use Rattle.std.specs.Prelude.{◌≡◌, ℕ, Bool, true, false, List, [], ◌∷◌, Some, None}
use Rattle.std.specs.Int.RustNames.{bit_and}
use Rattle.m11_unfold_rules.specs.Conditions.{condition_of}
use Rattle.m11_unfold_rules.specs.Definedness.{joining}
use Rattle.m11_scan_expressions.specs.Expressions.{has_expression}
use Rattle.m11_unfold_rules.specs.declared.definedness.Joint.{Joint}
use Rattle.m11_base.specs.Devices.{Bytes}
use Rattle.m11_scan.specs.Cutting.{Lexeme, tokens_from}
use Rattle.m11_scan.specs.declared.conditions.Condition.{Condition}
use Rattle.m11_scan.specs.declared.conditions.Condition.TheVariants.{Zero, NotZero, Positive, Negative, NotNegative, NotPositive, Defined, NotDefined, Identical, Different}
use Rattle.m11_scan_statements.specs.Actuals.{next_actual, separator_at}
use Rattle.m11_scan_statements.specs.declared.actuals.Actual.{Actual}
use Rattle.m11_scan_expressions.specs.declared.names.Symbol.{Symbol}
use Rattle.m11_scan_expressions.specs.Terms.{symbol_in}

-- this flag is in the set
abbrev pub HasFlag : ℕ → ℕ → Type 0
HasFlag flag flags = bit_and flags flag ≡ flag

-- whether a condition needs a number: EQ, NE, GT, LT, GE and LE do
abbrev pub asks_number : Condition → Bool
asks_number Zero = true
asks_number NotZero = true
asks_number Positive = true
asks_number Negative = true
asks_number NotNegative = true
asks_number NotPositive = true
asks_number condition = false

-- whether a condition needs names: DF and NDF do
abbrev pub asks_names : Condition → Bool
asks_names Defined = true
asks_names NotDefined = true
asks_names condition = false

-- whether a condition needs two texts: IDN and DIF do
abbrev pub asks_texts : Condition → Bool
asks_texts Identical = true
asks_texts Different = true
asks_texts condition = false

-- the tokens are names with `&` or `!` between them, up to a name that is missing or isn't a symbol
pub data HasBadName : List Lexeme → Type 0 where
  MissingName : HasBadName []
  NoName : (token : Lexeme) (tokens : List Lexeme) → symbol_in token.sort token.text ≡ None → HasBadName (token ∷ tokens)
  LaterName : (name mark : Lexeme) (tokens : List Lexeme) (symbol : Symbol) (joint : Joint)
      → symbol_in name.sort name.text ≡ Some symbol → joining mark.sort ≡ Some joint → HasBadName tokens
      → HasBadName (name ∷ (mark ∷ tokens))

-- the first text is followed neither by a second text nor by a comma
pub record IsSingleText (line : Bytes) (first : Actual) : Type 0 where
  pub second : next_actual line (separator_at line first.end).end false ≡ None
  pub comma : (separator_at line first.end).has_comma ≡ false

-- an argument of a condition is bad or missing; the arguments begin at the column
pub data LacksArgument (line : Bytes) (column : ℕ) (condition : Condition) : Type 0 where
  WithoutNumber : asks_number condition ≡ true → has_expression line column ≡ false → LacksArgument line column condition
  WithBadName : asks_names condition ≡ true → HasBadName (tokens_from line column) → LacksArgument line column condition
  WithoutText : asks_texts condition ≡ true → next_actual line column false ≡ None → LacksArgument line column condition
  WithOneText : asks_texts condition ≡ true → (first : Actual) → next_actual line column false ≡ Some first
      → IsSingleText line first → LacksArgument line column condition

-- a condition that begins at a column is refused
pub data IsRefused (line : Bytes) (column : ℕ) : Type 0 where
  -- no token is left there
  Unnamed : tokens_from line column ≡ [] → IsRefused line column
  -- the first token isn't the name of a condition
  Unknown : (name : Lexeme) (tokens : List Lexeme) → tokens_from line column ≡ name ∷ tokens
      → condition_of name.sort name.text ≡ None → IsRefused line column
  -- an argument after the name is bad or missing
  Lacking : (name : Lexeme) (tokens : List Lexeme) (condition : Condition) → tokens_from line column ≡ name ∷ tokens
      → condition_of name.sort name.text ≡ Some condition
      → LacksArgument line (separator_at line name.end).end condition → IsRefused line column
