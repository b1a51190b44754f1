-- An expression by itself: its tokens, without their columns. (MACRO-11 Language Reference Manual, "Expressions".)
use Rattle.std.specs.Prelude.{ℕ, Bool, true, false, List, [], ◌∷◌, map}
use Rattle.m11_base.specs.Devices.{Bytes}
use Rattle.m11_scan.specs.Cutting.{Lexeme, tokens_from}
use Rattle.m11_scan.specs.Ends.{taken_of}
use Rattle.m11_scan.specs.Expressions.{begin}
use Rattle.m11_scan.specs.Views.{lexeme}
use Rattle.m11_scan.specs.declared.sort.Sort.{Sort}
use Rattle.m11_scan_expressions.specs.declared.exprs.Expr.{Expr}
use Rattle.m11_scan_expressions.specs.declared.exprs.Expr.TheVariants.{Empty, Term, Tokens}

-- the sort of a token, and its characters
pub record PlainToken : Type 0 where
  pub sort : Sort
  pub text : Bytes

abbrev pub plain : Lexeme → PlainToken
plain token = record { sort = token.sort; text = token.text }

-- an expression: the list of its tokens
abbrev pub Expression : Type 0
Expression = List PlainToken

-- whether an expression has no tokens
abbrev pub is_empty : Expression → Bool
is_empty [] = true
is_empty (token ∷ tokens) = false

-- the expression that begins at a column of a line
abbrev pub expression : Bytes → ℕ → Expression
expression line column = map plain (taken_of begin (tokens_from line column))

-- the expression that the code's value represents
abbrev pub expression_of : Bytes → Expr → Expression
expression_of line Empty = []
expression_of line (Term token) = plain (lexeme line token) ∷ []
expression_of line (Tokens column) = expression line column
