-- The end of an expression in a line, and its tokens. (MACRO-11 Language Reference Manual, "Expressions".)
use Rattle.std.specs.Prelude.{ℕ, List, [], ◌∷◌, map, take}
use Rattle.m11_base.specs.Devices.{Bytes}
use Rattle.m11_scan.specs.declared.expressions.Within.{Within}
use Rattle.m11_scan.specs.declared.sort.Sort.{Sort}
use Rattle.m11_scan.specs.Cutting.{Lexeme, tokens_from}
use Rattle.m11_scan.specs.Expressions.{begin, taken}

abbrev pub sort_in : Lexeme → Sort
sort_in token = token.sort

-- the column after the last of these tokens, or this column if there are none
abbrev pub column_after : ℕ → List Lexeme → ℕ
column_after column [] = column
column_after column (token ∷ tokens) = column_after token.end tokens

-- the longest prefix of these tokens that continues an expression in this state
abbrev pub taken_of : Within → List Lexeme → List Lexeme
taken_of within tokens = take (taken (map sort_in tokens) within) tokens

-- the column after the expression at a column of a line, or that column itself if none begins there
abbrev pub expression_end : Bytes → ℕ → ℕ
expression_end line column = column_after column (taken_of begin (tokens_from line column))

-- the tokens of the expression at a column of a line; none if no expression begins there
abbrev pub expression_at : Bytes → ℕ → List Lexeme
expression_at line column = taken_of begin (tokens_from line column)
