-- An expression begins at a token exactly if the token can begin one.
use Rattle.std.proofs.Common.{◌≡◌, ℕ, take, List, ◌∷◌, Option, Some, None, refl, map, not}
use Rattle.std.specs.Option.{is_some}
use Rattle.m11_scan_expressions.specs.Tokens.{is_empty, plain}
use Rattle.m11_scan.specs.Cutting.{Lexeme}
use Rattle.m11_scan.specs.Ends.{sort_in, taken_of}
use Rattle.m11_scan.specs.Expressions.{begin, count_from, goes_on, role_of, taken}
use Rattle.m11_scan.specs.declared.expressions.Within.{Within}

goes : (next : Option Within) (count : Within → ℕ) (token : Lexeme) (tokens : List Lexeme)
    → is_some next ≡ not (is_empty (map plain (take (count_from next count) (token ∷ tokens))))
goes None count token tokens = refl
goes (Some column) count token tokens = refl

pub begins : (token : Lexeme) (tokens : List Lexeme)
    → is_some (goes_on (role_of token.sort) begin) ≡ not (is_empty (map plain (taken_of begin (token ∷ tokens))))
begins token tokens =
    goes (goes_on (role_of token.sort) begin) (λ next. taken (map sort_in tokens) next) token tokens
