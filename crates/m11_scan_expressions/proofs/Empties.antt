-- There is no expression where the next token can't begin one.
use Rattle.std.proofs.Common.{◌≡◌, ◌∙◌, ℕ, false, List, [], ◌∷◌, map, take, Option, Some, None, refl, ap, sym, true≢false}
use Rattle.std.specs.Option.{is_some}
use Rattle.m11_scan.specs.Cutting.{Lexeme, tokens_from}
use Rattle.m11_scan.specs.Ends.{column_after, expression_end, sort_in, taken_of}
use Rattle.m11_scan.specs.Expressions.{begin, count_from, goes_on, role_of, taken}
use Rattle.m11_scan.specs.Views.{lexeme}
use Rattle.m11_scan.specs.declared.cutting.Token.{Token}
use Rattle.m11_scan.specs.declared.expressions.Within.{Within}
use Rattle.m11_scan_expressions.specs.Expressions.{IsAlone, KnownSymbols, value}
use Rattle.m11_scan_expressions.specs.Quantities.{missing}
use Rattle.m11_scan_expressions.specs.Tokens.{expression, plain}
use Rattle.m11_scan_expressions.specs.Values.{value_of}

no_more : {A : Type 0} (found : Option A) → is_some found ≡ false → found ≡ None
no_more None is = refl
no_more (Some found) is = absurd (true≢false is)

nothing_taken : (token : Lexeme) (tokens : List Lexeme) → is_some (goes_on (role_of token.sort) begin) ≡ false
    → taken_of begin (token ∷ tokens) ≡ []
nothing_taken token tokens is =
    ap (λ (found : Option Within). take (count_from found (λ next. taken (map sort_in tokens) next)) (token ∷ tokens))
    (no_more (goes_on (role_of token.sort) begin) is)

-- the value of an expression without tokens is that of a missing term
pub none_value : (known : KnownSymbols) → missing ≡ value known []
unfolding value_of
none_value known = refl

module _ (line : List ℕ) (column : ℕ) where
  -- there is no expression at a column before a token that can't begin one, or after the last token
  pub none_before : (token : Lexeme) (tokens : List Lexeme) → tokens_from line column ≡ token ∷ tokens
      → is_some (goes_on (role_of token.sort) begin) ≡ false → expression line column ≡ []
  none_before token tokens e is =
      ap (λ (l : List Lexeme). map plain (taken_of begin l)) e ∙ ap (λ (l : List Lexeme). map plain l) (nothing_taken token tokens is)

  pub none_at_end : tokens_from line column ≡ [] → expression line column ≡ []
  none_at_end e = ap (λ (l : List Lexeme). map plain (taken_of begin l)) e

  none_of : (tokens : List Lexeme) → map plain tokens ≡ [] → tokens ≡ []
  none_of [] e = refl
  none_of (token ∷ tokens) e = absurd (cc)

  pub ends_there : expression line column ≡ [] → expression_end line column ≡ column
  ends_there e =
      ap (λ (l : List Lexeme). column_after column l) (none_of (taken_of begin (tokens_from line column)) e)

  -- if an expression is a single term, it consists of this token
  pub one_term : (term : Token) → IsAlone line column term → plain (lexeme line term) ∷ [] ≡ expression line column
  one_term term alone = ap (λ (l : List Lexeme). map plain l) (sym alone.1)
