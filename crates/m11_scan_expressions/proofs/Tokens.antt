-- Tokens of the code, and the tokens of the definitions that they represent.
use Rattle.std.proofs.Common.{◌≡◌, ◌∙◌, List, [], ◌∷◌, map, refl, ap}
use Rattle.std.specs.List.{cons_option}
use Rattle.m11_base.specs.Devices.{Bytes}
use Rattle.m11_scan.specs.Cutting.{Lexeme, text_between}
use Rattle.m11_scan.specs.Views.{lexeme}
use Rattle.m11_scan.specs.declared.cutting.Token.{Token}
use Rattle.m11_scan.specs.declared.radix.Radix.{Radix}
use Rattle.m11_scan_expressions.specs.declared.names.Symbol.{Symbol}
use Rattle.m11_scan_expressions.specs.Quantities.{Quantity}
use Rattle.m11_scan_expressions.specs.Symbols.{symbols_of}
use Rattle.m11_scan_expressions.specs.Terms.{Item, plain_item, symbol_in}
use Rattle.m11_scan_expressions.specs.Tokens.{plain}
use Rattle.m11_scan_expressions.specs.Values.{items_of, seen, value_of}
use Rattle.m11_scan_expressions.specs.Expressions.{symbols}

items_seen : (value_of_symbol : Symbol → Quantity) (line : Bytes) (tokens : List Token)
    → items_of value_of_symbol line tokens ≡ map (plain_item value_of_symbol) (map plain (map (lexeme line) tokens))
items_seen value_of_symbol line [] = refl
items_seen value_of_symbol line (token ∷ tokens) =
    ap (λ (l : List Item). seen value_of_symbol line token ∷ l) (items_seen value_of_symbol line tokens)

each_symbol : (line : Bytes) (tokens : List Token) → symbols_of line tokens ≡ symbols (map plain (map (lexeme line) tokens))
each_symbol line [] = refl
each_symbol line (token ∷ tokens) =
    ap (λ (l : List Symbol). cons_option (symbol_in token.sort (text_between line token.start token.end)) l) (each_symbol line tokens)

-- tokens of the code have the value of the expression that they represent
pub value_seen : (radix : Radix) (value_of_symbol : Symbol → Quantity) (line : Bytes) (tokens : List Token) (all : List Lexeme)
    → map (lexeme line) tokens ≡ all
    → value_of radix (items_of value_of_symbol line tokens) ≡ value_of radix (map (plain_item value_of_symbol) (map plain all))
value_seen radix value_of_symbol line tokens all same =
    ap (λ (l : List Item). value_of radix l)
    (items_seen value_of_symbol line tokens ∙ ap (λ (l : List Lexeme). map (plain_item value_of_symbol) (map plain l)) same)

-- tokens of the code have the symbols of the expression that they represent
pub symbols_seen : (line : Bytes) (tokens : List Token) (all : List Lexeme) → map (lexeme line) tokens ≡ all
    → symbols_of line tokens ≡ symbols (map plain all)
symbols_seen line tokens all same = each_symbol line tokens ∙ ap (λ (l : List Lexeme). symbols (map plain l)) same
