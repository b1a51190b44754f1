-- The values of expressions. (MACRO-11 Language Reference Manual, "Terms" and "Expressions": operators are applied from left to
-- right, without precedence.) An expression is a list of tokens, each with its value as a term.
use Rattle.std.specs.Prelude.{ℕ, zero, suc, nat_lt, List, [], ◌∷◌, length, map, take, drop, Option, Some, None}
use Rattle.m11_base.specs.Devices.{Bytes}
use Rattle.m11_scan.specs.Expressions.{begin}
use Rattle.m11_scan.specs.Views.{lexeme}
use Rattle.m11_scan.specs.declared.cutting.Token.{Token}
use Rattle.m11_scan.specs.declared.radix.Radix.{Radix}
use Rattle.m11_scan.specs.declared.sort.Sort.{Sort}
use Rattle.m11_scan_expressions.specs.declared.names.Symbol.{Symbol}
use Rattle.m11_scan_expressions.specs.declared.prefixes.Prefix.{Prefix}
use Rattle.m11_scan_expressions.specs.Operations.{combined}
use Rattle.m11_scan_expressions.specs.Splits.{Split, last_operator}
use Rattle.m11_scan_expressions.specs.Prefixes.{applied, prefix_of, radix_under, reach}
use Rattle.m11_scan_expressions.specs.Quantities.{Quantity, missing}
use Rattle.m11_scan_expressions.specs.Terms.{Item, atom_value, item}

abbrev pub sorts_of : List Item → List Sort
sorts_of items = map (λ one. one.sort) items

-- the value of a term: its prefix applied to the value of the tokens that the prefix governs, or, without a prefix, the value of its
-- first token
abbrev pub term_value : (Radix → List Item → Quantity) → Radix → Item → List Item → Option Prefix → Quantity
term_value value radix first items None = atom_value radix first.atom
term_value value radix first items (Some prefix) =
    applied prefix (nat_lt (reach prefix (sorts_of items)) (length items))
    (value (radix_under prefix radix) (take (reach prefix (sorts_of items)) items))

-- the value of an expression split at its last operator outside brackets: the operator applied to the values of the two sides;
-- without such an operator the expression is a term, which may be missing
abbrev pub split_value : (Radix → List Item → Quantity) → Radix → List Item → Option Split → Quantity
split_value value radix items (Some split) =
    combined split.operator (value radix (take split.index items)) (value radix (drop (suc split.index) items))
split_value value radix [] None = missing
split_value value radix (first ∷ items) None = term_value value radix first items (prefix_of first.sort)

-- the value of an expression, from a function that yields the values of its parts, which are shorter
abbrev pub by_parts : (Radix → List Item → Quantity) → Radix → List Item → Quantity
by_parts value radix items = split_value value radix items (last_operator begin (sorts_of items))

abbrev pub value_within : ℕ → Radix → List Item → Quantity
value_within zero radix items = missing
value_within (suc bound) radix items = by_parts (λ r i. value_within bound r i) radix items

-- the value of an expression in a radix
unfoldable pub value_of : Radix → List Item → Quantity
value_of radix items = value_within (length items) radix items

-- a token of a line as part of an expression, with these values of symbols
abbrev pub seen : (Symbol → Quantity) → Bytes → Token → Item
seen value_of_symbol line token = item value_of_symbol (lexeme line token)

-- tokens of a line as parts of an expression, with these values of symbols
abbrev pub items_of : (Symbol → Quantity) → Bytes → List Token → List Item
items_of value_of_symbol line tokens = map (seen value_of_symbol line) tokens

-- the value of tokens that are one term
abbrev pub value_as_term : Radix → List Item → Quantity
value_as_term radix items = split_value value_of radix items None
