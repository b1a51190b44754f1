-- The last operator of a list of tokens, found token by token.
use Rattle.std.proofs.Common.{ℕ, suc, ◌<◌, List, [], ◌∷◌, length, Option, Some, None, arith}
use Rattle.m11_scan.specs.Expressions.{role_of}
use Rattle.m11_scan.specs.declared.expressions.Within.{Within}
use Rattle.m11_scan.specs.declared.sort.Sort.{Sort}
use Rattle.m11_scan_expressions.specs.declared.operators.Operator.{Operator}
use Rattle.m11_scan_expressions.specs.Splits.{Split, after, last_operator, later, operator_at}

abbrev pub IsBelow : ℕ → Option Split → Type 0
IsBelow size None = Unit {0}
IsBelow size (Some split) = split.index < size

later_below : (size : ℕ) (here : Option Operator) (more : Option Split) → IsBelow size more → IsBelow (suc size) (later here more)
later_below size here (Some split) below = omega arith
later_below size (Some operator) None below = omega arith
later_below size None None below = tt

-- the last operator is one of the tokens
pub last_below : (within : Within) (sorts : List Sort) → IsBelow (length sorts) (last_operator within sorts)
last_below within [] = tt
last_below within (sort ∷ sorts) =
    later_below (length sorts) (operator_at sort within) (last_operator (after (role_of sort) within) sorts)
    (last_below (after (role_of sort) within) sorts)
