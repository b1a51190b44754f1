-- An operator between two parts of an expression, and terms of one token with operators between them.
use Rattle.std.specs.Prelude.{◌≡◌, false, List, [], ◌∷◌, Some, None}
use Rattle.m11_scan.specs.Expressions.{begin, role_of}
use Rattle.m11_scan.specs.declared.expressions.Role.TheVariants.{Term}
use Rattle.m11_scan.specs.declared.expressions.Within.{Within}
use Rattle.m11_scan.specs.declared.radix.Radix.{Radix}
use Rattle.m11_scan.specs.declared.sort.Sort.{Sort}
use Rattle.m11_scan_expressions.specs.declared.operators.Operator.{Operator}
use Rattle.m11_scan_expressions.specs.Operations.{combined}
use Rattle.m11_scan_expressions.specs.Splits.{after, last_operator, operator_at, operator_of}
use Rattle.m11_scan_expressions.specs.Quantities.{Quantity}
use Rattle.m11_scan_expressions.specs.Terms.{Item, atom_value}
use Rattle.m11_scan_expressions.specs.Values.{sorts_of}

-- the state of an expression after these further tokens
abbrev pub within_after : Within → List Sort → Within
within_after within [] = within
within_after within (sort ∷ sorts) = within_after (after (role_of sort) within) sorts

-- the token after these tokens is this operator, outside brackets
abbrev pub IsOperator : Operator → List Item → Item → Type 0
IsOperator operator front mark = operator_at mark.sort (within_after begin (sorts_of front)) ≡ Some operator

-- tokens are one term, which may be missing: they contain no operator outside brackets
abbrev pub IsTerm : List Item → Type 0
IsTerm items = last_operator begin (sorts_of items) ≡ None

-- an operator, its token, and the only token of the term after it
pub record Step : Type 0 where
  pub operator : Operator
  pub mark : Item
  pub term : Item

-- the tokens of these steps, in order
abbrev pub written : List Step → List Item
written [] = []
written (step ∷ steps) = step.mark ∷ step.term ∷ written steps

-- in each of these steps, the first token is the step's operator when it follows a term, and the second token is a term
pub data AreSteps : List Step → Type 0 where
  NoStep : AreSteps []
  OneMore : (step : Step) (steps : List Step) → operator_of false step.mark.sort ≡ Some step.operator
      → role_of step.term.sort ≡ Term → AreSteps steps → AreSteps (step ∷ steps)

-- the result of steps applied to a value, one after another: each applies its operator to the value so far and to its own term
abbrev pub left_fold : Radix → Quantity → List Step → Quantity
left_fold radix value [] = value
left_fold radix value (step ∷ steps) =
    left_fold radix (combined step.operator value (atom_value radix step.term.atom)) steps
