-- The places of operators in an expression. (MACRO-11 Language Reference Manual, "Binary operators" and "Expressions".)
use Rattle.std.specs.Prelude.{ℕ, suc, ◌+◌, ◌-◌, ◌==◌, Bool, true, false, if◌then◌else◌, List, [], ◌∷◌, Option, Some, None}
use Rattle.m11_scan.specs.Expressions.{role_of}
use Rattle.m11_scan.specs.declared.expressions.Role.{Role}
use Rattle.m11_scan.specs.declared.expressions.Role.TheVariants as roles
use Rattle.m11_scan.specs.declared.expressions.Within.{Within}
use Rattle.m11_scan.specs.declared.sort.Sort.{Sort}
use Rattle.m11_scan.specs.declared.sort.Sort.TheVariants as sorts
use Rattle.m11_scan_expressions.specs.declared.operators.Operator.{Operator}
use Rattle.m11_scan_expressions.specs.declared.operators.Operator.TheVariants.{Add, Subtract, Multiply, Divide, And, Or}

-- an operator of an expression, and the number of tokens before it
pub record Split : Type 0 where
  pub index : ℕ
  pub operator : Operator

-- the operator whose token has this sort; none if there is no such operator. Where a term is due, `+` and `-` are signs and not
-- operators; before any other operator the term is then missing
abbrev pub operator_of : Bool → Sort → Option Operator
operator_of is_due sorts.Plus = if is_due then None else Some Add
operator_of is_due sorts.Minus = if is_due then None else Some Subtract
operator_of is_due sorts.Times = Some Multiply
operator_of is_due sorts.Over = Some Divide
operator_of is_due sorts.And = Some And
operator_of is_due sorts.Or = Some Or
operator_of is_due sort = None

-- the operator whose token has this sort, in this state of the expression; none if there is no such operator, or inside brackets
abbrev pub operator_at : Sort → Within → Option Operator
operator_at sort within = if within.depth == 0 then operator_of within.is_due sort else None

-- the state after a token with this role: `<` opens a bracket, `>` closes one, and a term is due after a prefix, a sign, an operator
-- or `<`
abbrev pub after : Role → Within → Within
after roles.Term within = record { depth = within.depth; is_due = false }
after roles.Prefix within = record { depth = within.depth; is_due = true }
after roles.Sign within = record { depth = within.depth; is_due = true }
after roles.Operator within = record { depth = within.depth; is_due = true }
after roles.Opens within = record { depth = within.depth + 1; is_due = true }
after roles.Closes within = record { depth = within.depth - 1; is_due = false }
after roles.Foreign within = within

-- the last operator of a list of tokens: that of the tokens after the first one, if they have one; otherwise the operator of the first
-- token, if it has one
abbrev pub later : Option Operator → Option Split → Option Split
later here (Some split) = Some (record { index = suc split.index; operator = split.operator })
later (Some operator) None = Some (record { index = 0; operator = operator })
later None None = None

-- the last operator of these tokens outside brackets, if there is one; a term on either side of it may be missing; `within` is the
-- state before the tokens
abbrev pub last_operator : Within → List Sort → Option Split
last_operator within [] = None
last_operator within (sort ∷ sorts) = later (operator_at sort within) (last_operator (after (role_of sort) within) sorts)
