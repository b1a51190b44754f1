-- The numbers of tokens of a term and of an expression in brackets, and the operator after a term. (MACRO-11 Language Reference Manual,
-- "Terms" and "Expressions". That a term or a `>` may be missing is this project's own choice.)
use Rattle.std.specs.Prelude.{ℕ, suc, ◌==◌, ◌&&◌, Bool, true, false, not, if◌then◌else◌, List, [], ◌∷◌, length, Option, None}
use Rattle.m11_scan.specs.Expressions.{role_of}
use Rattle.m11_scan.specs.declared.expressions.Role.{Role}
use Rattle.m11_scan.specs.declared.expressions.Role.TheVariants as roles
use Rattle.m11_scan.specs.declared.expressions.Within.{Within}
use Rattle.m11_scan.specs.declared.sort.Sort.{Sort}
use Rattle.m11_scan_expressions.specs.declared.operators.Operator.{Operator}
use Rattle.m11_scan_expressions.specs.Prefixes.{bracket_length}
use Rattle.m11_scan_expressions.specs.Splits.{after, operator_of}

-- the state outside brackets; `is_due` says whether a term is due next
abbrev pub outside : Bool → Within
outside is_due = record { depth = 0; is_due = is_due }

-- the state after a `<`
abbrev pub opened : Within
opened = record { depth = 1; is_due = true }

-- the number of these tokens that belong to an expression: all or, in a bracket, those before the `>` that closes it, with
-- `depth` more brackets open inside it
abbrev pub part_length : Bool → ℕ → List Sort → ℕ
part_length in_bracket depth sorts = if in_bracket then bracket_length depth sorts else length sorts

-- whether a term ends before a token outside its own brackets: an operator, a sign where no term is due, or, in a bracket, the
-- `>` that closes it
abbrev pub ends_before : Bool → Bool → Role → Bool
ends_before in_bracket is_due roles.Operator = true
ends_before in_bracket is_due roles.Sign = not is_due
ends_before in_bracket is_due roles.Closes = in_bracket
ends_before in_bracket is_due role = false

-- whether a term ends before a token with this role; a term doesn't end inside its own brackets
abbrev pub ends_term : Bool → Within → Role → Bool
ends_term in_bracket within role = within.depth == 0 && ends_before in_bracket within.is_due role

-- the number of these tokens up to the end of a term; `within` is the state before the tokens
abbrev pub term_length : Bool → Within → List Sort → ℕ
term_length in_bracket within [] = 0
term_length in_bracket within (sort ∷ sorts) =
    if ends_term in_bracket within (role_of sort) then 0
    else suc (term_length in_bracket (after (role_of sort) within) sorts)

-- the operator at the beginning of the tokens after a term, if there is one
abbrev pub operator_after : List Sort → Option Operator
operator_after [] = None
operator_after (sort ∷ sorts) = operator_of false sort
