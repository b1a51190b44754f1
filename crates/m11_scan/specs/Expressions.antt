-- Where an expression ends: the roles of tokens, and the state after each. (MACRO-11 Language Reference Manual, "Terms" and "Expressions".
-- That a term or a `>` may be missing is this project's own choice.)
use Rattle.std.specs.Prelude.{ℕ, suc, ◌+◌, ◌-◌, ◌==◌, Bool, true, false, if◌then◌else◌, List, [], ◌∷◌, Option, Some, None}
use Rattle.m11_scan.specs.declared.cutting.Token.{Token}
use Rattle.m11_scan.specs.declared.expressions.Role.{Role}
use Rattle.m11_scan.specs.declared.expressions.Role.TheVariants.{Term, Prefix, Sign, Operator, Opens, Closes, Foreign}
use Rattle.m11_scan.specs.declared.expressions.Within.{Within}
use Rattle.m11_scan.specs.declared.sort.Sort.{Sort}
use Rattle.m11_scan.specs.declared.sort.Sort.TheVariants.{Name, Number, DecimalNumber, LocalSymbol, Character, TwoCharacters, Packed, BinaryRadix, OctalRadix, DecimalRadix, Complement, Plus, Minus, Times, Over, And, Or, Less, Greater, Percent}

abbrev pub sort_of : Token → Sort
sort_of token = token.sort

-- the role of a token in an expression
abbrev pub role_of : Sort → Role
role_of Name = Term
role_of Number = Term
role_of DecimalNumber = Term
role_of LocalSymbol = Term
role_of Character = Term
role_of TwoCharacters = Term
role_of Packed = Term
role_of BinaryRadix = Prefix
role_of OctalRadix = Prefix
role_of DecimalRadix = Prefix
role_of Complement = Prefix
role_of Percent = Prefix
role_of Plus = Sign
role_of Minus = Sign
role_of Times = Operator
role_of Over = Operator
role_of And = Operator
role_of Or = Operator
role_of Less = Opens
role_of Greater = Closes
role_of _ = Foreign

-- this state within an expression if a condition holds, otherwise none
abbrev pub within_if : Bool → ℕ → Bool → Option Within
within_if holds depth is_due = if holds then Some (record { depth = depth; is_due = is_due }) else None

-- the state after a token, if the expression continues with it: a term, a prefix or `<` where a term is due; a sign or an operator
-- anywhere, since a term may be missing; `>` if a bracket is open; otherwise none
abbrev pub goes_on : Role → Within → Option Within
goes_on Term within = within_if within.is_due within.depth false
goes_on Prefix within = within_if within.is_due within.depth true
goes_on Sign within = within_if true within.depth true
goes_on Operator within = within_if true within.depth true
goes_on Opens within = within_if within.is_due (within.depth + 1) true
goes_on Closes within = if within.depth == 0 then None else within_if true (within.depth - 1) false
goes_on Foreign within = None

abbrev pub count_from : Option Within → (Within → ℕ) → ℕ
count_from None count = 0
count_from (Some within) count = suc (count within)

-- the length of the longest prefix of these tokens that continues an expression in this state
abbrev pub taken : List Sort → Within → ℕ
taken [] within = 0
taken (sort ∷ sorts) within = count_from (goes_on (role_of sort) within) (λ next. taken sorts next)

-- the state at the beginning of an expression: no bracket is open, and a term is due
abbrev pub begin : Within
begin = record { depth = 0; is_due = true }

-- the number of tokens of the expression that these tokens begin with; 0 if they begin with none
abbrev pub expression_length : List Sort → ℕ
expression_length sorts = taken sorts begin
