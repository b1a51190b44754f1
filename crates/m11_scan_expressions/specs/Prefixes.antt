-- Prefixes of a term: signs, `^C`, `%`, a radix, and a bracket. (MACRO-11 Language Reference Manual, "Unary operators", "Terms" and "Radix
-- and numeric control". That a `>` may be missing, which is flagged Q, is this project's own choice.)
use Rattle.std.specs.Prelude.{ℕ, suc, ◌+◌, ◌-◌, ◌==◌, Bool, if◌then◌else◌, List, [], ◌∷◌, length, Option, Some, None}
use Rattle.std.specs.Option.{option_map_or}
use Rattle.m11_scan.specs.Expressions.{role_of}
use Rattle.m11_scan.specs.ErrorFlags.{flag_Q}
use Rattle.m11_scan.specs.declared.expressions.Role.{Role}
use Rattle.m11_scan.specs.declared.expressions.Role.TheVariants.{Opens, Closes}
use Rattle.m11_scan.specs.declared.radix.Radix.{Radix}
use Rattle.m11_scan.specs.declared.radix.Radix.TheVariants.{Binary, Octal, Decimal}
use Rattle.m11_scan.specs.declared.sort.Sort.{Sort}
use Rattle.m11_scan.specs.declared.sort.Sort.TheVariants as sorts
use Rattle.m11_scan_expressions.specs.declared.prefixes.Prefix.{Prefix}
use Rattle.m11_scan_expressions.specs.declared.prefixes.Prefix.TheVariants.{Plus, Minus, Complement, Register, InRadix, Bracket}
use Rattle.m11_scan_expressions.specs.Operations.{as_register, complemented, negated}
use Rattle.m11_scan_expressions.specs.Quantities.{Quantity, with_flags}

-- the prefix whose token has this sort, if there is one
abbrev pub prefix_of : Sort → Option Prefix
prefix_of sorts.Plus = Some Plus
prefix_of sorts.Minus = Some Minus
prefix_of sorts.Complement = Some Complement
prefix_of sorts.Percent = Some Register
prefix_of sorts.BinaryRadix = Some (InRadix Binary)
prefix_of sorts.OctalRadix = Some (InRadix Octal)
prefix_of sorts.DecimalRadix = Some (InRadix Decimal)
prefix_of sorts.Less = Some Bracket
prefix_of sort = None

-- the radix of numbers in the whole term after a prefix
abbrev pub radix_under : Prefix → Radix → Radix
radix_under (InRadix other) radix = other
radix_under prefix radix = radix

-- the number of brackets that are open inside the outermost one, after a token with this role; none if the token closes the
-- outermost one
abbrev pub depth_after : Role → ℕ → Option ℕ
depth_after Opens depth = Some (depth + 1)
depth_after Closes depth = if depth == 0 then None else Some (depth - 1)
depth_after role depth = Some depth

-- the number of tokens before the `>` that closes the outermost open bracket, or of all tokens if there is no such `>`; `depth`
-- more brackets are open inside it
abbrev pub bracket_length : ℕ → List Sort → ℕ
bracket_length depth [] = 0
bracket_length depth (sort ∷ sorts) = option_map_or (λ next. suc (bracket_length next sorts)) (depth_after (role_of sort) depth) 0

-- the number of tokens that a prefix applies to: all after it, or those in its brackets
abbrev pub reach : Prefix → List Sort → ℕ
reach Bracket sorts = bracket_length 0 sorts
reach prefix sorts = length sorts

-- the value of a prefix applied to the value after it: `+` and a radix leave it as it is, and a bracket without its `>` is flagged Q
abbrev pub applied : Prefix → Bool → Quantity → Quantity
applied Minus is_closed value = negated value
applied Complement is_closed value = complemented value
applied Register is_closed value = as_register value
applied Bracket is_closed value = if is_closed then value else with_flags flag_Q value
applied prefix is_closed value = value
