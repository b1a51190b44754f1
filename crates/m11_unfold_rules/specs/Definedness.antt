-- The names of DF and NDF. (MACRO-11 Language Reference Manual, "Conditional assembly block directives". That each name is tested on its
-- own, and that a bad name makes the condition false, are this project's own choices.)
use Rattle.std.specs.Prelude.{ℕ, Bool, not, ◌&&◌, ◌||◌, ◌==◌, if◌then◌else◌, List, [], ◌∷◌, length, Option, Some, None}
use Rattle.std.specs.Int.RustNames.{bit_and}
use Rattle.m11_base.specs.Devices.{Bytes}
use Rattle.m11_scan.specs.Cutting.{Lexeme, tokens_from}
use Rattle.m11_scan.specs.declared.sort.Sort.{Sort}
use Rattle.m11_scan.specs.declared.sort.Sort.TheVariants as sorts
use Rattle.m11_scan_expressions.specs.declared.names.Symbol.{Symbol}
use Rattle.m11_scan_expressions.specs.Quantities.{Quantity}
use Rattle.m11_scan_expressions.specs.Terms.{symbol_in}
use Rattle.m11_unfold_rules.specs.declared.definedness.Joint.{Joint}
use Rattle.m11_unfold_rules.specs.declared.definedness.Joint.TheVariants as joints
use Rattle.m11_unfold_rules.specs.declared.definedness.JointAt.{JointAt}
use Rattle.m11_unfold_rules.specs.declared.definedness.SoFar.{SoFar}
use Rattle.m11_scan_expressions.specs.Expressions.{KnownSymbols}

abbrev pub flag_U : ℕ
flag_U = 0o20000

-- whether a name is defined: its value has no flag U
abbrev pub is_defined : Quantity → Bool
is_defined meaning = bit_and meaning.flags flag_U == 0

-- whether `found` equals `wanted`: `found` itself, or its negation if `wanted` is false
abbrev pub is_as : Bool → Bool → Bool
is_as wanted found = if wanted then found else not found

-- whether a symbol is defined, or undefined for NDF
abbrev pub tested : KnownSymbols → Bool → Symbol → Bool
tested known wants_defined symbol = is_as wants_defined (is_defined (known.value_of_symbol symbol))

abbrev pub verdict_of : KnownSymbols → Bool → Option Symbol → Option Bool
verdict_of known wants_defined (Some symbol) = Some (tested known wants_defined symbol)
verdict_of known wants_defined None = None

-- the result of a name combined with the result of the names before it, by the operator between them; unchanged if no names are before it
abbrev pub joined_to : Option SoFar → Bool → Bool
joined_to None verdict = verdict
joined_to (Some so_far) verdict =
    elim so_far.joint [ joints.And ↦ so_far.holds && verdict | joints.Or ↦ so_far.holds || verdict ]

-- the operator between two names, `&` or `!`, whose token has this sort; none for any other sort
abbrev pub joining : Sort → Option Joint
joining sorts.And = Some joints.And
joining sorts.Or = Some joints.Or
joining sort = None

abbrev pub joint_at : ℕ → Option Joint → Option JointAt
joint_at end None = None
joint_at end (Some joint) = Some (record { joint = joint; end = end })

-- the operator in the first of these tokens, if any, and the column after it
abbrev pub joint_in : List Lexeme → Option JointAt
joint_in [] = None
joint_in (mark ∷ tokens) = joint_at mark.end (joining mark.sort)

-- the result of a list of names, the column after them, and the symbols that were read; if a name is bad or missing, there is no result,
-- and the column is the end of the line
pub record Tested : Type 0 where
  pub verdict : Option Bool
  pub end : ℕ
  pub symbols : List Symbol

abbrev pub at_bad : ℕ → Tested
at_bad size = record { verdict = None; end = size; symbols = [] }

abbrev pub at_last : Bool → ℕ → Tested
at_last verdict end = record { verdict = Some verdict; end = end; symbols = [] }

-- the result of a list of names that begins with this symbol: what `more` yields for the symbol, with the symbol put before those
-- that were read after it. If the first name is bad, the symbol is None; there is then no result, and the column is the end of the line
abbrev pub after_symbol : ℕ → Option Symbol → (Symbol → Tested) → Tested
after_symbol size None more = at_bad size
after_symbol size (Some symbol) more = record (more symbol) { symbols = symbol ∷ (more symbol).symbols }

-- the result of the names before these tokens and in them, combined by the `&` and `!` between the names from left to right; the
-- line has `size` characters; any other token after a name ends the list, and a bad or missing name leaves no result
abbrev pub names_in : (Symbol → Bool) → ℕ → Option SoFar → List Lexeme → Tested
names_in test size before [] = at_bad size
names_in test size before (name ∷ []) =
    after_symbol size (symbol_in name.sort name.text) (λ symbol. at_last (joined_to before (test symbol)) name.end)
names_in test size before (name ∷ (mark ∷ tokens)) =
    after_symbol size (symbol_in name.sort name.text) (λ symbol. elim (joining mark.sort) [
      | None ↦ at_last (joined_to before (test symbol)) name.end
      | Some joint ↦ names_in test size (Some (record { holds = joined_to before (test symbol); joint = joint })) tokens
    ])

abbrev pub names_at : KnownSymbols → Bool → Bytes → ℕ → Tested
names_at known wants_defined line column =
    names_in (tested known wants_defined) (length line) None (tokens_from line column)
