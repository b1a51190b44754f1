-- The grammar of expressions and of brackets. (MACRO-11 Language Reference Manual, "Terms", "Expressions", and "Arguments in
-- macro definitions and macro calls".)
use Rattle.std.specs.Prelude.{◌≡◌, ◌≢◌, ℕ, Bool, true, false, List, [], ◌∷◌, ◌++◌}
use Rattle.m11_base.specs.Devices.{Bytes}
use Rattle.m11_scan.specs.declared.expressions.Role.TheVariants.{Term, Prefix, Sign, Operator}
use Rattle.m11_scan.specs.declared.sort.Sort.{Sort}
use Rattle.m11_scan.specs.declared.sort.Sort.TheVariants.{Less, Greater}
use Rattle.m11_scan.specs.Expressions.{role_of}

-- these are the sorts of the tokens of a term (true) or of an expression (false) in which no term and no bracket is missing
pub data IsWritten : Bool → List Sort → Type 0 where
  -- a term is a name, a number, or characters after `'`, `"` or `^R`
  Single : (sort : Sort) → role_of sort ≡ Term → IsWritten true (sort ∷ [])
  -- a prefix or a sign, followed by a term, is a term
  Prefixed : (sort : Sort) (sorts : List Sort) → role_of sort ≡ Prefix → IsWritten true sorts → IsWritten true (sort ∷ sorts)
  Signed : (sort : Sort) (sorts : List Sort) → role_of sort ≡ Sign → IsWritten true sorts → IsWritten true (sort ∷ sorts)
  -- an expression in brackets is a term
  Grouped : (sorts : List Sort) → IsWritten false sorts → IsWritten true (Less ∷ (sorts ++ Greater ∷ []))
  -- a term is an expression
  Alone : (sorts : List Sort) → IsWritten true sorts → IsWritten false sorts
  -- an expression, followed by a sign or an operator and then by a term, is an expression
  Added : (front : List Sort) (sort : Sort) (sorts : List Sort) → IsWritten false front → role_of sort ≡ Sign
      → IsWritten true sorts → IsWritten false (front ++ sort ∷ sorts)
  Joined : (front : List Sort) (sort : Sort) (sorts : List Sort) → IsWritten false front → role_of sort ≡ Operator
      → IsWritten true sorts → IsWritten false (front ++ sort ∷ sorts)

-- tokens of these sorts may follow an expression: there are none, or the first is neither a sign nor an operator
abbrev pub MayFollow : List Sort → Type 0
MayFollow [] = Unit {0}
MayFollow (sort ∷ sorts) = (role_of sort ≢ Sign) × (role_of sort ≢ Operator)

-- the brackets of a text match: each `<` has its `>`, and each `>` its `<`
pub data IsNested : Bytes → Type 0 where
  Empty : IsNested []
  Plain : (byte : ℕ) (text : Bytes) → byte ≢ 0o74 → byte ≢ 0o76 → IsNested text → IsNested (byte ∷ text)
  Bracketed : (text rest : Bytes) → IsNested text → IsNested rest → IsNested (0o74 ∷ (text ++ 0o76 ∷ rest))
