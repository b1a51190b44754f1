-- The value of a term with a sign, `^C`, `%` or a radix before it.
use Rattle.std.proofs.Common.{◌≡◌, ℕ, List, ◌∷◌, codes, length, map, take, Option, Some, None, nat_lt, refl, ap, ◌∙◌}
use Rattle.std.proofs.Math.Seq.{take-length}
use Rattle.m11_scan.specs.Cutting.{tokens_of}
use Rattle.m11_scan.specs.Expressions.{begin, role_of}
use Rattle.m11_scan.specs.Pieces.{first_piece}
use Rattle.m11_scan.specs.declared.expressions.Role.TheVariants as roles
use Rattle.m11_scan.specs.declared.radix.Radix.{Radix}
use Rattle.m11_scan.specs.declared.radix.Radix.TheVariants.{Binary, Octal, Decimal}
use Rattle.m11_scan.specs.declared.sort.Sort.{Sort}
use Rattle.m11_scan.specs.declared.sort.Sort.TheVariants as tokens
use Rattle.m11_scan_expressions.specs.declared.names.Symbol.{Symbol}
use Rattle.m11_scan_expressions.specs.declared.prefixes.Prefix.{Prefix}
use Rattle.m11_scan_expressions.specs.declared.prefixes.Prefix.TheVariants.{Plus, Minus, Complement, Register, InRadix}
use Rattle.m11_scan_expressions.specs.Laws.{IsTerm}
use Rattle.m11_scan_expressions.specs.Operations.{as_register, complemented, negated}
use Rattle.m11_scan_expressions.specs.Splits.{Split, last_operator, later}
use Rattle.m11_scan_expressions.specs.Prefixes.{applied, prefix_of, radix_under, reach}
use Rattle.m11_scan_expressions.specs.Quantities.{Quantity, absolute}
use Rattle.m11_scan_expressions.specs.Terms.{Item, item}
use Rattle.m11_scan_expressions.specs.Values.{sorts_of, split_value, term_value, value_of}
use Rattle.m11_scan_expressions.proofs.Folds.{size_of}
use Rattle.m11_scan_expressions.proofs.Parts.{value_by_parts}

-- ---- a sign or another prefix and the term after it are a term

after_sign : (sort : Sort) (rest : List Sort) → role_of sort ≡ roles.Sign → last_operator begin rest ≡ None
    → last_operator begin (sort ∷ rest) ≡ None
after_sign tokens.Plus rest is none = ap (λ (m : Option Split). later None m) none
after_sign tokens.Minus rest is none = ap (λ (m : Option Split). later None m) none
after_sign _ rest is none = absurd (cc)

after_prefix : (sort : Sort) (rest : List Sort) → role_of sort ≡ roles.Prefix → last_operator begin rest ≡ None
    → last_operator begin (sort ∷ rest) ≡ None
after_prefix tokens.BinaryRadix rest is none = ap (λ (m : Option Split). later None m) none
after_prefix tokens.OctalRadix rest is none = ap (λ (m : Option Split). later None m) none
after_prefix tokens.DecimalRadix rest is none = ap (λ (m : Option Split). later None m) none
after_prefix tokens.Complement rest is none = ap (λ (m : Option Split). later None m) none
after_prefix tokens.Percent rest is none = ap (λ (m : Option Split). later None m) none
after_prefix _ rest is none = absurd (cc)

pub signed_term : (mark : Item) (term : List Item) → role_of mark.sort ≡ roles.Sign → IsTerm term → IsTerm (mark ∷ term)
signed_term mark term is one = after_sign mark.sort (sorts_of term) is one

pub prefixed_term : (mark : Item) (term : List Item) → role_of mark.sort ≡ roles.Prefix → IsTerm term → IsTerm (mark ∷ term)
prefixed_term mark term is one = after_prefix mark.sort (sorts_of term) is one

-- ---- its value

-- if a prefix applies to all tokens after it, the value is the prefix applied to the value of these tokens
prefixed_value : (radix : Radix) (mark : Item) (term : List Item) (prefix : Prefix) → IsTerm (mark ∷ term)
    → prefix_of mark.sort ≡ Some prefix → reach prefix (sorts_of term) ≡ length (sorts_of term)
    → value_of radix (mark ∷ term)
    ≡ applied prefix (nat_lt (length term) (length term)) (value_of (radix_under prefix radix) term)
prefixed_value radix mark term prefix none is whole =
    value_by_parts radix (mark ∷ term)
    ∙ ap (λ (s : Option Split). split_value value_of radix (mark ∷ term) s) none
    ∙ ap (λ (p : Option Prefix). term_value value_of radix mark term p) is
    ∙ ap (λ (n : ℕ). applied prefix (nat_lt n (length term)) (value_of (radix_under prefix radix) (take n term)))
    (whole ∙ size_of term)
    ∙ ap (λ (l : List Item). applied prefix (nat_lt (length term) (length term)) (value_of (radix_under prefix radix) l))
    (take-length term)

module _ (radix : Radix) (mark : Item) (term : List Item) where
  pub plus_value : mark.sort ≡ tokens.Plus → IsTerm term → value_of radix (mark ∷ term) ≡ value_of radix term
  plus_value is one = prefixed_value radix mark term Plus (signed_term mark term (ap role_of is) one) (ap prefix_of is) refl

  pub minus_value : mark.sort ≡ tokens.Minus → IsTerm term → value_of radix (mark ∷ term) ≡ negated (value_of radix term)
  minus_value is one = prefixed_value radix mark term Minus (signed_term mark term (ap role_of is) one) (ap prefix_of is) refl

  pub complement_value : mark.sort ≡ tokens.Complement → IsTerm term
      → value_of radix (mark ∷ term) ≡ complemented (value_of radix term)
  complement_value is one =
      prefixed_value radix mark term Complement (prefixed_term mark term (ap role_of is) one) (ap prefix_of is) refl

  pub register_value : mark.sort ≡ tokens.Percent → IsTerm term
      → value_of radix (mark ∷ term) ≡ as_register (value_of radix term)
  register_value is one =
      prefixed_value radix mark term Register (prefixed_term mark term (ap role_of is) one) (ap prefix_of is) refl

  pub binary_value : mark.sort ≡ tokens.BinaryRadix → IsTerm term → value_of radix (mark ∷ term) ≡ value_of Binary term
  binary_value is one =
      prefixed_value radix mark term (InRadix Binary) (prefixed_term mark term (ap role_of is) one) (ap prefix_of is) refl

  pub octal_value : mark.sort ≡ tokens.OctalRadix → IsTerm term → value_of radix (mark ∷ term) ≡ value_of Octal term
  octal_value is one =
      prefixed_value radix mark term (InRadix Octal) (prefixed_term mark term (ap role_of is) one) (ap prefix_of is) refl

  pub decimal_value : mark.sort ≡ tokens.DecimalRadix → IsTerm term → value_of radix (mark ∷ term) ≡ value_of Decimal term
  decimal_value is one =
      prefixed_value radix mark term (InRadix Decimal) (prefixed_term mark term (ap role_of is) one) (ap prefix_of is) refl

-- ---- a radix before brackets

pub decimal_sum : (radix : Radix) (value_of_symbol : Symbol → Quantity)
    → value_of radix (map (item value_of_symbol) (tokens_of (codes "^D<10+10>"))) ≡ absolute 0o24 0
unfolding value_of first_piece
decimal_sum radix value_of_symbol = refl
