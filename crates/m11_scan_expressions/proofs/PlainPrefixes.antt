-- A prefix other than a bracket applies to all tokens after it.
use Rattle.std.proofs.Common.{◌≡◌, ℕ, suc, Bool, false, List, ◌∷◌, length, take, Option, Some, None, nat_lt, refl, ap, ◌∙◌, subst}
use Rattle.std.proofs.Math.Seq.{take-length}
use Rattle.m11_scan.specs.Expressions.{begin}
use Rattle.m11_scan.specs.declared.radix.Radix.{Radix}
use Rattle.m11_scan.specs.declared.sort.Sort.{Sort}
use Rattle.m11_scan.specs.declared.sort.Sort.TheVariants as tokens
use Rattle.m11_scan_expressions.specs.declared.operators.Operator.{Operator}
use Rattle.m11_scan_expressions.specs.declared.prefixes.Prefix.{Prefix}
use Rattle.m11_scan_expressions.specs.declared.prefixes.Prefix.TheVariants.{Bracket}
use Rattle.m11_scan_expressions.specs.Reaches.{term_length}
use Rattle.m11_scan_expressions.specs.Splits.{Split, later}
use Rattle.m11_scan_expressions.specs.Prefixes.{applied, prefix_of, radix_under, reach}
use Rattle.m11_scan_expressions.specs.Quantities.{Quantity}
use Rattle.m11_scan_expressions.specs.Terms.{Item}
use Rattle.m11_scan_expressions.specs.Values.{sorts_of, term_value, value_as_term, value_of}
use Rattle.m11_scan_expressions.proofs.Folds.{size_of}

pub none_here : (here : Option Operator) (more : Option Split) → later here more ≡ None → here ≡ None
none_here here (Some split) h = absurd (cc)
none_here (Some operator) None h = absurd (cc)
none_here None None h = refl

pub none_later : (here : Option Operator) (more : Option Split) → later here more ≡ None → more ≡ None
none_later here (Some split) h = absurd (cc)
none_later (Some operator) None h = absurd (cc)
none_later None None h = refl

abbrev pub IsPlain : Prefix → Type 0
IsPlain Bracket = ⊥
IsPlain prefix = Unit {0}

pub no_bracket : (prefix : Prefix) → (prefix ≡ Bracket → ⊥) → IsPlain prefix
no_bracket Bracket other = other refl
no_bracket prefix other = tt

plain_reach : (prefix : Prefix) (rest : List Sort) → IsPlain prefix → reach prefix rest ≡ length rest
plain_reach Bracket rest plain = absurd plain
plain_reach prefix rest plain = refl

plain_alike : (prefix : Prefix) (a b : Bool) (value : Quantity) → IsPlain prefix → applied prefix a value ≡ applied prefix b value
plain_alike Bracket a b value plain = absurd plain
plain_alike prefix a b value plain = refl

-- the value of a term with such a prefix is the prefix applied to the value of the tokens after it
pub plain_term : (radix : Radix) (item : Item) (items : List Item) (prefix : Prefix) → prefix_of item.sort ≡ Some prefix
    → IsPlain prefix → value_as_term radix (item ∷ items) ≡ applied prefix false (value_of (radix_under prefix radix) items)
plain_term radix item items prefix is plain =
    ap (λ (p : Option Prefix). term_value value_of radix item items p) is
    ∙ plain_alike prefix (nat_lt (reach prefix (sorts_of items)) (length items)) false
    (value_of (radix_under prefix radix) (take (reach prefix (sorts_of items)) items)) plain
    ∙ ap (λ (n : ℕ). applied prefix false (value_of (radix_under prefix radix) (take n items)))
    (plain_reach prefix (sorts_of items) plain ∙ size_of items)
    ∙ ap (λ (l : List Item). applied prefix false (value_of (radix_under prefix radix) l)) (take-length items)

no_plain : (prefix : Prefix) → Some Bracket ≡ Some prefix → IsPlain prefix → ⊥
no_plain prefix is plain =
    let e : prefix ≡ Bracket = cc in
    let P : Prefix → Type 0 = λ p. IsPlain p in
    subst P e plain

-- a term has one more token with such a prefix than without it
pub plain_length : (in_bracket : Bool) (sort : Sort) (rest : List Sort) (prefix : Prefix) → prefix_of sort ≡ Some prefix
    → IsPlain prefix → term_length in_bracket begin (sort ∷ rest) ≡ suc (term_length in_bracket begin rest)
plain_length in_bracket tokens.Plus rest prefix is plain = refl
plain_length in_bracket tokens.Minus rest prefix is plain = refl
plain_length in_bracket tokens.Complement rest prefix is plain = refl
plain_length in_bracket tokens.Percent rest prefix is plain = refl
plain_length in_bracket tokens.BinaryRadix rest prefix is plain = refl
plain_length in_bracket tokens.OctalRadix rest prefix is plain = refl
plain_length in_bracket tokens.DecimalRadix rest prefix is plain = refl
plain_length in_bracket tokens.Less rest prefix is plain = absurd (no_plain prefix is plain)
plain_length in_bracket sort rest prefix is plain = absurd (cc)
