-- Two names are equal if and only if `is_same_name` says so.
use Rattle.std.proofs.Common.{◌≡◌, ℕ, ◌==◌, ◌&&◌, Bool, true, sym, ap, ◌∙◌, subst, refl}
use Rattle.std.proofs.lemmas.Bool.{and_parts, eq-eqb, eqb-true}
use Rattle.m11_base.specs.Rad50.{Name, is_same_name}

pub same_name_equal : (one other : Name) → is_same_name one other ≡ true → one ≡ other
same_name_equal one other e =
    let parts = and_parts (one.0 == other.0) (one.1 == other.1) e in
    let first : one.0 ≡ other.0 = eqb-true one.0 other.0 parts.0 in
    let second : one.1 ≡ other.1 = eqb-true one.1 other.1 parts.1 in
    ap (λ (n : ℕ). (n, one.1)) first ∙ ap (λ (n : ℕ). (other.0, n)) second

pub same_name_itself : (one : Name) → is_same_name one one ≡ true
same_name_itself one =
    let P : Bool → Type 0 = λ b. (b && (one.1 == one.1)) ≡ true in
    subst P (sym (eq-eqb one.0 one.0 refl)) (eq-eqb one.1 one.1 refl)
