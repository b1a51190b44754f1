-- Each byte of a text is shown once, in order.
use Rattle.std.proofs.Common.{◌≡◌, ◌∙◌, ℕ, ◌+◌, ◌<◌, List, [], ◌∷◌, ◌++◌, append_assoc, length, refl, sym, ap, subst, arith}
use Rattle.m11_base.specs.Octal.{octal_value}
use Rattle.m11_dump.specs.Octets.{octal3, octet, octets, octets_from}

octets_between : (address index byte : ℕ) (before following : List ℕ)
    → octets_from address index (before ++ byte ∷ following) ≡ octets_from address index before
    ++ (octet address (index + length before) byte ++ octets_from address (index + length before + 1) following)
octets_between address index byte [] following =
    let P : ℕ → Type 0 = λ i. octet address index byte ++ octets_from address (index + 1) following
    ≡ octet address i byte ++ octets_from address (i + 1) following in
    let e : index ≡ index + 0 = omega arith in subst P e refl
octets_between address index byte (first ∷ before) following =
    let P : ℕ → Type 0 = λ i. octets_from address (index + 1) (before ++ byte ∷ following)
    ≡ octets_from address (index + 1) before
    ++ (octet address i byte ++ octets_from address (i + 1) following) in
    let e : index + 1 + length before ≡ index + length (first ∷ before) = omega arith in
    let h = subst P e (octets_between address (index + 1) byte before following) in
    ap (λ (text : List ℕ). octet address index first ++ text) h
    ∙ sym (append_assoc (octet address index first) (octets_from address (index + 1) before)
    (octet address (index + length (first ∷ before)) byte
    ++ octets_from address (index + length (first ∷ before) + 1) following))

pub octet_between : (address byte : ℕ) (before following : List ℕ)
    → octets address (before ++ byte ∷ following) ≡ octets address before
    ++ (octet address (length before) byte ++ octets_from address (length before + 1) following)
octet_between address byte before following =
    let P : ℕ → Type 0 = λ i. octets address (before ++ byte ∷ following) ≡ octets address before
    ++ (octet address i byte ++ octets_from address (i + 1) following) in
    let e : 0 + length before ≡ length before = omega arith in
    subst P e (octets_between address 0 byte before following)

pub octet_spelled : (byte : ℕ) → byte < 256 → octal_value (octal3 byte) ≡ byte
octet_spelled byte h = omega arith
