-- Emissions of parts, one after another, are the emission of the whole.
use Rattle.std.proofs.Common.{◌≡◌, ℕ, List, [], ◌++◌, sym, ap, ◌∙◌}
use Rattle.std.proofs.lemmas.List.{append-nil, append_assoc}
use Rattle.std.specs.Int.Bits.{or_zero_r}
use Rattle.std.specs.Int.RustNames.{bit_or}
use Rattle.m11_scan_expressions.proofs.Joining.{or_joins}
use Rattle.m11_obj.specs.declared.pieces.PieceContent.{PieceContent}
use Rattle.m11_asm_rules.specs.Contents.{Emission, followed_by, nothing, emission, with_flags}

pub followed_joins : (a b c : Emission) → followed_by (followed_by a b) c ≡ followed_by a (followed_by b c)
followed_joins a b c =
    ap (λ (l : ℕ). emission ((a.contents ++ b.contents) ++ c.contents) l) (or_joins a.flags b.flags c.flags)
    ∙ ap (λ (s : List PieceContent). emission s (bit_or a.flags (bit_or b.flags c.flags)))
    (append_assoc a.contents b.contents c.contents)

pub followed_nothing : (a : Emission) → followed_by a (nothing 0) ≡ a
followed_nothing a =
    ap (λ (l : ℕ). emission (a.contents ++ []) l) (or_zero_r a.flags)
    ∙ ap (λ (s : List PieceContent). emission s a.flags) (append-nil a.contents)

pub flagged : (a : Emission) (flags : ℕ) → emission a.contents (bit_or a.flags flags) ≡ followed_by a (nothing flags)
flagged a flags = ap (λ (s : List PieceContent). emission s (bit_or a.flags flags)) (sym (append-nil a.contents))

-- flags and then two parts, added one after another, are one emission of the two parts with these flags
pub flagged_parts : (old flagged coded code words : Emission) (bits flags : ℕ) → flagged ≡ followed_by old (nothing bits)
    → bits ≡ flags → coded ≡ followed_by flagged code
    → followed_by coded words ≡ followed_by old (with_flags flags (followed_by code words))
flagged_parts old flagged coded code words bits flags are same adds =
    ap (λ (p : Emission). followed_by p words)
    (adds ∙ ap (λ (p : Emission). followed_by p code) (are ∙ ap (λ (n : ℕ). followed_by old (nothing n)) same))
    ∙ followed_joins (followed_by old (nothing flags)) code words
    ∙ followed_joins old (nothing flags) (followed_by code words)

-- flags and then the part that they belong to are one emission of that part with these flags
pub flagged_by : (old flagged what other : Emission) (bits flags : ℕ) → flagged ≡ followed_by old (nothing bits) → bits ≡ flags
    → what ≡ other → followed_by flagged what ≡ followed_by old (with_flags flags other)
flagged_by old flagged what other bits flags are same is =
    ap (λ (p : Emission). followed_by p what) (are ∙ ap (λ (n : ℕ). followed_by old (nothing n)) same)
    ∙ followed_joins old (nothing flags) what ∙ ap (λ (p : Emission). followed_by old (with_flags flags p)) is
