-- Remarks that are added in parts are the same as if they were added at once.
use Rattle.std.proofs.Common.{◌≡◌, ℕ, List, [], ◌++◌, max, sym, ap, ◌∙◌, arith}
use Rattle.std.proofs.lemmas.List.{append-nil, append_assoc}
use Rattle.std.proofs.lemmas.Nat.Bits.{bit_at_or, same_from_bits}
use Rattle.std.specs.Int.{bit_at}
use Rattle.std.specs.Int.Bits.{or_zero_r}
use Rattle.std.specs.Int.RustNames.{bit_or}
use Rattle.m11_scan_expressions.specs.declared.names.Symbol.{Symbol}
use Rattle.m11_scan_expressions.specs.Remarks.{Remarks, joined, no_remarks, remarks_of, with_flags}

max_joins : (a b c : ℕ) → max (max a b) c ≡ max a (max b c)
max_joins a b c = omega arith

pub or_joins : (a b c : ℕ) → bit_or (bit_or a b) c ≡ bit_or a (bit_or b c)
or_joins a b c =
    same_from_bits (bit_or (bit_or a b) c) (bit_or a (bit_or b c))
    (λ i. bit_at_or (bit_or a b) c i ∙ ap (λ n. max n (bit_at c i)) (bit_at_or a b i)
    ∙ max_joins (bit_at a i) (bit_at b i) (bit_at c i)
    ∙ sym (bit_at_or a (bit_or b c) i ∙ ap (λ n. max (bit_at a i) n) (bit_at_or b c i)))

abbrev pair : ℕ → List Symbol → Remarks
pair flags symbols = record { flags = flags; symbols = symbols }

pub joined_joins : (a b c : Remarks) → joined (joined a b) c ≡ joined a (joined b c)
joined_joins a b c =
    ap (λ (l : ℕ). pair l ((a.symbols ++ b.symbols) ++ c.symbols)) (or_joins a.flags b.flags c.flags)
    ∙ ap (λ (s : List Symbol). pair (bit_or a.flags (bit_or b.flags c.flags)) s) (append_assoc a.symbols b.symbols c.symbols)

pub joined_nothing : (a : Remarks) → joined a no_remarks ≡ a
joined_nothing a =
    ap (λ (l : ℕ). pair l (a.symbols ++ [])) (or_zero_r a.flags)
    ∙ ap (λ (s : List Symbol). pair a.flags s) (append-nil a.symbols)

pub joined_flags : (a : Remarks) (flags : ℕ) → with_flags a flags ≡ joined a (remarks_of flags [])
joined_flags a flags = ap (λ (s : List Symbol). pair (bit_or a.flags flags) s) (sym (append-nil a.symbols))
