-- The first line of a text.
use Rattle.std.proofs.Common.{◌≡◌, ◌≢◌, ◌∙◌, ℕ, zero, suc, ◌+◌, ◌<◌, ◌≤◌, Bool, cond, List, [], ◌∷◌, length, take, drop, get_or, ap, arith}
use Rattle.std.proofs.lemmas.Bool.{eq-eqb, ne_eqb}
use Rattle.m11_base_disassembly.specs.Lines.{lines_of, longer}

-- the bytes before the first line feed are a line, and those after it are the others
pub first_line_is : (text : List ℕ) (end : ℕ) → 0 < length text → end ≤ length text
    → ((k : ℕ) → k < end → get_or text k 0 ≢ 10) → (end < length text → get_or text end 0 ≡ 10)
    → lines_of text ≡ take end text ∷ lines_of (drop (end + 1) text)
first_line_is [] end some inside others feed = absurd (omega (arith, some))
first_line_is (byte ∷ bytes) zero some inside others feed =
    ap (λ (b : Bool). cond b ([] ∷ lines_of bytes) (longer byte (lines_of bytes))) (eq-eqb byte 10 (feed (omega arith)))
first_line_is (byte ∷ []) (suc zero) some inside others feed =
    ap (λ (b : Bool). cond b ([] ∷ []) ((byte ∷ []) ∷ [])) (ne_eqb byte 10 (others 0 (omega arith)))
first_line_is (byte ∷ []) (suc (suc end)) some inside others feed = absurd (omega (arith, inside))
first_line_is (byte ∷ next ∷ bytes) (suc end) some inside others feed =
    let after : suc (end + 1) ≡ suc end + 1 = omega arith in
    let more = first_line_is (next ∷ bytes) end (omega arith) (omega (arith, inside)) (λ k lt. others (suc k) (omega (arith, lt)))
    (λ lt. feed (omega (arith, lt))) in
    ap (λ (b : Bool). cond b ([] ∷ lines_of (next ∷ bytes)) (longer byte (lines_of (next ∷ bytes)))) (ne_eqb byte 10 (others 0 (omega arith)))
    ∙ ap (longer byte) more
    ∙ ap (λ (n : ℕ). take (suc end) (byte ∷ next ∷ bytes) ∷ lines_of (drop n (byte ∷ next ∷ bytes))) after
