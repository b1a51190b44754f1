-- Pieces of text that are added one after another.
use Rattle.std.proofs.Common.{◌≡◌, ◌∙◌, ℕ, List, ◌++◌, append_assoc, ap}

-- if pieces are added one after another, the text ends with all of them in order
pub two_put : (first a b one two : List ℕ) → one ≡ first ++ a → two ≡ one ++ b → two ≡ first ++ (a ++ b)
two_put first a b one two e1 e2 = e2 ∙ ap (λ (t : List ℕ). t ++ b) e1 ∙ append_assoc first a b

pub seven_put : (first a b c d e f g one two three four five six seven : List ℕ) → one ≡ first ++ a → two ≡ one ++ b
    → three ≡ two ++ c → four ≡ three ++ d → five ≡ four ++ e → six ≡ five ++ f → seven ≡ six ++ g
    → seven ≡ first ++ (a ++ (b ++ (c ++ (d ++ (e ++ (f ++ g))))))
seven_put first a b c d e f g one two three four five six seven e1 e2 e3 e4 e5 e6 e7 =
    two_put first a (b ++ (c ++ (d ++ (e ++ (f ++ g))))) one seven e1
    (two_put one b (c ++ (d ++ (e ++ (f ++ g)))) two seven e2
    (two_put two c (d ++ (e ++ (f ++ g))) three seven e3
    (two_put three d (e ++ (f ++ g)) four seven e4
    (two_put four e (f ++ g) five seven e5 (two_put five f g six seven e6 e7)))))
