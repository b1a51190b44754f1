-- The bytes of words and of memory, one by one.
use Rattle.std.proofs.Common.{◌≡◌, ℕ, zero, suc, ◌+◌, ◌-◌, ◌*◌, ◌/◌, ◌%◌, ◌<◌, ◌≤◌, List, [], ◌∷◌, ◌++◌, length, take, drop, get_or, refl, sym, ap, ◌∙◌, arith, append_assoc, length-drop, drop-cons}
use Rattle.std.proofs.lemmas.List.{take_all, length-replicate}
use Rattle.m11_cpu_machine.specs.Machine.{new_machine}
use Rattle.m11_cpu_machine.specs.Memory.{bytes_of}

-- the bytes of one more word
pub one_more_word : (words : List ℕ) (i : ℕ) → i < length words
    → bytes_of (take (i + 1) words) ≡ bytes_of (take i words) ++ (get_or words i 0 % 256 ∷ get_or words i 0 / 256 ∷ [])
one_more_word [] i h = absurd (omega arith)
one_more_word (w ∷ ws) zero h = refl
one_more_word (w ∷ ws) (suc i) h =
    let e : suc i + 1 ≡ suc (i + 1) = omega arith in
    rw e (ap (λ (bs : List ℕ). w % 256 ∷ w / 256 ∷ bs) (one_more_word ws i (omega arith)))

-- the first twelve bytes one by one, and the rest
pub first_twelve : (l : List ℕ) → 12 ≤ length l
    → l ≡ get_or l 0 0 ∷ get_or l 1 0 ∷ get_or l 2 0 ∷ get_or l 3 0 ∷ get_or l 4 0 ∷ get_or l 5 0 ∷ get_or l 6 0 ∷ get_or l 7 0
    ∷ get_or l 8 0 ∷ get_or l 9 0 ∷ get_or l 10 0 ∷ get_or l 11 0 ∷ take (length l - 12) (drop 12 l)
first_twelve l le =
    let t = take_all (length l - 12) (drop 12 l) (omega (arith, length-drop 12 l)) in
    let e0 = drop-cons l 0 0 (omega arith) in
    let e1 = drop-cons l 1 0 (omega arith) in
    let e2 = drop-cons l 2 0 (omega arith) in
    let e3 = drop-cons l 3 0 (omega arith) in
    let e4 = drop-cons l 4 0 (omega arith) in
    let e5 = drop-cons l 5 0 (omega arith) in
    let e6 = drop-cons l 6 0 (omega arith) in
    let e7 = drop-cons l 7 0 (omega arith) in
    let e8 = drop-cons l 8 0 (omega arith) in
    let e9 = drop-cons l 9 0 (omega arith) in
    let e10 = drop-cons l 10 0 (omega arith) in
    let e11 = drop-cons l 11 0 (omega arith) in
    cc

-- the registers up to one of them are appended, and then its bytes
pub word_put : (before words : List ℕ) (i : ℕ) (now next : List ℕ) → i < length words → now ≡ before ++ bytes_of (take i words)
    → next ≡ now ++ (get_or words i 0 % 256 ∷ get_or words i 0 / 256 ∷ []) → next ≡ before ++ bytes_of (take (i + 1) words)
word_put before words i now next lt e f =
    let two : List ℕ = get_or words i 0 % 256 ∷ get_or words i 0 / 256 ∷ [] in
    f ∙ ap (λ (l : List ℕ). l ++ two) e ∙ append_assoc before (bytes_of (take i words)) two
    ∙ ap (λ (l : List ℕ). before ++ l) (sym (one_more_word words i lt))

-- three lists are appended to an empty one
pub three_joined : (first second third before after next last : List ℕ) → before ≡ [] → after ≡ before ++ first
    → next ≡ after ++ second → last ≡ next ++ third → last ≡ first ++ (second ++ third)
three_joined first second third before after next last a b c d =
    d ∙ ap (λ (l : List ℕ). l ++ third) (c ∙ ap (λ (l : List ℕ). l ++ second) (b ∙ ap (λ (l : List ℕ). l ++ first) a))
    ∙ append_assoc first second third

pub memory_of_new : (words : ℕ) → length (new_machine words).memory ≡ 2 * words
unfolding new_machine
memory_of_new words = length-replicate (2 * words) 0
