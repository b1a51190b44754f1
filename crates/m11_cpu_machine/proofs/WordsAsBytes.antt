-- A vector of words, seen as bytes.
use Rattle.std.proofs.Common.{◌≡◌, ℕ, zero, suc, ◌+◌, ◌*◌, ◌/◌, ◌%◌, ◌<◌, ◌≤◌, ◌==◌, not, ◌&&◌, List, [], ◌∷◌, length, replicate, refl, ap, ◌∙◌, arith}
use Rattle.std.specs.Prelude.{nat_lt, slice_index_or, slice_set}
use Rattle.std.proofs.Math.ListN.{length-set}
use Rattle.std.proofs.lemmas.Grind.{get_or_default_zero}
use Rattle.std.proofs.lemmas.Bool.Decides.{nat_tests}
use Rattle.m11_cpu_machine.specs.Memory.{byte_at, word_at, with_byte, with_word, bytes_of, most_words}

pub length_of_bytes : (words : List ℕ) → length (bytes_of words) ≡ 2 * length words
length_of_bytes [] = refl
length_of_bytes (w ∷ ws) = let h = length_of_bytes ws in omega arith

pub bytes_of_none : (n : ℕ) → bytes_of (replicate n 0) ≡ replicate (2 * n) 0
bytes_of_none zero = refl
bytes_of_none (suc n) = let e : 2 * suc n ≡ suc (suc (2 * n)) = omega arith in
    rw e (ap (λ (bs : List ℕ). 0 ∷ 0 ∷ bs) (bytes_of_none n))

pub low_byte : (words : List ℕ) (i : ℕ) → slice_index_or (bytes_of words) (2 * i) 0 ≡ slice_index_or words i 0 % 256
low_byte [] i = refl
low_byte (w ∷ ws) zero = refl
low_byte (w ∷ ws) (suc i) = let e : 2 * suc i ≡ suc (suc (2 * i)) = omega arith in rw e (low_byte ws i)

pub high_byte : (words : List ℕ) (i : ℕ)
    → slice_index_or (bytes_of words) (2 * i + 1) 0 ≡ slice_index_or words i 0 / 256
high_byte [] i = refl
high_byte (w ∷ ws) zero = refl
high_byte (w ∷ ws) (suc i) = let e : 2 * suc i + 1 ≡ suc (suc (2 * i + 1)) = omega arith in rw e (high_byte ws i)

-- storing a word in the vector stores its two bytes
pub word_set : (words : List ℕ) (i v : ℕ)
    → bytes_of (slice_set words i v) ≡ slice_set (slice_set (bytes_of words) (2 * i) (v % 256)) (2 * i + 1) (v / 256)
word_set [] i v = refl
word_set (w ∷ ws) zero v = refl
word_set (w ∷ ws) (suc i) v =
    let e : 2 * suc i ≡ suc (suc (2 * i)) = omega arith in
    let f : 2 * suc i + 1 ≡ suc (suc (2 * i + 1)) = omega arith in
    rw (f, e) (ap (λ (bs : List ℕ). w % 256 ∷ w / 256 ∷ bs) (word_set ws i v))

-- an even address is that of a low byte, an odd one that of a high byte
pub even_byte : (words : List ℕ) (a : ℕ) → a % 2 ≡ 0 → byte_at (bytes_of words) a ≡ slice_index_or words (a / 2) 0 % 256
even_byte words a even =
    let e : a ≡ 2 * (a / 2) = omega arith in ap (byte_at (bytes_of words)) e ∙ low_byte words (a / 2)

pub odd_byte : (words : List ℕ) (a : ℕ) → 0 < a % 2 → byte_at (bytes_of words) a ≡ slice_index_or words (a / 2) 0 / 256
odd_byte words a odd =
    let e : a ≡ 2 * (a / 2) + 1 = omega arith in ap (byte_at (bytes_of words)) e ∙ high_byte words (a / 2)

pub whole_word : (words : List ℕ) (a : ℕ) → a % 2 ≡ 0 → word_at (bytes_of words) a ≡ slice_index_or words (a / 2) 0
whole_word words a even =
    let e : a + 1 ≡ 2 * (a / 2) + 1 = omega arith in
    let low = even_byte words a even in
    let high = ap (byte_at (bytes_of words)) e ∙ high_byte words (a / 2) in
    omega (arith, low, high)

pub put_word : (words : List ℕ) (a v : ℕ) → a % 2 ≡ 0
    → bytes_of (slice_set words (a / 2) v) ≡ with_word a v (bytes_of words)
put_word words a v even =
    let e : 2 * (a / 2) ≡ a = omega arith in
    word_set words (a / 2) v ∙ ap (λ (k : ℕ). slice_set (slice_set (bytes_of words) k (v % 256)) (k + 1) (v / 256)) e

-- storing a word with a new low byte stores that byte alone, and likewise for the high byte
low_set : (words : List ℕ) (i v : ℕ) → v < 256
    → bytes_of (slice_set words i (slice_index_or words i 0 / 256 * 256 + v)) ≡ slice_set (bytes_of words) (2 * i) v
low_set [] i v fits = refl
low_set (w ∷ ws) zero v fits =
    let low : (w / 256 * 256 + v) % 256 ≡ v = omega arith in
    let high : (w / 256 * 256 + v) / 256 ≡ w / 256 = omega arith in
    rw (low, high) refl
low_set (w ∷ ws) (suc i) v fits =
    let e : 2 * suc i ≡ suc (suc (2 * i)) = omega arith in
    rw e (ap (λ (bs : List ℕ). w % 256 ∷ w / 256 ∷ bs) (low_set ws i v fits))

high_set : (words : List ℕ) (i v : ℕ)
    → bytes_of (slice_set words i (v * 256 + slice_index_or words i 0 % 256)) ≡ slice_set (bytes_of words) (2 * i + 1) v
high_set [] i v = refl
high_set (w ∷ ws) zero v =
    let low : (v * 256 + w % 256) % 256 ≡ w % 256 = omega arith in
    let high : (v * 256 + w % 256) / 256 ≡ v = omega arith in
    rw (low, high) refl
high_set (w ∷ ws) (suc i) v =
    let e : 2 * suc i + 1 ≡ suc (suc (2 * i + 1)) = omega arith in
    rw e (ap (λ (bs : List ℕ). w % 256 ∷ w / 256 ∷ bs) (high_set ws i v))

pub put_low : (words : List ℕ) (a i w v : ℕ) → a % 2 ≡ 0 → i ≡ a / 2 → i < length words → w ≡ slice_index_or words i w
    → v < 256
    → bytes_of (slice_set words i (w / 256 * 256 + v)) ≡ with_byte a v (bytes_of words)
put_low words a i w v even index inside word fits =
    let e : 2 * i ≡ a = omega arith in
    let f : w ≡ slice_index_or words i 0 = word ∙ get_or_default_zero words i w inside in
    ap (λ (k : ℕ). bytes_of (slice_set words i (k / 256 * 256 + v))) f
    ∙ low_set words i v fits
    ∙ ap (λ (k : ℕ). slice_set (bytes_of words) k v) e

pub put_high : (words : List ℕ) (a i w v : ℕ) → 0 < a % 2 → i ≡ a / 2 → i < length words → w ≡ slice_index_or words i w
    → bytes_of (slice_set words i (v * 256 + w % 256)) ≡ with_byte a v (bytes_of words)
put_high words a i w v odd index inside word =
    let e : 2 * i + 1 ≡ a = omega arith in
    let f : w ≡ slice_index_or words i 0 = word ∙ get_or_default_zero words i w inside in
    ap (λ (k : ℕ). bytes_of (slice_set words i (v * 256 + k % 256))) f
    ∙ high_set words i v
    ∙ ap (λ (k : ℕ). slice_set (bytes_of words) k v) e

-- storing a word leaves the number of bytes unchanged
pub size_stays : (words : List ℕ) (i v : ℕ) → length (bytes_of (slice_set words i v)) ≡ length (bytes_of words)
size_stays words i v = omega (arith, length_of_bytes (slice_set words i v), length_of_bytes words, length-set words i v)

-- an address rotated right by one bit is the index of a word if and only if the address is even and inside memory
pub word_inside : (words : List ℕ) (a : ℕ) → length words ≤ most_words
    → nat_lt (a / 2 + a % 2 * 0o100000) (length words) ≡ (not (a % 2 == 1) && nat_lt a (length (bytes_of words)))
word_inside words a most = grind (arith, nat_tests, length_of_bytes words, most)
