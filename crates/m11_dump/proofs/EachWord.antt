-- Each word of a block is shown once, in order.
use Rattle.std.proofs.Common.{◌≡◌, ◌∙◌, ℕ, ◌+◌, ◌-◌, ◌*◌, ◌<◌, List, [], ◌∷◌, ◌++◌, append_assoc, length, sym, ap, arith}
use Rattle.m11_base.specs.Octal.{octal_text, octal_value}
use Rattle.m11_dump.specs.Words.{byte_cell, word_cell, words_from}

-- the text of the bytes after an even number of bytes follows the text of those
words_after : (address index count : ℕ) (before following : List ℕ) → length before ≡ 2 * count
    → words_from address index (before ++ following) ≡ words_from address index before ++ words_from address (index + length before) following
words_after address index count [] following even =
    let same : index ≡ index + 0 = omega arith in ap (λ (i : ℕ). words_from address i following) same
words_after address index count (byte ∷ []) following even = absurd (omega (arith, even))
words_after address index count (low ∷ high ∷ before) following even =
    let same : index + 2 + length before ≡ index + length (low ∷ high ∷ before) = omega arith in
    let fewer : length before ≡ 2 * (count - 1) = omega (arith, even) in
    let cell = word_cell address index (low + 256 * high) in
    ap (λ (text : List ℕ). cell ++ text) (words_after address (index + 2) (count - 1) before following fewer)
    ∙ sym (append_assoc cell (words_from address (index + 2) before) (words_from address (index + 2 + length before) following))
    ∙ ap (λ (i : ℕ). (cell ++ words_from address (index + 2) before) ++ words_from address i following) same

from_first : (address count : ℕ) (before following : List ℕ) → length before ≡ 2 * count
    → words_from address 0 (before ++ following) ≡ words_from address 0 before ++ words_from address (length before) following
from_first address count before following even =
    let same : 0 + length before ≡ length before = omega arith in
    words_after address 0 count before following even
    ∙ ap (λ (i : ℕ). words_from address 0 before ++ words_from address i following) same

pub word_between : (address count low high : ℕ) (before following : List ℕ) → length before ≡ 2 * count
    → words_from address 0 (before ++ low ∷ high ∷ following) ≡ words_from address 0 before
    ++ (word_cell address (length before) (low + 256 * high) ++ words_from address (length before + 2) following)
word_between address count low high before following even = from_first address count before (low ∷ high ∷ following) even

pub byte_after : (address count byte : ℕ) (before : List ℕ) → length before ≡ 2 * count
    → words_from address 0 (before ++ byte ∷ []) ≡ words_from address 0 before ++ byte_cell address (length before) byte
byte_after address count byte before even = from_first address count before (byte ∷ []) even

pub word_spelled : (low high : ℕ) → low < 256 → high < 256 → octal_value (octal_text (low + 256 * high)) ≡ low + 256 * high
word_spelled low high l h = omega arith
