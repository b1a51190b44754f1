-- Bytes that are shown as words, two at a time.
use Rattle.std.proofs.Common.{◌≡◌, ◌∙◌, ℕ, ◌+◌, ◌*◌, ◌<◌, ◌≤◌, List, ◌∷◌, ◌++◌, append-nil, append_assoc, drop, get_or, length, slice_get, Some, sym, ap, subst, arith}
use Rattle.std.proofs.lemmas.List.{drop_all, drop_more}
use Rattle.m11_dump.proofs.Items.{drop_at}
use Rattle.m11_dump.specs.Words.{byte_cell, word_cell, words_from}

two_left : (bytes : List ℕ) (index : ℕ) → index + 1 < length bytes
    → drop index bytes ≡ get_or bytes index 0 ∷ get_or bytes (index + 1) 0 ∷ drop (index + 2) bytes
two_left bytes index h =
    let one = drop_more bytes index 0 (omega arith) in
    let two = drop_more bytes (index + 1) 0 h in
    let same : index + 1 + 1 ≡ index + 2 = omega arith in
    one ∙ ap (λ (left : List ℕ). get_or bytes index 0 ∷ left)
    (two ∙ ap (λ (i : ℕ). get_or bytes (index + 1) 0 ∷ drop i bytes) same)

-- after two more bytes are shown as a word, the text so far and that of the remaining bytes still make the whole text
pub word_shown : (all now later bytes : List ℕ) (address index : ℕ) → index + 1 < length bytes
    → now ++ words_from address index (drop index bytes) ≡ all
    → later ≡ now ++ word_cell address index (get_or bytes index 0 + 256 * get_or bytes (index + 1) 0)
    → later ++ words_from address (index + 2) (drop (index + 2) bytes) ≡ all
word_shown all now later bytes address index h leads is =
    let P : List ℕ → Type 0 = λ left. now ++ words_from address index left ≡ all in
    let cell = word_cell address index (get_or bytes index 0 + 256 * get_or bytes (index + 1) 0) in
    let rest = words_from address (index + 2) (drop (index + 2) bytes) in
    ap (λ (text : List ℕ). text ++ rest) is ∙ append_assoc now cell rest ∙ subst P (two_left bytes index h) leads

-- a last single byte is shown as a byte; without further bytes, nothing is added
pub last_shown : (bytes : List ℕ) (address index byte : ℕ) → slice_get bytes index ≡ Some byte → length bytes ≤ index + 1
    → words_from address index (drop index bytes) ≡ byte_cell address index byte
last_shown bytes address index byte e h =
    ap (λ (left : List ℕ). words_from address index left)
    (drop_at bytes index byte e ∙ ap (λ (left : List ℕ). byte ∷ left) (drop_all (index + 1) bytes h))

pub none_shown : (bytes now : List ℕ) (address index : ℕ) → length bytes ≤ index
    → now ≡ now ++ words_from address index (drop index bytes)
none_shown bytes now address index h =
    sym (append-nil now) ∙ ap (λ (left : List ℕ). now ++ words_from address index left) (sym (drop_all index bytes h))
