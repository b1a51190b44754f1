-- Bytes that are put into memory, one after another.
use Rattle.std.proofs.Common.{◌≡◌, ◌∙◌, ℕ, zero, suc, ◌+◌, ◌<◌, ◌≤◌, List, [], ◌∷◌, ◌++◌, get_or, length, set, take, Some, refl, ap, arith}
use Rattle.std.proofs.lemmas.List.{length-take-le, take_all, take_more}
use Rattle.m11_dump_source.specs.Memory.{Cells, with_bytes}

pub as_long : (index : ℕ) (bytes : List ℕ) (cells : Cells) → length (with_bytes index bytes cells) ≡ length cells
as_long index bytes [] = refl
as_long zero [] (cell ∷ cells) = refl
as_long zero (byte ∷ bytes) (cell ∷ cells) = ap (λ (n : ℕ). suc n) (as_long zero bytes cells)
as_long (suc index) bytes (cell ∷ cells) = ap (λ (n : ℕ). suc n) (as_long index bytes cells)

pub none_stored : (index : ℕ) (cells : Cells) → with_bytes index [] cells ≡ cells
none_stored index [] = refl
none_stored zero (cell ∷ cells) = refl
none_stored (suc index) (cell ∷ cells) = ap (λ (l : Cells). cell ∷ l) (none_stored index cells)

-- one more byte is put into the next cell
one_more : (index at : ℕ) (bytes : List ℕ) (byte : ℕ) (cells : Cells) → at ≡ index + length bytes → at < length cells
    → with_bytes index (bytes ++ byte ∷ []) cells ≡ set (with_bytes index bytes cells) at (Some byte)
one_more index at bytes byte [] is within = absurd (omega (arith, within))
one_more zero zero [] byte (cell ∷ cells) is within = ap (λ (l : Cells). Some byte ∷ l) (none_stored 0 cells)
one_more zero (suc at) [] byte (cell ∷ cells) is within = absurd (omega (arith, is))
one_more zero zero (first ∷ bytes) byte (cell ∷ cells) is within = absurd (omega (arith, is))
one_more zero (suc at) (first ∷ bytes) byte (cell ∷ cells) is within =
    ap (λ (l : Cells). Some first ∷ l) (one_more 0 at bytes byte cells (omega (arith, is)) (omega (arith, within)))
one_more (suc index) zero bytes byte (cell ∷ cells) is within = absurd (omega (arith, is))
one_more (suc index) (suc at) bytes byte (cell ∷ cells) is within =
    ap (λ (l : Cells). cell ∷ l) (one_more index at bytes byte cells (omega (arith, is)) (omega (arith, within)))

-- a byte past the last cell is left out
one_past : (index : ℕ) (bytes : List ℕ) (byte : ℕ) (cells : Cells) → length cells ≤ index + length bytes
    → with_bytes index (bytes ++ byte ∷ []) cells ≡ with_bytes index bytes cells
one_past index bytes byte [] past = refl
one_past zero [] byte (cell ∷ cells) past = absurd (omega (arith, past))
one_past zero (first ∷ bytes) byte (cell ∷ cells) past =
    ap (λ (l : Cells). Some first ∷ l) (one_past 0 bytes byte cells (omega (arith, past)))
one_past (suc index) bytes byte (cell ∷ cells) past =
    ap (λ (l : Cells). cell ∷ l) (one_past index bytes byte cells (omega (arith, past)))

-- the same, for the bytes of a list up to an index
pub one_stored : (index count : ℕ) (bytes : List ℕ) (cells : Cells) → count < length bytes → index + count < length cells
    → with_bytes index (take (count + 1) bytes) cells
    ≡ set (with_bytes index (take count bytes) cells) (index + count) (Some (get_or bytes count 0))
one_stored index count bytes cells more within =
    let long : length (take count bytes) ≡ count = length-take-le count bytes (omega (arith, more)) in
    ap (λ (l : List ℕ). with_bytes index l cells) (take_more bytes count 0 more)
    ∙ one_more index (index + count) (take count bytes) (get_or bytes count 0) cells (omega (arith, long)) within

pub one_left_out : (index count : ℕ) (bytes : List ℕ) (cells : Cells) → count < length bytes → length cells ≤ index + count
    → with_bytes index (take (count + 1) bytes) cells ≡ with_bytes index (take count bytes) cells
one_left_out index count bytes cells more past =
    let long : length (take count bytes) ≡ count = length-take-le count bytes (omega (arith, more)) in
    ap (λ (l : List ℕ). with_bytes index l cells) (take_more bytes count 0 more)
    ∙ one_past index (take count bytes) (get_or bytes count 0) cells (omega (arith, long, past))

pub all_stored : (index count : ℕ) (bytes : List ℕ) (cells : Cells) → length bytes ≤ count
    → with_bytes index (take count bytes) cells ≡ with_bytes index bytes cells
all_stored index count bytes cells all = ap (λ (l : List ℕ). with_bytes index l cells) (take_all count bytes all)
