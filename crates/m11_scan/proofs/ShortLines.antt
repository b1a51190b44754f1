-- Short lines, whose beginning is copied with a fixed size.
use Rattle.std.proofs.Common.{◌≡◌, ◌≤◌, ℕ, Bool, true, false, List, [], ◌++◌, length, take, refl, sym, ap, ◌∙◌, arith}
use Rattle.std.specs.Prelude.{◌||◌, nat_lt}
use Rattle.std.proofs.lemmas.Bool.{le-ltb}
use Rattle.std.proofs.lemmas.List.{length-take-le, take_all, take-append-le, take-take}
use Rattle.m11_scan.specs.Line.{with_bytes}

or_false : (b : Bool) → (b || false) ≡ b
or_false true = refl
or_false false = refl

-- if `size` bytes were copied, the first `count` of them are those of the source, whatever follows
pub front_copied : (count size : ℕ) (front rest bytes : List ℕ) → count ≤ size → size ≤ length front
    → front ≡ take size bytes → take count (front ++ rest) ≡ take count bytes
front_copied count size front rest bytes short within copied =
    take-append-le count front rest (omega arith) ∙ ap (take count) copied ∙ take-take count size bytes short

-- a short text that is added to an empty line is added whole
pub begun : (is_over_long : Bool) (count : ℕ) (text : List ℕ) → count ≤ 48 → count ≤ length text
    → record { text = take count text; is_over_long = is_over_long }
    ≡ with_bytes (record { text = []; is_over_long = is_over_long }) (take count text)
begun is_over_long count text short within =
    let size : length (take count text) ≡ count = length-take-le count text within in
    let whole : take 132 (take count text) ≡ take count text = take_all 132 (take count text) (omega arith) in
    let fits : nat_lt 132 (length (take count text)) ≡ false = le-ltb 132 (length (take count text)) (omega arith) in
    rw (whole, fits) (ap (λ (b : Bool). record { text = take count text; is_over_long = b }) (sym (or_false is_over_long)))
