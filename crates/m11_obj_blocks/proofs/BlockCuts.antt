-- Bytes end inside a block if and only if they are zeros and then a beginning of a block.
use Rattle.std.proofs.Common.{◌≡◌, ◌∙◌, ℕ, zero, suc, ◌+◌, ◌-◌, ◌/◌, ◌%◌, ◌<◌, ◌≤◌, cond, ltb, List, [], ◌∷◌, ◌++◌, length, sum, take, drop, replicate, Err, refl, sym, ap, subst, append_assoc, arith, inl, inr, ◌⊎◌}
use Rattle.std.proofs.Math.Seq.{drop-length}
use Rattle.std.proofs.lemmas.Bool.{le-ltb, lt-ltb, ltb-true, cases_lt}
use Rattle.std.proofs.lemmas.List.{length-append, length-replicate, append-nil}
use Rattle.m11_obj_blocks.specs.declared.block_fault.BlockFault.{BlockFault}
use Rattle.m11_obj_blocks.specs.declared.block_fault.BlockFault.TheVariants as fault
use Rattle.m11_obj_blocks.specs.Frames.{word_bytes, word, sum_byte, header, block, content_limit}
use Rattle.m11_obj_blocks.specs.Limited.{Inside, Refused, Read, ◌>>=◌}
use Rattle.m11_obj_blocks.specs.Blocks.{second, count_of, count, content_of, first_block, IsCut}
use Rattle.m11_obj_blocks.proofs.BlockParts.{after_start, after_second, after_count, after_content}
use Rattle.m11_obj_blocks.proofs.ReadSteps.{Bytes, bind_err, chosen, done}
use Rattle.m11_obj_blocks.proofs.FrameReads.{second_takes, second_inside, word_inside, closed_inside}
use Rattle.m11_obj_blocks.proofs.BlockFrames.{count_again, block_parts, count_takes, content_takes, zero_in_front, nothing_read, begun}

-- ---- bytes that are a block's beginning end inside the block

abbrev low_of : List ℕ → ℕ
low_of content = (length content + 4) % 256

abbrev high_of : List ℕ → ℕ
high_of content = (length content + 4) / 256 % 256

abbrev last_of : List ℕ → ℕ
last_of content = sum_byte (header (length content) ++ content)

one_byte : first_block (1 ∷ []) ≡ Err Inside
unfolding first_block
one_byte = refl

two_bytes : first_block (1 ∷ 0 ∷ []) ≡ Err Inside
unfolding first_block
two_bytes = refl

three_bytes : (low : ℕ) → first_block (1 ∷ 0 ∷ low ∷ []) ≡ Err Inside
unfolding first_block
three_bytes low = refl

none_after : (xs : List ℕ) (n : ℕ) → length xs ≡ n → drop n xs ≡ []
none_after xs n e = rw (← e) (drop-length xs)

short_content : (n : ℕ) (tail : List ℕ) → length tail ≤ n → (content_of n tail >>= after_content) ≡ Err Inside
short_content n tail le =
    elim (cases_lt (length tail) n) [
      | inl lt ↦ rw (lt-ltb (length tail) n lt) refl
      | inr ge ↦ rw (le-ltb (length tail) n ge, none_after tail n (omega arith)) refl
    ]

header_and : (content tail : List ℕ) → length content ≤ content_limit → length tail ≤ length content
    → first_block (1 ∷ 0 ∷ low_of content ∷ high_of content ∷ tail) ≡ Err Inside
unfolding first_block
header_and content tail fits le =
    ap (λ (r : Read BlockFault ℕ). r >>= after_count) (count_again (length content) tail fits)
    ∙ short_content (length content) tail le

cut_inside : (content part missing : List ℕ) → length content ≤ content_limit → 0 < length part → 0 < length missing
    → 1 ∷ 0 ∷ low_of content ∷ high_of content ∷ (content ++ last_of content ∷ []) ≡ part ++ missing
    → first_block part ≡ Err Inside
cut_inside content [] missing fits some cut e = absurd (omega arith)
cut_inside content (a ∷ []) missing fits some cut e =
    let first : a ≡ 1 = cc in rw first one_byte
cut_inside content (a ∷ b ∷ []) missing fits some cut e =
    let first : a ≡ 1 = cc in let second : b ≡ 0 = cc in rw (first, second) two_bytes
cut_inside content (a ∷ b ∷ c ∷ []) missing fits some cut e =
    let first : a ≡ 1 = cc in let second : b ≡ 0 = cc in rw (first, second) (three_bytes c)
cut_inside content (a ∷ b ∷ c ∷ d ∷ tail) missing fits some cut e =
    let first : a ≡ 1 = cc in
    let second : b ≡ 0 = cc in
    let third : c ≡ low_of content = cc in
    let fourth : d ≡ high_of content = cc in
    let rest : content ++ last_of content ∷ [] ≡ tail ++ missing = cc in
    let long = ap length rest in
    rw (first, second, third, fourth) (header_and content tail fits
    (omega (arith, long, length-append content (last_of content ∷ []), length-append tail missing)))

zeros_in_front : (zeros : ℕ) (bytes : List ℕ) → first_block (replicate zeros 0 ++ bytes) ≡ first_block bytes
zeros_in_front zero bytes = refl
zeros_in_front (suc n) bytes = zero_in_front (replicate n 0 ++ bytes) ∙ zeros_in_front n bytes

pub cut_read : (bytes : List ℕ) → IsCut bytes → first_block bytes ≡ Err Inside
cut_read bytes c =
    let is : block c.content ++ [] ≡ c.part ++ c.missing = append-nil (block c.content) ∙ c.split in
    ap first_block c.is ∙ zeros_in_front c.zeros c.part
    ∙ cut_inside c.content c.part c.missing c.fits c.some c.cut (sym (block_parts c.content []) ∙ is)

-- ---- bytes that end inside a block are a block's beginning

count_of_inside : (length : ℕ) (bytes : List ℕ) → count_of length bytes ≡ Err Inside → ⊥
count_of_inside length bytes e =
    elim (chosen (ltb length 4) (Err (Refused fault.TooShort bytes))
    (cond (ltb 516 length) (Err (Refused fault.TooLong bytes)) (done (length - 4) bytes)) (Err Inside) e) [
      | inl short ↦ (let bad = short.1 in cc)
      | inr enough ↦ elim (chosen (ltb 516 length) (Err (Refused fault.TooLong bytes)) (done (length - 4) bytes)
          (Err Inside) enough.1) [
            | inl long ↦ (let bad = long.1 in cc)
            | inr fits ↦ (let bad = fits.1 in cc)
          ]
    ]

count_inside : (bytes : List ℕ) → count bytes ≡ Err Inside → (bytes ≡ []) ⊎ ((low : ℕ) × (bytes ≡ low ∷ []))
count_inside bytes e =
    elim (bind_err (word bytes) (λ length. count_of length.0 length.1) Inside e) [
      | inl early ↦ word_inside bytes early
      | inr w ↦ absurd (count_of_inside w.0.0 w.0.1 w.2)
    ]

content_inside : (n : ℕ) (bytes : List ℕ) → content_of n bytes ≡ Err Inside → length bytes < n
content_inside n bytes e =
    elim (chosen (ltb (length bytes) n) (Err Inside) (done (take n bytes) (drop n bytes)) (Err Inside) e) [
      | inl short ↦ ltb-true (length bytes) n short.0
      | inr enough ↦ absurd (let bad = enough.1 in cc)
    ]

cut_by : (content part missing : List ℕ) → length content ≤ content_limit → 0 < length part → 0 < length missing
    → 1 ∷ 0 ∷ low_of content ∷ high_of content ∷ (content ++ last_of content ∷ []) ≡ part ++ missing → IsCut part
cut_by content part missing fits some cut e = record {
  zeros = 0;
  content = content;
  part = part;
  missing = missing;
  fits = fits;
  split = sym (append-nil (block content)) ∙ block_parts content [] ∙ e;
  some = some;
  cut = cut;
  is = refl;
}

-- bytes with a whole header, but not all of the bytes after it, are a beginning of a block
cut_tail : (n : ℕ) (content tail missing : List ℕ) → length content ≡ n → n ≤ content_limit → 0 < length missing
    → content ++ last_of content ∷ [] ≡ tail ++ missing → IsCut (1 ∷ 0 ∷ (word_bytes (n + 4) ++ tail))
cut_tail n content tail missing long fits cut e =
    cut_by content (1 ∷ 0 ∷ (word_bytes (n + 4) ++ tail)) missing (omega arith) (omega arith) cut
    (ap (λ (xs : List ℕ). 1 ∷ 0 ∷ low_of content ∷ high_of content ∷ xs) e
    ∙ ap (λ (m : ℕ). 1 ∷ 0 ∷ (word_bytes (m + 4) ++ (tail ++ missing))) long)

-- each byte is the low byte of the length in a valid header
some_count : (low : ℕ) → low < 256 → (n : ℕ) × (n ≤ content_limit) × ((n + 4) % 256 ≡ low)
some_count low small =
    elim (cases_lt low 4) [
      | inl lt ↦ (low + 252, omega arith, omega arith)
      | inr ge ↦ (low - 4, omega arith, omega arith)
    ]

cut_low : (low : ℕ) → low < 256 → IsCut (1 ∷ 0 ∷ low ∷ [])
cut_low low small =
    let n = some_count low small in
    let content : List ℕ = replicate n.0 0 in
    let long : length content ≡ n.0 = length-replicate n.0 0 in
    let first : low_of content ≡ low = ap (λ (m : ℕ). (m + 4) % 256) long ∙ n.2 in
    cut_by content (1 ∷ 0 ∷ low ∷ []) (high_of content ∷ (content ++ last_of content ∷ [])) (omega (arith, n.1, long))
    (omega arith) (omega arith)
    (ap (λ (b : ℕ). 1 ∷ 0 ∷ b ∷ high_of content ∷ (content ++ last_of content ∷ [])) first)

cut_content : (n : ℕ) (tail : List ℕ) → length tail < n → n ≤ content_limit
    → IsCut (1 ∷ 0 ∷ (word_bytes (n + 4) ++ tail))
cut_content n tail short fits =
    let more : List ℕ = replicate (n - length tail) 0 in
    let content : List ℕ = tail ++ more in
    let long : length content ≡ n =
    omega (arith, length-append tail more, length-replicate {A = ℕ} (n - length tail) 0) in
    cut_tail n content tail (more ++ last_of content ∷ []) long fits
    (omega (arith, length-append more (last_of content ∷ []))) (append_assoc tail more (last_of content ∷ []))

cut_after : (bytes : List ℕ) → Bytes bytes → after_start (tt, bytes) ≡ Err Inside → IsCut (1 ∷ bytes)
cut_after bytes small e =
    let P : List ℕ → Type 0 = λ xs. IsCut (1 ∷ xs) in
    elim (bind_err (second bytes) after_second Inside e) [
      | inl early ↦ subst P (sym (second_inside fault.BadStart bytes early))
          (cut_by [] (1 ∷ []) (0 ∷ 4 ∷ 0 ∷ 251 ∷ []) (omega arith) (omega arith) (omega arith) refl)
      | inr s ↦
          let second_is : bytes ≡ 0 ∷ s.0.1 = second_takes fault.BadStart bytes s.0.1 s.1 in
          let small' : Bytes (0 ∷ s.0.1) = subst Bytes second_is small in
          subst P (sym second_is) (after_count_byte s.0.1 small'.1 s.2)
    ]
  where
    after_header : (n : ℕ) (tail : List ℕ) → n ≤ content_limit → after_count (n, tail) ≡ Err Inside
        → IsCut (1 ∷ 0 ∷ (word_bytes (n + 4) ++ tail))
    after_header n tail fits h =
        elim (bind_err (content_of n tail) after_content Inside h) [
          | inl early ↦ cut_content n tail (content_inside n tail early) fits
          | inr xs ↦
              let t = content_takes n tail xs.0.0 xs.0.1 xs.1 in
              let none : xs.0.1 ≡ [] = closed_inside fault.BadSum xs.0.0 (sum (header (length xs.0.0) ++ xs.0.0)) xs.0.1 xs.2 in
              let whole : tail ≡ xs.0.0 = t.1 ∙ ap (λ (rest : List ℕ). xs.0.0 ++ rest) none ∙ append-nil xs.0.0 in
              cut_tail n xs.0.0 tail (last_of xs.0.0 ∷ []) t.0 fits (omega arith)
              (ap (λ (ys : List ℕ). ys ++ last_of xs.0.0 ∷ []) (sym whole))
        ]

    after_count_byte : (rest : List ℕ) → Bytes rest → after_second (tt, rest) ≡ Err Inside → IsCut (1 ∷ 0 ∷ rest)
    after_count_byte rest small h =
        let Q : List ℕ → Type 0 = λ xs. IsCut (1 ∷ 0 ∷ xs) in
        elim (bind_err (count rest) after_count Inside h) [
          | inl early ↦ elim (count_inside rest early) [
            | inl none ↦ subst Q (sym none)
                (cut_by [] (1 ∷ 0 ∷ []) (4 ∷ 0 ∷ 251 ∷ []) (omega arith) (omega arith) (omega arith) refl)
            | inr one ↦
                let small' : Bytes (one.0 ∷ []) = subst Bytes one.1 small in
                subst Q (sym one.1) (cut_low one.0 small'.0)
          ]
          | inr n ↦
              let t = count_takes n.0.0 rest n.0.1 small n.1 in
              subst Q (sym t.1) (after_header n.0.0 n.0.1 t.0 n.2)
        ]

one_more_zero : (bytes : List ℕ) → IsCut bytes → IsCut (0 ∷ bytes)
one_more_zero bytes c = record {
  zeros = suc c.zeros;
  content = c.content;
  part = c.part;
  missing = c.missing;
  fits = c.fits;
  split = c.split;
  some = c.some;
  cut = c.cut;
  is = ap (λ (xs : List ℕ). 0 ∷ xs) c.is;
}

pub read_cut : (bytes : List ℕ) → Bytes bytes → first_block bytes ≡ Err Inside → IsCut bytes
read_cut [] small e = absurd (let bad = sym nothing_read ∙ e in cc)
read_cut (byte ∷ bytes) small e =
    elim (begun byte bytes) [
      | inl zero_is ↦
          let P : ℕ → Type 0 = λ first. IsCut (first ∷ bytes) in
          subst P (sym zero_is.0) (one_more_zero bytes (read_cut bytes small.1 (sym zero_is.1 ∙ e)))
      | inr other ↦ elim other [
        | inl one_is ↦
            let P : ℕ → Type 0 = λ first. IsCut (first ∷ bytes) in
            subst P (sym one_is.0) (cut_after bytes small.1 (sym one_is.1 ∙ e))
        | inr refused ↦ absurd (let bad = sym refused ∙ e in cc)
      ]
    ]
