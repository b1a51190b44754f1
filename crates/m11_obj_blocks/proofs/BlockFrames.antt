-- Bytes that are read as blocks are blocks of the format, and blocks of the format are read.
use Rattle.std.proofs.Common.{◌≡◌, ◌∙◌, ℕ, ◌+◌, ◌-◌, ◌≤◌, false, cond, ltb, List, [], ◌∷◌, ◌++◌, length, sum, take, drop, slice_index, ◌<◌, Ok, Err, refl, sym, ap, subst, append_assoc, arith, inl, inr, ◌⊎◌}
use Rattle.std.proofs.Math.Seq.{take-append_seam, drop-append_seam, take-add}
use Rattle.std.proofs.lemmas.Bool.{le-ltb, ltb-false}
use Rattle.std.proofs.lemmas.Bool.Decides.{eqb_tells}
use Rattle.std.proofs.lemmas.List.{take-append-drop, length-append, length-drop, length-take-le, take_more}
use Rattle.m11_obj_blocks.specs.declared.block_fault.BlockFault.{BlockFault}
use Rattle.m11_obj_blocks.specs.declared.block_fault.BlockFault.TheVariants as fault
use Rattle.m11_obj_blocks.specs.Frames.{word_bytes, word, sum_byte, header, block, content_limit, AreBlocks, Nothing, Zero, Block}
use Rattle.m11_obj_blocks.specs.Limited.{Position, Took, Reads, Between, Inside, Refused, Read, ◌>>=◌}
use Rattle.m11_obj_blocks.specs.Blocks.{second, count_of, count, content_of, summed, first_block, AreRead}
use Rattle.m11_obj_blocks.proofs.FrameReads.{second_takes, second_within, word_takes, word_within, closed_again, closed_takes, closed_within}
use Rattle.m11_obj_blocks.proofs.ReadSteps.{Bytes, bytes_after, bind_ok, bind_err, chosen, done, rest_is, value_is}
use Rattle.m11_obj_blocks.proofs.BlockParts.{after_start, after_second, after_count, after_content}
pub use Rattle.m11_obj_blocks.proofs.BlockParts.{count_again}

-- ---- a block is read

content_again : (xs rest : List ℕ) → content_of (length xs) (xs ++ rest) ≡ Ok (xs, rest)
content_again xs rest =
    let long : ltb (length (xs ++ rest)) (length xs) ≡ false = le-ltb _ _ (omega (arith, length-append xs rest)) in
    rw (long, take-append_seam xs rest, drop-append_seam xs rest) refl

summed_again : (xs rest : List ℕ) → summed xs (sum_byte (header (length xs) ++ xs) ∷ rest) ≡ Ok (xs, rest)
summed_again xs rest = closed_again fault.BadSum xs (sum (header (length xs) ++ xs)) rest

parts_again : (xs rest : List ℕ) → length xs ≤ content_limit
    → first_block (1 ∷ 0 ∷ (word_bytes (length xs + 4) ++ (xs ++ sum_byte (header (length xs) ++ xs) ∷ rest)))
    ≡ Ok (xs, rest)
unfolding first_block
parts_again xs rest fits =
    let following : List ℕ = xs ++ sum_byte (header (length xs) ++ xs) ∷ rest in
    ap (λ (r : Read BlockFault ℕ). r >>= after_count) (count_again (length xs) following fits)
    ∙ ap (λ (r : Read BlockFault (List ℕ)). r >>= after_content)
    (content_again xs (sum_byte (header (length xs) ++ xs) ∷ rest))
    ∙ summed_again xs rest

pub block_parts : (xs rest : List ℕ)
    → block xs ++ rest ≡ 1 ∷ 0 ∷ (word_bytes (length xs + 4) ++ (xs ++ sum_byte (header (length xs) ++ xs) ∷ rest))
unfolding block
block_parts xs rest =
    let last : List ℕ = sum_byte (header (length xs) ++ xs) ∷ [] in
    append_assoc (header (length xs) ++ xs) last rest ∙ append_assoc (header (length xs)) xs (last ++ rest)

pub block_again : (content rest : List ℕ) → length content ≤ content_limit
    → first_block (block content ++ rest) ≡ Ok (content, rest)
block_again content rest fits = ap first_block (block_parts content rest) ∙ parts_again content rest fits

-- bytes that begin with a header, content of its length up to this column, and the right sum byte begin with a block
pub whole_block : (n end : ℕ) (bytes : List ℕ) → end ≡ 4 + n → end < length bytes → take 4 bytes ≡ header n
    → slice_index bytes end ≡ sum_byte (header (length (take (end - 4) (drop 4 bytes))) ++ take (end - 4) (drop 4 bytes))
    → (length (take (end - 4) (drop 4 bytes)) ≡ n)
    × (take (length (take (end - 4) (drop 4 bytes)) + 5) bytes ≡ block (take (end - 4) (drop 4 bytes)))
unfolding block
whole_block n end bytes is enough front last =
    let content : List ℕ = take (end - 4) (drop 4 bytes) in
    let counted : length content ≡ n =
    length-take-le (end - 4) (drop 4 bytes) (omega (arith, length-drop 4 bytes)) ∙ omega arith in
    let sized : length content + 5 ≡ end + 1 = omega (arith, counted) in
    let ended : end ≡ 4 + (end - 4) = omega arith in
    let headed : take end bytes ≡ header (length content) ++ content =
    ap (λ m. take m bytes) ended ∙ take-add 4 (end - 4) bytes ∙ ap (λ l. l ++ content) (front ∙ ap header (sym counted)) in (
      counted,
      ap (λ m. take m bytes) sized ∙ take_more bytes end 0 enough ∙ ap (λ l. l ++ slice_index bytes end ∷ []) headed
          ∙ ap (λ b. (header (length content) ++ content) ++ b ∷ []) last,
    )

-- the bytes of a whole block are read at once
pub block_taken : (a b : Position) (content : List ℕ) → length content ≤ content_limit → Took a b (block content)
    → Reads first_block a b content
block_taken a b content fits took =
    record { given = block content; took = took; is = λ rest. block_again content rest fits }

-- ---- bytes that are read are a block

count_of_takes : (length n : ℕ) (bytes rest : List ℕ) → count_of length bytes ≡ Ok (n, rest)
    → (n ≤ content_limit) × (length ≡ n + 4) × (bytes ≡ rest)
count_of_takes length n bytes rest e =
    elim (chosen (ltb length 4) (Err (Refused fault.TooShort bytes))
    (cond (ltb 516 length) (Err (Refused fault.TooLong bytes)) (done (length - 4) bytes)) (Ok (n, rest)) e) [
      | inl short ↦ absurd (let bad = short.1 in cc)
      | inr enough ↦ elim (chosen (ltb 516 length) (Err (Refused fault.TooLong bytes)) (done (length - 4) bytes)
          (Ok (n, rest)) enough.1) [
            | inl long ↦ absurd (let bad = long.1 in cc)
            | inr fits ↦
                let least = ltb-false length 4 enough.0 in
                let most = ltb-false 516 length fits.0 in
                let is : length - 4 ≡ n = value_is (length - 4) n bytes rest fits.1 in
                (omega arith, omega arith, rest_is (length - 4) n bytes rest fits.1)
          ]
    ]

pub count_takes : (n : ℕ) (bytes rest : List ℕ) → Bytes bytes → count bytes ≡ Ok (n, rest)
    → (n ≤ content_limit) × (bytes ≡ word_bytes (n + 4) ++ rest)
count_takes n bytes rest small e =
    let w = bind_ok (word bytes) (λ length. count_of length.0 length.1) (n, rest) e in
    let is = word_takes w.0.0 bytes w.0.1 small w.1 in
    let t = count_of_takes w.0.0 n w.0.1 rest w.2 in
    (t.0, is.1 ∙ rw (t.1, t.2) refl)

pub content_takes : (n : ℕ) (bytes xs rest : List ℕ) → content_of n bytes ≡ Ok (xs, rest)
    → (length xs ≡ n) × (bytes ≡ xs ++ rest)
content_takes n bytes xs rest e =
    elim (chosen (ltb (length bytes) n) (Err Inside) (done (take n bytes) (drop n bytes)) (Ok (xs, rest)) e) [
      | inl short ↦ absurd (let bad = short.1 in cc)
      | inr enough ↦
          let le = ltb-false (length bytes) n enough.0 in
          let front : take n bytes ≡ xs = value_is (take n bytes) xs (drop n bytes) rest enough.1 in
          let back : drop n bytes ≡ rest = rest_is (take n bytes) xs (drop n bytes) rest enough.1 in (
            ap length (sym front) ∙ length-take-le n bytes (omega arith),
            sym (take-append-drop n bytes) ∙ rw (front, back) refl,
          )
    ]

-- if bytes after a 001 are read as a content and a rest, the 001 and these bytes are the block with this content and the rest
block_after : (bytes content rest : List ℕ) → Bytes bytes → after_start (tt, bytes) ≡ Ok (content, rest)
    → (length content ≤ content_limit) × (1 ∷ bytes ≡ block content ++ rest)
block_after bytes content rest small e =
    let s = bind_ok (second bytes) after_second (content, rest) e in
    let n = bind_ok (count s.0.1) after_count (content, rest) s.2 in
    let xs = bind_ok (content_of n.0.0 n.0.1) after_content (content, rest) n.2 in
    let second_is : bytes ≡ 0 ∷ s.0.1 = second_takes fault.BadStart bytes s.0.1 s.1 in
    let small' : Bytes (0 ∷ s.0.1) = subst Bytes second_is small in
    let count_is = count_takes n.0.0 s.0.1 n.0.1 small'.1 n.1 in
    let content_is = content_takes n.0.0 n.0.1 xs.0.0 xs.0.1 xs.1 in
    let sum_is = closed_takes fault.BadSum xs.0.0 (sum (header (length xs.0.0) ++ xs.0.0)) content xs.0.1 rest xs.2 in
    let same : xs.0.0 ≡ content = sum_is.0 in
    let long : length content ≡ n.0.0 = ap length (sym same) ∙ content_is.0 in
    let tail : n.0.1 ≡ content ++ sum_byte (header (length content) ++ content) ∷ rest =
    content_is.1 ∙ rw (sum_is.1, same) refl in (
      omega (arith, count_is.0, long),
      rw (second_is, count_is.1, tail, ← long) (sym (block_parts content rest)),
    )

-- ---- blocks one after another

pub zero_in_front : (bytes : List ℕ) → first_block (0 ∷ bytes) ≡ first_block bytes
unfolding first_block
zero_in_front bytes = refl

zero_read : (contents : List (List ℕ)) (bytes : List ℕ) → AreRead contents bytes → AreRead contents (0 ∷ bytes)
zero_read [] bytes e = zero_in_front bytes ∙ e
zero_read (content ∷ contents) bytes h = (h.0, zero_in_front bytes ∙ h.1, h.2)

pub nothing_read : first_block [] ≡ Err Between
unfolding first_block
nothing_read = refl

-- bytes that are blocks of the format are read as these blocks
pub blocks_read : (contents : List (List ℕ)) (bytes : List ℕ) → AreBlocks contents bytes → AreRead contents bytes
blocks_read _ _ Nothing = nothing_read
blocks_read contents _ (Zero {bytes = bytes} h) = zero_read contents bytes (blocks_read contents bytes h)
blocks_read _ _ (Block {contents = contents} {bytes = bytes} content fits h) =
    (bytes, block_again content bytes fits, blocks_read contents bytes h)

-- a first byte 0 is skipped, 1 begins a block, and any other byte is refused
pub begun : (byte : ℕ) (bytes : List ℕ) → ((byte ≡ 0) × (first_block (byte ∷ bytes) ≡ first_block bytes))
    ⊎ (((byte ≡ 1) × (first_block (byte ∷ bytes) ≡ after_start (tt, bytes)))
    ⊎ (first_block (byte ∷ bytes) ≡ Err (Refused fault.BadStart bytes)))
unfolding first_block
begun byte bytes =
    elim (eqb_tells byte 0) [
      | inl zero_is ↦ inl (zero_is.1, rw zero_is.0 refl)
      | inr other ↦ elim (eqb_tells byte 1) [
        | inl one_is ↦ inr (inl (one_is.1, rw (other.0, one_is.0) refl))
        | inr neither ↦ inr (inr (rw (other.0, neither.0) refl))
      ]
    ]

-- if a first block is read, the bytes before the rest are zeros and this block
framed : (bytes content rest : List ℕ) → Bytes bytes → first_block bytes ≡ Ok (content, rest)
    → Bytes rest × ((contents : List (List ℕ)) → AreBlocks contents rest → AreBlocks (content ∷ contents) bytes)
framed [] content rest small e = absurd (let bad = sym nothing_read ∙ e in cc)
framed (byte ∷ bytes) content rest small e =
    elim (begun byte bytes) [
      | inl zero_is ↦
          let others = framed bytes content rest small.1 (sym zero_is.1 ∙ e) in (
            others.0,
            λ contents h. let P : ℕ → Type 0 = λ first. AreBlocks (content ∷ contents) (first ∷ bytes) in
                subst P (sym zero_is.0) (Zero (others.1 contents h)),
          )
      | inr other ↦ elim other [
        | inl one_is ↦
            let found = block_after bytes content rest small.1 (sym one_is.1 ∙ e) in
            let is : byte ∷ bytes ≡ block content ++ rest = ap (λ (first : ℕ). first ∷ bytes) one_is.0 ∙ found.1 in (
              bytes_after (block content) rest (subst Bytes is small),
              λ contents h. let P : List ℕ → Type 0 = λ xs. AreBlocks (content ∷ contents) xs in
                  subst P (sym is) (Block content found.0 h),
            )
        | inr refused ↦ absurd (let bad = sym refused ∙ e in cc)
      ]
    ]

-- ---- the end after a block's first byte is inside it

count_of_within : (length : ℕ) (bytes : List ℕ) → count_of length bytes ≡ Err Between → ⊥
count_of_within length bytes e =
    elim (chosen (ltb length 4) (Err (Refused fault.TooShort bytes))
    (cond (ltb 516 length) (Err (Refused fault.TooLong bytes)) (done (length - 4) bytes)) (Err Between) e) [
      | inl short ↦ (let bad = short.1 in cc)
      | inr enough ↦ elim (chosen (ltb 516 length) (Err (Refused fault.TooLong bytes)) (done (length - 4) bytes)
          (Err Between) enough.1) [
            | inl long ↦ (let bad = long.1 in cc)
            | inr fits ↦ (let bad = fits.1 in cc)
          ]
    ]

count_within : (bytes : List ℕ) → count bytes ≡ Err Between → ⊥
count_within bytes e =
    elim (bind_err (word bytes) (λ length. count_of length.0 length.1) Between e) [
      | inl early ↦ word_within bytes early
      | inr w ↦ count_of_within w.0.0 w.0.1 w.2
    ]

content_within : (n : ℕ) (bytes : List ℕ) → content_of n bytes ≡ Err Between → ⊥
content_within n bytes e =
    elim (chosen (ltb (length bytes) n) (Err Inside) (done (take n bytes) (drop n bytes)) (Err Between) e) [
      | inl short ↦ (let bad = short.1 in cc)
      | inr enough ↦ (let bad = enough.1 in cc)
    ]

pub start_within : (bytes : List ℕ) → after_start (tt, bytes) ≡ Err Between → ⊥
start_within bytes e =
    elim (bind_err (second bytes) after_second Between e) [
      | inl early ↦ second_within fault.BadStart bytes early
      | inr s ↦ elim (bind_err (count s.0.1) after_count Between s.2) [
        | inl early ↦ count_within s.0.1 early
        | inr n ↦ elim (bind_err (content_of n.0.0 n.0.1) after_content Between n.2) [
          | inl early ↦ content_within n.0.0 n.0.1 early
          | inr xs ↦ closed_within fault.BadSum xs.0.0 (sum (header (length xs.0.0) ++ xs.0.0)) xs.0.1 xs.2
        ]
      ]
    ]

nothing_framed : (bytes : List ℕ) → first_block bytes ≡ Err Between → AreBlocks [] bytes
nothing_framed [] e = Nothing
nothing_framed (byte ∷ bytes) e =
    elim (begun byte bytes) [
      | inl zero_is ↦
          let P : ℕ → Type 0 = λ first. AreBlocks [] (first ∷ bytes) in
          subst P (sym zero_is.0) (Zero (nothing_framed bytes (sym zero_is.1 ∙ e)))
      | inr other ↦ elim other [
        | inl one_is ↦ absurd (start_within bytes (sym one_is.1 ∙ e))
        | inr refused ↦ absurd (let bad = sym refused ∙ e in cc)
      ]
    ]

-- bytes that are read as blocks are blocks of the format
pub blocks_framed : (contents : List (List ℕ)) (bytes : List ℕ) → Bytes bytes → AreRead contents bytes
    → AreBlocks contents bytes
blocks_framed [] bytes small e = nothing_framed bytes e
blocks_framed (content ∷ contents) bytes small h =
    let first = framed bytes content h.0 small h.1 in
    first.1 contents (blocks_framed contents h.0 first.0 h.2)
