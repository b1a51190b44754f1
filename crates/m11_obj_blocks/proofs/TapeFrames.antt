-- Bytes that are read as a tape are a tape of the format, and a tape of the format is read.
use Rattle.std.proofs.Common.{◌≡◌, ◌≢◌, ◌∙◌, ℕ, ◌+◌, ◌-◌, ◌%◌, ◌<◌, ◌≤◌, false, cond, ltb, eqb, List, [], ◌∷◌, ◌++◌, length, sum, Ok, Err, refl, sym, ap, subst, append_assoc, arith, inl, inr, ◌⊎◌}
use Rattle.std.proofs.lemmas.Bool.{le-ltb, ltb-false, ne_eqb, eqb-true}
use Rattle.std.proofs.lemmas.Bool.Decides.{eqb_tells}
use Rattle.m11_obj_blocks.specs.declared.tape_fault.TapeFault.{TapeFault}
use Rattle.m11_obj_blocks.specs.declared.tape_fault.TapeFault.TheVariants as fault
use Rattle.m11_obj_blocks.specs.declared.tape_part.TapePart.{TapePart}
use Rattle.m11_obj_blocks.specs.declared.tape_part.TapePart.TheVariants.{Data, Start}
use Rattle.std.proofs.lemmas.List.Sums.{sum_by-append}
use Rattle.std.proofs.lemmas.List.{length-append}
use Rattle.m11_obj_blocks.specs.declared.tape_part.TapeStage.TheVariants.{InBlock}
use Rattle.m11_obj_blocks.specs.Frames.{word_bytes, word, closing, sum_byte, with_sum}
use Rattle.m11_obj_blocks.specs.Limited.{Refused, Read, ◌>>=◌}
use Rattle.m11_obj_blocks.specs.Tapes.{tape_header, tape_block, data_limit, IsTape, Transfer, Skipped, Block, start, second, count, summed, total_of, transfer, part_of, first_part, next_part, AreRead, IsReadAgain, opened, stage_within}
use Rattle.m11_obj_blocks.proofs.FrameReads.{second_takes, word_again, word_takes, closed_again, closed_takes}
use Rattle.m11_obj_blocks.proofs.ReadSteps.{Bytes, bytes_after, bind_ok, chosen, done, rest_is, value_is}
use Rattle.m11_obj_blocks.proofs.TapeParts.{after_start, after_second, after_count, after_address, after_sum}

-- ---- a tape is read

abbrev counted : ℕ × List ℕ → Read TapeFault ℕ
counted length = cond (ltb length.0 6) (Err (Refused fault.TooShort length.1)) (Ok (length.0 - 6, length.1))

pub count_again : (n : ℕ) (rest : List ℕ) → n ≤ data_limit → count (word_bytes (n + 6) ++ rest) ≡ Ok (n, rest)
unfolding count
count_again n rest fits =
    let least : ltb (n + 6) 6 ≡ false = le-ltb (n + 6) 6 (omega arith) in
    let same : n + 6 - 6 ≡ n = omega arith in
    ap (λ (r : Read TapeFault ℕ). r >>= counted) (word_again (n + 6) rest (omega arith)) ∙ rw (least, same) refl

-- a total and its remainder modulo 256 have the same sum byte
pub same_closing : (total : ℕ) → closing (total % 256) ≡ closing total
same_closing total = omega arith

summed_again : (xs rest : List ℕ) → summed (sum xs % 256) (sum_byte xs ∷ rest) ≡ Ok (tt, rest)
summed_again xs rest =
    ap (λ (last : ℕ). summed (sum xs % 256) (last ∷ rest)) (sym (same_closing (sum xs)))
    ∙ closed_again fault.BadSum tt (sum xs % 256) rest

-- the bytes of a block are its start, count, address, data and sum byte
pub block_parts : (address : ℕ) (xs rest : List ℕ) → tape_block address xs ++ rest
    ≡ 1 ∷ 0 ∷ (word_bytes (length xs + 6)
    ++ (word_bytes address ++ (xs ++ sum_byte (tape_header address (length xs) ++ xs) ∷ rest)))
unfolding tape_block
block_parts address xs rest =
    let last : List ℕ = sum_byte (tape_header address (length xs) ++ xs) ∷ [] in
    append_assoc (tape_header address (length xs) ++ xs) last rest
    ∙ append_assoc (tape_header address (length xs)) xs (last ++ rest)

pub header_again : (address n : ℕ) (rest : List ℕ) → address < 65536 → n ≤ data_limit
    → first_part (1 ∷ 0 ∷ (word_bytes (n + 6) ++ (word_bytes address ++ rest))) ≡ part_of n address rest
unfolding first_part
header_again address n rest lt fits =
    ap (λ (r : Read TapeFault ℕ). r >>= after_count) (count_again n (word_bytes address ++ rest) fits)
    ∙ ap (λ (r : Read TapeFault ℕ). r >>= after_address n) (word_again address rest lt)

pub some_again : (n address : ℕ) (rest : List ℕ) → 0 < n → part_of n address rest ≡ Ok (Data address n, rest)
some_again n address rest some = rw (ne_eqb n 0 (λ e. absurd (omega arith))) refl

pub block_again : (address : ℕ) (content rest : List ℕ) → address < 65536 → 0 < length content
    → length content ≤ data_limit
    → first_part (tape_block address content ++ rest)
    ≡ Ok (
      Data address (length content),
      content ++ sum_byte (tape_header address (length content) ++ content) ∷ rest,
    )
block_again address content rest lt some fits =
    ap first_part (block_parts address content rest)
    ∙ header_again address (length content)
    (content ++ sum_byte (tape_header address (length content) ++ content) ∷ rest) lt fits
    ∙ some_again (length content) address
    (content ++ sum_byte (tape_header address (length content) ++ content) ∷ rest) some

pub transfer_again : (address : ℕ) (rest : List ℕ) → address < 65536
    → first_part (tape_block address [] ++ rest) ≡ Ok (Start address, rest)
unfolding transfer
transfer_again address rest lt =
    ap first_part (block_parts address [] rest)
    ∙ header_again address 0 (sum_byte (tape_header address 0 ++ []) ∷ rest) lt (omega arith)
    ∙ ap (λ (r : Read TapeFault (Unit {0})). r >>= λ last. Ok (Start address, last.1))
    (summed_again (tape_header address 0 ++ []) rest)

-- after the data of a block, its sum byte is accepted and the next part is read
pub after_again : (address : ℕ) (content rest : List ℕ)
    → next_part (total_of address content) (sum_byte (tape_header address (length content) ++ content) ∷ rest)
    ≡ first_part rest
unfolding next_part
after_again address content rest =
    ap (λ (r : Read TapeFault (Unit {0})). r >>= after_sum)
    (summed_again (tape_header address (length content) ++ content) rest)

read_again : (address : ℕ) (content rest : List ℕ) → address < 65536 → 0 < length content → length content ≤ data_limit
    → IsReadAgain address content (tape_block address content) rest
read_again address content rest lt some fits = (
  sum_byte (tape_header address (length content) ++ content) ∷ rest,
  block_again address content rest lt some fits,
  after_again address content rest,
)

pub written_again : (address : ℕ) (content : List ℕ) → address < 65536 → 0 < length content
    → length content ≤ data_limit
    → (written : List ℕ) → written ≡ with_sum (tape_header address (length content) ++ content) → (rest : List ℕ)
    → IsReadAgain address content written rest
unfolding tape_block
written_again address content lt some fits written is rest = rw is (read_again address content rest lt some fits)

pub other_skipped : (byte : ℕ) (bytes : List ℕ) → byte ≢ 1 → first_part (byte ∷ bytes) ≡ first_part bytes
unfolding first_part
other_skipped byte bytes other = rw (ne_eqb byte 1 other) refl

-- if two readers return the same part, they read the same tape
read_alike : (read read' : List ℕ → Read TapeFault TapePart) (blocks : List (ℕ × List ℕ)) (address : ℕ)
    (bytes bytes' : List ℕ)
    → read' bytes' ≡ read bytes → AreRead read blocks address bytes → AreRead read' blocks address bytes'
read_alike read read' [] address bytes bytes' same h = (h.0, same ∙ h.1)
read_alike read read' (block ∷ blocks) address bytes bytes' same h = (h.0, same ∙ h.1, h.2)

-- bytes that are a tape of the format are read as this tape
pub tape_read : (blocks : List (ℕ × List ℕ)) (address : ℕ) (bytes : List ℕ) → IsTape blocks address bytes
    → AreRead first_part blocks address bytes
tape_read _ _ _ (Transfer address rest lt) = (rest, transfer_again address rest lt)
tape_read blocks address _ (Skipped {bytes = bytes} byte other h) =
    read_alike first_part first_part blocks address bytes (byte ∷ bytes) (other_skipped byte bytes other)
    (tape_read blocks address bytes h)
tape_read _ start _ (Block {blocks = blocks} {bytes = bytes} address content lt some fits h) =
    let last : ℕ = sum_byte (tape_header address (length content) ++ content) in (
      last ∷ bytes,
      block_again address content bytes lt some fits,
      read_alike first_part (next_part (total_of address content)) blocks start bytes (last ∷ bytes)
          (after_again address content bytes) (tape_read blocks start bytes h),
    )

-- ---- bytes that are read are a tape

pub count_takes : (n : ℕ) (bytes rest : List ℕ) → Bytes bytes → count bytes ≡ Ok (n, rest)
    → (n ≤ data_limit) × (bytes ≡ word_bytes (n + 6) ++ rest) × Bytes rest
unfolding count
count_takes n bytes rest small e =
    let w = bind_ok (word bytes) counted (n, rest) e in
    let t = word_takes w.0.0 bytes w.0.1 small w.1 in
    elim (chosen (ltb w.0.0 6) (Err (Refused fault.TooShort w.0.1)) (done (w.0.0 - 6) w.0.1) (Ok (n, rest)) w.2) [
      | inl short ↦ absurd (let bad = short.1 in cc)
      | inr enough ↦
          let least = ltb-false w.0.0 6 enough.0 in
          let is : w.0.0 - 6 ≡ n = value_is (w.0.0 - 6) n w.0.1 rest enough.1 in
          let full : w.0.0 ≡ n + 6 = omega (arith, least, is) in
          let same : w.0.1 ≡ rest = rest_is (w.0.0 - 6) n w.0.1 rest enough.1 in
          (omega (arith, t.0, full), t.1 ∙ rw (full, same) refl, subst Bytes same t.2)
    ]

summed_takes : (xs bytes rest : List ℕ) → Bytes bytes → summed (sum xs % 256) bytes ≡ Ok (tt, rest)
    → (bytes ≡ sum_byte xs ∷ rest) × Bytes rest
summed_takes xs bytes rest small e =
    let t = closed_takes fault.BadSum tt (sum xs % 256) tt bytes rest e in
    let is : bytes ≡ sum_byte xs ∷ rest = t.1 ∙ ap (λ (last : ℕ). last ∷ rest) (same_closing (sum xs)) in
    let small' : Bytes (sum_byte xs ∷ rest) = subst Bytes is small in
    (is, small'.1)

pub next_takes : (address : ℕ) (content bytes : List ℕ) (x : TapePart × List ℕ) → Bytes bytes
    → next_part (total_of address content) bytes ≡ Ok x
    → (rest : List ℕ) × (bytes ≡ sum_byte (tape_header address (length content) ++ content) ∷ rest) × Bytes rest
    × (first_part rest ≡ Ok x)
unfolding next_part
next_takes address content bytes x small e =
    let last = bind_ok (summed (total_of address content) bytes) after_sum x e in
    let t = summed_takes (tape_header address (length content) ++ content) bytes last.0.1 small last.1 in
    (last.0.1, t.0, t.1, last.2)

-- the bytes of a tape after the data of a block are its sum byte, and then the next parts
after_takes : (address : ℕ) (content : List ℕ) (blocks : List (ℕ × List ℕ)) (start : ℕ) (bytes : List ℕ) → Bytes bytes
    → AreRead (next_part (total_of address content)) blocks start bytes
    → (rest : List ℕ) × (bytes ≡ sum_byte (tape_header address (length content) ++ content) ∷ rest) × Bytes rest
    × AreRead first_part blocks start rest
after_takes address content [] start bytes small h =
    let t = next_takes address content bytes (Start start, h.0) small h.1 in
    (t.0, t.1, t.2, (h.0, t.3))
after_takes address content (block ∷ blocks) start bytes small h =
    let t = next_takes address content bytes (Data block.0 (length block.1), block.1 ++ h.0) small h.1 in
    (t.0, t.1, t.2, (h.0, t.3, h.2))

-- a first byte 1 begins a block, and any other byte is skipped
pub begun : (byte : ℕ) (bytes : List ℕ) → ((byte ≡ 1) × (first_part (byte ∷ bytes) ≡ after_start (tt, bytes)))
    ⊎ ((byte ≢ 1) × (first_part (byte ∷ bytes) ≡ first_part bytes))
unfolding first_part
begun byte bytes =
    elim (eqb_tells byte 1) [
      | inl one_is ↦ inl (one_is.1, rw one_is.0 refl)
      | inr other ↦ inr (other.1, rw other.0 refl)
    ]

-- the header after the 001 of a block
pub record Heads (bytes : List ℕ) (part : TapePart) (rest : List ℕ) : Type 0 where
  pub address : ℕ
  pub count : ℕ
  pub following : List ℕ
  pub in_range : address < 65536
  pub fits : count ≤ data_limit
  pub is : 1 ∷ bytes ≡ 1 ∷ 0 ∷ (word_bytes (count + 6) ++ (word_bytes address ++ following))
  pub small : Bytes following
  pub part_is : part_of count address following ≡ Ok (part, rest)

pub heads : (bytes : List ℕ) (part : TapePart) (rest : List ℕ) → Bytes bytes → after_start (tt, bytes) ≡ Ok (part, rest)
    → Heads bytes part rest
heads bytes part rest small e =
    let s = bind_ok (second bytes) after_second (part, rest) e in
    let n = bind_ok (count s.0.1) after_count (part, rest) s.2 in
    let a = bind_ok (word n.0.1) (after_address n.0.0) (part, rest) n.2 in
    let second_is : bytes ≡ 0 ∷ s.0.1 = second_takes fault.BadStart bytes s.0.1 s.1 in
    let small' : Bytes (0 ∷ s.0.1) = subst Bytes second_is small in
    let count_is = count_takes n.0.0 s.0.1 n.0.1 small'.1 n.1 in
    let address_is = word_takes a.0.0 n.0.1 a.0.1 count_is.2 a.1 in
    record {
      address = a.0.0;
      count = n.0.0;
      following = a.0.1;
      in_range = address_is.0;
      fits = count_is.0;
      is = ap (λ (xs : List ℕ). 1 ∷ xs) second_is
          ∙ ap (λ (xs : List ℕ). 1 ∷ 0 ∷ xs)
          (count_is.1 ∙ ap (λ (xs : List ℕ). word_bytes (n.0.0 + 6) ++ xs) address_is.1);
      small = address_is.2;
      part_is = a.2;
    }

nothing_read : (part : TapePart) (rest : List ℕ) → first_part [] ≡ Ok (part, rest) → ⊥
unfolding first_part
nothing_read part rest e = cc

pub transfer_takes : (address : ℕ) (part : TapePart) (bytes rest : List ℕ) → Bytes bytes
    → transfer address bytes ≡ Ok (part, rest)
    → (bytes ≡ sum_byte (tape_header address 0 ++ []) ∷ rest) × (part ≡ Start address)
unfolding transfer
transfer_takes address part bytes rest small e =
    let last =
    bind_ok (summed (total_of address []) bytes) (λ (last : Unit {0} × List ℕ). done (Start address) last.1)
    (part, rest) e in
    let t = summed_takes (tape_header address 0 ++ []) bytes last.0.1 small last.1 in
    let same : last.0.1 ≡ rest = rest_is (Start address) part last.0.1 rest last.2 in (
      t.0 ∙ ap (λ (xs : List ℕ). sum_byte (tape_header address 0 ++ []) ∷ xs) same,
      sym (value_is (Start address) part last.0.1 rest last.2),
    )

start_address : (x y : ℕ) → Start x ≡ Start y → x ≡ y
start_address x y e = cc

data_address : (x y m n : ℕ) → Data x m ≡ Data y n → x ≡ y
data_address x y m n e = cc

data_count : (x y m n : ℕ) → Data x m ≡ Data y n → m ≡ n
data_count x y m n e = cc

-- if the bytes after a 001 have a header and are read as the transfer block, the 001 and these bytes are a tape without blocks of data
transfer_after : (bytes : List ℕ) (address : ℕ) (rest : List ℕ) → Heads bytes (Start address) rest
    → IsTape [] address (1 ∷ bytes)
transfer_after bytes address rest h =
    elim (chosen (eqb h.count 0) (transfer h.address h.following) (done (Data h.address h.count) h.following)
    (Ok (Start address, rest)) h.part_is) [
      | inl none ↦
          let t = transfer_takes h.address (Start address) h.following rest h.small none.1 in
          let here : h.address ≡ address = sym (start_address address h.address t.1) in
          let zero : h.count ≡ 0 = eqb-true h.count 0 none.0 in
          let bytes_is : 1 ∷ bytes ≡ tape_block address [] ++ rest =
          h.is ∙ ap (λ (n : ℕ). 1 ∷ 0 ∷ (word_bytes (n + 6) ++ (word_bytes h.address ++ h.following))) zero
          ∙ ap (λ (xs : List ℕ). 1 ∷ 0 ∷ (word_bytes (0 + 6) ++ (word_bytes h.address ++ xs))) t.0
          ∙ sym (block_parts h.address [] rest) ∙ ap (λ (a : ℕ). tape_block a [] ++ rest) here in
          let P : List ℕ → Type 0 = λ xs. IsTape [] address xs in
          subst P (sym bytes_is) (Transfer address rest (omega (arith, h.in_range, here)))
      | inr some ↦ absurd (let bad = value_is (Data h.address h.count) (Start address) h.following rest some.1 in cc)
    ]

-- if the bytes after a 001 have a header of data, and then the data, the right sum byte and a tape, the 001 and these bytes are a tape
-- that begins with this block
data_after : (bytes : List ℕ) (address n : ℕ) (following : List ℕ) → Heads bytes (Data address n) following
    → Bytes following × ((blocks : List (ℕ × List ℕ)) (start : ℕ) (content rest : List ℕ) → length content ≡ n
    → following ≡ content ++ sum_byte (tape_header address (length content) ++ content) ∷ rest
    → IsTape blocks start rest → IsTape ((address, content) ∷ blocks) start (1 ∷ bytes))
data_after bytes address n following h =
    elim (chosen (eqb h.count 0) (transfer h.address h.following) (done (Data h.address h.count) h.following)
    (Ok (Data address n, following)) h.part_is) [
      | inl none ↦
          let t = transfer_takes h.address (Data address n) h.following following h.small none.1 in
          absurd (let bad = t.1 in cc)
      | inr some ↦
          let part_is : Data h.address h.count ≡ Data address n =
          value_is (Data h.address h.count) (Data address n) h.following following some.1 in
          let same : h.following ≡ following = rest_is (Data h.address h.count) (Data address n) h.following following some.1 in
          let here : h.address ≡ address = data_address h.address address h.count n part_is in
          let count_is : h.count ≡ n = data_count h.address address h.count n part_is in (
            subst Bytes same h.small,
            λ blocks start content rest long split tape.
                let count_long : h.count ≡ length content = count_is ∙ sym long in
                let above : 0 < h.count = not_zero h.count some.0 in
                let bytes_is : 1 ∷ bytes ≡ tape_block address content ++ rest =
                h.is ∙ ap (λ (m : ℕ). 1 ∷ 0 ∷ (word_bytes (m + 6) ++ (word_bytes h.address ++ h.following))) count_long
                ∙ ap (λ (a : ℕ). 1 ∷ 0 ∷ (word_bytes (length content + 6) ++ (word_bytes a ++ h.following))) here
                ∙ ap (λ (xs : List ℕ). 1 ∷ 0 ∷ (word_bytes (length content + 6) ++ (word_bytes address ++ xs)))
                (same ∙ split)
                ∙ sym (block_parts address content rest) in
                let P : List ℕ → Type 0 = λ xs. IsTape ((address, content) ∷ blocks) start xs in
                subst P (sym bytes_is)
                (Block address content (omega (arith, h.in_range, here)) (omega (arith, above, count_long))
                (omega (arith, h.fits, count_long)) tape),
          )
    ]
  where
    not_zero : (m : ℕ) → eqb m 0 ≡ false → 0 < m
    not_zero m e = elim (eqb_tells m 0) [ inl hit ↦ absurd (let bad = sym e ∙ hit.0 in cc) | inr miss ↦ above m miss.1 ]
      where
        above : (m : ℕ) → m ≢ 0 → 0 < m
        above m h = omega (arith, h)

-- bytes that are read as the transfer block are a tape without blocks of data
transfer_framed : (bytes : List ℕ) (address : ℕ) (rest : List ℕ) → Bytes bytes
    → first_part bytes ≡ Ok (Start address, rest) → IsTape [] address bytes
transfer_framed [] address rest small e = absurd (nothing_read (Start address) rest e)
transfer_framed (byte ∷ bytes) address rest small e =
    elim (begun byte bytes) [
      | inl one_is ↦
          let tape = transfer_after bytes address rest (heads bytes (Start address) rest small.1 (sym one_is.1 ∙ e)) in
          let P : ℕ → Type 0 = λ first. IsTape [] address (first ∷ bytes) in subst P (sym one_is.0) tape
      | inr other ↦ Skipped byte other.0 (transfer_framed bytes address rest small.1 (sym other.1 ∙ e))
    ]

data_framed : (bytes : List ℕ) (address n : ℕ) (following : List ℕ) → Bytes bytes
    → first_part bytes ≡ Ok (Data address n, following)
    → Bytes following × ((blocks : List (ℕ × List ℕ)) (start : ℕ) (content rest : List ℕ) → length content ≡ n
    → following ≡ content ++ sum_byte (tape_header address (length content) ++ content) ∷ rest
    → IsTape blocks start rest → IsTape ((address, content) ∷ blocks) start bytes)
data_framed [] address n following small e = absurd (nothing_read (Data address n) following e)
data_framed (byte ∷ bytes) address n following small e =
    elim (begun byte bytes) [
      | inl one_is ↦
          let found =
          data_after bytes address n following (heads bytes (Data address n) following small.1 (sym one_is.1 ∙ e)) in (
            found.0,
            λ blocks start content rest long split tape.
                let P : ℕ → Type 0 = λ first. IsTape ((address, content) ∷ blocks) start (first ∷ bytes) in
                subst P (sym one_is.0) (found.1 blocks start content rest long split tape),
          )
      | inr other ↦
          let found = data_framed bytes address n following small.1 (sym other.1 ∙ e) in (
            found.0,
            λ blocks start content rest long split tape. Skipped byte other.0
                (found.1 blocks start content rest long split tape),
          )
    ]

-- bytes that are read as a tape are a tape of the format
pub tape_framed : (blocks : List (ℕ × List ℕ)) (address : ℕ) (bytes : List ℕ) → Bytes bytes
    → AreRead first_part blocks address bytes → IsTape blocks address bytes
tape_framed [] address bytes small h = transfer_framed bytes address h.0 small h.1
tape_framed (block ∷ blocks) address bytes small h =
    let found = data_framed bytes block.0 (length block.1) (block.1 ++ h.0) small h.1 in
    let t = after_takes block.0 block.1 blocks address h.0 (bytes_after block.1 h.0 found.0) h.2 in
    found.1 blocks address block.1 t.0 refl (ap (λ (xs : List ℕ). block.1 ++ xs) t.1)
    (tape_framed blocks address t.0 t.2 t.3)

-- ---- the bytes of an open block

sum-one_more : (xs ys : List ℕ) (byte : ℕ) → sum (xs ++ (ys ++ byte ∷ [])) ≡ sum (xs ++ ys) + byte
sum-one_more xs ys byte =
    ap sum (sym (append_assoc xs ys (byte ∷ []))) ∙ sum_by-append (λ n. n) (xs ++ ys) (byte ∷ []) ∙ omega arith

-- after a further data byte, the stage is that of the block with this byte read
pub opened_more : (address n byte : ℕ) (taken : List ℕ)
    → stage_within (n - length taken) (sum (tape_header address n ++ taken) % 256) (Ok byte)
    ≡ opened address n (taken ++ byte ∷ [])
opened_more address n byte taken =
    let fewer : n - length taken - 1 ≡ n - length (taken ++ byte ∷ []) =
    omega (arith, length-append taken (byte ∷ [])) in
    let more = sum-one_more (tape_header address n) taken byte in
    let total : (sum (tape_header address n ++ taken) % 256 + byte) % 256
    ≡ sum (tape_header address n ++ (taken ++ byte ∷ [])) % 256 = omega (arith, more) in
    ap (λ (left : ℕ). InBlock left ((sum (tape_header address n ++ taken) % 256 + byte) % 256)) fewer
    ∙ ap (λ (t : ℕ). InBlock (n - length (taken ++ byte ∷ [])) t) total

-- after all data bytes, none is left, and the total is that of the whole block
pub opened_all : (address : ℕ) (content : List ℕ)
    → opened address (length content) content ≡ InBlock 0 (total_of address content)
opened_all address content =
    let none : length content - length content ≡ 0 = omega arith in
    ap (λ (left : ℕ). InBlock left (total_of address content)) none
