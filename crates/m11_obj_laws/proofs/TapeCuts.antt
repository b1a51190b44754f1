-- The bytes of a tape end inside a part if and only if they are a prefix of a part, at least one byte but not all, after bytes that are
-- skipped.
use Rattle.std.proofs.Common.{◌≡◌, ◌≢◌, ◌∙◌, ℕ, ◌+◌, ◌*◌, ◌-◌, ◌/◌, ◌%◌, ◌<◌, ◌≤◌, ltb, eqb, List, [], ◌∷◌, ◌++◌, length, take, Err, refl, sym, ap, subst, append_assoc, arith, inl, inr, ◌⊎◌}
use Rattle.std.proofs.Math.Seq.{take-append_seam}
use Rattle.std.proofs.lemmas.Bool.{eqb-true, cases_lt}
use Rattle.std.proofs.lemmas.Bool.Decides.{eqb_tells}
use Rattle.std.proofs.lemmas.List.{length-append}
use Rattle.m11_obj_blocks.specs.declared.tape_fault.TapeFault.{TapeFault}
use Rattle.m11_obj_blocks.specs.declared.tape_fault.TapeFault.TheVariants as fault
use Rattle.m11_obj_blocks.specs.declared.tape_part.TapePart.{TapePart}
use Rattle.m11_obj_blocks.specs.declared.tape_part.TapePart.TheVariants.{Data, Start}
use Rattle.m11_obj_blocks.specs.Frames.{word_bytes, word, sum_byte, closing}
use Rattle.m11_obj_blocks.specs.Limited.{Between, Inside, Read, ◌>>=◌}
use Rattle.m11_obj_blocks.specs.Tapes.{tape_header, tape_block, data_limit, second, count, summed, total_of, transfer, part_of, first_part, next_part, PartFits}
use Rattle.m11_obj_blocks.proofs.ReadSteps.{Bytes, bind_err, chosen, done}
use Rattle.m11_obj_blocks.proofs.FrameReads.{second_takes, second_inside, word_takes, word_inside, closed_takes, closed_within, closed_inside}
use Rattle.m11_obj_blocks.proofs.TapeParts.{after_start, after_second, after_count, after_address, after_sum}
use Rattle.m11_obj_blocks.proofs.TapeFrames.{count_again, header_again, count_takes, begun}
use Rattle.m11_obj_laws.specs.TapeStops.{part_bytes, address_of, IsPartCut, IsCutAfterData, Nothing, Closed, EndsAfterData}
use Rattle.m11_obj_laws.proofs.FrameFaults.{refusal}
use Rattle.m11_obj_laws.proofs.TapeFaults.{after_last, nothing_read, skipped_in_front, right_after, between_skipped, skipped_between}

-- ---- a prefix of a part ends inside it

one_byte : first_part (1 ∷ []) ≡ Err Inside
unfolding first_part
one_byte = refl

two_bytes : first_part (1 ∷ 0 ∷ []) ≡ Err Inside
unfolding first_part count
two_bytes = refl

three_bytes : (low : ℕ) → first_part (1 ∷ 0 ∷ low ∷ []) ≡ Err Inside
unfolding first_part count
three_bytes low = refl

length_and : (n : ℕ) (tail : List ℕ) → n ≤ data_limit → word {Fault = TapeFault} tail ≡ Err Inside
    → first_part (1 ∷ 0 ∷ (word_bytes (n + 6) ++ tail)) ≡ Err Inside
unfolding first_part
length_and n tail fits short =
    ap (λ (r : Read TapeFault ℕ). r >>= after_count) (count_again n tail fits)
    ∙ ap (λ (r : Read TapeFault ℕ). r >>= after_address n) short

pub begun_inside : (address n : ℕ) (tail front missing : List ℕ) → n ≤ data_limit → 0 < length front → length front < 6
    → tape_header address n ++ tail ≡ front ++ missing → first_part front ≡ Err Inside
begun_inside address n tail [] missing fits some few e = absurd (omega arith)
begun_inside address n tail (a ∷ []) missing fits some few e =
    let first : a ≡ 1 = cc in rw first one_byte
begun_inside address n tail (a ∷ b ∷ []) missing fits some few e =
    let first : a ≡ 1 = cc in let second : b ≡ 0 = cc in rw (first, second) two_bytes
begun_inside address n tail (a ∷ b ∷ c ∷ []) missing fits some few e =
    let first : a ≡ 1 = cc in let second : b ≡ 0 = cc in rw (first, second) (three_bytes c)
begun_inside address n tail (a ∷ b ∷ c ∷ d ∷ []) missing fits some few e =
    let first : a ≡ 1 = cc in
    let second : b ≡ 0 = cc in
    let third : c ≡ (n + 6) % 256 = cc in
    let fourth : d ≡ (n + 6) / 256 % 256 = cc in
    rw (first, second, third, fourth) (length_and n [] fits refl)
begun_inside address n tail (a ∷ b ∷ c ∷ d ∷ f ∷ []) missing fits some few e =
    let first : a ≡ 1 = cc in
    let second : b ≡ 0 = cc in
    let third : c ≡ (n + 6) % 256 = cc in
    let fourth : d ≡ (n + 6) / 256 % 256 = cc in
    rw (first, second, third, fourth) (length_and n (f ∷ []) fits refl)
begun_inside address n tail (a ∷ b ∷ c ∷ d ∷ f ∷ g ∷ more) missing fits some few e = absurd (omega arith)

-- a prefix that is as long as the first bytes equals them
pub same_front : (xs ys front missing : List ℕ) → length front ≡ length xs → xs ++ ys ≡ front ++ missing → front ≡ xs
same_front xs ys front missing long e =
    sym (take-append_seam front missing) ∙ ap (λ (zs : List ℕ). take (length front) zs) (sym e)
    ∙ ap (λ (n : ℕ). take n (xs ++ ys)) long ∙ take-append_seam xs ys

-- the transfer block without its last byte ends inside the part
pub whole_header : (address : ℕ) → address < 65536 → first_part (tape_header address 0) ≡ Err Inside
unfolding transfer
whole_header address lt = header_again address 0 [] lt (omega arith)

abbrev pub last_of : ℕ → ℕ
last_of address = sum_byte (tape_header address 0 ++ [])

transfer_is : (address : ℕ) → tape_block address [] ≡ tape_header address 0 ++ last_of address ∷ []
unfolding tape_block
transfer_is address = refl

transfer_inside : (address : ℕ) (front missing : List ℕ) → address < 65536 → 0 < length front → 0 < length missing
    → tape_header address 0 ++ last_of address ∷ [] ≡ front ++ missing → first_part front ≡ Err Inside
transfer_inside address front missing lt some cut e =
    elim (cases_lt (length front) 6) [
      | inl few ↦ begun_inside address 0 (last_of address ∷ []) front missing (omega arith) some few e
      | inr all ↦
          let long : length front ≡ 6 = omega (arith, ap length e, length-append front missing) in
          ap first_part (same_front (tape_header address 0) (last_of address ∷ []) front missing long e)
          ∙ whole_header address lt
    ]

part_inside : (part : TapePart) (front missing : List ℕ) → address_of part < 65536 → PartFits part → 0 < length front
    → 0 < length missing → part_bytes part ≡ front ++ missing → first_part front ≡ Err Inside
part_inside (Data address n) front missing lt fits some cut e =
    begun_inside address n [] front missing fits.1 some (omega (arith, ap length e, length-append front missing)) e
part_inside (Start address) front missing lt fits some cut e =
    transfer_inside address front missing lt some cut (sym (transfer_is address) ∙ e)

pub cut_read : (bytes : List ℕ) → IsPartCut bytes → first_part bytes ≡ Err Inside
cut_read bytes c =
    ap first_part c.is ∙ skipped_in_front c.skipped c.front c.are
    ∙ part_inside c.part c.front c.missing c.in_range c.fits c.some c.cut c.split

-- ---- bytes that end inside a part are a prefix of it

-- a nonempty proper prefix of a header is a prefix of a part, of the transfer block if the count of data is 0
at_header : (address n : ℕ) (front missing : List ℕ) → address < 65536 → n ≤ data_limit → 0 < length front
    → 0 < length missing → tape_header address n ≡ front ++ missing → IsPartCut front
at_header address n front missing lt fits some cut e =
    elim (eqb_tells n 0) [
      | inl none ↦
          let header_is : tape_header address 0 ≡ front ++ missing =
          ap (λ (m : ℕ). tape_header address m) (sym none.1) ∙ e in
          record {
            skipped = [];
            part = Start address;
            front = front;
            missing = missing ++ last_of address ∷ [];
            are = tt;
            in_range = lt;
            fits = tt;
            split = transfer_is address ∙ ap (λ (xs : List ℕ). xs ++ last_of address ∷ []) header_is
                ∙ append_assoc front missing (last_of address ∷ []);
            some = some;
            cut = omega (arith, length-append missing (last_of address ∷ []));
            is = refl;
          }
      | inr data_there ↦ record {
        skipped = [];
        part = Data address n;
        front = front;
        missing = missing;
        are = tt;
        in_range = lt;
        fits = (above n data_there.1, fits);
        split = e;
        some = some;
        cut = cut;
        is = refl;
      }
    ]
  where
    above : (m : ℕ) → m ≢ 0 → 0 < m
    above m h = omega (arith, h)

cut_low : (low : ℕ) → low < 256 → IsPartCut (1 ∷ 0 ∷ low ∷ [])
cut_low low small =
    let n : ℕ = low + 250 in
    let first : (n + 6) % 256 ≡ low = omega arith in
    at_header 0 n (1 ∷ 0 ∷ low ∷ []) ((n + 6) / 256 % 256 ∷ 0 ∷ 0 ∷ []) (omega arith) (omega arith) (omega arith)
    (omega arith) (ap (λ (b : ℕ). 1 ∷ 0 ∷ b ∷ (n + 6) / 256 % 256 ∷ 0 ∷ 0 ∷ []) first)

cut_address : (n low : ℕ) → n ≤ data_limit → low < 256 → IsPartCut (1 ∷ 0 ∷ (word_bytes (n + 6) ++ low ∷ []))
cut_address n low fits small =
    let first : low % 256 ≡ low = omega arith in
    at_header low n (1 ∷ 0 ∷ (word_bytes (n + 6) ++ low ∷ [])) (low / 256 % 256 ∷ []) (omega arith) fits (omega arith)
    (omega arith) (ap (λ (b : ℕ). 1 ∷ 0 ∷ (word_bytes (n + 6) ++ b ∷ low / 256 % 256 ∷ [])) first)

-- the transfer block without its last byte is a prefix of a part
cut_sum : (address : ℕ) → address < 65536 → IsPartCut (tape_header address 0)
cut_sum address lt = record {
  skipped = [];
  part = Start address;
  front = tape_header address 0;
  missing = last_of address ∷ [];
  are = tt;
  in_range = lt;
  fits = tt;
  split = transfer_is address;
  some = omega arith;
  cut = omega arith;
  is = refl;
}

never_inside : (address : ℕ) (x : Unit {0} × List ℕ) → after_last address x ≡ Err Inside → ⊥
never_inside address x e = cc

transfer_ends : (address : ℕ) (bytes : List ℕ) → transfer address bytes ≡ Err Inside → bytes ≡ []
unfolding transfer
transfer_ends address bytes e =
    elim (bind_err (summed (total_of address []) bytes) (after_last address) Inside e) [
      | inl early ↦ closed_inside fault.BadSum tt (total_of address []) bytes early
      | inr last ↦ absurd (never_inside address last.0 last.2)
    ]

part_ends : (n address : ℕ) (bytes : List ℕ) → part_of n address bytes ≡ Err Inside → (n ≡ 0) × (bytes ≡ [])
part_ends n address bytes e =
    elim (chosen (eqb n 0) (transfer address bytes) (done (Data address n) bytes) (Err Inside) e) [
      | inl none ↦ (eqb-true n 0 none.0, transfer_ends address bytes none.1)
      | inr some ↦ absurd (let bad = some.1 in cc)
    ]

count_ends : (bytes : List ℕ) → count bytes ≡ Err Inside → (bytes ≡ []) ⊎ ((low : ℕ) × (bytes ≡ low ∷ []))
unfolding count
count_ends [] e = inl refl
count_ends (low ∷ []) e = inr (low, refl)
count_ends (low ∷ high ∷ bytes) e =
    let n : ℕ = low + 256 * high in
    absurd (elim (chosen (ltb n 6) (refusal fault.TooShort bytes) (done (n - 6) bytes) (Err Inside) e) [
      | inl short ↦ (let bad = short.1 in cc)
      | inr enough ↦ (let bad = enough.1 in cc)
    ])

after_length : (n : ℕ) (tail : List ℕ) → n ≤ data_limit → Bytes tail → after_count (n, tail) ≡ Err Inside
    → IsPartCut (1 ∷ 0 ∷ (word_bytes (n + 6) ++ tail))
after_length n tail fits small e =
    let P : List ℕ → Type 0 = λ xs. IsPartCut (1 ∷ 0 ∷ (word_bytes (n + 6) ++ xs)) in
    elim (bind_err (word tail) (after_address n) Inside e) [
      | inl early ↦ elim (word_inside tail early) [
        | inl none ↦ subst P (sym none)
            (at_header 0 n (1 ∷ 0 ∷ (word_bytes (n + 6) ++ [])) (0 ∷ 0 ∷ []) (omega arith) fits (omega arith)
            (omega arith) refl)
        | inr one ↦
            let small' : Bytes (one.0 ∷ []) = subst Bytes one.1 small in
            subst P (sym one.1) (cut_address n one.0 fits small'.0)
      ]
      | inr a ↦
          let t = word_takes a.0.0 tail a.0.1 small a.1 in
          let ends = part_ends n a.0.0 a.0.1 a.2 in
          let tail_is : tail ≡ word_bytes a.0.0 ++ [] = t.1 ∙ ap (λ (xs : List ℕ). word_bytes a.0.0 ++ xs) ends.1 in
          let Q : ℕ → Type 0 = λ m. IsPartCut (1 ∷ 0 ∷ (word_bytes (m + 6) ++ (word_bytes a.0.0 ++ []))) in
          subst P (sym tail_is) (subst Q (sym ends.0) (cut_sum a.0.0 t.0))
    ]

after_zero : (rest : List ℕ) → Bytes rest → after_second (tt, rest) ≡ Err Inside → IsPartCut (1 ∷ 0 ∷ rest)
after_zero rest small e =
    let P : List ℕ → Type 0 = λ xs. IsPartCut (1 ∷ 0 ∷ xs) in
    elim (bind_err (count rest) after_count Inside e) [
      | inl early ↦ elim (count_ends rest early) [
        | inl none ↦ subst P (sym none)
            (at_header 0 0 (1 ∷ 0 ∷ []) (6 ∷ 0 ∷ 0 ∷ 0 ∷ []) (omega arith) (omega arith) (omega arith) (omega arith) refl)
        | inr one ↦
            let small' : Bytes (one.0 ∷ []) = subst Bytes one.1 small in
            subst P (sym one.1) (cut_low one.0 small'.0)
      ]
      | inr n ↦
          let t = count_takes n.0.0 rest n.0.1 small n.1 in
          subst P (sym t.1) (after_length n.0.0 n.0.1 t.0 t.2 n.2)
    ]

after_one : (bytes : List ℕ) → Bytes bytes → after_start (tt, bytes) ≡ Err Inside → IsPartCut (1 ∷ bytes)
after_one bytes small e =
    let P : List ℕ → Type 0 = λ xs. IsPartCut (1 ∷ xs) in
    elim (bind_err (second bytes) after_second Inside e) [
      | inl early ↦ subst P (sym (second_inside fault.BadStart bytes early))
          (at_header 0 0 (1 ∷ []) (0 ∷ 6 ∷ 0 ∷ 0 ∷ 0 ∷ []) (omega arith) (omega arith) (omega arith) (omega arith) refl)
      | inr s ↦
          let second_is : bytes ≡ 0 ∷ s.0.1 = second_takes fault.BadStart bytes s.0.1 s.1 in
          let small' : Bytes (0 ∷ s.0.1) = subst Bytes second_is small in
          subst P (sym second_is) (after_zero s.0.1 small'.1 s.2)
    ]

one_more_skipped : (byte : ℕ) (bytes : List ℕ) → byte ≢ 1 → IsPartCut bytes → IsPartCut (byte ∷ bytes)
one_more_skipped byte bytes other c = record {
  skipped = byte ∷ c.skipped;
  part = c.part;
  front = c.front;
  missing = c.missing;
  are = (other, c.are);
  in_range = c.in_range;
  fits = c.fits;
  split = c.split;
  some = c.some;
  cut = c.cut;
  is = ap (λ (xs : List ℕ). byte ∷ xs) c.is;
}

pub read_cut : (bytes : List ℕ) → Bytes bytes → first_part bytes ≡ Err Inside → IsPartCut bytes
read_cut [] small e = absurd (let bad = sym nothing_read ∙ e in cc)
read_cut (byte ∷ bytes) small e =
    elim (begun byte bytes) [
      | inl one_is ↦
          let P : ℕ → Type 0 = λ first. IsPartCut (first ∷ bytes) in
          subst P (sym one_is.0) (after_one bytes small.1 (sym one_is.1 ∙ e))
      | inr other ↦ one_more_skipped byte bytes other.0 (read_cut bytes small.1 (sym other.1 ∙ e))
    ]

-- ---- after the data of a block

pub cut_after_read : (total : ℕ) (bytes : List ℕ) → IsCutAfterData total bytes → next_part total bytes ≡ Err Inside
unfolding next_part
cut_after_read total _ Nothing = refl
cut_after_read total _ (Closed {bytes = bytes} c) = right_after total bytes ∙ cut_read bytes c

pub read_cut_after : (total : ℕ) (bytes : List ℕ) → Bytes bytes → next_part total bytes ≡ Err Inside
    → IsCutAfterData total bytes
unfolding next_part
read_cut_after total bytes small e =
    let P : List ℕ → Type 0 = λ xs. IsCutAfterData total xs in
    elim (bind_err (summed total bytes) after_sum Inside e) [
      | inl early ↦ subst P (sym (closed_inside fault.BadSum tt total bytes early)) Nothing
      | inr last ↦
          let t = closed_takes fault.BadSum tt total tt bytes last.0.1 last.1 in
          let small' : Bytes (closing total ∷ last.0.1) = subst Bytes t.1 small in
          subst P (sym t.1) (Closed (read_cut last.0.1 small'.1 last.2))
    ]

pub ends_after_read : (total : ℕ) (bytes : List ℕ) → EndsAfterData total bytes → next_part total bytes ≡ Err Between
ends_after_read total bytes h =
    ap (next_part total) h.1 ∙ right_after total h.0 ∙ skipped_between h.0 h.2

pub read_ends_after : (total : ℕ) (bytes : List ℕ) → next_part total bytes ≡ Err Between → EndsAfterData total bytes
unfolding next_part
read_ends_after total bytes e =
    elim (bind_err (summed total bytes) after_sum Between e) [
      | inl early ↦ absurd (closed_within fault.BadSum tt total bytes early)
      | inr last ↦ (
        last.0.1,
        (closed_takes fault.BadSum tt total tt bytes last.0.1 last.1).1,
        between_skipped last.0.1 last.2,
      )
    ]
