-- The first fault of blocks is the one that the bytes show.
use Rattle.std.proofs.Common.{◌≡◌, ◌≢◌, ◌∙◌, ℕ, zero, suc, ◌+◌, ◌*◌, ◌-◌, ◌<◌, ◌≤◌, false, cond, ltb, eqb, List, [], ◌∷◌, ◌++◌, length, sum, take, drop, replicate, Ok, Err, refl, sym, ap, subst, append_assoc, arith, inl, inr, ◌⊎◌}
use Rattle.std.proofs.Math.Seq.{take-append_seam, drop-append_seam}
use Rattle.std.proofs.lemmas.Bool.{le-ltb, lt-ltb, ltb-true, ne_eqb}
use Rattle.std.proofs.lemmas.Bool.Decides.{eqb_tells}
use Rattle.std.proofs.lemmas.List.{length-append}
use Rattle.m11_obj_blocks.specs.declared.block_fault.BlockFault.{BlockFault}
use Rattle.m11_obj_blocks.specs.declared.block_fault.BlockFault.TheVariants as fault
use Rattle.m11_obj_blocks.specs.Frames.{word_bytes, sum_byte, header, content_limit}
use Rattle.m11_obj_blocks.specs.Limited.{Inside, Refused, Read, ◌>>=◌}
use Rattle.m11_obj_blocks.specs.Blocks.{second, count_of, count, content_of, first_block}
use Rattle.m11_obj_blocks.proofs.ReadSteps.{Bytes, bind_err, chosen, done}
use Rattle.m11_obj_blocks.proofs.BlockParts.{after_start, after_second, after_count, after_content}
use Rattle.m11_obj_blocks.proofs.FrameReads.{second_takes}
use Rattle.m11_obj_blocks.proofs.BlockFrames.{count_again, count_takes, content_takes, zero_in_front, nothing_read}
use Rattle.m11_obj_laws.specs.BlockFaults.{Shows, ShowsAfterZeros}
use Rattle.m11_obj_laws.proofs.FrameFaults.{refusal, one_fault, one_rest, second_refuses, closed_refuses, wrong_byte}

-- ---- the faults of a part

abbrev Lengths : BlockFault → ℕ → Type 0
Lengths said n = ((fault.TooShort ≡ said) × (n < 4)) ⊎ ((fault.TooLong ≡ said) × (516 < n))

count_of_refuses : (said : BlockFault) (n : ℕ) (bytes rest : List ℕ) → count_of n bytes ≡ Err (Refused said rest)
    → (bytes ≡ rest) × Lengths said n
count_of_refuses said n bytes rest e =
    elim (chosen (ltb n 4) (refusal fault.TooShort bytes)
    (cond (ltb 516 n) (refusal fault.TooLong bytes) (done (n - 4) bytes)) (refusal said rest) e) [
      | inl short ↦ (
        one_rest {A = ℕ} fault.TooShort said bytes rest short.1,
        inl (one_fault {A = ℕ} fault.TooShort said bytes rest short.1, ltb-true n 4 short.0),
      )
      | inr enough ↦ elim (chosen (ltb 516 n) (refusal fault.TooLong bytes) (done (n - 4) bytes) (refusal said rest)
          enough.1) [
            | inl long ↦ (
              one_rest {A = ℕ} fault.TooLong said bytes rest long.1,
              inr (one_fault {A = ℕ} fault.TooLong said bytes rest long.1, ltb-true 516 n long.0),
            )
            | inr fits ↦ absurd (let bad = fits.1 in cc)
          ]
    ]

count_refuses : (said : BlockFault) (bytes rest : List ℕ) → count bytes ≡ Err (Refused said rest)
    → (low high : ℕ) × (bytes ≡ low ∷ high ∷ rest) × Lengths said (low + 256 * high)
count_refuses said [] rest e = absurd cc
count_refuses said (low ∷ []) rest e = absurd cc
count_refuses said (low ∷ high ∷ bytes) rest e =
    let c = count_of_refuses said (low + 256 * high) bytes rest e in
    (low, high, ap (λ (xs : List ℕ). low ∷ high ∷ xs) c.0, c.1)

content_refuses : (said : BlockFault) (n : ℕ) (bytes rest : List ℕ) → content_of n bytes ≡ Err (Refused said rest) → ⊥
content_refuses said n bytes rest e =
    elim (chosen (ltb (length bytes) n) (Err Inside) (done (take n bytes) (drop n bytes)) (refusal said rest) e) [
      | inl short ↦ (let bad = short.1 in cc)
      | inr enough ↦ (let bad = enough.1 in cc)
    ]

-- ---- a refused block shows its fault

lengths_show : (said : BlockFault) (low high : ℕ) (bytes rest : List ℕ) → bytes ≡ 1 ∷ 0 ∷ low ∷ high ∷ rest
    → Lengths said (low + 256 * high) → Shows said bytes rest
lengths_show said low high bytes rest is (inl h) =
    let P : BlockFault → Type 0 = λ f. Shows f bytes rest in subst P h.0 (low, high, h.1, is)
lengths_show said low high bytes rest is (inr h) =
    let P : BlockFault → Type 0 = λ f. Shows f bytes rest in subst P h.0 (low, high, h.1, is)

after_shows : (said : BlockFault) (bytes rest : List ℕ) → Bytes bytes
    → after_start (tt, bytes) ≡ Err (Refused said rest) → Shows said (1 ∷ bytes) rest
after_shows said bytes rest small e =
    let P : BlockFault → Type 0 = λ f. Shows f (1 ∷ bytes) rest in
    elim (bind_err (second bytes) after_second (Refused said rest) e) [
      | inl early ↦
          let s = second_refuses fault.BadStart said bytes rest early in
          subst P s.0 (inr (s.1.0, s.1.1, ap (λ (xs : List ℕ). 1 ∷ xs) s.1.2))
      | inr s ↦
          let second_is : bytes ≡ 0 ∷ s.0.1 = second_takes fault.BadStart bytes s.0.1 s.1 in
          let small' : Bytes (0 ∷ s.0.1) = subst Bytes second_is small in
          elim (bind_err (count s.0.1) after_count (Refused said rest) s.2) [
            | inl early ↦
                let c = count_refuses said s.0.1 rest early in
                lengths_show said c.0 c.1 (1 ∷ bytes) rest
                (ap (λ (xs : List ℕ). 1 ∷ xs) (second_is ∙ ap (λ (xs : List ℕ). 0 ∷ xs) c.2)) c.3
            | inr n ↦ elim (bind_err (content_of n.0.0 n.0.1) after_content (Refused said rest) n.2) [
              | inl early ↦ absurd (content_refuses said n.0.0 n.0.1 rest early)
              | inr xs ↦
                  let counted = count_takes n.0.0 s.0.1 n.0.1 small'.1 n.1 in
                  let held = content_takes n.0.0 n.0.1 xs.0.0 xs.0.1 xs.1 in
                  let wrong = closed_refuses fault.BadSum said xs.0.0 (sum (header (length xs.0.0) ++ xs.0.0)) xs.0.1 rest xs.2 in
                  let content : List ℕ = xs.0.0 in
                  let tail : bytes ≡ 0 ∷ (word_bytes (length content + 4) ++ (content ++ wrong.1.0 ∷ rest)) =
                  second_is ∙ ap (λ (ys : List ℕ). 0 ∷ ys) (counted.1
                  ∙ ap (λ (m : ℕ). word_bytes (m + 4) ++ n.0.1) (sym held.0)
                  ∙ ap (λ (ys : List ℕ). word_bytes (length content + 4) ++ ys)
                  (held.1 ∙ ap (λ (ys : List ℕ). content ++ ys) wrong.1.2)) in
                  subst P wrong.0 (
                    content,
                    wrong.1.0,
                    omega (arith, counted.0, held.0),
                    wrong.1.1,
                    ap (λ (ys : List ℕ). 1 ∷ ys) tail ∙ sym (append_assoc (header (length content)) content (wrong.1.0 ∷ rest)),
                  )
            ]
          ]
    ]

one_in_front : (bytes : List ℕ) → first_block (1 ∷ bytes) ≡ after_start (tt, bytes)
unfolding first_block
one_in_front bytes = refl

other_in_front : (byte : ℕ) (bytes : List ℕ) → eqb byte 0 ≡ false → eqb byte 1 ≡ false
    → first_block (byte ∷ bytes) ≡ Err (Refused fault.BadStart bytes)
unfolding first_block
other_in_front byte bytes e f = rw (e, f) refl

pub refused_shows : (said : BlockFault) (bytes rest : List ℕ) → Bytes bytes
    → first_block bytes ≡ Err (Refused said rest) → ShowsAfterZeros said bytes rest
refused_shows said [] rest small e = absurd (let bad = sym nothing_read ∙ e in cc)
refused_shows said (byte ∷ bytes) rest small e =
    elim (eqb_tells byte 0) [
      | inl zero_is ↦
          let is : byte ∷ bytes ≡ 0 ∷ bytes = ap (λ (b : ℕ). b ∷ bytes) zero_is.1 in
          let more = refused_shows said bytes rest small.1
          (sym (zero_in_front bytes) ∙ ap first_block (sym is) ∙ e) in
          record {
            zeros = suc more.zeros;
            following = more.following;
            split = is ∙ ap (λ (xs : List ℕ). 0 ∷ xs) more.split;
            shows = more.shows;
          }
      | inr other ↦ elim (eqb_tells byte 1) [
        | inl one_is ↦
            let is : byte ∷ bytes ≡ 1 ∷ bytes = ap (λ (b : ℕ). b ∷ bytes) one_is.1 in
            record {
              zeros = 0;
              following = 1 ∷ bytes;
              split = is;
              shows = after_shows said bytes rest small.1 (sym (one_in_front bytes) ∙ ap first_block (sym is) ∙ e);
            }
        | inr neither ↦
            let bad : refusal {A = List ℕ} fault.BadStart bytes ≡ refusal said rest =
            sym (other_in_front byte bytes other.0 neither.0) ∙ e in
            let P : BlockFault → Type 0 = λ f. Shows f (byte ∷ bytes) rest in
            let not_zero : byte ≢ 0 = other.1 in
            let not_one : byte ≢ 1 = neither.1 in
            record {
              zeros = 0;
              following = byte ∷ bytes;
              split = refl;
              shows = subst P (one_fault {A = List ℕ} fault.BadStart said bytes rest bad)
                  (inl (
                    byte,
                    omega (arith, not_zero, not_one),
                    ap (λ (xs : List ℕ). byte ∷ xs)
                        (one_rest {A = List ℕ} fault.BadStart said bytes rest bad),
                  ));
            }
      ]
    ]

-- ---- a block that shows a fault is refused

zeros_in_front : (zeros : ℕ) (bytes : List ℕ) → first_block (replicate zeros 0 ++ bytes) ≡ first_block bytes
zeros_in_front zero bytes = refl
zeros_in_front (suc n) bytes = zero_in_front (replicate n 0 ++ bytes) ∙ zeros_in_front n bytes

second_wrong : (byte : ℕ) (rest : List ℕ) → byte ≢ 0 → first_block (1 ∷ byte ∷ rest) ≡ Err (Refused fault.BadStart rest)
unfolding first_block
second_wrong byte rest other = rw (ne_eqb byte 0 other) refl

too_short : (low high : ℕ) (rest : List ℕ) → low + 256 * high < 4
    → first_block (1 ∷ 0 ∷ low ∷ high ∷ rest) ≡ Err (Refused fault.TooShort rest)
unfolding first_block
too_short low high rest lt = rw (lt-ltb (low + 256 * high) 4 lt) refl

too_long : (low high : ℕ) (rest : List ℕ) → 516 < low + 256 * high
    → first_block (1 ∷ 0 ∷ low ∷ high ∷ rest) ≡ Err (Refused fault.TooLong rest)
unfolding first_block
too_long low high rest lt =
    rw (le-ltb (low + 256 * high) 4 (omega arith), lt-ltb 516 (low + 256 * high) lt) refl

content_there : (xs rest : List ℕ) → content_of (length xs) (xs ++ rest) ≡ Ok (xs, rest)
content_there xs rest =
    let long : ltb (length (xs ++ rest)) (length xs) ≡ false = le-ltb _ _ (omega (arith, length-append xs rest)) in
    rw (long, take-append_seam xs rest, drop-append_seam xs rest) refl

sum_refused : (content : List ℕ) (byte : ℕ) (rest : List ℕ) → length content ≤ content_limit
    → byte ≢ sum_byte (header (length content) ++ content)
    → first_block (header (length content) ++ (content ++ byte ∷ rest)) ≡ Err (Refused fault.BadSum rest)
unfolding first_block
sum_refused content byte rest fits other =
    ap (λ (r : Read BlockFault ℕ). r >>= after_count) (count_again (length content) (content ++ byte ∷ rest) fits)
    ∙ ap (λ (r : Read BlockFault (List ℕ)). r >>= after_content) (content_there content (byte ∷ rest))
    ∙ wrong_byte fault.BadSum content (sum (header (length content) ++ content)) byte rest other

following_refused : (said : BlockFault) (bytes rest : List ℕ) → Shows said bytes rest
    → first_block bytes ≡ Err (Refused said rest)
following_refused fault.BadStart bytes rest (inl h) =
    ap first_block h.2 ∙ other_in_front h.0 rest (ne_eqb h.0 0 (λ e. absurd (omega (arith, h.1, e))))
    (ne_eqb h.0 1 (λ e. absurd (omega (arith, h.1, e))))
following_refused fault.BadStart bytes rest (inr h) = ap first_block h.2 ∙ second_wrong h.0 rest h.1
following_refused fault.TooShort bytes rest h = ap first_block h.3 ∙ too_short h.0 h.1 rest h.2
following_refused fault.TooLong bytes rest h = ap first_block h.3 ∙ too_long h.0 h.1 rest h.2
following_refused fault.BadSum bytes rest h =
    ap first_block (h.4 ∙ append_assoc (header (length h.0)) h.0 (h.1 ∷ rest)) ∙ sum_refused h.0 h.1 rest h.2 h.3
following_refused fault.Device bytes rest h = absurd h
following_refused fault.Truncated bytes rest h = absurd h
following_refused fault.Failed bytes rest h = absurd h
following_refused fault.TooMuch bytes rest h = absurd h

pub shows_refused : (said : BlockFault) (bytes rest : List ℕ) → ShowsAfterZeros said bytes rest
    → first_block bytes ≡ Err (Refused said rest)
shows_refused said bytes rest s =
    ap first_block s.split ∙ zeros_in_front s.zeros s.following ∙ following_refused said s.following rest s.shows
