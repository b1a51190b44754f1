-- The first fault of a part of a tape is the one that the bytes show.
use Rattle.std.proofs.Common.{◌≡◌, ◌≢◌, ◌∙◌, ℕ, ◌+◌, ◌*◌, ◌-◌, ◌<◌, cond, ltb, eqb, List, [], ◌∷◌, ◌++◌, length, Ok, Err, refl, sym, ap, subst, inl, inr}
use Rattle.std.proofs.lemmas.Bool.{lt-ltb, ltb-true, ne_eqb, eqb-true}
use Rattle.std.proofs.lemmas.Bool.Decides.{eqb_tells}
use Rattle.m11_obj_blocks.specs.declared.tape_fault.TapeFault.{TapeFault}
use Rattle.m11_obj_blocks.specs.declared.tape_fault.TapeFault.TheVariants as fault
use Rattle.m11_obj_blocks.specs.declared.tape_part.TapePart.{TapePart}
use Rattle.m11_obj_blocks.specs.declared.tape_part.TapePart.TheVariants.{Data, Start}
use Rattle.m11_obj_blocks.specs.Frames.{word_bytes, word, closing}
use Rattle.m11_obj_blocks.specs.Limited.{Between, Refused, Read, ◌>>=◌}
use Rattle.m11_obj_blocks.specs.Tapes.{tape_header, second, count, summed, total_of, transfer, part_of, first_part, next_part}
use Rattle.m11_obj_blocks.proofs.FrameReads.{second_takes, second_within, word_again, word_takes, word_within, closed_again, closed_takes, closed_within}
use Rattle.m11_obj_blocks.proofs.TapeFrames.{count_takes}
use Rattle.m11_obj_blocks.proofs.ReadSteps.{Bytes, bind_err, chosen, done}
use Rattle.m11_obj_blocks.proofs.TapeParts.{after_start, after_second, after_count, after_address, after_sum}
use Rattle.m11_obj_laws.specs.TapeFaults.{AreSkipped, IsWrong, Shows, ShowsAfterData, ShowsAfterSkipped}
use Rattle.m11_obj_laws.specs.TapeFaults.ShowsAfterData.{Right, Wrong}
use Rattle.m11_obj_laws.proofs.FrameFaults.{refusal, one_fault, one_rest, second_refuses, word_refuses, closed_refuses}

abbrev counted : ℕ × List ℕ → Read TapeFault ℕ
counted length = cond (ltb length.0 6) (Err (Refused fault.TooShort length.1)) (Ok (length.0 - 6, length.1))

-- ---- the faults of a part

count_refuses : (said : TapeFault) (bytes rest : List ℕ) → count bytes ≡ Err (Refused said rest)
    → (fault.TooShort ≡ said) × ((low high : ℕ) × (low + 256 * high < 6) × (bytes ≡ low ∷ high ∷ rest))
unfolding count
count_refuses said [] rest e = absurd cc
count_refuses said (low ∷ []) rest e = absurd cc
count_refuses said (low ∷ high ∷ bytes) rest e =
    let n : ℕ = low + 256 * high in
    elim (chosen (ltb n 6) (refusal fault.TooShort bytes) (done (n - 6) bytes) (refusal said rest) e) [
      | inl short ↦ (
        one_fault {A = ℕ} fault.TooShort said bytes rest short.1,
        (
          low,
          high,
          ltb-true n 6 short.0,
          ap (λ (xs : List ℕ). low ∷ high ∷ xs) (one_rest {A = ℕ} fault.TooShort said bytes rest short.1),
        ),
      )
      | inr enough ↦ absurd (let bad = enough.1 in cc)
    ]

abbrev pub after_last : ℕ → Unit {0} × List ℕ → Read TapeFault TapePart
after_last address last = Ok (Start address, last.1)

never_started : (said : TapeFault) (address : ℕ) (x : Unit {0} × List ℕ) (rest : List ℕ)
    → after_last address x ≡ Err (Refused said rest) → ⊥
never_started said address x rest e = cc

transfer_refuses : (said : TapeFault) (address : ℕ) (bytes rest : List ℕ) → transfer address bytes ≡ Err (Refused said rest)
    → (fault.BadSum ≡ said) × ((byte : ℕ) × IsWrong (total_of address []) byte × (bytes ≡ byte ∷ rest))
unfolding transfer
transfer_refuses said address bytes rest e =
    elim (bind_err (summed (total_of address []) bytes) (after_last address) (Refused said rest) e) [
      | inl early ↦ closed_refuses fault.BadSum said tt (total_of address []) bytes rest early
      | inr last ↦ absurd (never_started said address last.0 rest last.2)
    ]

part_refuses : (said : TapeFault) (n address : ℕ) (bytes rest : List ℕ) → part_of n address bytes ≡ Err (Refused said rest)
    → (n ≡ 0) × ((fault.BadSum ≡ said) × ((byte : ℕ) × IsWrong (total_of address []) byte × (bytes ≡ byte ∷ rest)))
part_refuses said n address bytes rest e =
    elim (chosen (eqb n 0) (transfer address bytes) (done (Data address n) bytes) (refusal said rest) e) [
      | inl none ↦ (eqb-true n 0 none.0, transfer_refuses said address bytes rest none.1)
      | inr some ↦ absurd (let bad = some.1 in cc)
    ]

-- ---- a refused part shows its fault

after_shows : (said : TapeFault) (bytes rest : List ℕ) → Bytes bytes → after_start (tt, bytes) ≡ Err (Refused said rest)
    → Shows said (1 ∷ bytes) rest
after_shows said bytes rest small e =
    let P : TapeFault → Type 0 = λ f. Shows f (1 ∷ bytes) rest in
    elim (bind_err (second bytes) after_second (Refused said rest) e) [
      | inl early ↦
          let s = second_refuses fault.BadStart said bytes rest early in
          subst P s.0 (s.1.0, s.1.1, ap (λ (xs : List ℕ). 1 ∷ xs) s.1.2)
      | inr s ↦
          let second_is : bytes ≡ 0 ∷ s.0.1 = second_takes fault.BadStart bytes s.0.1 s.1 in
          let small' : Bytes (0 ∷ s.0.1) = subst Bytes second_is small in
          elim (bind_err (count s.0.1) after_count (Refused said rest) s.2) [
            | inl early ↦
                let c = count_refuses said s.0.1 rest early in
                subst P c.0 (
                  c.1.0,
                  c.1.1,
                  c.1.2,
                  ap (λ (xs : List ℕ). 1 ∷ xs) (second_is ∙ ap (λ (xs : List ℕ). 0 ∷ xs) c.1.3),
                )
            | inr n ↦
                let counted_is = count_takes n.0.0 s.0.1 n.0.1 small'.1 n.1 in
                elim (bind_err (word n.0.1) (after_address n.0.0) (Refused said rest) n.2) [
                  | inl early ↦ absurd (word_refuses said n.0.1 rest early)
                  | inr a ↦
                      let address_is = word_takes a.0.0 n.0.1 a.0.1 counted_is.2 a.1 in
                      let wrong = part_refuses said n.0.0 a.0.0 a.0.1 rest a.2 in
                      let tail : bytes ≡ 0 ∷ (word_bytes 6 ++ (word_bytes a.0.0 ++ wrong.1.1.0 ∷ rest)) =
                      second_is ∙ ap (λ (ys : List ℕ). 0 ∷ ys) (counted_is.1
                      ∙ ap (λ (m : ℕ). word_bytes (m + 6) ++ n.0.1) wrong.0
                      ∙ ap (λ (ys : List ℕ). word_bytes 6 ++ ys)
                      (address_is.1 ∙ ap (λ (ys : List ℕ). word_bytes a.0.0 ++ ys) wrong.1.1.2)) in
                      subst P wrong.1.0 (
                        a.0.0,
                        wrong.1.1.0,
                        address_is.0,
                        wrong.1.1.1,
                        ap (λ (ys : List ℕ). 1 ∷ ys) tail,
                      )
                ]
          ]
    ]

one_in_front : (bytes : List ℕ) → first_part (1 ∷ bytes) ≡ after_start (tt, bytes)
unfolding first_part
one_in_front bytes = refl

other_in_front : (byte : ℕ) (bytes : List ℕ) → byte ≢ 1 → first_part (byte ∷ bytes) ≡ first_part bytes
unfolding first_part
other_in_front byte bytes other = rw (ne_eqb byte 1 other) refl

pub nothing_read : first_part [] ≡ Err Between
unfolding first_part
nothing_read = refl

pub refused_shows : (said : TapeFault) (bytes rest : List ℕ) → Bytes bytes → first_part bytes ≡ Err (Refused said rest)
    → ShowsAfterSkipped said bytes rest
refused_shows said [] rest small e = absurd (let bad = sym nothing_read ∙ e in cc)
refused_shows said (byte ∷ bytes) rest small e =
    elim (eqb_tells byte 1) [
      | inl one_is ↦
          let is : byte ∷ bytes ≡ 1 ∷ bytes = ap (λ (b : ℕ). b ∷ bytes) one_is.1 in
          record {
            skipped = [];
            following = 1 ∷ bytes;
            are = tt;
            split = is;
            shows = after_shows said bytes rest small.1 (sym (one_in_front bytes) ∙ ap first_part (sym is) ∙ e);
          }
      | inr other ↦
          let more = refused_shows said bytes rest small.1 (sym (other_in_front byte bytes other.1) ∙ e) in
          record {
            skipped = byte ∷ more.skipped;
            following = more.following;
            are = (other.1, more.are);
            split = ap (λ (xs : List ℕ). byte ∷ xs) more.split;
            shows = more.shows;
          }
    ]

-- ---- a part that shows a fault is refused

pub skipped_in_front : (skipped bytes : List ℕ) → AreSkipped skipped → first_part (skipped ++ bytes) ≡ first_part bytes
skipped_in_front [] bytes are = refl
skipped_in_front (byte ∷ skipped) bytes are =
    other_in_front byte (skipped ++ bytes) are.0 ∙ skipped_in_front skipped bytes are.1

second_wrong : (byte : ℕ) (rest : List ℕ) → byte ≢ 0 → first_part (1 ∷ byte ∷ rest) ≡ Err (Refused fault.BadStart rest)
unfolding first_part
second_wrong byte rest other = rw (ne_eqb byte 0 other) refl

too_short : (low high : ℕ) (rest : List ℕ) → low + 256 * high < 6
    → first_part (1 ∷ 0 ∷ low ∷ high ∷ rest) ≡ Err (Refused fault.TooShort rest)
unfolding first_part count
too_short low high rest lt = rw (lt-ltb (low + 256 * high) 6 lt) refl

transfer_refused : (address byte : ℕ) (rest : List ℕ) → IsWrong (total_of address []) byte
    → transfer address (byte ∷ rest) ≡ Err (Refused fault.BadSum rest)
unfolding transfer
transfer_refused address byte rest wrong = rw (ne_eqb byte (closing (total_of address [])) wrong) refl

sum_refused : (address byte : ℕ) (rest : List ℕ) → address < 65536 → IsWrong (total_of address []) byte
    → first_part (tape_header address 0 ++ byte ∷ rest) ≡ Err (Refused fault.BadSum rest)
unfolding first_part count
sum_refused address byte rest lt wrong =
    ap (λ (r : Read TapeFault ℕ). r >>= after_address 0) (word_again address (byte ∷ rest) lt)
    ∙ transfer_refused address byte rest wrong

pub following_refused : (said : TapeFault) (bytes rest : List ℕ) → Shows said bytes rest
    → first_part bytes ≡ Err (Refused said rest)
following_refused fault.BadStart bytes rest h = ap first_part h.2 ∙ second_wrong h.0 rest h.1
following_refused fault.TooShort bytes rest h = ap first_part h.3 ∙ too_short h.0 h.1 rest h.2
following_refused fault.BadSum bytes rest h = ap first_part h.4 ∙ sum_refused h.0 h.1 rest h.2 h.3
following_refused fault.Device bytes rest h = absurd h
following_refused fault.Truncated bytes rest h = absurd h
following_refused fault.Failed bytes rest h = absurd h
following_refused fault.NoTransfer bytes rest h = absurd h
following_refused fault.TooMuch bytes rest h = absurd h

pub shows_refused : (said : TapeFault) (bytes rest : List ℕ) → ShowsAfterSkipped said bytes rest
    → first_part bytes ≡ Err (Refused said rest)
shows_refused said bytes rest s =
    ap first_part s.split ∙ skipped_in_front s.skipped s.following s.are
    ∙ following_refused said s.following rest s.shows

-- ---- after the data of a block

pub data_shows : (total : ℕ) (said : TapeFault) (bytes rest : List ℕ) → Bytes bytes
    → next_part total bytes ≡ Err (Refused said rest) → ShowsAfterData total said rest bytes
unfolding next_part
data_shows total said bytes rest small e =
    let P : List ℕ → Type 0 = λ xs. ShowsAfterData total said rest xs in
    elim (bind_err (summed total bytes) after_sum (Refused said rest) e) [
      | inl early ↦
          let s = closed_refuses fault.BadSum said tt total bytes rest early in
          subst P (sym s.1.2) (Wrong s.1.0 s.1.1 (sym s.0))
      | inr last ↦
          let t = closed_takes fault.BadSum tt total tt bytes last.0.1 last.1 in
          let small' : Bytes (closing total ∷ last.0.1) = subst Bytes t.1 small in
          subst P (sym t.1) (Right (refused_shows said last.0.1 rest small'.1 last.2))
    ]

pub wrong_after : (total byte : ℕ) (rest : List ℕ) → IsWrong total byte
    → next_part total (byte ∷ rest) ≡ Err (Refused fault.BadSum rest)
unfolding next_part
wrong_after total byte rest wrong = rw (ne_eqb byte (closing total) wrong) refl

pub right_after : (total : ℕ) (bytes : List ℕ) → next_part total (closing total ∷ bytes) ≡ first_part bytes
unfolding next_part
right_after total bytes =
    ap (λ (r : Read TapeFault (Unit {0})). r >>= after_sum) (closed_again fault.BadSum tt total bytes)

pub data_refused : (total : ℕ) (said : TapeFault) (bytes rest : List ℕ) → ShowsAfterData total said rest bytes
    → next_part total bytes ≡ Err (Refused said rest)
data_refused total said _ rest (Wrong byte wrong is) =
    let P : TapeFault → Type 0 = λ f. next_part total (byte ∷ rest) ≡ Err (Refused f rest) in
    subst P (sym is) (wrong_after total byte rest wrong)
data_refused total said _ rest (Right {bytes = bytes} s) =
    right_after total bytes ∙ shows_refused said bytes rest s

-- ---- no block begins

count_within : (bytes : List ℕ) → count bytes ≡ Err Between → ⊥
unfolding count
count_within [] e = cc
count_within (low ∷ []) e = cc
count_within (low ∷ high ∷ bytes) e =
    let n : ℕ = low + 256 * high in
    elim (chosen (ltb n 6) (refusal fault.TooShort bytes) (done (n - 6) bytes) (Err Between) e) [
      | inl short ↦ (let bad = short.1 in cc)
      | inr enough ↦ (let bad = enough.1 in cc)
    ]

started_within : (address : ℕ) (x : Unit {0} × List ℕ) → after_last address x ≡ Err Between → ⊥
started_within address x e = cc

transfer_within : (address : ℕ) (bytes : List ℕ) → transfer address bytes ≡ Err Between → ⊥
unfolding transfer
transfer_within address bytes e =
    elim (bind_err (summed (total_of address []) bytes) (after_last address) Between e) [
      | inl early ↦ closed_within fault.BadSum tt (total_of address []) bytes early
      | inr last ↦ started_within address last.0 last.2
    ]

part_within : (n address : ℕ) (bytes : List ℕ) → part_of n address bytes ≡ Err Between → ⊥
part_within n address bytes e =
    elim (chosen (eqb n 0) (transfer address bytes) (done (Data address n) bytes) (Err Between) e) [
      | inl none ↦ transfer_within address bytes none.1
      | inr some ↦ (let bad = some.1 in cc)
    ]

start_within : (bytes : List ℕ) → after_start (tt, bytes) ≡ Err Between → ⊥
start_within bytes e =
    elim (bind_err (second bytes) after_second Between e) [
      | inl early ↦ second_within fault.BadStart bytes early
      | inr s ↦ elim (bind_err (count s.0.1) after_count Between s.2) [
        | inl early ↦ count_within s.0.1 early
        | inr n ↦ elim (bind_err (word n.0.1) (after_address n.0.0) Between n.2) [
          | inl early ↦ word_within n.0.1 early
          | inr a ↦ part_within n.0.0 a.0.0 a.0.1 a.2
        ]
      ]
    ]

pub between_skipped : (bytes : List ℕ) → first_part bytes ≡ Err Between → AreSkipped bytes
between_skipped [] e = tt
between_skipped (byte ∷ bytes) e =
    elim (eqb_tells byte 1) [
      | inl one_is ↦ absurd (start_within bytes (sym (one_in_front bytes)
          ∙ ap (λ (b : ℕ). first_part (b ∷ bytes)) (sym one_is.1) ∙ e))
      | inr other ↦ (other.1, between_skipped bytes (sym (other_in_front byte bytes other.1) ∙ e))
    ]

pub skipped_between : (bytes : List ℕ) → AreSkipped bytes → first_part bytes ≡ Err Between
skipped_between [] are = nothing_read
skipped_between (byte ∷ bytes) are = other_in_front byte bytes are.0 ∙ skipped_between bytes are.1
