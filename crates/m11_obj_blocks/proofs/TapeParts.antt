-- A tape is read part by part.
use Rattle.std.proofs.Common.{◌≡◌, ◌≢◌, ℕ, List, [], ◌∷◌, Result, Ok, Err, refl}
use Rattle.std.proofs.lemmas.Bool.{ne_eqb}
use Rattle.m11_obj_blocks.specs.declared.limited.Lack.{Lack}
use Rattle.m11_obj_blocks.specs.declared.limited.Lack.TheVariants as lack
use Rattle.m11_obj_blocks.specs.declared.tape_fault.TapeFault.{TapeFault}
use Rattle.m11_obj_blocks.specs.declared.tape_part.TapePart.{TapePart}
use Rattle.m11_obj_blocks.specs.declared.tape_part.TapePart.TheVariants.{Data, Start}
use Rattle.m11_obj_blocks.specs.Frames.{word}
use Rattle.m11_obj_blocks.specs.Limited.{Position, Lacks, TookThenLacks, Inside, Read, ◌>>=◌, Why, Reads, Stops}
use Rattle.m11_obj_blocks.specs.Tapes.{start, second, count, summed, total_of, transfer, part_of, first_part, next_part, missing, why_of, ReadsPart}
use Rattle.m11_obj_blocks.proofs.Limits.{took_nothing, first_stops, then_reads, then_stops}
use Rattle.m11_obj_blocks.proofs.Limits.{missing_stops as stops_missing}

-- if the bytes read end inside a block, and no further byte is returned, the read stops with the fault for this
missing_stops : {A : Type 0} (read : List ℕ → Read TapeFault A) (a b : Position) (given : List ℕ) (why : Lack)
    → TookThenLacks a b given why → read given ≡ Err Inside → Stops read a b (why_of (missing why))
missing_stops read a b given lack.Device lacks e = stops_missing read a b given lack.Device lacks e
missing_stops read a b given lack.End lacks e = stops_missing read a b given lack.End lacks e
missing_stops read a b given lack.TooMuch lacks e = stops_missing read a b given lack.TooMuch lacks e

-- the same if not even the first byte of a part is returned
pub first_missing : {A : Type 0} (read : List ℕ → Read TapeFault A) (a b : Position) (why : Lack) → Lacks a b why
    → read [] ≡ Err Inside → Stops read a b (why_of (missing why))
first_missing read a b why lacks e = missing_stops read a b [] why (a, took_nothing a, lacks) e

-- ---- skipped bytes and the start of a block

pub one_front : (byte : ℕ) → byte ≡ 1 → (rest : List ℕ) → start (byte ∷ rest) ≡ Ok (tt, rest)
one_front byte e rest = rw e refl

pub other_front : (byte : ℕ) → byte ≢ 1 → (rest : List ℕ) → start (byte ∷ rest) ≡ start rest
other_front byte other rest = rw (ne_eqb byte 1 other) refl

-- ---- the parts of a transfer block

abbrev after_last : ℕ → Unit {0} × List ℕ → Read TapeFault TapePart
after_last address last = Ok (Start address, last.1)

pub transfer_stops : (address : ℕ) (a b : Position) (why : Why TapeFault) → Stops (summed (total_of address [])) a b why
    → Stops (transfer address) a b why
unfolding transfer
transfer_stops address a b why s = first_stops (summed (total_of address [])) (after_last address) a b why s

pub transfer_read : (address : ℕ) (a b : Position) → Reads (summed (total_of address [])) a b tt
    → Reads (transfer address) a b (Start address)
unfolding transfer
transfer_read address a b r =
    then_reads (summed (total_of address [])) (after_last address) a b b tt r (Start address)
    (record { given = []; took = took_nothing b; is = λ rest. refl })

-- ---- the parts of a block

abbrev pub after_address : ℕ → ℕ × List ℕ → Read TapeFault TapePart
after_address count address = part_of count address.0 address.1

abbrev pub after_count : ℕ × List ℕ → Read TapeFault TapePart
after_count count = word count.1 >>= after_address count.0

abbrev pub after_second : Unit {0} × List ℕ → Read TapeFault TapePart
after_second second = count second.1 >>= after_count

abbrev pub after_start : Unit {0} × List ℕ → Read TapeFault TapePart
after_start start = second start.1 >>= after_second

module _ (a b : Position) where
  pub part_start_stops : (why : Why TapeFault) → Stops start a b why → Stops first_part a b why
  unfolding first_part
  part_start_stops why s = first_stops start after_start a b why s

  module _ (started : Reads start a b tt) (c : Position) where
    pub part_second_stops : (why : Why TapeFault) → Stops second b c why → Stops first_part a c why
    unfolding first_part
    part_second_stops why s =
        then_stops start after_start a b c tt started why (first_stops second after_second b c why s)

    module _ (begun : Reads second b c tt) (d : Position) where
      pub part_count_stops : (why : Why TapeFault) → Stops count c d why → Stops first_part a d why
      unfolding first_part
      part_count_stops why s = then_stops start after_start a b d tt started why
          (then_stops second after_second b c d tt begun why (first_stops count after_count c d why s))

      module _ (n : ℕ) (counted : Reads count c d n) (e : Position) where
        pub part_address_stops : (why : Why TapeFault) → Stops word d e why → Stops first_part a e why
        unfolding first_part
        part_address_stops why s = then_stops start after_start a b e tt started why
            (then_stops second after_second b c e tt begun why
            (then_stops count after_count c d e n counted why (first_stops word (after_address n) d e why s)))

        module _ (address : ℕ) (placed : Reads {Fault = TapeFault} word d e address) (f : Position) where
          part_after : (result : Result TapePart TapeFault) → ReadsPart (λ part. part) (part_of n address) e f result
              → ReadsPart (λ part. part) first_part a f result
          unfolding first_part
          part_after (Ok part) r = then_reads start after_start a b f tt started part
              (then_reads second after_second b c f tt begun part
              (then_reads count after_count c d f n counted part
              (then_reads word (after_address n) d e f address placed part r)))
          part_after (Err fault) s = then_stops start after_start a b f tt started (why_of fault)
              (then_stops second after_second b c f tt begun (why_of fault)
              (then_stops count after_count c d f n counted (why_of fault)
              (then_stops word (after_address n) d e f address placed (why_of fault) s)))

          pub part_transfer : n ≡ 0 → (result : Result TapePart TapeFault)
              → ReadsPart (λ part. part) (transfer address) e f result → ReadsPart (λ part. part) first_part a f result
          part_transfer none result r = part_after result (rw none r)

        pub part_data : n ≢ 0 → (address : ℕ) → Reads {Fault = TapeFault} word d e address → Reads first_part a e (Data address n)
        part_data some address placed = part_after address placed e (Ok (Data address n))
            (record { given = []; took = took_nothing e; is = λ rest. rw (ne_eqb n 0 some) refl })

-- ---- the part after a block's data

abbrev pub after_sum : Unit {0} × List ℕ → Read TapeFault TapePart
after_sum last = first_part last.1

module _ (total : ℕ) (a b : Position) where
  pub next_sum_stops : (why : Why TapeFault) → Stops (summed total) a b why → Stops (next_part total) a b why
  unfolding next_part
  next_sum_stops why s = first_stops (summed total) after_sum a b why s

  pub next_read : Reads (summed total) a b tt → (c : Position) (result : Result TapePart TapeFault)
      → ReadsPart (λ part. part) first_part b c result → ReadsPart (λ part. part) (next_part total) a c result
  unfolding next_part
  next_read summed_up c (Ok part) r = then_reads (summed total) after_sum a b c tt summed_up part r
  next_read summed_up c (Err fault) s = then_stops (summed total) after_sum a b c tt summed_up (why_of fault) s
