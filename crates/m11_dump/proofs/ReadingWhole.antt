-- The blocks of a tape, read into memory one after another.
use Rattle.std.proofs.Common.{◌≡◌, ◌∙◌, ℕ, ◌<◌, ◌≤◌, List, [], ◌∷◌, ◌++◌, length, Result, Ok, Err, refl, sym, ap, subst, arith}
use Rattle.std.proofs.lemmas.List.{length-map, map-append}
use Rattle.std.proofs.lemmas.List.Elements.{All-from_recursion}
use Rattle.std.specs.List.{AllByRecursion}
use Rattle.m11_obj_blocks.specs.declared.tape_fault.TapeFault.{TapeFault}
use Rattle.m11_obj_blocks.specs.declared.tape_part.TapePart.{TapePart}
use Rattle.m11_obj_blocks.specs.declared.tape_part.TapePart.TheVariants.{Data, Start}
use Rattle.m11_obj_blocks.specs.declared.tape_part.TapeStage.{TapeStage}
use Rattle.m11_obj_blocks.specs.Limited.{Position}
use Rattle.m11_obj_blocks.specs.Tapes.{IsTape, ReadsNext, Transfer, Skipped, Block, why_of}
use Rattle.m11_dump.proofs.ReadingBlocks.{HaveRead, block_read, header_read, last_read, none_follows, part_lacks, whole_read}
use Rattle.m11_dump.specs.Positions.{count_read, fault_byte, placed_at, stop_byte}
use Rattle.m11_dump.specs.Tapes.{ReadsData, StopsData, blocks_before}
use Rattle.m11_dump.specs.WholeTapes.{ReadsTape, StopsWhole, block_of, blocks_of}
use Rattle.m11_dump.specs.declared.fault.DumpFault.{DumpFault}
use Rattle.m11_dump.specs.declared.fault.DumpFault.TheVariants as fault
use Rattle.m11_dump.specs.declared.fault.LocatedFault.{LocatedFault}
use Rattle.m11_dump.specs.declared.whole_tapes.TapeBlock.{TapeBlock}
use Rattle.m11_dump.specs.declared.whole_tapes.WholeTape.{WholeTape}

-- ---- the blocks of a tape have no more data than a block may have

blocks_fit : (blocks : List (ℕ × List ℕ)) (start : ℕ) (bytes : List ℕ) → IsTape blocks start bytes
    → AllByRecursion (λ (block : ℕ × List ℕ). length block.1 ≤ 65529) blocks
blocks_fit _ _ _ (Transfer address rest small) = tt
blocks_fit blocks start _ (Skipped {bytes = bytes} byte other tape) = blocks_fit blocks start bytes tape
blocks_fit _ start _ (Block {blocks = blocks} {bytes = bytes} address content small some fits tape) =
    (fits, blocks_fit blocks start bytes tape)

each_fits : (blocks : List TapeBlock) → AllByRecursion (λ (block : ℕ × List ℕ). length block.1 ≤ 65529) (blocks_of blocks)
    → AllByRecursion (λ (block : TapeBlock). length block.bytes.items ≤ 65529) blocks
each_fits [] fit = tt
each_fits (block ∷ blocks) fit = (fit.0, each_fits blocks fit.1)

-- ---- one part is read

module _ (old here : Position) (stage : TapeStage) (blocks : List TapeBlock) (d : HaveRead old here stage (blocks_of blocks))
    (passed : ℕ) (counts : passed ≡ length blocks)
    (new : Position) (after : TapeStage) (result : Result TapePart TapeFault) (r : ReadsNext stage here new after result) where
  count_is : passed ≡ length (blocks_of blocks)
  count_is = counts ∙ sym (length-map blocks block_of)

  pub reading_stops : (inner : TapeFault) → result ≡ Err inner → (before : ℕ) (said : LocatedFault)
      → before ≡ blocks_before passed (count_read here) (stop_byte (why_of inner) (count_read new))
      → said ≡ placed_at (fault.Tape inner) before (stop_byte (why_of inner) (count_read new)) → ReadsTape old new (Err said)
  reading_stops inner is before said number e =
      let P : LocatedFault → Type 0 = λ x. ReadsTape old new (Err x) in
      let byte = stop_byte (why_of inner) (count_read new) in
      subst P (sym e) (
        blocks_of blocks,
        here,
        d.gives,
        before,
        none_follows old here stage (blocks_of blocks) d new after result r inner is before
            (number ∙ ap (λ (n : ℕ). blocks_before n (count_read here) byte) count_is),
        refl,
      )

  module _ (address count : ℕ) (is : result ≡ Ok (Data address count)) (end : Position) where
    stops_for : (f : DumpFault) → StopsData f new end count
        → StopsWhole f here end (blocks_of blocks) d.gives.given (length (blocks_of blocks)) (fault_byte f (count_read end))
    stops_for fault.Write s = absurd s
    stops_for fault.NoMemory s = (
      refl,
      record {
        address = address;
        count = count;
        opened = new;
        header = header_read old here stage (blocks_of blocks) d new after result r address count is end;
        taken = s.0;
        took = s.1;
        within = s.2;
      },
      refl,
    )
    stops_for (fault.Block inner) s = absurd s
    stops_for (fault.Record inner) s = absurd s
    stops_for (fault.Rule inner) s = absurd s
    stops_for (fault.Tape inner) s = part_lacks old here stage (blocks_of blocks) d new after result r address count is end inner s

    pub block_stops : (f : DumpFault) (said : LocatedFault) → StopsData f new end count
        → said ≡ placed_at f passed (fault_byte f (count_read end)) → ReadsTape old end (Err said)
    block_stops f said s e =
        let P : LocatedFault → Type 0 = λ x. ReadsTape old end (Err x) in
        let same : said ≡ placed_at f (length (blocks_of blocks)) (fault_byte f (count_read end)) =
        e ∙ ap (λ (n : ℕ). placed_at f n (fault_byte f (count_read end))) count_is in
        subst P (sym same) (blocks_of blocks, here, d.gives, length (blocks_of blocks), stops_for f s, refl)

    module _ (bytes : List ℕ) (stage' : TapeStage) (some : 0 < count) (t : ReadsData new end stage' address count bytes) where
      pub push_stops : (said : LocatedFault) → said ≡ placed_at fault.NoMemory passed (count_read end)
          → ReadsTape old end (Err said)
      push_stops said e =
          let all : length bytes ≤ count = omega (arith, t.0) in block_stops fault.NoMemory said (bytes, t.1, all) e

      pub block_added : (next : TapeBlock) → next.address ≡ address → next.bytes.items ≡ bytes
          → HaveRead old end stage' (blocks_of (blocks ++ next ∷ []))
      block_added next at with =
          let next_is : ◌≡◌ {A = ℕ × List ℕ} (address, bytes) (block_of next) = cc in
          let P : List (ℕ × List ℕ) → Type 0 = λ l. HaveRead old end stage' l in
          let same : blocks_of blocks ++ (address, bytes) ∷ [] ≡ blocks_of (blocks ++ next ∷ []) =
          ap (λ (b : ℕ × List ℕ). blocks_of blocks ++ b ∷ []) next_is ∙ sym (map-append block_of blocks (next ∷ [])) in
          subst P same (block_read old here stage (blocks_of blocks) d new after result r address count is end bytes stage' some t)

pub reading_ends : (old here : Position) (stage : TapeStage) (whole : WholeTape)
    → HaveRead old here stage (blocks_of whole.blocks.items) → (new : Position) (after : TapeStage) (result : Result TapePart TapeFault)
    → ReadsNext stage here new after result → result ≡ Ok (Start whole.start) → ReadsTape old new (Ok whole)
reading_ends old here stage whole d new after result r is =
    let blocks = blocks_of whole.blocks.items in
    let last = last_read old here stage blocks d new after result r whole.start is in
    let tape = whole_read old here stage blocks d new after result r whole.start is in
    let fit = blocks_fit blocks whole.start (d.gives.given ++ last.given) tape in record {
      here = here;
      gives = d.gives;
      last = last;
      tape = tape;
      fits = All-from_recursion (λ (block : TapeBlock). length block.bytes.items ≤ 65529) whole.blocks.items
          (each_fits whole.blocks.items fit);
    }
