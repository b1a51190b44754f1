-- The blocks of a tape, read one after another.
use Rattle.std.proofs.Common.{◌≡◌, ◌∙◌, ℕ, ◌+◌, ◌^◌, ◌<◌, ◌≤◌, List, [], ◌∷◌, ◌++◌, append-nil, append_assoc, length, Result, Ok, Err, inl, inr, refl, sym, ap, subst, arith}
use Rattle.std.proofs.lemmas.List.{length-append}
use Rattle.m11_obj_blocks.specs.declared.tape_fault.TapeFault.{TapeFault}
use Rattle.m11_obj_blocks.specs.declared.tape_part.TapePart.{TapePart}
use Rattle.m11_obj_blocks.specs.declared.tape_part.TapePart.TheVariants.{Data, Start}
use Rattle.m11_obj_blocks.specs.declared.tape_part.TapeStage.{TapeStage}
use Rattle.m11_obj_blocks.specs.declared.tape_part.TapeStage.TheVariants.{BeforeBlock, InBlock, AtEnd, AfterFault}
use Rattle.m11_obj_blocks.specs.Limited.{Position, Read, Reads, Took}
use Rattle.m11_obj_blocks.specs.Tapes.{AreRead, IsTape, ReadsNext, ReadsPart, data_byte, first_part, left_of, next_part, stage_after, total_of, why_of}
use Rattle.m11_obj_blocks.proofs.Limits.{took_nothing, took_then}
use Rattle.m11_obj_blocks.proofs.ReadSteps.{bytes_then}
use Rattle.m11_obj_blocks.proofs.TapeFrames.{tape_framed}
use Rattle.m11_dump.specs.Positions.{count_read, stop_byte}
use Rattle.m11_dump.proofs.Offsets.{stops_at}
use Rattle.m11_dump.specs.Tapes.{GivesBlocks, Hold, ReadsData, StopsData, StopsInside, StopsReading, blocks_before, part_after}
use Rattle.m11_dump.specs.declared.fault.DumpFault.TheVariants as fault

abbrev pub Reader : Type 0
Reader = List ℕ → Read TapeFault TapePart

-- ---- one more block

pub after_more : (read : Reader) (blocks : List (ℕ × List ℕ)) (address : ℕ) (content : List ℕ)
    → part_after read (blocks ++ (address, content) ∷ []) ≡ next_part (total_of address content)
after_more read [] address content = refl
after_more read (block ∷ blocks) address content =
    after_more (next_part (total_of block.0 block.1)) blocks address content

hold_more : (read : Reader) (blocks : List (ℕ × List ℕ)) (address : ℕ) (given header content : List ℕ)
    → Hold read blocks given
    → ((rest : List ℕ) → part_after read blocks (header ++ rest) ≡ Ok (Data address (length content), rest))
    → Hold read (blocks ++ (address, content) ∷ []) (given ++ (header ++ content))
hold_more read [] address given header content none is = (
  header,
  [],
  ap (λ (l : List ℕ). l ++ (header ++ content)) none ∙ ap (λ (l : List ℕ). header ++ l) (sym (append-nil content)),
  is,
  refl,
)
hold_more read (block ∷ blocks) address given header content held is =
    let more : List ℕ = header ++ content in (
      held.0,
      held.1 ++ more,
      ap (λ (l : List ℕ). l ++ more) held.2 ∙ append_assoc held.0 (block.1 ++ held.1) more
          ∙ ap (λ (l : List ℕ). held.0 ++ l) (append_assoc block.1 held.1 more),
      held.3,
      hold_more (next_part (total_of block.0 block.1)) blocks address held.1 header content held.4 is,
    )

-- ---- the whole tape

are_read : (read : Reader) (blocks : List (ℕ × List ℕ)) (start : ℕ) (given last : List ℕ)
    → Hold read blocks given → ((rest : List ℕ) → part_after read blocks (last ++ rest) ≡ Ok (Start start, rest))
    → AreRead read blocks start (given ++ last)
are_read read [] start given last none is =
    ([], ap read (ap (λ (l : List ℕ). l ++ last) none ∙ sym (append-nil last)) ∙ is [])
are_read read (block ∷ blocks) start given last held is =
    let following : List ℕ = held.1 ++ last in (
      following,
      ap read (ap (λ (l : List ℕ). l ++ last) held.2 ∙ append_assoc held.0 (block.1 ++ held.1) last
          ∙ ap (λ (l : List ℕ). held.0 ++ l) (append_assoc block.1 held.1 last))
          ∙ held.3 (block.1 ++ following),
      are_read (next_part (total_of block.0 block.1)) blocks start held.1 last held.4 is,
    )

pub is_tape : (blocks : List (ℕ × List ℕ)) (start : ℕ) (a b c : Position) (given : List ℕ) → Took a b given
    → Hold first_part blocks given
    → (last : Reads (part_after first_part blocks) b c (Start start)) → IsTape blocks start (given ++ last.given)
is_tape blocks start a b c given took held last =
    tape_framed blocks start (given ++ last.given) (bytes_then given last.given took.bytes last.took.bytes)
    (are_read first_part blocks start given last.given held last.is)

-- ---- how far a reader has come

-- at this stage, the reader reads the next part with this function
abbrev pub IsBeforePart : TapeStage → Reader → Type 0
IsBeforePart BeforeBlock read = read ≡ first_part
IsBeforePart (InBlock left total) read = (left ≡ 0) × (read ≡ next_part total)
IsBeforePart (AtEnd address) read = ⊥
IsBeforePart AfterFault read = ⊥

next_is : (stage : TapeStage) (read : Reader) (old new : Position) (after : TapeStage) (result : Result TapePart TapeFault)
    → IsBeforePart stage read → ReadsNext stage old new after result
    → ReadsPart (λ part. part) read old new result × (after ≡ stage_after result)
next_is BeforeBlock read old new after result stands r = rw stands r
next_is (InBlock left total) read old new after result stands r = rw stands.1 r
next_is (AtEnd address) read old new after result stands r = absurd stands
next_is AfterFault read old new after result stands r = absurd stands

none_left : (stage : TapeStage) (read : Reader) → IsBeforePart stage read → left_of stage ≡ 0
none_left BeforeBlock read stands = refl
none_left (InBlock left total) read stands = stands.0
none_left (AtEnd address) read stands = refl
none_left AfterFault read stands = refl

-- these blocks were read; the reader is about to read the part after them
pub record HaveRead (old here : Position) (stage : TapeStage) (blocks : List (ℕ × List ℕ)) : Type 0 where
  pub gives : GivesBlocks old here blocks
  pub before : IsBeforePart stage (part_after first_part blocks)
  pub whole : old.room ≡ 4194304
  pub few : length blocks + here.room ≤ 4194304

pub none_read : (old : Position) → old.room ≡ 4194304 → HaveRead old old BeforeBlock []
none_read old room = record {
  gives = record {
    given = [];
    took = took_nothing old;
    hold = refl;
  };
  before = refl;
  whole = room;
  few = omega (arith, room);
}

module _ (old here : Position) (stage : TapeStage) (blocks : List (ℕ × List ℕ)) (d : HaveRead old here stage blocks) where
  pub none_open : left_of stage ≡ 0
  none_open = none_left stage (part_after first_part blocks) d.before

  pub few_read : length blocks < 2 ^ 32
  few_read = omega (arith, d.few)

  module _ (new : Position) (after : TapeStage) (result : Result TapePart TapeFault) (r : ReadsNext stage here new after result) where
    part_read : ReadsPart (λ part. part) (part_after first_part blocks) here new result × (after ≡ stage_after result)
    part_read = next_is stage (part_after first_part blocks) here new after result d.before r

    pub part_as : (same : Result TapePart TapeFault) → result ≡ same
        → ReadsPart (λ part. part) (part_after first_part blocks) here new same
    part_as same is = subst
        (λ (a : Result TapePart TapeFault). ReadsPart (λ part. part) (part_after first_part blocks) here new a) is
        part_read.0

    -- no further part could be read
    pub none_follows : (inner : TapeFault) → result ≡ Err inner → (before : ℕ)
        → before ≡ blocks_before (length blocks) (count_read here) (stop_byte (why_of inner) (count_read new))
        → StopsReading inner here new blocks d.gives.given before (stop_byte (why_of inner) (count_read new))
    none_follows inner is before number =
        let byte = stop_byte (why_of inner) (count_read new) in
        let end : count_read here ≡ length d.gives.given = omega (arith, d.whole, d.gives.took.room) in
        inl (
          number ∙ ap (λ (n : ℕ). blocks_before (length blocks) n byte) end,
          stops_at (part_after first_part blocks) (why_of inner) old here new d.gives.given byte d.whole d.gives.took
              (part_as (Err inner) is) refl,
        )

    -- the transfer block was read
    module _ (start : ℕ) (is : result ≡ Ok (Start start)) where
      pub last_read : Reads (part_after first_part blocks) here new (Start start)
      last_read = part_as (Ok (Start start)) is

      pub whole_read : IsTape blocks start (d.gives.given ++ last_read.given)
      whole_read = is_tape blocks start old here new d.gives.given d.gives.took d.gives.hold last_read

    -- the header of a block was read
    module _ (address count : ℕ) (is : result ≡ Ok (Data address count)) (end : Position) where
      pub header_read : Reads (part_after first_part blocks) here new (Data address count)
      header_read = part_as (Ok (Data address count)) is

      -- not all data of the block could be read
      pub part_lacks : (inner : TapeFault) → StopsData (fault.Tape inner) new end count
          → StopsReading inner here end blocks d.gives.given (length blocks) (stop_byte (why_of inner) (count_read end))
      part_lacks inner s =
          let header = header_read in
          let before = took_then old here s.1 d.gives.given (header.given ++ s.0) d.gives.took
          (took_then here new s.1 header.given s.0 header.took s.2) in
          let stops : StopsInside (part_after first_part blocks) inner here end d.gives.given (stop_byte (why_of inner) (count_read end)) = (
            s.1,
            record {
              address = address;
              count = count;
              opened = new;
              header = header;
              taken = s.0;
              took = s.2;
              some = s.3;
            },
            stops_at data_byte (why_of inner) old s.1 end (d.gives.given ++ (header.given ++ s.0))
                (stop_byte (why_of inner) (count_read end)) d.whole before s.4 refl,
          ) in inr (refl, stops)

      -- all data of the block was read
      module _ (bytes : List ℕ) (stage' : TapeStage) (some : 0 < count) (t : ReadsData new end stage' address count bytes) where
        pub room_is_less : end.room < here.room
        room_is_less = omega (arith, header_read.took.room, t.1.room, t.0, some)

        own : Reads (part_after first_part blocks) here new (Data address (length bytes))
        own =
            let P : ℕ → Type 0 = λ n. Reads (part_after first_part blocks) here new (Data address n) in
            subst P (sym t.0) header_read

        pub block_read : HaveRead old end stage' (blocks ++ (address, bytes) ∷ [])
        block_read =
            let less = room_is_less in
            let S : TapeStage → Type 0 = λ x. IsBeforePart x (part_after first_part (blocks ++ (address, bytes) ∷ [])) in
            record {
              gives = record {
                given = d.gives.given ++ (own.given ++ bytes);
                took = took_then old here end d.gives.given (own.given ++ bytes) d.gives.took
                    (took_then here new end own.given bytes own.took t.1);
                hold = hold_more first_part blocks address d.gives.given own.given bytes d.gives.hold own.is;
              };
              before = subst S (sym t.2) (refl, after_more first_part blocks address bytes);
              whole = d.whole;
              few = omega (arith, d.few, less, length-append blocks ((address, bytes) ∷ []));
            }
