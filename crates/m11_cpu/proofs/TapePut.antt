-- The blocks of a tape, read and put into memory one after another.
use Rattle.std.proofs.Common.{◌≡◌, ℕ, ◌<◌, List, [], ◌∷◌, ◌++◌, length, Option, Result, Ok, Err, refl, sym, ap, subst, ◌∙◌, arith, inl, inr}
use Rattle.m11_obj_blocks.specs.declared.tape_fault.TapeFault.{TapeFault}
use Rattle.m11_obj_blocks.specs.declared.tape_fault.TapeFault.TheVariants as fault
use Rattle.m11_obj_blocks.specs.declared.tape_part.TapePart.{TapePart}
use Rattle.m11_obj_blocks.specs.declared.tape_part.TapePart.TheVariants.{Data, Start}
use Rattle.m11_obj_blocks.specs.declared.tape_part.TapeStage.{TapeStage}
use Rattle.m11_obj_blocks.specs.declared.tape_part.TapeStage.TheVariants.{BeforeBlock, InBlock, AtEnd, AfterFault}
use Rattle.m11_obj_blocks.specs.Limited.{Position, position, most_bytes, Took, Read, Reads, Stops}
use Rattle.m11_obj_blocks.specs.Tapes.{total_of, first_part, data_byte, stage_after, left_of, why_of, ReadsPart, ReadsNext}
use Rattle.m11_base.specs.Feed.{Text}
use Rattle.m11_obj_blocks.proofs.Limits.{took_nothing, took_then}
use Rattle.m11_cpu.specs.declared.fault.LoadFault.{LoadFault}
use Rattle.m11_cpu.specs.declared.fault.LoadFault.TheVariants.{Tape, OutsideMemory}
use Rattle.m11_cpu.specs.Loading.{with_bytes, AreInside, part_after, PutBlocks, PutSome, LoadsTape, InsideData, Loads, LoadsFrom, PutsData, CountsFailure}
use Rattle.m11_cpu.proofs.BytesPut.{block_put, block_inside}
use Rattle.m11_cpu.proofs.BlocksRead.{after_more, hold_more, is_tape, IsBeforePart, next_is}

-- these blocks were read and put into memory, and the reader reads the part after them next
pub record Loading (old here : Position) (before now : List ℕ) (stage : TapeStage) (blocks : List (ℕ × List ℕ)) : Type
    0 where
  pub put : PutBlocks old here before now blocks
  pub stands : IsBeforePart stage (part_after first_part blocks)
  pub size : length now ≡ length before

pub none_loaded : (old : Position) (before : List ℕ) → Loading old old before before BeforeBlock []
none_loaded old before = record {
  put = record { given = []; took = took_nothing old; hold = refl; inside = tt; memory = refl };
  stands = refl;
  size = refl;
}

none_left : (stage : TapeStage) (blocks : List (ℕ × List ℕ)) → IsBeforePart stage (part_after first_part blocks)
    → left_of stage ≡ 0
none_left BeforeBlock blocks stands = refl
none_left (InBlock left total) blocks stands = stands.0
none_left (AtEnd address) blocks stands = refl
none_left AfterFault blocks stands = refl

module _ (old here : Position) (before now : List ℕ) (stage : TapeStage) (blocks : List (ℕ × List ℕ))
    (l : Loading old here before now stage blocks) where
  pub block_ended : left_of stage ≡ 0
  block_ended = none_left stage blocks l.stands

  module _ (new : Position) (after : TapeStage) (result : Result TapePart TapeFault)
      (r : ReadsNext stage here new after result) where
    part_read : ReadsPart (λ part. part) (part_after first_part blocks) here new result × (after ≡ stage_after result)
    part_read = next_is stage (part_after first_part blocks) here new after result l.stands r

    pub stage_is : after ≡ stage_after result
    stage_is = part_read.1

    part_as : (same : Result TapePart TapeFault) → result ≡ same
        → ReadsPart (λ part. part) (part_after first_part blocks) here new same
    part_as same is = subst
        (λ (a : Result TapePart TapeFault). ReadsPart (λ part. part) (part_after first_part blocks) here new a) is
        part_read.0

    pub part_stops : (fault : TapeFault) → result ≡ Err fault → Loads old new before now (Err (Tape fault))
    part_stops fault is = inl (record { blocks = blocks; following = here; put = l.put; stops = part_as (Err fault) is })

    pub tape_ends : (start : ℕ) → result ≡ Ok (Start start) → LoadsTape old new before now start
    tape_ends start is =
        let last : Reads (part_after first_part blocks) here new (Start start) = part_as (Ok (Start start)) is in
        record {
          blocks = blocks;
          following = here;
          put = l.put;
          last = last;
          tape = is_tape blocks start old here new l.put.given l.put.took l.put.hold last;
        }

    module _ (address count : ℕ) (is : result ≡ Ok (Data address count)) where
      header : Reads (part_after first_part blocks) here new (Data address count)
      header = part_as (Ok (Data address count)) is

      module _ (end : Position) (memory content : List ℕ) where
        pub room_falls : 0 < count → length content ≡ count → Took new end content → end.room < here.room
        room_falls some long took = omega (arith, header.took.room, took.room)

        pub block_loaded : (stage' : TapeStage) → length content ≡ count → Took new end content
            → AreInside (length now) address content → memory ≡ with_bytes address content now
            → stage' ≡ InBlock 0 (total_of address content) → length memory ≡ length now
            → Loading old end before memory stage' (blocks ++ (address, content) ∷ [])
        block_loaded stage' long took inside memory_is stage_is size =
            let given : List ℕ = header.given in
            let header_is : (rest : List ℕ)
            → part_after first_part blocks (given ++ rest) ≡ Ok (Data address (length content), rest)
            = λ rest. header.is rest ∙ ap (λ (n : ℕ). Ok (Data address n, rest)) (sym long) in
            record {
              put = record {
                given = l.put.given ++ (given ++ content);
                took = took_then old here end l.put.given (given ++ content) l.put.took
                    (took_then here new end given content header.took took);
                hold = hold_more first_part blocks address l.put.given given content l.put.hold header_is;
                inside = block_inside (length before) blocks address content l.put.inside (rw l.size at inside);
                memory = memory_is ∙ ap (λ (m : List ℕ). with_bytes address content m) l.put.memory
                    ∙ sym (block_put blocks address content before);
              };
              stands = rw stage_is (refl, after_more first_part blocks address content);
              size = size ∙ l.size;
            }

        inside_block : (middle : Position) → PutSome new middle now memory address count content
            → InsideData old middle before memory address content
        inside_block middle part =
            record {
              blocks = blocks;
              following = here;
              held = now;
              put = l.put;
              count = count;
              opened = new;
              header = header;
              part = part;
            }

        pub block_fails : (A : Type 0) (fault : LoadFault)
            → PutsData {A = A} new end now memory (address, count) content (Err fault)
            → Loads old end before memory (Err fault)
        block_fails A (Tape fault) p = inr (address, content, p.0, inside_block p.0 p.1, p.2)
        block_fails A OutsideMemory p =
            (address, content, p.0, inside_block p.0 p.1, (p.2.0, p.2.1, omega (arith, l.size, p.2.2)))

-- ---- failures of the feed

-- if a part or byte could not be read, the feed's count of failures is as `CountsFailure` says
stop_counts : {A : Type 0} (read : List ℕ → Read TapeFault A) (a b : Position) (fault : TapeFault)
    → Stops read a b (why_of fault) → CountsFailure a.faults b.faults (Err (Tape fault))
stop_counts read a b fault.Device s = rw (sym s.1.1.faults) s.1.2.1
stop_counts read a b fault.Truncated s = s.1.2.1 ∙ s.1.1.faults
stop_counts read a b fault.BadSum s = s.1.faults
stop_counts read a b fault.BadStart s = s.1.faults
stop_counts read a b fault.TooShort s = s.1.faults
stop_counts read a b fault.Failed s = absurd s
stop_counts read a b fault.NoTransfer s = s.1.2.1 ∙ s.1.1.faults
stop_counts read a b fault.TooMuch s = s.1.2.2 ∙ s.1.1.faults

counts_after : (first here : ℕ) (new : ℕ) (result : Result ℕ LoadFault) → here ≡ first → CountsFailure here new result
    → CountsFailure first new result
counts_after first here new result same counts =
    subst (λ (n : ℕ). CountsFailure n new result) same counts

load_counts : (old new : Position) (before after : List ℕ) (result : Result ℕ LoadFault)
    → Loads old new before after result → CountsFailure old.faults new.faults result
load_counts old new before after (Ok start) l = l.last.took.faults ∙ l.put.took.faults
load_counts old new before after (Err (Tape fault)) (inl s) =
    counts_after old.faults s.following.faults new.faults (Err (Tape fault)) s.put.took.faults
    (stop_counts (part_after first_part s.blocks) s.following new fault s.stops)
load_counts old new before after (Err (Tape fault)) (inr s) =
    let part = s.3 in
    counts_after old.faults s.2.faults new.faults (Err (Tape fault))
    (part.part.took.faults ∙ part.header.took.faults ∙ part.put.took.faults)
    (stop_counts data_byte s.2 new fault s.4)
load_counts old new before after (Err OutsideMemory) s =
    let part = s.3 in s.4.1.faults ∙ part.part.took.faults ∙ part.header.took.faults ∙ part.put.took.faults

pub counts_from : (text text' : Option Text) (faults faults' : ℕ) (before after : List ℕ) (result : Result ℕ LoadFault)
    → LoadsFrom text text' faults faults' before after result → CountsFailure faults faults' result
counts_from text text' faults faults' before after result l =
    load_counts (position text faults most_bytes) (position text' faults' l.0) before after result l.1
