-- The blocks of a tape, read and shown one after another.
use Rattle.std.proofs.Common.{◌≡◌, ◌∙◌, ℕ, suc, ◌+◌, ◌-◌, ◌%◌, ◌^◌, ◌<◌, ◌≤◌, List, [], ◌∷◌, ◌++◌, append-nil, append_assoc, length, sum, Option, Some, None, Result, Ok, Err, inl, inr, refl, sym, ap, subst, arith}
use Rattle.std.proofs.lemmas.List.{length-append}
use Rattle.std.specs.List.{concat}
use Rattle.std.specs.Prelude.{⊤}
use Rattle.m11_obj_blocks.specs.declared.tape_fault.TapeFault.{TapeFault}
use Rattle.m11_obj_blocks.specs.declared.tape_part.TapePart.{TapePart}
use Rattle.m11_obj_blocks.specs.declared.tape_part.TapePart.TheVariants.{Data, Start}
use Rattle.m11_obj_blocks.specs.declared.tape_part.TapeStage.{TapeStage}
use Rattle.m11_obj_blocks.specs.declared.tape_part.TapeStage.TheVariants.{BeforeBlock, InBlock, AfterFault}
use Rattle.m11_obj_blocks.specs.Limited.{Position, Reads, Took}
use Rattle.m11_obj_blocks.specs.Tapes.{ReadsByte, ReadsNext, ReadsPart, data_byte, first_part, left_of, opened, stage_within, tape_header, why_of}
use Rattle.m11_obj_blocks.proofs.Limits.{took_nothing, took_then}
use Rattle.m11_obj_blocks.proofs.ReadSteps.{rest_is, value_is}
use Rattle.m11_obj_blocks.proofs.TapeFrames.{opened_all, opened_more}
use Rattle.m11_base_writes.specs.States.{OutputState}
use Rattle.m11_base_writes.specs.States as writes
use Rattle.m11_dump.proofs.Gaining.{appends_nothing, gained_then, gained_texts}
use Rattle.m11_dump.specs.Objects.{FailsToPut, Gained, Puts}
use Rattle.m11_dump.specs.Positions.{count_read, fault_byte, placed_at, stop_byte}
use Rattle.m11_dump.proofs.ReadingBlocks.{HaveRead, IsBeforePart, block_read, last_read, none_follows, none_open, part_lacks, room_is_less, whole_read}
use Rattle.m11_dump.specs.Tapes.{TapeView, DumpsTape, EndsHeld, EndsHeldBy, GivesBlocks, HeldFits, ReadsData, ShowsHeld, ShowsStart, StopsData, StopsHeld, StopsReading, TextsRead, beyond, block_texts, blocks_before, held_beyond, held_block, held_over, held_shown, held_text, over, part_after, said_after, start_text, tape_text, texts_from}
use Rattle.m11_dump.specs.declared.fault.DumpFault.{DumpFault}
use Rattle.m11_dump.specs.declared.fault.DumpFault.TheVariants as fault
use Rattle.m11_dump.specs.declared.fault.LocatedFault.{LocatedFault}
use Rattle.m11_dump.specs.declared.tapes.Held.{Held}

-- ---- the data of a block

byte_is : (given : List ℕ) (byte : ℕ) → data_byte (given ++ []) ≡ Ok (byte, []) → given ≡ byte ∷ []
byte_is [] byte e = absurd cc
byte_is (b ∷ given) byte e =
    let same : b ≡ byte = value_is {Fault = TapeFault} b byte (given ++ []) [] e in
    let none : given ++ [] ≡ [] = rest_is {Fault = TapeFault} b byte (given ++ []) [] e in
    let empty : given ≡ [] = sym (append-nil given) ∙ none in
    cc

byte_took : (old new : Position) (byte : ℕ) → Reads data_byte old new byte → Took old new (byte ∷ [])
byte_took old new byte r = subst (λ (given : List ℕ). Took old new given) (byte_is r.given byte (r.is [])) r.took

-- the first `index` bytes of the data of the open block were read
pub record Taking (old here : Position) (address count index : ℕ) (stage : TapeStage) (taken : List ℕ) : Type 0 where
  pub long : length taken ≡ index
  pub took : Took old here taken
  pub stands : stage ≡ opened address count taken

pub none_taken : (old : Position) (address count : ℕ) (stage : TapeStage)
    → stage ≡ InBlock count (sum (tape_header address count) % 256) → Taking old old address count 0 stage []
none_taken old address count stage begun =
    let all : count ≡ count - 0 = omega arith in record {
      long = refl;
      took = took_nothing old;
      stands = begun ∙ ap (λ (left : ℕ). InBlock left (sum (tape_header address count) % 256)) all;
    }

module _ (old here : Position) (address count index : ℕ) (stage : TapeStage) (taken : List ℕ)
    (t : Taking old here address count index stage taken) where
  some_left : index < count → left_of (opened address count taken) ≡ 0 → stage ≡ AfterFault
  some_left more none = absurd (omega (arith, t.long))

  pub is_open : index < count → left_of stage ≡ 0 → stage ≡ AfterFault
  is_open more none = some_left more (ap left_of (sym t.stands) ∙ none)

  byte_read : (new : Position) (after : TapeStage) (result : Result ℕ TapeFault) → ReadsByte stage here new after result
      → ReadsPart (λ byte. byte) data_byte here new result
      × (after ≡ stage_within (count - length taken) (sum (tape_header address count ++ taken) % 256) result)
  byte_read new after result r = rw t.stands at r

  pub data_stops : index < count → (new : Position) (after : TapeStage) (inner : TapeFault)
      → ReadsByte stage here new after (Err inner) → StopsData (fault.Tape inner) old new count
  data_stops more new after inner r =
      (taken, here, t.took, omega (arith, t.long), (byte_read new after (Err inner) r).0)

  pub one_taken : (new : Position) (after : TapeStage) (byte : ℕ) → ReadsByte stage here new after (Ok byte)
      → Taking old new address count (index + 1) after (taken ++ byte ∷ [])
  one_taken new after byte r =
      let given = byte_took here new byte (byte_read new after (Ok byte) r).0 in record {
        long = omega (arith, length-append taken (byte ∷ []), t.long);
        took = took_then old here new taken (byte ∷ []) t.took given;
        stands = (byte_read new after (Ok byte) r).1 ∙ opened_more address count byte taken;
      }

  pub memory_lacks : index < count → (new : Position) (after : TapeStage) (byte : ℕ) → ReadsByte stage here new after (Ok byte)
      → StopsData fault.NoMemory old new count
  memory_lacks more new after byte r =
      let one = one_taken new after byte r in (taken ++ byte ∷ [], one.took, omega (arith, one.long, more))

  pub all_taken : count ≤ index → index ≤ count → ReadsData old here stage address count taken
  all_taken all most =
      let long : count ≡ length taken = omega (arith, t.long) in (
        sym long,
        t.took,
        t.stands ∙ ap (λ (n : ℕ). opened address n taken) long ∙ opened_all address taken,
      )

-- if a text is written with `Write` as the fault of a failed output, it is put as the definition of a dump says
pub puts_as : (text : List ℕ) (old new : OutputState) (result : Result (Unit {0}) DumpFault)
    → writes.Puts old new text fault.Write result → Puts text old new result
puts_as text old new (Ok done) p = p
puts_as text old new (Err f) p =
    let P : DumpFault → Type 0 = λ x. FailsToPut text old new x in subst P (sym p.0) (p.1, p.2)

-- ---- the pending block and the transfer block are shown

pub none_shown : (view : TapeView) (held : Option Held) (after : List ℕ) (count : ℕ) (output : OutputState) → held ≡ None
    → ShowsHeld view held after count output output (Ok 0)
none_shown view held after count output is =
    let P : Option Held → Type 0 = λ x. ShowsHeld view x after count output output (Ok 0) in subst P (sym is) (refl, refl)

pub some_shown : (view : TapeView) (held : Option Held) (block : Held) (after : List ℕ) (count n : ℕ) (output output' : OutputState)
    → held ≡ Some block → Gained (held_text view block after) output output' → n ≡ held_over view block after
    → ShowsHeld view held after count output output' (Ok n)
some_shown view held block after count n output output' is gained over_is =
    let P : Option Held → Type 0 = λ x. ShowsHeld view x after count output output' (Ok n) in
    subst P (sym is) (gained, over_is)

pub some_refused : (view : TapeView) (held : Option Held) (block : Held) (after : List ℕ) (count : ℕ) (output output' : OutputState)
    (f : DumpFault) (said : LocatedFault) → held ≡ Some block → FailsToPut (held_text view block after) output output' f
    → said ≡ placed_at f block.before (fault_byte f count) → ShowsHeld view held after count output output' (Err said)
some_refused view held block after count output output' f said is fails e =
    let P : Option Held → Type 0 = λ x. ShowsHeld view x after count output output' (Err said) in
    subst P (sym is) (f, fails, e)

pub ends_shown : (view : TapeView) (held : Option Held) (address passed count n : ℕ) (output middle output' : OutputState)
    (shown : Result ℕ LocatedFault) (outcome : Result (Unit {0}) LocatedFault) → shown ≡ Ok n
    → ShowsHeld view held [] count output middle shown → ShowsStart address passed count middle output' outcome
    → EndsHeld view held address passed count output output' outcome
ends_shown view held address passed count n output middle output' shown outcome is s e =
    let P : Result ℕ LocatedFault → Type 0 = λ x. ShowsHeld view held [] count output middle x in
    (Ok n, middle, subst P is s, e)

texts_long : (view : TapeView) (shown : ℕ) (blocks : List (ℕ × List ℕ)) → length (texts_from view shown blocks) ≡ length blocks
texts_long view shown [] = refl
texts_long view shown (block ∷ blocks) =
    ap (λ (n : ℕ). suc n) (texts_long view (over view shown block (beyond block blocks)) blocks)

-- ---- the pending block

abbrev held_texts : TapeView → Option Held → List ℕ → List (List ℕ)
held_texts view None after = []
held_texts view (Some held) after = held_text view held after ∷ []

abbrev over_of : TapeView → Option Held → List ℕ → ℕ
over_of view None after = 0
over_of view (Some held) after = held_over view held after

-- this many blocks come before the pending block, if there is one
abbrev HeldAt : Option Held → ℕ → Type 0
HeldAt None count = ⊤
HeldAt (Some held) count = held.before ≡ count

leads_more : (view : TapeView) (held : Option Held) (next : ℕ × List ℕ) (more : List (ℕ × List ℕ))
    → texts_from view (held_shown held) (held_block held ++ (next ∷ more))
    ≡ held_texts view held (held_beyond held next) ++ texts_from view (over_of view held (held_beyond held next)) (next ∷ more)
leads_more view None next more = refl
leads_more view (Some held) next more = refl

leads_end : (view : TapeView) (held : Option Held)
    → texts_from view (held_shown held) (held_block held ++ []) ≡ held_texts view held []
leads_end view None = refl
leads_end view (Some held) = refl

held_long : (view : TapeView) (held : Option Held) (after : List ℕ) → length (held_texts view held after) ≡ length (held_block held)
held_long view None after = refl
held_long view (Some held) after = refl

shown_over : (view : TapeView) (held : Option Held) (after : List ℕ) (count : ℕ) (output output' : OutputState) (n : ℕ)
    → ShowsHeld view held after count output output' (Ok n)
    → (n ≡ over_of view held after) × Gained (concat (held_texts view held after)) output output'
shown_over view None after count output output' n s =
    let P : OutputState → Type 0 = λ x. Gained [] output x in
    let none : n ≡ 0 = cc s.0 in (none, subst P (sym s.1) (appends_nothing output.text, refl))
shown_over view (Some held) after count output output' n s =
    let P : List ℕ → Type 0 = λ text. Gained text output output' in
    (s.1, subst P (sym (append-nil (held_text view held after))) s.0)

-- ---- how far a dump has come

-- these blocks were read, and all but the pending one were shown; the reader is about to read the part after them
pub record Taping (view : TapeView) (old here : Position) (output output' : OutputState) (stage : TapeStage) (passed : ℕ)
    (held : Option Held) (blocks : List (ℕ × List ℕ)) : Type 0 where
  pub gives : GivesBlocks old here blocks
  pub before : IsBeforePart stage (part_after first_part blocks)
  pub counts : passed ≡ length blocks
  pub whole : old.room ≡ 4194304
  pub few : passed + here.room ≤ 4194304
  pub put : List (List ℕ)
  pub gained : Gained (concat put) output output'
  pub leads : (more : List (ℕ × List ℕ))
      → texts_from view 0 (blocks ++ more) ≡ put ++ texts_from view (held_shown held) (held_block held ++ more)
  pub long : length blocks ≡ length put + length (held_block held)
  pub fits : HeldFits held
  pub number : HeldAt held (length put)

pub tape_begins : (view : TapeView) (old : Position) (output : OutputState) → old.room ≡ 4194304
    → Taping view old old output output BeforeBlock 0 None []
tape_begins view old output room = record {
  gives = record {
    given = [];
    took = took_nothing old;
    hold = refl;
  };
  before = refl;
  counts = refl;
  whole = room;
  few = omega (arith, room);
  put = [];
  gained = (appends_nothing output.text, refl);
  leads = λ more. refl;
  long = refl;
  fits = tt;
  number = tt;
}

-- if one of the last two texts can't be written after the texts in `put`, the dump stops for that reason
module _ (view : TapeView) (old here new : Position) (output output' final : OutputState) (blocks : List (ℕ × List ℕ))
    (gives : GivesBlocks old here blocks) (put others texts : List (List ℕ)) (gained : Gained (concat put) output output')
    (read : TextsRead view blocks here new texts) (last : length others ≤ 1) where
  text_refused : (text : List ℕ) (before : ℕ) → texts ≡ put ++ (text ∷ others) → before ≡ length put
      → (f : DumpFault) → FailsToPut text output' final f
      → DumpsTape view old new output final (Err (placed_at f before (fault_byte f (count_read new))))
  text_refused text before all number fault.Write p = (
    blocks,
    here,
    gives,
    before,
    (
      texts,
      read,
      record {
        put = put;
        text = text;
        others = others;
        all = all;
        last = last;
        middle = output';
        gained = gained;
        fails = p;
        number = number;
      },
      refl,
    ),
    refl,
  )
  text_refused text before all number fault.NoMemory p =
      let P : OutputState → Type 0 = λ x. Gained (concat put) output x in (
        blocks,
        here,
        gives,
        before,
        (
          texts,
          read,
          record {
            put = put;
            others = text ∷ others;
            all = all;
            last = omega (arith, last);
            gained = subst P (sym p) gained;
            number = number;
          },
          refl,
        ),
        refl,
      )
  text_refused text before all number (fault.Block inner) p = absurd p
  text_refused text before all number (fault.Record inner) p = absurd p
  text_refused text before all number (fault.Rule inner) p = absurd p
  text_refused text before all number (fault.Tape inner) p = absurd p

  -- if the pending block can't be shown, the dump stops for that reason
  held_refused : (held : Option Held) (after : List ℕ) (said : LocatedFault)
      → texts ≡ put ++ (held_texts view held after ++ others) → HeldAt held (length put)
      → ShowsHeld view held after (count_read new) output' final (Err said) → DumpsTape view old new output final (Err said)
  held_refused None after said all number s = absurd (cc s.0)
  held_refused (Some held) after said all number s =
      let P : LocatedFault → Type 0 = λ x. DumpsTape view old new output final (Err x) in
      subst P (sym s.2) (text_refused (held_text view held after) held.before all number s.0 s.1)

module _ (view : TapeView) (old here : Position) (output output' : OutputState) (stage : TapeStage) (passed : ℕ) (held : Option Held)
    (blocks : List (ℕ × List ℕ)) (d : Taping view old here output output' stage passed held blocks) where
  abbrev reading : HaveRead old here stage blocks
  reading = record {
    gives = d.gives;
    before = d.before;
    whole = d.whole;
    few = omega (arith, d.few, d.counts);
  }

  pub block_ended : left_of stage ≡ 0
  block_ended = none_open old here stage blocks reading

  pub blocks_few : passed < 2 ^ 32
  blocks_few = omega (arith, d.few)

  pub held_fits : HeldFits held
  held_fits = d.fits

  -- if no bytes continue the last block, the texts of all blocks are those written and that of the pending block
  ended : block_texts view blocks ≡ d.put ++ held_texts view held []
  ended = ap (λ (l : List (ℕ × List ℕ)). texts_from view 0 l) (sym (append-nil blocks)) ∙ d.leads []
      ∙ ap (λ (l : List (List ℕ)). d.put ++ l) (leads_end view held)

  ended_gained : (count : ℕ) (final : OutputState) (n : ℕ) → ShowsHeld view held [] count output' final (Ok n)
      → Gained (tape_text view blocks) output final
  ended_gained count final n s =
      let P : List (List ℕ) → Type 0 = λ texts. Gained (concat texts) output final in
      subst P (sym ended) (gained_texts output output' final d.put (held_texts view held []) d.gained
      (shown_over view held [] count output' final n s).1)

  ended_refused : (new : Position) (final : OutputState) (said : LocatedFault)
      → ShowsHeld view held [] (count_read new) output' final (Err said) → DumpsTape view old new output final (Err said)
  ended_refused new final said s =
      let all : block_texts view blocks ≡ d.put ++ (held_texts view held [] ++ []) =
      ended ∙ ap (λ (l : List (List ℕ)). d.put ++ l) (sym (append-nil (held_texts view held []))) in
      let none : 0 ≤ 1 = omega arith in
      held_refused view old here new output output' final blocks d.gives d.put [] (block_texts view blocks) d.gained (inl refl) none
      held [] said all d.number s

  all_put : passed ≡ length (block_texts view blocks)
  all_put = d.counts ∙ sym (texts_long view 0 blocks)

  -- why no further block was read, and how many blocks come before the one that is told
  abbrev pub Reason : DumpFault → ℕ → Position → Type 0
  Reason (fault.Tape inner) before new =
      StopsReading inner here new blocks d.gives.given before (stop_byte (why_of inner) (count_read new))
  Reason fault.NoMemory before new = before ≡ passed
  Reason fault.Write before new = ⊥
  Reason (fault.Block inner) before new = ⊥
  Reason (fault.Record inner) before new = ⊥
  Reason (fault.Rule inner) before new = ⊥

  stopped_after : (new : Position) (final : OutputState) (f : DumpFault) (before : ℕ) → Reason f before new
      → Gained (tape_text view blocks) output final
      → DumpsTape view old new output final (Err (placed_at f before (fault_byte f (count_read new))))
  stopped_after new final (fault.Tape inner) before why gained = (blocks, here, d.gives, before, (gained, why), refl)
  stopped_after new final fault.NoMemory before why gained =
      let none : 0 ≤ 2 = omega arith in (
        blocks,
        here,
        d.gives,
        before,
        (
          block_texts view blocks,
          inl refl,
          record {
            put = block_texts view blocks;
            others = [];
            all = sym (append-nil (block_texts view blocks));
            last = none;
            gained = gained;
            number = why ∙ all_put;
          },
          refl,
        ),
        refl,
      )
  stopped_after new final fault.Write before why gained = absurd why
  stopped_after new final (fault.Block inner) before why gained = absurd why
  stopped_after new final (fault.Record inner) before why gained = absurd why
  stopped_after new final (fault.Rule inner) before why gained = absurd why

  stops_by : (new : Position) (final : OutputState) (f : DumpFault) (before : ℕ) → Reason f before new
      → (result : Result ℕ LocatedFault) → ShowsHeld view held [] (count_read new) output' final result
      → DumpsTape view old new output final (Err (said_after result (placed_at f before (fault_byte f (count_read new)))))
  stops_by new final f before why (Ok n) s = stopped_after new final f before why (ended_gained (count_read new) final n s)
  stops_by new final f before why (Err said) s = ended_refused new final said s

  stops_held : (new : Position) (final : OutputState) (f : DumpFault) (before : ℕ) (said : LocatedFault) → Reason f before new
      → StopsHeld view held f before (count_read new) output' final said → DumpsTape view old new output final (Err said)
  stops_held new final f before said why s =
      let P : LocatedFault → Type 0 = λ x. DumpsTape view old new output final (Err x) in
      subst P (sym s.2) (stops_by new final f before why s.0 s.1)

  module _ (new : Position) (after : TapeStage) (result : Result TapePart TapeFault) (r : ReadsNext stage here new after result) where
    pub part_stops : (inner : TapeFault) → result ≡ Err inner → (final : OutputState) (before : ℕ) (said : LocatedFault)
        → before ≡ blocks_before passed (count_read here) (stop_byte (why_of inner) (count_read new))
        → StopsHeld view held (fault.Tape inner) before (count_read new) output' final said
        → DumpsTape view old new output final (Err said)
    part_stops inner is final before said number s =
        let byte = stop_byte (why_of inner) (count_read new) in
        stops_held new final (fault.Tape inner) before said
        (none_follows old here stage blocks reading new after result r inner is before
        (number ∙ ap (λ (n : ℕ). blocks_before n (count_read here) byte) d.counts)) s

    module _ (start : ℕ) (is : result ≡ Ok (Start start)) (final : OutputState) where
      abbrev last : Reads (part_after first_part blocks) here new (Start start)
      last = last_read old here stage blocks reading new after result r start is

      module _ (middle : OutputState) (gained : Gained (tape_text view blocks) output middle) where
        start_refused : (f : DumpFault) → FailsToPut (start_text start) middle final f
            → DumpsTape view old new output final (Err (placed_at f passed (fault_byte f (count_read new))))
        start_refused f p =
            let none : 0 ≤ 1 = omega arith in
            text_refused view old here new output middle final blocks d.gives (block_texts view blocks) []
            (block_texts view blocks ++ start_text start ∷ []) gained (inr (start, last, refl)) none (start_text start) passed refl all_put
            f p

        start_shown : (shown : Result (Unit {0}) LocatedFault) → ShowsStart start passed (count_read new) middle final shown
            → DumpsTape view old new output final shown
        start_shown (Ok done) s = record {
          blocks = blocks;
          start = start;
          here = here;
          gives = d.gives;
          last = last;
          tape = whole_read old here stage blocks reading new after result r start is;
          gained = gained_then output middle final (tape_text view blocks) (start_text start) gained s;
        }
        start_shown (Err said) s =
            let P : LocatedFault → Type 0 = λ x. DumpsTape view old new output final (Err x) in
            subst P (sym s.2) (start_refused s.0 s.1)

      ends_by : (middle : OutputState) (shown : Result ℕ LocatedFault) (outcome : Result (Unit {0}) LocatedFault)
          → ShowsHeld view held [] (count_read new) output' middle shown
          → EndsHeldBy shown start passed (count_read new) middle final outcome → DumpsTape view old new output final outcome
      ends_by middle (Ok n) outcome s e = start_shown middle (ended_gained (count_read new) middle n s) outcome e
      ends_by middle (Err said) outcome s e =
          let P : OutputState → Type 0 = λ x. DumpsTape view old new output x (Err said) in
          let Q : Result (Unit {0}) LocatedFault → Type 0 = λ x. DumpsTape view old new output final x in
          subst Q (sym e.0) (subst P (sym e.1) (ended_refused new middle said s))

      pub tape_ends : (outcome : Result (Unit {0}) LocatedFault)
          → EndsHeld view held start passed (count_read new) output' final outcome → DumpsTape view old new output final outcome
      tape_ends outcome e = ends_by e.1 e.0 outcome e.2 e.3

    module _ (address count : ℕ) (is : result ≡ Ok (Data address count)) (end : Position) (final : OutputState) where
      reason : (f : DumpFault) → StopsData f new end count → Reason f passed end
      reason fault.Write s = absurd s
      reason fault.NoMemory s = refl
      reason (fault.Block inner) s = absurd s
      reason (fault.Record inner) s = absurd s
      reason (fault.Rule inner) s = absurd s
      reason (fault.Tape inner) s =
          let P : ℕ → Type 0 = λ n. StopsReading inner here end blocks d.gives.given n (stop_byte (why_of inner) (count_read end)) in
          subst P (sym d.counts) (part_lacks old here stage blocks reading new after result r address count is end inner s)

      pub data_fails : (f : DumpFault) (said : LocatedFault) → StopsData f new end count
          → StopsHeld view held f passed (count_read end) output' final said → DumpsTape view old end output final (Err said)
      data_fails f said stops s = stops_held end final f passed said (reason f stops) s

      module _ (bytes : List ℕ) (stage' : TapeStage) (some : 0 < count) (t : ReadsData new end stage' address count bytes) where
        abbrev all : List (ℕ × List ℕ)
        all = blocks ++ (address, bytes) ∷ []

        pub tape_room_falls : end.room < here.room
        tape_room_falls = room_is_less old here stage blocks reading new after result r address count is end bytes stage' some t

        read_all : HaveRead old end stage' all
        read_all = block_read old here stage blocks reading new after result r address count is end bytes stage' some t

        all_texts : (more : List (ℕ × List ℕ)) → texts_from view 0 (all ++ more)
            ≡ d.put ++ (held_texts view held (held_beyond held (address, bytes))
            ++ texts_from view (over_of view held (held_beyond held (address, bytes))) ((address, bytes) ∷ more))
        all_texts more =
            ap (λ (l : List (ℕ × List ℕ)). texts_from view 0 l) (append_assoc blocks ((address, bytes) ∷ []) more)
            ∙ d.leads ((address, bytes) ∷ more)
            ∙ ap (λ (l : List (List ℕ)). d.put ++ l) (leads_more view held (address, bytes) more)

        pub data_refused : (said : LocatedFault)
            → ShowsHeld view held (held_beyond held (address, bytes)) (count_read end) output' final (Err said)
            → DumpsTape view old end output final (Err said)
        data_refused said s =
            let others : List (List ℕ) =
            texts_from view (over_of view held (held_beyond held (address, bytes))) ((address, bytes) ∷ []) in
            let one : length others ≤ 1 = omega arith in
            let texts : block_texts view all ≡ d.put ++ (held_texts view held (held_beyond held (address, bytes)) ++ others) =
            ap (λ (l : List (ℕ × List ℕ)). texts_from view 0 l) (sym (append-nil all)) ∙ all_texts [] in
            held_refused view old end end output output' final all read_all.gives d.put others (block_texts view all) d.gained
            (inl refl) one held (held_beyond held (address, bytes)) said texts d.number s

        -- the new pending block
        module _ (n : ℕ) (next : Held) (at : next.address ≡ address) (with : next.bytes.items ≡ bytes) (over : next.shown ≡ n)
            (number : next.before ≡ passed) (fits : count ≤ 65529)
            (s : ShowsHeld view held (held_beyond held (address, bytes)) (count_read end) output' final (Ok n)) where
          put_all : length (d.put ++ held_texts view held (held_beyond held (address, bytes))) ≡ passed
          put_all = length-append d.put (held_texts view held (held_beyond held (address, bytes)))
              ∙ ap (λ (k : ℕ). length d.put + k) (held_long view held (held_beyond held (address, bytes)))
              ∙ sym d.long ∙ sym d.counts

          pub data_shown : Taping view old end output final stage' (passed + 1) (Some next) all
          data_shown =
              let less = tape_room_falls in
              let shows = shown_over view held (held_beyond held (address, bytes)) (count_read end) output' final n s in
              let next_is : ◌≡◌ {A = ℕ × List ℕ} (next.address, next.bytes.items) (address, bytes) = cc in
              let shown_is : next.shown ≡ over_of view held (held_beyond held (address, bytes)) = over ∙ shows.0 in
              let long : length next.bytes.items ≡ count = ap (λ (l : List ℕ). length l) with ∙ t.0 in
              record {
                gives = read_all.gives;
                before = read_all.before;
                counts = omega (arith, d.counts, length-append blocks ((address, bytes) ∷ []));
                whole = d.whole;
                few = omega (arith, d.few, less);
                put = d.put ++ held_texts view held (held_beyond held (address, bytes));
                gained = gained_texts output output' final d.put (held_texts view held (held_beyond held (address, bytes))) d.gained
                    shows.1;
                leads = λ more. all_texts more
                    ∙ sym (append_assoc d.put (held_texts view held (held_beyond held (address, bytes)))
                    (texts_from view (over_of view held (held_beyond held (address, bytes))) ((address, bytes) ∷ more)))
                    ∙ ap (λ (k : ℕ). (d.put ++ held_texts view held (held_beyond held (address, bytes)))
                    ++ texts_from view k ((address, bytes) ∷ more)) (sym shown_is)
                    ∙ ap (λ (b : ℕ × List ℕ). (d.put ++ held_texts view held (held_beyond held (address, bytes)))
                    ++ texts_from view next.shown (b ∷ more)) (sym next_is);
                long = omega (arith, put_all, d.counts, length-append blocks ((address, bytes) ∷ []));
                fits = (omega (arith, long, fits), omega (arith, number, blocks_few));
                number = number ∙ sym put_all;
              }
