-- The data of a block, read byte by byte and put into memory.
use Rattle.std.proofs.Common.{◌≡◌, ℕ, ◌+◌, ◌-◌, ◌%◌, ◌<◌, ◌≤◌, List, [], ◌∷◌, ◌++◌, length, sum, Result, Ok, Err, refl, sym, ap, ◌∙◌, arith}
use Rattle.std.proofs.lemmas.List.{length-append}
use Rattle.m11_obj_blocks.specs.declared.tape_fault.TapeFault.{TapeFault}
use Rattle.m11_obj_blocks.specs.declared.tape_part.TapeStage.{TapeStage}
use Rattle.m11_obj_blocks.specs.declared.tape_part.TapeStage.TheVariants.{InBlock, AfterFault}
use Rattle.m11_obj_blocks.specs.Limited.{Position, Took, Stops}
use Rattle.m11_obj_blocks.specs.Tapes.{tape_header, total_of, data_byte, opened, stage_within, left_of, why_of, ReadsPart, ReadsByte}
use Rattle.m11_obj_blocks.proofs.Limits.{took_nothing, took_then}
use Rattle.m11_obj_blocks.proofs.TapeFrames.{opened_more, opened_all}
use Rattle.m11_cpu_machine.specs.Memory.{with_byte}
use Rattle.m11_cpu.specs.Loading.{with_bytes, AreInside, PutSome, GivesOutside}
use Rattle.m11_cpu.proofs.BytesPut.{none_put, one_put, none_inside, one_inside}
use Rattle.m11_cpu.proofs.BlocksRead.{byte_took}

-- the first `index` data bytes of the block whose header was read last were read and put into memory
pub record Taking (old here : Position) (before now : List ℕ) (address count index : ℕ) (stage : TapeStage)
    (taken : List ℕ) : Type 0 where
  pub long : length taken ≡ index
  pub took : Took old here taken
  pub stands : stage ≡ opened address count taken
  pub inside : AreInside (length before) address taken
  pub memory : now ≡ with_bytes address taken before
  pub size : length now ≡ length before

pub none_taken : (old : Position) (before : List ℕ) (address count : ℕ) (stage : TapeStage)
    → stage ≡ InBlock count (sum (tape_header address count) % 256)
    → Taking old old before before address count 0 stage []
none_taken old before address count stage begun =
    let all : count ≡ count - 0 = omega arith in record {
      long = refl;
      took = took_nothing old;
      stands = begun ∙ ap (λ (left : ℕ). InBlock left (sum (tape_header address count) % 256)) all;
      inside = none_inside (length before) address;
      memory = sym (none_put address before);
      size = refl;
    }

module _ (old here : Position) (before now : List ℕ) (address count index : ℕ) (stage : TapeStage) (taken : List ℕ)
    (t : Taking old here before now address count index stage taken) where
  some_left : index < count → left_of (opened address count taken) ≡ 0 → stage ≡ AfterFault
  some_left more none = absurd (omega (arith, t.long))

  pub is_open : index < count → left_of stage ≡ 0 → stage ≡ AfterFault
  is_open more none = some_left more (ap left_of (sym t.stands) ∙ none)

  pub byte_read : (new : Position) (after : TapeStage) (result : Result ℕ TapeFault)
      → ReadsByte stage here new after result
      → ReadsPart (λ byte. byte) data_byte here new result
      × (after ≡ stage_within (count - length taken) (sum (tape_header address count ++ taken) % 256) result)
  byte_read new after result r = rw t.stands at r

  pub some_put : index < count → PutSome old here before now address count taken
  some_put more = record { took = t.took; some = omega (arith, t.long); inside = t.inside; memory = t.memory }

  pub data_stops : index < count → (new : Position) (after : TapeStage) (fault : TapeFault)
      → ReadsByte stage here new after (Err fault)
      → (middle : Position) × PutSome old middle before now address count taken × Stops data_byte middle new (why_of fault)
  data_stops more new after fault r = (here, some_put more, (byte_read new after (Err fault) r).0)

  module _ (more : index < count) (new : Position) (after : TapeStage) (byte : ℕ)
      (r : ReadsByte stage here new after (Ok byte)) where
    given : Took here new (byte ∷ [])
    given = byte_took here new byte (byte_read new after (Ok byte) r).0

    pub byte_outside : length now ≤ address + index → GivesOutside here new (length before) (address + length taken)
    byte_outside outside = (byte, given, omega (arith, t.long, t.size))

    pub one_taken : (past : ℕ) (memory : List ℕ) → past ≡ address + index → past < length now
        → memory ≡ with_byte past byte now → length memory ≡ length now
        → Taking old new before memory address count (index + 1) after (taken ++ byte ∷ [])
    one_taken past memory past_is inside memory_is size =
        let there : past ≡ address + length taken = omega (arith, t.long) in
        let fits : address + length taken < length before = omega (arith, t.long, t.size) in record {
          long = omega (arith, length-append taken (byte ∷ []), t.long);
          took = took_then old here new taken (byte ∷ []) t.took given;
          stands = (byte_read new after (Ok byte) r).1 ∙ opened_more address count byte taken;
          inside = one_inside (length before) address byte taken t.inside fits;
          memory = memory_is ∙ ap (λ (k : ℕ). with_byte k byte now) there
              ∙ ap (λ (m : List ℕ). with_byte (address + length taken) byte m) t.memory
              ∙ one_put address byte taken before fits;
          size = size ∙ t.size;
        }

  pub all_taken : count ≤ index → index ≤ count
      → ((length taken ≡ count) × Took old here taken × AreInside (length before) address taken
      × (now ≡ with_bytes address taken before)) × (stage ≡ InBlock 0 (total_of address taken))
  all_taken all most =
      let long : count ≡ length taken = omega (arith, t.long) in (
        (sym long, t.took, t.inside, t.memory),
        t.stands ∙ ap (λ (n : ℕ). opened address n taken) long ∙ opened_all address taken,
      )
