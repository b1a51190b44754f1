-- The outcome of a load of a tape of an image.
use Rattle.std.proofs.Common.{◌≡◌, ◌∙◌, ℕ, ◌+◌, ◌<◌, ◌≤◌, List, [], ◌∷◌, ◌++◌, length, get_or, Option, Some, Result, Ok, Err, refl, sym, ap, subst, arith, inl, inr}
use Rattle.std.specs.Option.{unwrap_or}
use Rattle.std.proofs.lemmas.List.{append-nil, length-append}
use Rattle.m11_base.specs.Devices.{Rises}
use Rattle.m11_base.specs.Feed.{Text}
use Rattle.m11_obj_blocks.specs.declared.tape_fault.TapeFault.{TapeFault}
use Rattle.m11_obj_blocks.specs.declared.tape_fault.TapeFault.TheVariants as fault
use Rattle.m11_obj_blocks.specs.declared.tape_part.TapePart.TheVariants.{Data, Start}
use Rattle.m11_obj_blocks.specs.Limited.{Position, position, most_bytes, Took, Reads, Stops}
use Rattle.m11_obj_blocks.specs.Tapes.{AreRead, first_part, data_byte, why_of}
use Rattle.m11_obj_blocks.proofs.TapeFrames.{tape_read}
use Rattle.m11_cpu.specs.declared.fault.LoadFault.{LoadFault}
use Rattle.m11_cpu.specs.declared.fault.LoadFault.TheVariants.{Tape, OutsideMemory}
use Rattle.m11_cpu_machine.specs.declared.machine.Machine.{Machine}
use Rattle.m11_cpu.specs.Loading.{CountsFailure, Loads, LoadsInto, LoadsTape, part_after, PutBlocks}
use Rattle.m11_cpu_machine.specs.Machine.{memory_size}
use Rattle.m11_cpu_machine.specs.Memory.{byte_at}
use Rattle.m11_cpu_laws.specs.Image.{Image, byte_of}
use Rattle.m11_cpu_laws.specs.Loaded.{HoldsImage, LiesInside, LiesPast, LoadYields}
use Rattle.m11_cpu_laws.specs.Tapes.{IsTapeOf}
use Rattle.m11_cpu_laws.proofs.BytesPlaced.{has_byte, none_outside, stored_byte, stored_long, within_at}
use Rattle.m11_cpu_laws.proofs.Fronts.{at_header, at_start, byte_read, front, Front, Opened, something_read}
use Rattle.m11_cpu_laws.proofs.KnownTexts.{left_after, Left, MayStop, may_stop, stops_before}

module _ (image : Image) (text : Text) (tape : IsTapeOf image text.bytes) (faults : ℕ) where
  abbrev beginning : Position
  beginning = position (Some text) faults most_bytes

  -- ---- after some of its blocks

  module _ (following : Position) (before now : List ℕ) (blocks : List (ℕ × List ℕ))
      (put : PutBlocks beginning following before now blocks) where
    left : Left following text put.given
    left = left_after beginning following text put.given refl put.took

    ahead : Front first_part blocks tape.blocks tape.start left.rest.bytes
    ahead =
        front first_part blocks tape.blocks tape.start put.given left.rest.bytes put.hold
        (subst (λ (bytes : List ℕ). AreRead first_part tape.blocks tape.start bytes) left.split
        (tape_read tape.blocks tape.start text.bytes tape.consists))

    -- if the next part can't be read, the fault is one that `MayStop` allows
    pub part_stops : (new : Position) (said : TapeFault) → Stops (part_after first_part blocks) following new (why_of said)
        → MayStop most_bytes text.bytes said
    part_stops new said stops =
        let x = something_read (part_after first_part blocks) ahead.others tape.start left.rest.bytes ahead.are_read in
        stops_before beginning following text put.given put.took left said
        (may_stop (part_after first_part blocks) following new left.rest left.text_is x.0 x.1 said stops)

    -- the case in which the next part is the transfer block
    module _ (new : Position) (start : ℕ) (last : Reads (part_after first_part blocks) following new (Start start)) where
      after_last : Left new left.rest last.given
      after_last = left_after following new left.rest last.given left.text_is last.took

      last_is : (ahead.others ≡ []) × (start ≡ tape.start)
      last_is =
          at_start (part_after first_part blocks) ahead.others tape.start start left.rest.bytes after_last.rest.bytes
          ahead.are_read
          (ap (part_after first_part blocks) after_last.split ∙ last.is after_last.rest.bytes)

      pub all_blocks : tape.blocks ≡ blocks
      all_blocks =
          ahead.blocks_are ∙ ap (λ (others : List (ℕ × List ℕ)). blocks ++ others) last_is.0 ∙ append-nil blocks

      pub start_found : start ≡ tape.start
      start_found = last_is.1

    -- the case in which the next part is a header, and fewer than all bytes of its data were read
    module _ (opened here : Position) (address count : ℕ) (taken : List ℕ)
        (header : Reads (part_after first_part blocks) following opened (Data address count)) (took : Took opened here taken)
        (some : length taken < count) where
      after_header : Left opened left.rest header.given
      after_header = left_after following opened left.rest header.given left.text_is header.took

      block : Opened ahead.others tape.start address count after_header.rest.bytes
      block =
          at_header (part_after first_part blocks) ahead.others tape.start address count left.rest.bytes
          after_header.rest.bytes ahead.are_read
          (ap (part_after first_part blocks) after_header.split ∙ header.is after_header.rest.bytes)

      after_some : Left here after_header.rest taken
      after_some = left_after opened here after_header.rest taken after_header.text_is took

      one_left : 0 < length after_some.rest.bytes
      one_left =
          omega (
            arith,
            some,
            block.long,
            ap length block.split,
            length-append block.content block.following,
            ap length after_some.split,
            length-append taken after_some.rest.bytes,
          )

      pub data_stops : (new : Position) (said : TapeFault) → Stops data_byte here new (why_of said)
          → MayStop most_bytes text.bytes said
      data_stops new said stops =
          let x = byte_read after_some.rest.bytes one_left in
          stops_before beginning following text put.given put.took left said
          (stops_before following opened left.rest header.given header.took after_header said
          (stops_before opened here after_header.rest taken took after_some said
          (may_stop data_byte here new after_some.rest after_some.text_is x.0 x.1 said stops)))

      pub byte_past : (size : ℕ) → size ≤ address + length taken → LiesPast size image
      byte_past size past =
          let position : ℕ = address + length taken in
          let byte = has_byte blocks (address, block.content) block.others position (get_or block.content (length taken) 0)
          (within_at address (length taken) block.content (omega (arith, some, block.long))) in
          let blocks_are : tape.blocks ≡ blocks ++ (address, block.content) ∷ block.others =
          ahead.blocks_are ∙ ap (λ (others : List (ℕ × List ℕ)). blocks ++ others) block.blocks_are in
          record {
            address = position;
            byte = byte.0;
            past = past;
            has = sym (tape.bytes position) ∙ ap (λ (bs : List (ℕ × List ℕ)). byte_of bs position) blocks_are ∙ byte.1;
          }

  -- ---- the load

  stopped : (new : Position) (before after : List ℕ) (said : TapeFault) → Loads beginning new before after (Err (Tape said))
      → MayStop most_bytes text.bytes said
  stopped new before after said (inl s) = part_stops s.following before after s.blocks s.put new said s.stops
  stopped new before after said (inr s) =
      let d = s.3 in
      data_stops d.following before d.held d.blocks d.put d.opened s.2 s.0 d.count s.1 d.header d.part.took d.part.some new
      said s.4

  outside : (new : Position) (before after : List ℕ) → Loads beginning new before after (Err OutsideMemory)
      → LiesPast (length before) image
  outside new before after s =
      let d = s.3 in
      byte_past d.following before d.held d.blocks d.put d.opened s.2 s.0 d.count s.1 d.header d.part.took d.part.some
      (length before) s.4.2

  holds : (new : Position) (before after : Machine) (start : ℕ) → LoadsTape beginning new before.memory after.memory start
      → after ≡ record before { memory = after.memory } → HoldsImage image before after start
  holds new before after start l others =
      let same = all_blocks l.following before.memory after.memory l.blocks l.put new start l.last in
      let byte_is : (address : ℕ) → byte_of l.blocks address ≡ image.byte address =
      λ address. sym (ap (λ (bs : List (ℕ × List ℕ)). byte_of bs address) same) ∙ tape.bytes address in
      record {
        bytes = λ address within. ap (λ (memory : List ℕ). byte_at memory address) l.put.memory
            ∙ stored_byte l.blocks before.memory address l.put.inside
            ∙ ap (λ (byte : Option ℕ). unwrap_or byte (byte_at before.memory address)) (byte_is address);
        inside = λ address past. sym (byte_is address)
            ∙ none_outside (length before.memory) l.blocks address l.put.inside past;
        size = ap (λ (memory : List ℕ). length memory) l.put.memory ∙ stored_long l.blocks before.memory l.put.inside;
        others = others;
        start_is = start_found l.following before.memory after.memory l.blocks l.put new start l.last ∙ tape.start_is;
      }

  module _ (left_text : Option Text) (faults' : ℕ) (before after : Machine) where
    refusal : (said : TapeFault) → CountsFailure faults faults' (Err (Tape said)) → MayStop most_bytes text.bytes said
        → LoadYields image text.bytes faults faults' before after (Err (Tape said))
    refusal fault.Device counts h = counts
    refusal fault.TooMuch counts h = h
    refusal other counts h = absurd h

    pub yields : (result : Result ℕ LoadFault) → LoadsInto (Some text) left_text faults faults' before after result
        → LoadYields image text.bytes faults faults' before after result
    yields (Ok start) h = holds (position left_text faults' h.0.0) before after start h.0.1 h.2
    yields (Err OutsideMemory) h = outside (position left_text faults' h.0.0) before.memory after.memory h.0.1
    yields (Err (Tape said)) h =
        refusal said h.1 (stopped (position left_text faults' h.0.0) before.memory after.memory said h.0.1)

-- ---- consequences

module _ (image : Image) (tape : List ℕ) (faults faults' : ℕ) (before after : Machine) where
  inside_and_past : LiesInside (memory_size before) image → LiesPast (memory_size before) image → ⊥
  inside_and_past inside past = let bad = sym (inside past.address past.past) ∙ past.has in cc

  pub is_loaded : (result : Result ℕ LoadFault) → LoadYields image tape faults faults' before after result
      → LiesInside (memory_size before) image → length tape ≤ most_bytes → (Rises faults faults' → ⊥)
      → (start : ℕ) × (result ≡ Ok start)
  is_loaded (Ok start) y inside short sound = (start, refl)
  is_loaded (Err OutsideMemory) y inside short sound = absurd (inside_and_past inside y)
  is_loaded (Err (Tape fault.Device)) y inside short sound = absurd (sound y)
  is_loaded (Err (Tape fault.TooMuch)) y inside short sound = absurd (omega arith)
  is_loaded (Err (Tape other)) y inside short sound = absurd y

  pub not_loaded : (start : ℕ) → LoadYields image tape faults faults' before after (Ok start)
      → LiesPast (memory_size before) image → ⊥
  not_loaded start y past = inside_and_past y.inside past
