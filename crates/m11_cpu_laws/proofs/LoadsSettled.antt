-- What a load of a known tape did is what `tape_load` says of the tape's bytes, unless the device failed.
use Rattle.std.proofs.Common.{◌≡◌, ◌≢◌, ◌∙◌, ℕ, ◌+◌, ◌<◌, suc, List, [], ◌∷◌, ◌++◌, length, take, drop, Option, Some, Result, Ok, Err, refl, sym, ap, subst, arith, inl, inr, ◌⊎◌}
use Rattle.std.proofs.lemmas.List.{append-nil, length-take, take-append-drop}
use Rattle.m11_base.specs.Devices.{last_count}
use Rattle.m11_base.specs.Feed.{Ends, Ending, MayFailBefore, Text, GivesFailure}
use Rattle.m11_obj_blocks.specs.declared.tape_fault.TapeFault.{TapeFault}
use Rattle.m11_obj_blocks.specs.declared.tape_fault.TapeFault.TheVariants as fault
use Rattle.m11_obj_blocks.specs.declared.tape_part.TapePart.{TapePart}
use Rattle.m11_obj_blocks.specs.declared.tape_part.TapePart.TheVariants.{Data, Start}
use Rattle.m11_obj_blocks.specs.Limited.{Fails, Position, position, most_bytes, Took, Read, Inside, Stop, Stops, Reads}
use Rattle.m11_obj_blocks.specs.Tapes.{data_byte, first_part, why_of}
use Rattle.m11_cpu.proofs.BytesPut.{block_put}
use Rattle.m11_cpu.specs.declared.fault.LoadFault.{LoadFault}
use Rattle.m11_cpu.specs.declared.fault.LoadFault.TheVariants.{Tape, OutsideMemory}
use Rattle.m11_cpu.specs.Loading.{with_bytes, AreInside, stored, part_after, CountsFailure, GivesOutside, Loads, LoadsInto, PutBlocks}
use Rattle.m11_cpu_machine.specs.declared.machine.Machine.{Machine}
use Rattle.m11_cpu_machine.specs.Machine.{memory_size}
use Rattle.m11_cpu_laws.specs.LoadedTapes.{HasLoaded, TapeLoad, ended, storing, unread_part, data_loaded, part_loaded, parts_loaded, tape_load}
use Rattle.m11_cpu_laws.proofs.BytesPlaced.{stored_long}
use Rattle.m11_cpu_laws.proofs.ReadFronts.{first_reader}
use Rattle.m11_cpu_laws.proofs.LoadsDecided.{After, after_took, Blocks, before_is, cut_data, From, from_blocks, last_part, outside_data, Reader, stopped_there, stored_before, text_of}

-- a load with this result did what `tape_load` says
pub record Settled (text : Text) (new : Option Text) (before after : List ℕ) (result : Result ℕ LoadFault) : Type 0 where
  pub load_is : (tape_load (length before) text.bytes).result ≡ result
  pub memory_is : after ≡ stored (tape_load (length before) text.bytes).blocks before
  pub text_is : new ≡ Some (text_of (tape_load (length before) text.bytes).unread text)

settled : (text : Text) (new : Option Text) (before after : List ℕ) (result : Result ℕ LoadFault) (blocks : Blocks) (unread : List ℕ)
    → tape_load (length before) text.bytes ≡ record { blocks = blocks; unread = unread; result = result }
    → after ≡ stored blocks before → new ≡ Some (text_of unread text) → Settled text new before after result
settled text new before after result blocks unread e memory text_is = record {
  load_is = ap (λ (l : TapeLoad). l.result) e;
  memory_is = memory ∙ ap (λ (l : TapeLoad). stored l.blocks before) (sym e);
  text_is = text_is ∙ ap (λ (l : TapeLoad). Some (text_of l.unread text)) (sym e);
}

no_byte : (bytes : List ℕ) (stop : Stop TapeFault) → data_byte bytes ≡ Err stop → (bytes ≡ []) × (stop ≡ Inside)
no_byte [] stop e = (refl, cc)
no_byte (byte ∷ bytes) stop e = absurd cc

abbrev Ended : List ℕ → Result ℕ LoadFault → Blocks → TapeLoad
Ended unread result blocks = record { blocks = blocks; unread = unread; result = result }

module _ (text : Text) (faults : ℕ) where
  abbrev beginning : Position
  beginning = position (Some text) faults most_bytes

  module _ (following : Position) (before now : List ℕ) (blocks : Blocks)
      (put : PutBlocks beginning following before now blocks) where
    abbrev reader : Reader
    reader = part_after first_part blocks

    left : After beginning following text put.given
    left = after_took beginning following text put.given refl put.took

    within : List ℕ
    within = take following.room left.rest

    past : List ℕ
    past = drop following.room left.rest

    whole_length : length (put.given ++ within) < suc (length text.bytes)
    unfolding within
    whole_length = omega (arith, ap length left.within, length-take most_bytes text.bytes)

    from : From (length before) past first_part blocks (suc (length text.bytes)) (put.given ++ within) within
    from = from_blocks (length before) past first_part blocks put.given within (suc (length text.bytes)) first_reader put.hold
        put.inside whole_length

    -- the load, up to its last part
    load_from : (parts : Reader → List ℕ → TapeLoad) × (tape_load (length before) text.bytes
        ≡ stored_before blocks (part_loaded parts (length before) past (reader within)))
    unfolding tape_load within past
    load_from =
        let last = last_part (length before) past reader within from.bound' from.fewer in (
          last.0,
          ap (λ (p : List ℕ). parts_loaded (suc (length text.bytes)) (length before) p first_part (take most_bytes text.bytes))
              left.past
              ∙ ap (λ (w : List ℕ). parts_loaded (suc (length text.bytes)) (length before) past first_part w) left.within
              ∙ from.is ∙ ap (λ (l : TapeLoad). stored_before blocks l) last.1,
        )

    ends_so : (unread : List ℕ) (result : Result ℕ LoadFault)
        → part_loaded load_from.0 (length before) past (reader within) ≡ ended unread result
        → tape_load (length before) text.bytes ≡ Ended unread result blocks
    ends_so unread result e =
        load_from.1 ∙ ap (λ (l : TapeLoad). stored_before blocks l) e ∙ before_is blocks (ended unread result)
        ∙ ap (λ (b : Blocks). Ended unread result b) (append-nil blocks)

    ends_with : (block : ℕ × List ℕ) (unread : List ℕ) (result : Result ℕ LoadFault)
        → part_loaded load_from.0 (length before) past (reader within) ≡ storing block (ended unread result)
        → tape_load (length before) text.bytes ≡ Ended unread result (blocks ++ block ∷ [])
    ends_with block unread result e =
        load_from.1 ∙ ap (λ (l : TapeLoad). stored_before blocks l) e ∙ before_is blocks (storing block (ended unread result))

    pub tape_settled : (new : Position) (start : ℕ) → Reads reader following new (Start start)
        → Settled text new.text before now (Ok start)
    unfolding within past
    tape_settled new start last =
        let b = after_took following new (text_of left.rest text) last.given left.text_is last.took in
        let is_read : reader within ≡ Ok (Start start, take new.room b.rest) =
        ap reader b.within ∙ last.is (take new.room b.rest) in
        settled text new.text before now (Ok start) blocks b.rest
        (ends_so b.rest (Ok start)
        (ap (λ (r : Read TapeFault TapePart). part_loaded load_from.0 (length before) past r) is_read
        ∙ ap (λ (p : List ℕ). ended (take new.room b.rest ++ p) (Ok start)) b.past
        ∙ ap (λ (p : List ℕ). ended p (Ok start)) (take-append-drop new.room b.rest)))
        put.memory b.text_is

    pub part_settled : (new : Position) (said : TapeFault) → Stops reader following new (why_of said)
        → (said ≡ fault.Device) ⊎ Settled text new.text before now (Err (Tape said))
    unfolding within past
    part_settled new said s =
        elim (stopped_there reader following new (text_of left.rest text) left.text_is said s) [
          | inl device ↦ inl device
          | inr stop ↦ inr (settled text new.text before now (Err (Tape said)) blocks stop.unread
              (ends_so stop.unread (Err (Tape said))
              (ap (λ (r : Read TapeFault TapePart). part_loaded load_from.0 (length before) past r) stop.is ∙ stop.ends))
              put.memory stop.text_is)
        ]

    -- the case in which the next part is a header, and fewer than all bytes of its data were read
    module _ (opened here : Position) (after : List ℕ) (address count : ℕ) (taken : List ℕ)
        (header : Reads reader following opened (Data address count)) (took : Took opened here taken)
        (some : length taken < count) (inside : AreInside (length now) address taken)
        (memory : after ≡ with_bytes address taken now) where
      head : After following opened (text_of left.rest text) header.given
      head = after_took following opened (text_of left.rest text) header.given left.text_is header.took

      tail : After opened here (text_of head.rest text) taken
      tail = after_took opened here (text_of head.rest text) taken head.text_is took

      same_size : length now ≡ length before
      same_size = ap length put.memory ∙ stored_long blocks before put.inside

      inside_before : AreInside (length before) address taken
      inside_before = subst (λ (size : ℕ). AreInside size address taken) same_size inside

      memory_is : after ≡ stored (blocks ++ (address, taken) ∷ []) before
      memory_is = memory ∙ ap (λ (m : List ℕ). with_bytes address taken m) put.memory
          ∙ sym (block_put blocks address taken before)

      at_data : part_loaded load_from.0 (length before) past (reader within)
          ≡ data_loaded load_from.0 (length before) (drop here.room tail.rest) address count
          (taken ++ take here.room tail.rest)
      unfolding within past
      at_data =
          ap (λ (r : Read TapeFault TapePart). part_loaded load_from.0 (length before) past r)
          (ap reader head.within ∙ header.is (take opened.room head.rest))
          ∙ ap (λ (p : List ℕ). data_loaded load_from.0 (length before) p address count (take opened.room head.rest))
          (head.past ∙ tail.past)
          ∙ ap (λ (b : List ℕ). data_loaded load_from.0 (length before) (drop here.room tail.rest) address count b) tail.within

      pub data_settled : (new : Position) (said : TapeFault) → Stops data_byte here new (why_of said)
          → (said ≡ fault.Device) ⊎ Settled text new.text before after (Err (Tape said))
      data_settled new said s =
          elim (stopped_there data_byte here new (text_of tail.rest text) tail.text_is said s) [
            | inl device ↦ inl device
            | inr stop ↦
                let none = no_byte (take here.room tail.rest) stop.stop stop.is in
                let all : taken ++ take here.room tail.rest ≡ taken =
                ap (λ (b : List ℕ). taken ++ b) none.0 ∙ append-nil taken in
                inr (settled text new.text before after (Err (Tape said)) (blocks ++ (address, taken) ∷ []) stop.unread
                (ends_with (address, taken) stop.unread (Err (Tape said))
                (at_data
                ∙ ap (λ (b : List ℕ). data_loaded load_from.0 (length before) (drop here.room tail.rest) address count b) all
                ∙ cut_data load_from.0 (length before) (drop here.room tail.rest) address count taken inside_before some
                ∙ ap (λ (x : Stop TapeFault). storing (address, taken) (unread_part (drop here.room tail.rest) x)) (sym none.1)
                ∙ ap (λ (l : TapeLoad). storing (address, taken) l) stop.ends))
                memory_is stop.text_is)
          ]

      pub outside_settled : (new : Position) → GivesOutside here new (length before) (address + length taken)
          → Settled text new.text before after (Err OutsideMemory)
      outside_settled new gives =
          let o = after_took here new (text_of tail.rest text) (gives.0 ∷ []) tail.text_is gives.1 in
          settled text new.text before after (Err OutsideMemory) (blocks ++ (address, taken) ∷ []) o.rest
          (ends_with (address, taken) o.rest (Err OutsideMemory)
          (at_data
          ∙ ap (λ (b : List ℕ). data_loaded load_from.0 (length before) (drop here.room tail.rest) address count (taken ++ b))
          o.within
          ∙ outside_data load_from.0 (length before) (drop here.room tail.rest) address count taken gives.0
          (take new.room o.rest) inside_before some gives.2
          ∙ ap (λ (p : List ℕ). storing (address, taken) (ended (take new.room o.rest ++ p) (Err OutsideMemory))) o.past
          ∙ ap (λ (p : List ℕ). storing (address, taken) (ended p (Err OutsideMemory)))
          (take-append-drop new.room o.rest)))
          memory_is o.text_is

  -- ---- the whole load

  pub load_settled : (new : Position) (before after : List ℕ) (result : Result ℕ LoadFault)
      → Loads beginning new before after result
      → (result ≡ Err (Tape fault.Device)) ⊎ Settled text new.text before after result
  load_settled new before after (Ok start) l =
      inr (tape_settled l.following before after l.blocks l.put new start l.last)
  load_settled new before after (Err OutsideMemory) s =
      let d = s.3 in
      inr (outside_settled d.following before d.held d.blocks d.put d.opened s.2 after s.0 d.count s.1 d.header d.part.took
      d.part.some d.part.inside d.part.memory new s.4)
  load_settled new before after (Err (Tape said)) (inl s) =
      elim (part_settled s.following before after s.blocks s.put new said s.stops) [
        | inl device ↦ inl (ap (λ (f : TapeFault). Err (Tape f)) device)
        | inr done ↦ inr done
      ]
  load_settled new before after (Err (Tape said)) (inr s) =
      let d = s.3 in
      elim (data_settled d.following before d.held d.blocks d.put d.opened s.2 after s.0 d.count s.1 d.header d.part.took
      d.part.some d.part.inside d.part.memory new said s.4) [
        | inl device ↦ inl (ap (λ (f : TapeFault). Err (Tape f)) device)
        | inr done ↦ inr done
      ]

-- ---- failures

-- a feed whose calls can't fail doesn't stop a read by a failure
never_fails : {A : Type 0} (read : List ℕ → Read TapeFault A) (old new : Position) (text : Text) → old.text ≡ Some text
    → text.ending ≡ Ends → old.faults ≢ last_count → Stops read old new Fails → ⊥
never_fails read old new text known ends fewer s =
    let middle = s.1.0 in
    let a = after_took old middle text s.0 known s.1.1 in
    let gives = subst (λ (t : Option Text). GivesFailure t new.text middle.faults) a.text_is s.1.2.0 in
    elim (gives.0) [
      | inl may ↦ subst (λ (e : Ending). MayFailBefore a.rest e) ends may
      | inr full ↦ fewer (sym s.1.1.faults ∙ full)
    ]

module _ (text : Text) (faults : ℕ) (ends : text.ending ≡ Ends) (fewer : faults ≢ last_count) where
  device_sound : (new : Position) (before after : List ℕ)
      → Loads (position (Some text) faults most_bytes) new before after (Err (Tape fault.Device)) → ⊥
  device_sound new before after (inl s) =
      let a = after_took (position (Some text) faults most_bytes) s.following text s.put.given refl s.put.took in
      never_fails (part_after first_part s.blocks) s.following new (text_of a.rest text) a.text_is ends
      (λ e. fewer (sym s.put.took.faults ∙ e)) s.stops
  device_sound new before after (inr s) =
      let d = s.3 in
      let a = after_took (position (Some text) faults most_bytes) d.following text d.put.given refl d.put.took in
      let h = after_took d.following d.opened (text_of a.rest text) d.header.given a.text_is d.header.took in
      let t = after_took d.opened s.2 (text_of h.rest text) s.1 h.text_is d.part.took in
      never_fails data_byte s.2 new (text_of t.rest text) t.text_is ends
      (λ e. fewer (sym d.put.took.faults ∙ sym d.header.took.faults ∙ sym d.part.took.faults ∙ e)) s.4

  pub device_never : (new : Position) (before after : List ℕ) (result : Result ℕ LoadFault)
      → Loads (position (Some text) faults most_bytes) new before after result → result ≡ Err (Tape fault.Device) → ⊥
  device_never new before after result loads is =
      device_sound new before after
      (subst (λ (r : Result ℕ LoadFault). Loads (position (Some text) faults most_bytes) new before after r) is loads)

none_failed : (faults faults' : ℕ) (result : Result ℕ LoadFault) → CountsFailure faults faults' result
    → (result ≡ Err (Tape fault.Device)) ⊎ (faults' ≡ faults)
none_failed faults faults' (Ok start) h = inr h
none_failed faults faults' (Err OutsideMemory) h = inr h
none_failed faults faults' (Err (Tape fault.Device)) h = inl refl
none_failed faults faults' (Err (Tape other)) h = inr h

module _ (text : Text) (left : Option Text) (faults faults' : ℕ) (before after : Machine) (result : Result ℕ LoadFault)
    (loads : LoadsInto (Some text) left faults faults' before after result) where
  pub has_loaded : (result ≡ Err (Tape fault.Device))
      ⊎ HasLoaded (tape_load (memory_size before) text.bytes) text left faults faults' before after result
  has_loaded =
      elim (load_settled text faults (position left faults' loads.0.0) before.memory after.memory result loads.0.1) [
        | inl device ↦ inl device
        | inr done ↦ elim (none_failed faults faults' result loads.1) [
          | inl device ↦ inl device
          | inr none ↦ inr (record {
            result_is = sym done.load_is;
            machine_is = loads.2 ∙ ap (λ (m : List ℕ). record before { memory = m }) done.memory_is;
            left_is = done.text_is;
            none_failed = none;
          })
        ]
      ]

  pub has_surely_loaded : text.ending ≡ Ends → faults ≢ last_count
      → HasLoaded (tape_load (memory_size before) text.bytes) text left faults faults' before after result
  has_surely_loaded ends fewer =
      elim (has_loaded) [
        | inl device ↦ absurd (device_never text faults ends fewer (position left faults' loads.0.0) before.memory after.memory
            result loads.0.1 device)
        | inr done ↦ done
      ]
