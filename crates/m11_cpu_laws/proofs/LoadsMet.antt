-- A tape can be loaded as `tape_load` says.
use Rattle.std.proofs.Common.{◌≡◌, ◌≢◌, ◌∙◌, ℕ, ◌+◌, ◌-◌, ◌<◌, ◌≤◌, zero, suc, true, false, cond, ltb, List, [], ◌∷◌, ◌++◌, length, take, drop, get_or, Some, Ok, Err, refl, sym, ap, subst, arith, inl, inr}
use Rattle.std.proofs.lemmas.Bool.{cases_lt, le-ltb, lt-ltb}
use Rattle.std.proofs.lemmas.List.{append-nil, length-append, length-drop, length-take, take-append-drop, take-take, take_all, drop_more}
use Rattle.m11_base.specs.Feed.{Fails, Text}
use Rattle.m11_obj_blocks.specs.declared.tape_fault.TapeFault.{TapeFault}
use Rattle.m11_obj_blocks.specs.declared.tape_fault.TapeFault.TheVariants as fault
use Rattle.m11_obj_blocks.specs.declared.tape_part.TapePart.{TapePart}
use Rattle.m11_obj_blocks.specs.declared.tape_part.TapePart.TheVariants.{Data, Start}
use Rattle.m11_obj_blocks.specs.Limited.{Position, position, most_bytes, Took, Read, Between, Inside, Refused, Stop, Stops, Reads, IsShort, Why}
use Rattle.m11_obj_blocks.specs.Tapes.{data_byte, first_part, next_part, total_of, why_of}
use Rattle.m11_obj_blocks.proofs.Limits.{took_nothing, took_then}
use Rattle.m11_obj_blocks.proofs.ReadSteps.{Bytes, bytes_after}
use Rattle.m11_cpu.proofs.BlocksRead.{after_more, hold_more, is_tape}
use Rattle.m11_cpu.proofs.BytesPut.{block_inside, block_put}
use Rattle.m11_cpu.proofs.TapePut.{counts_from}
use Rattle.m11_cpu.specs.declared.fault.LoadFault.TheVariants.{Tape, OutsideMemory}
use Rattle.m11_cpu.specs.Loading.{with_bytes, stored, part_after, InsideData, Loads, LoadsInto, PutBlocks}
use Rattle.m11_cpu_machine.specs.declared.machine.Machine.{Machine}
use Rattle.m11_cpu_machine.specs.Machine.{memory_size}
use Rattle.m11_cpu_laws.specs.LoadedTapes.{TapeLoad, ended, storing, unread_part, data_stored, data_loaded, part_loaded, parts_loaded, tape_load}
use Rattle.m11_cpu_laws.proofs.BytesPlaced.{stored_long}
use Rattle.m11_cpu_laws.proofs.ReadFronts.{Bad, first_reader, Front, front_some, IsReader}
use Rattle.m11_cpu_laws.proofs.LoadsDecided.{Blocks, Reader, reader_after, text_of}

-- ---- bytes that are read up to a limit

bytes_first : (xs ys : List ℕ) → Bytes (xs ++ ys) → Bytes xs
bytes_first [] ys small = tt
bytes_first (x ∷ xs) ys small = (small.0, bytes_first xs ys small.1)

-- what is left of some bytes, and of the limit, after the first of them
record Fronts (rest given more : List ℕ) (room : ℕ) : Type 0 where
  pub rest' : List ℕ
  pub room' : ℕ
  pub fits : room ≡ length given + room'
  pub split : rest ≡ given ++ rest'
  pub within : take room' rest' ≡ more
  pub past : drop room' rest' ≡ drop room rest

none_is : (x : ℕ) (xs : List ℕ) → [] ≡ x ∷ xs → ⊥
none_is x xs e = cc

heads_are : (x y : ℕ) (xs ys : List ℕ) → x ∷ xs ≡ y ∷ ys → (x ≡ y) × (xs ≡ ys)
heads_are x y xs ys e = (cc, cc)

fronts : (rest given more : List ℕ) (room : ℕ) → take room rest ≡ given ++ more → Fronts rest given more room
fronts rest [] more room e =
    record { rest' = rest; room' = room; fits = omega arith; split = refl; within = e; past = refl }
fronts rest (x ∷ given) more zero e = absurd (none_is x (given ++ more) e)
fronts [] (x ∷ given) more (suc room) e = absurd (none_is x (given ++ more) e)
fronts (y ∷ rest) (x ∷ given) more (suc room) e =
    let same = heads_are y x (take room rest) (given ++ more) e in
    let f = fronts rest given more room same.1 in
    record {
      rest' = f.rest';
      room' = f.room';
      fits = omega (arith, f.fits);
      split = ap (λ (xs : List ℕ). y ∷ xs) f.split ∙ ap (λ (z : ℕ). z ∷ (given ++ f.rest')) same.0;
      within = f.within;
      past = f.past;
    }

-- ---- a block of data, by the number of its bytes

module _ (parts : Reader → List ℕ → TapeLoad) (k address count : ℕ) (more past : List ℕ) where
  outside_is : k < length (take count more) → k ≤ count
      → data_stored address k (take count more) more past
      (cond (ltb (length more) count) (unread_part past Inside) (parts (next_part (total_of address (take count more))) (drop count more)))
      ≡ storing (address, take k more) (ended (drop (k + 1) more ++ past) (Err OutsideMemory))
  outside_is lt le =
      let hit : ltb k (length (take count more)) ≡ true = lt-ltb _ _ lt in
      rw (hit, take-take k count more le) refl

  cut_is : take count more ≡ more → length more ≤ k → length more < count
      → data_stored address k (take count more) more past
      (cond (ltb (length more) count) (unread_part past Inside) (parts (next_part (total_of address (take count more))) (drop count more)))
      ≡ storing (address, more) (unread_part past Inside)
  cut_is all fits few =
      let miss : ltb k (length more) ≡ false = le-ltb _ _ fits in
      let short : ltb (length more) count ≡ true = lt-ltb _ _ few in
      rw (all, miss, short) refl

  whole_is : length (take count more) ≤ k → count ≤ length more
      → data_stored address k (take count more) more past
      (cond (ltb (length more) count) (unread_part past Inside) (parts (next_part (total_of address (take count more))) (drop count more)))
      ≡ storing (address, take count more) (parts (next_part (total_of address (take count more))) (drop count more))
  whole_is fits enough =
      let miss : ltb k (length (take count more)) ≡ false = le-ltb _ _ fits in
      let long : ltb (length more) count ≡ false = le-ltb _ _ enough in
      rw (miss, long) refl

module _ (text : Text) (faults : ℕ) (may_end : text.ending ≢ Fails) where
  abbrev at : List ℕ → ℕ → Position
  at rest room = position (Some (text_of rest text)) faults room

  took_at : (given rest bytes : List ℕ) (room room' : ℕ) → bytes ≡ given ++ rest → room ≡ length given + room'
      → Bytes bytes → Took (at bytes room) (at rest room') given
  took_at given rest bytes room room' split fits small =
      record { gave = (rest, split, refl); faults = refl; room = fits; bytes = bytes_first given rest (subst Bytes split small) }

  -- ---- a part that isn't read

  record NotRead {A : Type 0} (read : List ℕ → Read TapeFault A) (bytes : List ℕ) (room : ℕ) (stop : Stop TapeFault) :
      Type 0 where
    pub said : TapeFault
    pub unread : List ℕ
    pub room' : ℕ
    pub ends : unread_part (drop room bytes) stop ≡ ended unread (Err (Tape said))
    pub stops : Stops read (at bytes room) (at unread room') (why_of said)

  module _ {A : Type 0} (read : List ℕ → Read TapeFault A) (bytes : List ℕ) (room : ℕ) (small : Bytes bytes) where
    -- the bytes within the limit are all that there are
    module _ (none : drop room bytes ≡ []) where
      all : bytes ≡ take room bytes ++ []
      all = sym (take-append-drop room bytes) ∙ ap (λ (xs : List ℕ). take room bytes ++ xs) none

      all_fit : room ≡ length (take room bytes) + (room - length bytes)
      all_fit = omega (arith, length-take room bytes, ap length none, length-drop room bytes)

      took_all : Took (at bytes room) (at [] (room - length bytes)) (take room bytes)
      took_all = took_at (take room bytes) [] bytes room (room - length bytes) all all_fit small

    -- a byte past the limit follows
    module _ (byte : ℕ) (past : List ℕ) (one : drop room bytes ≡ byte ∷ past) where
      split_past : bytes ≡ take room bytes ++ (byte ∷ past)
      split_past = sym (take-append-drop room bytes) ∙ ap (λ (xs : List ℕ). take room bytes ++ xs) one

      full : room ≡ length (take room bytes) + 0
      full = omega (arith, length-take room bytes, ap length one, length-drop room bytes)

      took_full : Took (at bytes room) (at (byte ∷ past) 0) (take room bytes)
      took_full = took_at (take room bytes) (byte ∷ past) bytes room 0 split_past full small

      passed : IsShort (read (take room bytes)) → (stop : Stop TapeFault)
          → unread_part (byte ∷ past) stop ≡ ended past (Err (Tape fault.TooMuch)) → NotRead read bytes room stop
      passed short stop ends = record {
        said = fault.TooMuch;
        unread = past;
        room' = 0;
        ends = ap (λ (xs : List ℕ). unread_part xs stop) one ∙ ends;
        stops = (take room bytes, (at (byte ∷ past) 0, took_full, (byte, (past, refl, refl), refl, refl, refl)), short);
      }

    between : read (take room bytes) ≡ Err Between → (past : List ℕ) → drop room bytes ≡ past → NotRead read bytes room Between
    between e [] none = record {
      said = fault.NoTransfer;
      unread = [];
      room' = room - length bytes;
      ends = ap (λ (xs : List ℕ). unread_part xs Between) none;
      stops = (take room bytes, (at [] (room - length bytes), took_all none, (((refl, may_end), refl), refl, refl)), e);
    }
    between e (byte ∷ past) one =
        passed byte past one (subst (λ (r : Read TapeFault A). IsShort r) (sym e) tt) Between refl

    inside : read (take room bytes) ≡ Err Inside → (past : List ℕ) → drop room bytes ≡ past → NotRead read bytes room Inside
    inside e [] none = record {
      said = fault.Truncated;
      unread = [];
      room' = room - length bytes;
      ends = ap (λ (xs : List ℕ). unread_part xs Inside) none;
      stops = (take room bytes, (at [] (room - length bytes), took_all none, (((refl, may_end), refl), refl, refl)), e);
    }
    inside e (byte ∷ past) one =
        passed byte past one (subst (λ (r : Read TapeFault A). IsShort r) (sym e) tt) Inside refl

    refused : (said : TapeFault) (rest : List ℕ) → Bad read (take room bytes) said rest → NotRead read bytes room (Refused said rest)
    refused said rest b =
        let f = fronts bytes b.given rest room b.split in
        record {
          said = said;
          unread = f.rest';
          room' = f.room';
          ends = ap (λ (xs : List ℕ). ended (xs ++ drop room bytes) (Err (Tape said))) (sym f.within)
              ∙ ap (λ (xs : List ℕ). ended (take f.room' f.rest' ++ xs) (Err (Tape said))) (sym f.past)
              ∙ ap (λ (xs : List ℕ). ended xs (Err (Tape said))) (take-append-drop f.room' f.rest');
          stops = subst (λ (why : Why TapeFault). Stops read (at bytes room) (at f.rest' f.room') why) (sym b.why)
              (b.given, took_at b.given f.rest' bytes room f.room' f.split f.fits small, b.is);
        }

  part_not_read : (read : Reader) → IsReader read → (bytes : List ℕ) (room : ℕ) → Bytes bytes → (stop : Stop TapeFault)
      → read (take room bytes) ≡ Err stop → NotRead read bytes room stop
  part_not_read read reader bytes room small Between e = between read bytes room small e (drop room bytes) refl
  part_not_read read reader bytes room small Inside e = inside read bytes room small e (drop room bytes) refl
  part_not_read read reader bytes room small (Refused said rest) e =
      refused read bytes room small said rest (reader.steady.refused (take room bytes) said rest e)

  -- ---- a load from the middle of a tape

  abbrev beginning : Position
  beginning = at text.bytes most_bytes

  -- a load can end so
  record Met (before now : List ℕ) (load : TapeLoad) : Type 0 where
    pub room : ℕ
    pub loads : Loads beginning (at load.unread room) before (stored load.blocks now) load.result

  met_as : (before now : List ℕ) (load load' : TapeLoad) → load' ≡ load → Met before now load → Met before now load'
  met_as before now load load' same m = subst (λ (l : TapeLoad). Met before now l) (sym same) m

  module _ (before : List ℕ) (rest : List ℕ) (room : ℕ) (now : List ℕ) (blocks : Blocks)
      (put : PutBlocks beginning (at rest room) before now blocks) (small : Bytes rest) where
    abbrev reader : Reader
    reader = part_after first_part blocks

    reads : IsReader reader
    reads = reader_after first_part blocks first_reader

    same_size : length now ≡ length before
    same_size = ap length put.memory ∙ stored_long blocks before put.inside

    start_met : (start : ℕ) (more : List ℕ) → reader (take room rest) ≡ Ok (Start start, more)
        → Met before now (ended (more ++ drop room rest) (Ok start))
    start_met start more e =
        let f = reads.steady.ok (take room rest) (Start start) more e in
        let g = fronts rest f.given more room f.split in
        let took = took_at f.given g.rest' rest room g.room' g.split g.fits small in
        let last : Reads reader (at rest room) (at g.rest' g.room') (Start start) =
        record { given = f.given; took = took; is = f.is } in
        let unread : more ++ drop room rest ≡ g.rest' =
        ap (λ (xs : List ℕ). xs ++ drop room rest) (sym g.within)
        ∙ ap (λ (xs : List ℕ). take g.room' g.rest' ++ xs) (sym g.past) ∙ take-append-drop g.room' g.rest' in
        met_as before now (ended g.rest' (Ok start)) (ended (more ++ drop room rest) (Ok start))
        (ap (λ (xs : List ℕ). ended xs (Ok start)) unread)
        (record {
          room = g.room';
          loads = record {
            blocks = blocks;
            following = at rest room;
            put = put;
            last = last;
            tape = is_tape blocks start beginning (at rest room) (at g.rest' g.room') put.given put.took put.hold last;
          };
        })

    stop_met : (stop : Stop TapeFault) → reader (take room rest) ≡ Err stop → Met before now (unread_part (drop room rest) stop)
    stop_met stop e =
        let n = part_not_read reader reads rest room small stop e in
        met_as before now (ended n.unread (Err (Tape n.said))) (unread_part (drop room rest) stop) n.ends
        (record {
          room = n.room';
          loads = inl (record { blocks = blocks; following = at rest room; put = put; stops = n.stops });
        })

    -- a block of data is next
    module _ (address count : ℕ) (more : List ℕ) (e : reader (take room rest) ≡ Ok (Data address count, more)) where
      front : Front reader (take room rest) (Data address count) more
      front = reads.steady.ok (take room rest) (Data address count) more e

      g : Fronts rest front.given more room
      g = fronts rest front.given more room front.split

      opened : Position
      opened = at g.rest' g.room'

      small' : Bytes g.rest'
      small' = bytes_after front.given g.rest' (subst Bytes g.split small)

      header : Reads reader (at rest room) opened (Data address count)
      unfolding opened
      header = record {
        given = front.given;
        took = took_at front.given g.rest' rest room g.room' g.split g.fits small;
        is = front.is;
      }

      some_given : 0 < length front.given
      some_given = omega (arith, ap length (front_some reader reads (Data address count) front.given front.is).2)

      -- the first bytes of the data, fewer than all, are inside memory
      module _ (taken after : List ℕ) (split : more ≡ taken ++ after) (few : length taken < count)
          (fits : length taken ≤ length before - address) where
        h : Fronts g.rest' taken after g.room'
        h = fronts g.rest' taken after g.room' (g.within ∙ split)

        here : Position
        here = at h.rest' h.room'

        small-here : Bytes h.rest'
        small-here = bytes_after taken h.rest' (subst Bytes h.split small')

        inside_data : InsideData beginning here before (with_bytes address taken now) address taken
        unfolding here opened
        inside_data = record {
          blocks = blocks;
          following = at rest room;
          held = now;
          put = put;
          count = count;
          opened = opened;
          header = header;
          part = record {
            took = took_at taken h.rest' g.rest' g.room' h.room' h.split h.fits small';
            some = few;
            inside = λ index lt. omega (arith, lt, fits, same_size);
            memory = refl;
          };
        }

      cut_met : length more < count → length more ≤ length before - address
          → Met before now (storing (address, more) (unread_part (drop room rest) Inside))
      unfolding here
      cut_met few fits =
          let all = sym (append-nil more) in
          let k = h more [] all few fits in
          let n = inside data_byte k.rest' k.room' (small-here more [] all few fits)
          (ap data_byte k.within) (drop k.room' k.rest') refl in
          met_as before now (storing (address, more) (ended n.unread (Err (Tape n.said))))
          (storing (address, more) (unread_part (drop room rest) Inside))
          (ap (λ (p : List ℕ). storing (address, more) (unread_part p Inside)) (sym (k.past ∙ g.past))
          ∙ ap (λ (l : TapeLoad). storing (address, more) l) n.ends)
          (record {
            room = n.room';
            loads = inr (address, more, here more [] all few fits, inside_data more [] all few fits, n.stops);
          })

      outside_met : (taken : List ℕ) (byte : ℕ) (after : List ℕ) → more ≡ taken ++ (byte ∷ after) → length taken < count
          → length taken ≡ length before - address
          → Met before now (storing (address, taken) (ended (after ++ drop room rest) (Err OutsideMemory)))
      unfolding here
      outside_met taken byte after split few exact =
          let fits : length taken ≤ length before - address = omega (arith, exact) in
          let k = h taken (byte ∷ after) split few fits in
          let o = fronts k.rest' (byte ∷ []) after k.room' k.within in
          let unread : after ++ drop room rest ≡ o.rest' =
          ap (λ (xs : List ℕ). xs ++ drop room rest) (sym o.within)
          ∙ ap (λ (xs : List ℕ). take o.room' o.rest' ++ xs) (sym (o.past ∙ k.past ∙ g.past))
          ∙ take-append-drop o.room' o.rest' in
          met_as before now (storing (address, taken) (ended o.rest' (Err OutsideMemory)))
          (storing (address, taken) (ended (after ++ drop room rest) (Err OutsideMemory)))
          (ap (λ (xs : List ℕ). storing (address, taken) (ended xs (Err OutsideMemory))) unread)
          (record {
            room = o.room';
            loads = (
              address,
              taken,
              here taken (byte ∷ after) split few fits,
              inside_data taken (byte ∷ after) split few fits,
              (
                byte,
                took_at (byte ∷ []) o.rest' k.rest' k.room' o.room' o.split o.fits
                    (small-here taken (byte ∷ after) split few fits),
                omega (arith, exact),
              ),
            );
          })

      -- the whole data is inside memory
      module _ (content after : List ℕ) (split : more ≡ content ++ after) (long : length content ≡ count)
          (fits : length content ≤ length before - address) where
        d : Fronts g.rest' content after g.room'
        d = fronts g.rest' content after g.room' (g.within ∙ split)

        put_more : PutBlocks beginning (at d.rest' d.room') before (with_bytes address content now)
            (blocks ++ (address, content) ∷ [])
        unfolding opened front header
        put_more = record {
          given = put.given ++ (front.given ++ content);
          took = took_then beginning (at rest room) (at d.rest' d.room') put.given (front.given ++ content) put.took
              (took_then (at rest room) opened (at d.rest' d.room') front.given content header.took
              (took_at content d.rest' g.rest' g.room' d.room' d.split d.fits small'));
          hold = hold_more first_part blocks address put.given front.given content put.hold
              (λ q. front.is q ∙ ap (λ (n : ℕ). Ok (Data address n, q)) (sym long));
          inside = block_inside (length before) blocks address content put.inside
              (λ index lt. omega (arith, lt, fits));
          memory = ap (λ (m : List ℕ). with_bytes address content m) put.memory ∙ sym (block_put blocks address content before);
        }

        small_more : Bytes d.rest'
        small_more = bytes_after content d.rest' (subst Bytes d.split small')

        fewer : length (take d.room' d.rest') < length (take room rest)
        fewer = omega (
          arith,
          some_given,
          ap length d.within,
          ap length split,
          length-append content after,
          ap length front.split,
          length-append front.given more,
        )

        past_is : drop d.room' d.rest' ≡ drop room rest
        past_is = d.past ∙ g.past

  stored_first : (before now : List ℕ) (address : ℕ) (content : List ℕ) (load : TapeLoad)
      → Met before (with_bytes address content now) load → Met before now (storing (address, content) load)
  stored_first before now address content load m = record { room = m.room; loads = m.loads }

  module _ (before : List ℕ) (bound : ℕ) (rest : List ℕ) (room : ℕ) (now : List ℕ) (blocks : Blocks)
      (put : PutBlocks beginning (at rest room) before now blocks) (small : Bytes rest)
      (others : (rest' : List ℕ) (room' : ℕ) (now' : List ℕ) (blocks' : Blocks)
      → PutBlocks beginning (at rest' room') before now' blocks' → Bytes rest'
      → length (take room' rest') < length (take room rest)
      → Met before now' (parts_loaded bound (length before) (drop room' rest') (part_after first_part blocks') (take room' rest')))
    where
      abbrev parts : Reader → List ℕ → TapeLoad
      parts = parts_loaded bound (length before) (drop room rest)

      data_met : (address count : ℕ) (more : List ℕ)
          → part_after first_part blocks (take room rest) ≡ Ok (Data address count, more)
          → Met before now (data_loaded parts (length before) (drop room rest) address count more)
      data_met address count more e =
          let size : ℕ = length before in
          let past : List ℕ = drop room rest in
          let k : ℕ = length before - address in
          let content : List ℕ = take count more in
          elim (cases_lt k (length content)) [
            | inl lt ↦
                let within : k < length more = omega (arith, lt, length-take count more) in
                let below : k < count = omega (arith, lt, length-take count more) in
                let exact : length (take k more) ≡ k = omega (arith, within, length-take k more) in
                let split : more ≡ take k more ++ (get_or more k 0 ∷ drop (k + 1) more) =
                sym (take-append-drop k more) ∙ ap (λ (xs : List ℕ). take k more ++ xs) (drop_more more k 0 within) in
                let is : data_loaded parts size past address count more
                ≡ storing (address, take k more) (ended (drop (k + 1) more ++ past) (Err OutsideMemory)) =
                outside_is parts k address count more past lt (omega (arith, below)) in
                met_as before now (storing (address, take k more) (ended (drop (k + 1) more ++ past) (Err OutsideMemory)))
                (data_loaded parts size past address count more) is
                (outside_met before rest room now blocks put small address count more e (take k more) (get_or more k 0)
                (drop (k + 1) more) split (omega (arith, exact, below)) exact)
            | inr ge ↦ elim (cases_lt (length more) count) [
              | inl few ↦
                  let all : content ≡ more = take_all count more (omega (arith, few)) in
                  let fits : length more ≤ k = omega (arith, ge, ap length all) in
                  met_as before now (storing (address, more) (unread_part past Inside))
                  (data_loaded parts size past address count more)
                  (cut_is parts k address count more past all fits few)
                  (cut_met before rest room now blocks put small address count more e few fits)
              | inr enough ↦
                  let long : length content ≡ count = omega (arith, enough, length-take count more) in
                  let split : more ≡ content ++ drop count more = sym (take-append-drop count more) in
                  let fits : length content ≤ k = omega (arith, ge) in
                  let there = d before rest room now blocks put small address count more e content (drop count more) split long fits in
                  let next = others there.rest' there.room' (with_bytes address content now) (blocks ++ (address, content) ∷ [])
                  (put_more before rest room now blocks put small address count more e content (drop count more) split long fits)
                  (small_more before rest room now blocks put small address count more e content (drop count more) split long fits)
                  (fewer before rest room now blocks put small address count more e content (drop count more) split long fits) in
                  let is : data_loaded parts size past address count more
                  ≡ storing (address, content) (parts_loaded bound size (drop there.room' there.rest')
                  (part_after first_part (blocks ++ (address, content) ∷ [])) (take there.room' there.rest')) =
                  whole_is parts k address count more past ge enough
                  ∙ ap (λ (w : List ℕ). storing (address, content) (parts (next_part (total_of address content)) w)) (sym there.within)
                  ∙ ap (λ (r : Reader). storing (address, content) (parts r (take there.room' there.rest')))
                  (sym (after_more first_part blocks address content))
                  ∙ ap (λ (p : List ℕ). storing (address, content) (parts_loaded bound size p
                  (part_after first_part (blocks ++ (address, content) ∷ [])) (take there.room' there.rest')))
                  (sym (past_is before rest room now blocks put small address count more e content (drop count more) split long fits)) in
                  met_as before now (storing (address, content) (parts_loaded bound size (drop there.room' there.rest')
                  (part_after first_part (blocks ++ (address, content) ∷ [])) (take there.room' there.rest')))
                  (data_loaded parts size past address count more) is
                  (stored_first before now address content
                  (parts_loaded bound size (drop there.room' there.rest')
                  (part_after first_part (blocks ++ (address, content) ∷ [])) (take there.room' there.rest')) next)
            ]
          ]

      part_met : (r : Read TapeFault TapePart) → part_after first_part blocks (take room rest) ≡ r
          → Met before now (part_loaded parts (length before) (drop room rest) r)
      part_met (Ok (Data address count, more)) e = data_met address count more e
      part_met (Ok (Start start, more)) e = start_met before rest room now blocks put small start more e
      part_met (Err stop) e = stop_met before rest room now blocks put small stop e

  parts_met : (before : List ℕ) (bound : ℕ) (rest : List ℕ) (room : ℕ) (now : List ℕ) (blocks : Blocks)
      → PutBlocks beginning (at rest room) before now blocks → Bytes rest → length (take room rest) < bound
      → Met before now (parts_loaded bound (length before) (drop room rest) (part_after first_part blocks) (take room rest))
  parts_met before zero rest room now blocks put small lt = absurd (omega (arith, lt))
  parts_met before (suc bound) rest room now blocks put small lt =
      part_met before bound rest room now blocks put small
      (λ rest' room' now' blocks' put' small' fewer. parts_met before bound rest' room' now' blocks' put' small'
      (omega (arith, lt, fewer)))
      (part_after first_part blocks (take room rest)) refl

  tape_met : (before : List ℕ) → Bytes text.bytes → Met before before (tape_load (length before) text.bytes)
  unfolding tape_load
  tape_met before small = parts_met before (suc (length text.bytes)) text.bytes most_bytes before []
      (record { given = []; took = took_nothing beginning; hold = refl; inside = tt; memory = refl }) small
      (omega (arith, length-take most_bytes text.bytes))

  pub can_load : (before : Machine) → Bytes text.bytes
      → LoadsInto (Some text) (Some (text_of (tape_load (memory_size before) text.bytes).unread text)) faults faults before
      (record before { memory = stored (tape_load (memory_size before) text.bytes).blocks before.memory })
      (tape_load (memory_size before) text.bytes).result
  can_load before small =
      let m = tape_met before.memory small in (
        (m.room, m.loads),
        counts_from (Some text) (Some (text_of (tape_load (memory_size before) text.bytes).unread text)) faults faults
            before.memory (stored (tape_load (memory_size before) text.bytes).blocks before.memory)
            (tape_load (memory_size before) text.bytes).result (m.room, m.loads),
        refl,
      )
