-- The blocks of one object, read one after another: the items so far.
use Rattle.std.proofs.Common.{◌≡◌, ◌∙◌, ℕ, ◌+◌, ◌<◌, ◌↔◌, Bool, true, false, IsTrue, IsErr, List, [], ◌∷◌, ◌++◌, length, take, Option, Some, None, Ok, refl, sym, ap, subst, append_assoc, arith}
use Rattle.std.proofs.lemmas.List.{append-nil, length-append, take_at}
use Rattle.m11_base.specs.Devices.{Rises}
use Rattle.m11_base.specs.Feed.{Text, HasBytes, BeginsWith, GivesByte, GivesEnd, GivesBytes}
use Rattle.m11_obj_blocks.specs.declared.block_fault.BlockFault.{BlockFault}
use Rattle.m11_obj_blocks.specs.declared.block_fault.BlockFault.TheVariants as block
use Rattle.m11_obj_blocks.specs.Blocks.{first_block, why_of}
use Rattle.m11_obj_blocks.specs.Limited.{Fails, EndsBetween, EndsInside, Passes, Refuses, IsShort, Position, Reads, Stops, Took, most_bytes, position}
use Rattle.m11_obj_blocks.proofs.Limits.{took_nothing, took_then}
use Rattle.m11_link_layout.specs.declared.fault.LinkFault.{LinkFault}
use Rattle.m11_link_layout.specs.declared.fault.LinkFault.TheVariants as fault
use Rattle.m11_link_layout.specs.Fault.{of_block}
use Rattle.m11_link.specs.Objects.{Item, BlockOf, ObjectEnds, Refused, ObjectItems, BeginningItems, GivesItems, BeginsItems}
use Rattle.m11_link.specs.Objects as objects
use Rattle.m11_link.proofs.Steady.{block_shorter, object_comes}

-- ---- the part of its text that a feed returned

gave_all : (t0 t1 t2 : Option Text) (given : List ℕ) → GivesBytes t0 t1 given → GivesEnd t1 t2 → HasBytes t0 given
gave_all None t1 t2 given g h = tt
gave_all (Some t) t1 t2 given g h =
    let end = rw g.2 at h in g.1 ∙ ap (λ (l : List ℕ). given ++ l) end.0.0 ∙ append-nil given

gave_beginning : (t0 t1 : Option Text) (given : List ℕ) → GivesBytes t0 t1 given → BeginsWith t0 given
gave_beginning None t1 given g = tt
gave_beginning (Some t) t1 given g = (g.0, g.1)

gave_more : (t0 t1 : Option Text) (given : List ℕ) → GivesBytes t0 t1 given → (more : List ℕ) × HasBytes t0 (given ++ more)
gave_more None t1 given g = ([], tt)
gave_more (Some t) t1 given g = (g.0, g.1)

gave_byte : (t0 t1 t2 : Option Text) (given : List ℕ) (byte : ℕ) → GivesBytes t0 t1 given → GivesByte t1 t2 byte
    → (more : List ℕ) × HasBytes t0 (given ++ byte ∷ more)
gave_byte None t1 t2 given byte g h = ([], tt)
gave_byte (Some t) t1 t2 given byte g h =
    let one = rw g.2 at h in (one.0, g.1 ∙ ap (λ (l : List ℕ). given ++ l) one.1)

-- ---- blocks that were read, whatever follows them

pub record Passed (room : ℕ) (given : List ℕ) (done : List Item) (left : ℕ) : Type 0 where
  pub whole : (rest : List ℕ) (items : List Item) → ObjectItems left rest items
      → ObjectItems room (given ++ rest) (done ++ items)
  pub part : (rest : List ℕ) (items : List Item) → BeginningItems left rest items
      → BeginningItems room (given ++ rest) (done ++ items)

passed_none : (room : ℕ) → Passed room [] [] room
passed_none room = record { whole = λ rest items h. h; part = λ rest items h. h }

passed_more : (room left now : ℕ) (given more content : List ℕ) (done : List Item) → Passed room given done left
    → ((rest : List ℕ) → first_block (more ++ rest) ≡ Ok (content, rest)) → left ≡ length more + now
    → Passed room (given ++ more) (done ++ BlockOf content ∷ []) now
passed_more room left now given more content done p is fits = record {
  whole = λ rest items h.
      let P : List ℕ → Type 0 = λ bytes. ObjectItems room bytes ((done ++ BlockOf content ∷ []) ++ items) in
      let Q : List Item → Type 0 = λ these. ObjectItems room (given ++ (more ++ rest)) these in
      subst P (sym (append_assoc given more rest)) (subst Q (sym (append_assoc done (BlockOf content ∷ []) items))
      (p.whole (more ++ rest) (BlockOf content ∷ items)
      (objects.ObjectItems.Begins (is rest) (omega (arith, length-append more rest, fits)) h)));
  part = λ rest items h.
      let P : List ℕ → Type 0 = λ bytes. BeginningItems room bytes ((done ++ BlockOf content ∷ []) ++ items) in
      let Q : List Item → Type 0 = λ these. BeginningItems room (given ++ (more ++ rest)) these in
      subst P (sym (append_assoc given more rest)) (subst Q (sym (append_assoc done (BlockOf content ∷ []) items))
      (p.part (more ++ rest) (BlockOf content ∷ items)
      (objects.BeginningItems.Begins (is rest) (omega (arith, length-append more rest, fits)) h)));
}

-- a feed has returned exactly the bytes of these items
pub record Walked (text text' : Option Text) (faults faults' room : ℕ) (done : List Item) : Type 0 where
  pub given : List ℕ
  pub took : Took (position text faults most_bytes) (position text' faults' room) given
  pub passed : Passed most_bytes given done room

pub walk_begins : (text : Option Text) (faults : ℕ) → Walked text text faults faults most_bytes []
walk_begins text faults = record {
  given = [];
  took = took_nothing (position text faults most_bytes);
  passed = passed_none most_bytes;
}

-- a reader that returned no fault hasn't failed
pub reads_on : {X : Type 0} (has_failed : Bool) (returned : X) → (IsTrue has_failed ↔ IsErr {E = BlockFault} (Ok returned))
    → has_failed ≡ false
reads_on false returned h = refl
reads_on {X} true returned h = absurd (let bad = h.0 refl in cc)

-- after each block fewer bytes are left within the limit
pub block_falls : (here there : Position) (content : List ℕ) → Reads first_block here there content
    → there.room < here.room
block_falls here there content r =
    omega (arith, block_shorter (r.given ++ []) content [] (r.is []), length-append r.given [], r.took.room)

module _ (text text1 : Option Text) (faults faults1 room1 : ℕ) (done : List Item)
    (w : Walked text text1 faults faults1 room1 done) where
  abbrev start : Position
  start = position text faults most_bytes

  abbrev here : Position
  here = position text1 faults1 room1

  -- whatever bytes follow, the object yields the items so far and then others
  pub walk_whole : (items : List Item) × GivesItems text (done ++ items)
  walk_whole =
      let more = gave_more text text1 w.given w.took.gave in
      let others = object_comes room1 more.0 in
      (others.0, record { source = w.given ++ more.0; has = more.1; are = w.passed.whole more.0 others.0 others.1 })

  pub walk_unfailed : faults1 ≡ faults
  walk_unfailed = w.took.faults

  module _ (text2 : Option Text) (faults2 room2 : ℕ) where
    abbrev there : Position
    there = position text2 faults2 room2

    -- after a further block the items so far include it
    pub walk_more : (content : List ℕ) → Reads first_block here there content
        → Walked text text2 faults faults2 room2 (done ++ BlockOf content ∷ [])
    walk_more content r = record {
      given = w.given ++ r.given;
      took = took_then start here there w.given r.given w.took r.took;
      passed = passed_more most_bytes room1 room2 w.given r.given content done w.passed r.is r.took.room;
    }

    -- if the feed ends before another block, the object yields the items so far and then its end
    pub walk_ends : Stops first_block here there EndsBetween
        → GivesItems text (done ++ ObjectEnds ∷ []) × (faults2 ≡ faults)
    walk_ends s =
        let took = took_then start here s.1.0 w.given s.0 w.took s.1.1 in (
          record {
            source = w.given ++ s.0;
            has = gave_all text s.1.0.text text2 (w.given ++ s.0) took.gave s.1.2.0;
            are = w.passed.whole s.0 (ObjectEnds ∷ []) (objects.ObjectItems.Ends s.2 (omega (arith, s.1.1.room)));
          },
          s.1.2.1 ∙ took.faults,
        )

    walk_cut : Stops first_block here there EndsInside
        → (faults2 ≡ faults) × GivesItems text (done ++ Refused (fault.Block block.Truncated) ∷ [])
    walk_cut s =
        let took = took_then start here s.1.0 w.given s.0 w.took s.1.1 in (
          s.1.2.1 ∙ took.faults,
          record {
            source = w.given ++ s.0;
            has = gave_all text s.1.0.text text2 (w.given ++ s.0) took.gave s.1.2.0;
            are = w.passed.whole s.0 (Refused (fault.Block block.Truncated) ∷ [])
                (objects.ObjectItems.IsCut s.2 (omega (arith, s.1.1.room)));
          },
        )

    walk_refused : (inner : BlockFault) → Stops first_block here there (Refuses inner)
        → (faults2 ≡ faults) × GivesItems text (done ++ Refused (fault.Block inner) ∷ [])
    walk_refused inner s =
        let took = took_then start here there w.given s.0 w.took s.1 in
        let more = gave_more text text2 (w.given ++ s.0) took.gave in (
          took.faults,
          record {
            source = (w.given ++ s.0) ++ more.0;
            has = more.1;
            are = rw (append_assoc w.given s.0 more.0)
                (w.passed.whole (s.0 ++ more.0) (Refused (fault.Block inner) ∷ [])
                (objects.ObjectItems.IsBad (s.2 more.0) (omega (arith, length-append s.0 more.0, s.1.room))));
          },
        )

    walk_passes : Stops first_block here there Passes
        → (faults2 ≡ faults) × GivesItems text (done ++ Refused fault.TooMuch ∷ [])
    walk_passes s =
        let took = took_then start here s.1.0 w.given s.0 w.took s.1.1 in
        let lacks = s.1.2 in
        let more = gave_byte text s.1.0.text text2 (w.given ++ s.0) lacks.0 took.gave lacks.1 in
        let following : List ℕ = lacks.0 ∷ more.0 in
        let all : length s.0 ≡ room1 = omega (arith, s.1.1.room, lacks.3) in
        let front : take room1 (s.0 ++ following) ≡ s.0 = take_at s.0 following room1 all in
        let P : List ℕ → Type 0 = λ bytes. IsShort (first_block bytes) in (
          lacks.2 ∙ took.faults,
          record {
            source = (w.given ++ s.0) ++ following;
            has = more.1;
            are = rw (append_assoc w.given s.0 following)
                (w.passed.whole (s.0 ++ following) (Refused fault.TooMuch ∷ [])
                (objects.ObjectItems.Passes (omega (arith, length-append s.0 following, all)) (subst P (sym front) s.2)));
          },
        )

    walk_fails : Stops first_block here there Fails → Rises faults faults2 × BeginsItems text done
    walk_fails s =
        let took = took_then start here s.1.0 w.given s.0 w.took s.1.1 in
        let rises : Rises s.1.0.faults faults2 = s.1.2.1 in
        let P : ℕ → Type 0 = λ count. Rises count faults2 in (
          subst P took.faults rises,
          record {
            beginning = w.given ++ s.0;
            has = gave_beginning text s.1.0.text (w.given ++ s.0) took.gave;
            are = let Q : List Item → Type 0 = λ these. BeginningItems most_bytes (w.given ++ s.0) these in
                subst Q (append-nil done) (w.passed.part s.0 []
                (objects.BeginningItems.IsOpen s.2 (omega (arith, s.1.1.room))));
          },
        )

    -- what is known of the object if this fault was returned instead of a block
    abbrev pub StopsObject : LinkFault → Type 0
    StopsObject fault.Read = Rises faults faults2 × BeginsItems text done
    StopsObject stopped = (faults2 ≡ faults) × GivesItems text (done ++ Refused stopped ∷ [])

    pub walk_stops : (inner : BlockFault) → Stops first_block here there (why_of inner) → StopsObject (of_block inner)
    walk_stops block.Device s = walk_fails s
    walk_stops block.Truncated s = walk_cut s
    walk_stops block.BadSum s = walk_refused block.BadSum s
    walk_stops block.TooLong s = walk_refused block.TooLong s
    walk_stops block.BadStart s = walk_refused block.BadStart s
    walk_stops block.TooShort s = walk_refused block.TooShort s
    walk_stops block.Failed s = absurd s
    walk_stops block.TooMuch s = walk_passes s
