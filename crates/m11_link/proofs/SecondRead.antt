-- The loops of the second pass.
use Rattle.std.proofs.Common.{◌≡◌, ◌∙◌, ℕ, ◌+◌, ◌<◌, ◌≤◌, Bool, true, false, List, [], ◌∷◌, ◌++◌, length, get_or, set, append-nil, append_assoc, Option, Some, None, Result, Ok, Err, IfErr, ◌⊎◌, ◌≢◌, inl, inr, refl, sym, ap, subst}
use Rattle.m11_base.specs.Feed.{Text as FeedText, GiveAll, NoneFailed}
use Rattle.m11_obj_blocks.specs.Blocks.{first_block, why_of}
use Rattle.m11_obj_blocks.specs.Limited.{EndsBetween, Reads, Stops, most_bytes, position}
use Rattle.m11_obj.specs.Reading.{IsRecord}
use Rattle.m11_obj_blocks.specs.declared.block_fault.BlockFault.{BlockFault}
use Rattle.m11_obj_blocks.specs.declared.block_fault.BlockFault.TheVariants as block
use Rattle.m11_link_modules.specs.declared.fault.ModuleFault.{ModuleFault}
use Rattle.m11_link_modules.specs.Parts.{Part, EndOfFile, record_parts}
use Rattle.m11_link_modules.specs.Rules.{StopsAtName, fault_of, first_fault}
use Rattle.m11_link_modules.specs.declared.fault.ModuleFault.TheVariants as rule
use Rattle.m11_link_layout.specs.Fault.{of_block}
use Rattle.m11_link_layout.specs.Plan.{PlanTables}
use Rattle.m11_link_layout.specs.declared.fault.LinkFault.{LinkFault}
use Rattle.m11_link_layout.specs.declared.fault.LinkFault.TheVariants as fault
use Rattle.m11_base_writes.specs.declared.outputs.Output.{Output}
use Rattle.m11_link.specs.Emit.{EmitEnds, EmitAfter, EmitState, GoesOn, AcceptsBlock, AcceptsParts, call_of, written}
use Rattle.m11_base_writes.specs.Passes.{pass_of}
use Rattle.m11_link.specs.Objects.{◌>>=◌, AreItems, Item, BlockOf, ObjectEnds, Refused, GiveItems, GivesItems, taken, accepted_item}
use Rattle.m11_link.specs.Objects as objects
use Rattle.m11_link.specs.declared.emit.LinkDone.{LinkDone}
use Rattle.m11_link_text.specs.Findings.{Findings, planned}
use Rattle.m11_link.specs.Written.{link_writes}
use Rattle.m11_link.specs.SecondPass.{Emits, EmitsObject, Emitted, ReadsSecond, StopsAt, StopsBefore, StopsWithin, WrittenAfter, begun_by, start_at}
use Rattle.m11_link.specs.SecondPass as passes
use Rattle.m11_link.specs.Outputs.{Gains, StopsBetween, StopsIn, link}
use Rattle.m11_base_writes.specs.Outputs.{Outputs, Write, flushes}
use Rattle.m11_base.proofs.FeedsRead.{SoFar, begin, all_read, failed_here, given_more, none_failed, read_more}
use Rattle.m11_link.specs.FirstPass.{AtBlock, HasRoom}
use Rattle.m11_link.proofs.FirstRead.{are_after, no_memory, one_object}
use Rattle.m11_link.proofs.Room.{at_block, at_feed, has_room}
use Rattle.m11_link.proofs.Steady.{objects_come}
use Rattle.m11_link.proofs.ItemsAccepted.{PartsOrFault, Decides, bind_stops, block_taken, end_decides, end_taken, ends_again, no_record_decides, one_taken, parts_decide, accepted_after}
use Rattle.m11_link.proofs.ObjectsRead.{StopsObject, Walked, walk_begins, walk_ends, walk_more, walk_stops, walk_whole}
use Rattle.m11_base_writes.proofs.Writing.{gains_nothing, gains_then, stops_after}
use Rattle.m11_link_layout.proofs.Standing.{sound_after}

-- ---- the writes so far

gains_on : (first now new : Outputs) (some all : List Write) → Gains first now some → GoesOn (Gains now new) some all
    → Gains first new all
gains_on first now new some all g o =
    let P : List Write → Type 0 = λ these. Gains first new these in
    subst P (sym o.split) (gains_then link first now new some o.more g o.went)

stops_in_on : (output : Output) (first now new : Outputs) (some all : List Write) → Gains first now some
    → GoesOn (StopsIn output now new) some all → StopsIn output first new all
stops_in_on output first now new some all g o =
    let P : List Write → Type 0 = λ these. StopsIn output first new these in
    subst P (sym o.split) (stops_after link first now new some o.more (fault.Write output) g o.went)

stops_between_on : (first now new : Outputs) (some all : List Write) → Gains first now some
    → GoesOn (StopsBetween now new) some all → StopsBetween first new all
stops_between_on first now new some all g o =
    let P : List Write → Type 0 = λ these. StopsBetween first new these in
    subst P (sym o.split) (stops_after link first now new some o.more fault.NoMemory g o.went)

abbrev Begins : List Write → List Write → Type 0
Begins some all = (rest : List Write) × (all ≡ some ++ rest)

between_of : (first new : Outputs) (some all : List Write) → Gains first new some → Begins some all
    → StopsBetween first new all
between_of first new some all g b = record { done = some; more = b.0; split = b.1; gains = g }

-- the writes for parts, with or without the front, are a beginning of the writes with the front
begins_all : (plan : PlanTables) (has_begun : Bool) (parts : List Part)
    → Begins (written (planned plan) has_begun parts) (written (planned plan) true parts)
begins_all plan false parts = (written (planned plan) true parts, refl)
begins_all plan true parts = ([], sym (append-nil (written (planned plan) true parts)))

-- ---- whether the front is written

begun_one : (has_begun : Bool) (items : List Item) (item : Item) → begun_by has_begun (items ++ item ∷ []) ≡ true
begun_one has_begun [] item = refl
begun_one has_begun (first ∷ items) item = refl

begun_still : (items : List Item) → begun_by true items ≡ true
begun_still [] = refl
begun_still (item ∷ items) = refl

begun_on : (has_begun : Bool) (xs ys : List Item) → begun_by (begun_by has_begun xs) ys ≡ begun_by has_begun (xs ++ ys)
begun_on has_begun [] ys = refl
begun_on has_begun (x ∷ xs) ys = begun_still ys

-- ---- where a pass stops, after more items

module _ (plan : PlanTables) (b has_begun : Bool) (before : List Part) (items : List Item) (parts : List Part)
    (taken-is : taken before items ≡ Ok parts) (begun : has_begun ≡ begun_by b items) (first new : Outputs) where
  written_more : (own : List Item) → WrittenAfter (planned plan) has_begun parts own first new
      → WrittenAfter (planned plan) b before (items ++ own) first new
  written_more own w =
      let P : Bool → Type 0 = λ x. Gains first new (written (planned plan) x w.parts) in
      let e : begun_by has_begun own ≡ begun_by b (items ++ own) =
      ap (λ x. begun_by x own) begun ∙ begun_on b items own in
      record {
        parts = w.parts;
        taken-is = accepted_after before items own parts taken-is ∙ w.taken-is;
        gains = subst P e w.gains;
      }

  within_more : (Stop : List Write → Type 0) (own others : List Item) → StopsWithin Stop (planned plan) parts own
      → StopsWithin Stop (planned plan) before (items ++ (own ++ others))
  within_more Stop own others w = record {
    done = items ++ w.done;
    more = w.more ++ others;
    split = ap (λ (these : List Item). items ++ (these ++ others)) w.split
        ∙ ap (λ (these : List Item). items ++ these) (append_assoc w.done w.more others)
        ∙ sym (append_assoc items w.done (w.more ++ others));
    parts = w.parts;
    taken-is = accepted_after before items w.done parts taken-is ∙ w.taken-is;
    stops = w.stops;
  }

  before_more : (stopped : LinkFault) (own others : List Item)
      → StopsBefore (planned plan) has_begun parts own stopped first new
      → StopsBefore (planned plan) b before (items ++ (own ++ others)) stopped first new
  unfolding written_more
  before_more stopped own others w = record {
    done = items ++ w.done;
    item = w.item;
    more = w.more ++ others;
    split = ap (λ (these : List Item). items ++ (these ++ others)) w.split
        ∙ ap (λ (these : List Item). items ++ these) (append_assoc w.done (w.item ∷ w.more) others)
        ∙ sym (append_assoc items w.done (w.item ∷ (w.more ++ others)));
    exactly = written_more w.done w.exactly;
    refused = w.refused;
  }

  stops_more : (stopped : LinkFault) (own others : List Item) → StopsAt stopped (planned plan) has_begun parts own first new
      → StopsAt stopped (planned plan) b before (items ++ (own ++ others)) first new
  stops_more (fault.Write output) own others s = within_more (StopsIn output first new) own others s
  stops_more fault.NoMemory own others s = within_more (StopsBetween first new) own others s
  stops_more stopped own others s = before_more stopped own others s

-- ---- an item that stops the reading

-- an item has no fault, and `Stop` holds of the writes that it adds
abbrev Within : PlanTables → Bool → List Part → Item → (List Write → Type 0) → Type 0
Within plan has_begun parts item Stop = (these : List Part) × (accepted_item parts item ≡ Ok these)
    × GoesOn Stop (written (planned plan) has_begun parts) (written (planned plan) true these)

-- the item is a block for which there is room
abbrev RoomFor : List Part → Item → Type 0
RoomFor parts (BlockOf content) = HasRoom parts content
RoomFor parts item = ⊥

abbrev Halts : PlanTables → Bool → List Part → Item → Outputs → Outputs → LinkFault → Type 0
Halts plan has_begun parts item now new (fault.Write output) = Within plan has_begun parts item (StopsIn output now new)
Halts plan has_begun parts item now new fault.NoMemory =
    ((new ≡ now) ⊎ Within plan has_begun parts item (StopsBetween now new)) × RoomFor parts item
Halts plan has_begun parts item now new stopped = Decides parts (item ∷ []) stopped × (new ≡ now)

module _ (plan : PlanTables) (parts : List Part) (sound : first_fault [] parts ≡ None) (now new : Outputs)
    (emit emit' : EmitState) where
  within_block : (bytes : List ℕ) (Stop : List Write → Type 0) → IsRecord bytes
      → first_fault parts (record_parts bytes) ≡ None
      → GoesOn Stop (written (planned plan) emit.has_begun parts) (written (planned plan) true (parts ++ record_parts bytes))
      → Within plan emit.has_begun parts (BlockOf bytes) Stop
  within_block bytes Stop is none h =
      (parts ++ record_parts bytes, block_taken parts bytes is (sound_after [] parts (record_parts bytes) sound none), h)

  within_end : (Stop : List Write → Type 0) → first_fault parts (EndOfFile ∷ []) ≡ None
      → GoesOn Stop (written (planned plan) emit.has_begun parts) (written (planned plan) true (parts ++ EndOfFile ∷ []))
      → Within plan emit.has_begun parts ObjectEnds Stop
  within_end Stop none h =
      (parts ++ EndOfFile ∷ [], end_taken parts (sound_after [] parts (EndOfFile ∷ []) sound none), h)

  refused_memory : (bytes : List ℕ) → IsRecord bytes
      → AcceptsParts plan parts (call_of now new emit emit') (record_parts bytes) (Err fault.NoMemory)
      → (new ≡ now) ⊎ Within plan emit.has_begun parts (BlockOf bytes) (StopsBetween now new)
  refused_memory bytes is (inl h) = inl h.1
  refused_memory bytes is (inr h) = inr (within_block bytes (StopsBetween now new) is h.0 h.1)

  room_left : (bytes : List ℕ)
      → AcceptsParts plan parts (call_of now new emit emit') (record_parts bytes) (Err fault.NoMemory)
      → StopsAtName (first_fault parts) (record_parts bytes) ⊎ (first_fault parts (record_parts bytes) ≡ None)
  room_left bytes (inl h) = inl h.0
  room_left bytes (inr h) = inr h.0

  block_halts : (bytes : List ℕ) (stopped : LinkFault) → AcceptsBlock plan parts (call_of now new emit emit') bytes (Err stopped)
      → Halts plan emit.has_begun parts (BlockOf bytes) now new stopped
  block_halts bytes (fault.Write output) h = within_block bytes (StopsIn output now new) h.0 h.1.0 h.1.1
  block_halts bytes fault.NoMemory h = (refused_memory bytes h.0 h.1, has_room parts bytes h.0 (room_left bytes h.1))
  block_halts bytes (fault.Record inner) h = (no_record_decides parts bytes inner h.0, h.1)
  block_halts bytes stopped h = (parts_decide parts bytes stopped h.0, h.1)

  end_halts : (stopped : LinkFault) → stopped ≢ fault.NoMemory
      → AcceptsParts plan parts (call_of now new emit emit') (EndOfFile ∷ []) (Err stopped)
      → Halts plan emit.has_begun parts ObjectEnds now new stopped
  end_halts (fault.Write output) n h = within_end (StopsIn output now new) h.0 h.1
  end_halts fault.NoMemory n h = absurd (n refl)
  end_halts stopped n h = (end_decides parts stopped h.0, h.1)

-- if a list of one item has a fault, the item has this fault
refused_alone : (parts : List Part) (item : Item) (stopped : LinkFault) → taken parts (item ∷ []) ≡ Err stopped
    → accepted_item parts item ≡ Err stopped
refused_alone parts item stopped e = alone (accepted_item parts item) e
  where
    alone : (r : PartsOrFault) → (r >>= λ these. taken these []) ≡ Err stopped → r ≡ Err stopped
    alone (Ok these) h = absurd cc
    alone (Err other) h = h

module _ (text text' : Option FeedText) (faults faults' : ℕ) (plan : PlanTables) (b : Bool) (before : List Part)
    (first now new : Outputs) (emit' : EmitState) (has_begun : Bool) (done : List Item) (item : Item) (more : List Item)
    (parts : List Part) (taken-is : taken before done ≡ Ok parts) (begun : has_begun ≡ begun_by b done)
    (gains : Gains first now (written (planned plan) has_begun parts))
    (same : faults' ≡ faults) (given : GivesItems text ((done ++ item ∷ []) ++ more))
    (at : RoomFor parts item → AtBlock text text' before) where
  still : new ≡ now → Gains first new (written (planned plan) has_begun parts)
  still e = let P : Outputs → Type 0 = λ these. Gains first these (written (planned plan) has_begun parts) in subst P (sym e) gains

  exactly : new ≡ now → WrittenAfter (planned plan) b before done first new
  exactly e =
      let P : Bool → Type 0 = λ x. Gains first new (written (planned plan) x parts) in
      record { parts = parts; taken-is = taken-is; gains = subst P begun (still e) }

  refused_now : (stopped : LinkFault) → accepted_item parts item ≡ Err stopped → new ≡ now
      → StopsBefore (planned plan) b before ((done ++ item ∷ []) ++ more) stopped first new
  unfolding exactly
  refused_now stopped r e = record {
    done = done;
    item = item;
    more = more;
    split = append_assoc done (item ∷ []) more;
    exactly = exactly e;
    refused = r;
  }

  within_now : (Stop : List Write → Type 0) (these : List Part) → accepted_item parts item ≡ Ok these
      → Stop (written (planned plan) true these) → StopsWithin Stop (planned plan) before ((done ++ item ∷ []) ++ more)
  within_now Stop these t s = record {
    done = done ++ item ∷ [];
    more = more;
    split = refl;
    parts = these;
    taken-is = accepted_after before done (item ∷ []) parts taken-is ∙ one_taken parts item (Ok these) t;
    stops = s;
  }

  memory_now : (new ≡ now) ⊎ Within plan has_begun parts item (StopsBetween now new)
      → StopsWithin (StopsBetween first new) (planned plan) before ((done ++ item ∷ []) ++ more)
  memory_now (inl e) = record {
    done = done;
    more = item ∷ more;
    split = append_assoc done (item ∷ []) more;
    parts = parts;
    taken-is = taken-is;
    stops = between_of first new (written (planned plan) has_begun parts) (written (planned plan) true parts) (still e)
        (begins_all plan has_begun parts);
  }
  memory_now (inr h) = within_now (StopsBetween first new) h.0 h.1
      (stops_between_on first now new (written (planned plan) has_begun parts) (written (planned plan) true h.0) gains h.2)

  halted : (stopped : LinkFault) → Halts plan has_begun parts item now new stopped
      → EmitsObject text text' faults faults' (start_at plan b before first) new emit' (Err stopped)
  halted (fault.Write output) h = (
    same,
    (done ++ item ∷ []) ++ more,
    given,
    within_now (StopsIn output first new) h.0 h.1
        (stops_in_on output first now new (written (planned plan) has_begun parts) (written (planned plan) true h.0) gains h.2),
  )
  halted fault.NoMemory h = (same, (done ++ item ∷ []) ++ more, given, memory_now h.0, at h.1)
  halted fault.Read h = absurd h.0
  halted stopped h = (
    same,
    (done ++ item ∷ []) ++ more,
    given,
    refused_now stopped (refused_alone parts item stopped h.0) h.1,
  )

-- ---- one object

pub record Sent (text text' : Option FeedText) (faults faults' room : ℕ) (plan : PlanTables) (b : Bool)
    (before : List Part) (first now : Outputs) (emit : EmitState) : Type 0 where
  pub done : List Item
  pub walked : Walked text text' faults faults' room done
  pub parts : List Part
  pub taken-is : taken before done ≡ Ok parts
  pub stands : EmitAfter plan parts emit
  pub begun : emit.has_begun ≡ begun_by b done
  pub gains : Gains first now (written (planned plan) emit.has_begun parts)

pub sent_first : (text : Option FeedText) (faults : ℕ) (plan : PlanTables) (before : List Part) (first now : Outputs)
    (emit : EmitState) → EmitAfter plan before emit → Gains first now (written (planned plan) emit.has_begun before)
    → Sent text text faults faults most_bytes plan emit.has_begun before first now emit
sent_first text faults plan before first now emit s g = record {
  done = [];
  walked = walk_begins text faults;
  parts = before;
  taken-is = refl;
  stands = s;
  begun = refl;
  gains = g;
}

-- if the writes so far were made, and then those that further parts add, the writes for all these parts were made
written_on : (first now new : Outputs) (plan : PlanTables) (parts more : List Part) (emit emit' : EmitState)
    → Gains first now (written (planned plan) emit.has_begun parts)
    → (emit'.has_begun ≡ true)
    → GoesOn (Gains now new) (written (planned plan) emit.has_begun parts) (written (planned plan) true (parts ++ more))
    → Gains first new (written (planned plan) emit'.has_begun (parts ++ more))
written_on first now new plan parts more emit emit' g b o =
    let P : Bool → Type 0 = λ has_begun. Gains first new (written (planned plan) has_begun (parts ++ more)) in
    subst P (sym b) (gains_on first now new (written (planned plan) emit.has_begun parts) (written (planned plan) true (parts ++ more)) g o)

module _ (text text1 : Option FeedText) (faults faults1 room1 : ℕ) (plan : PlanTables) (b : Bool) (before : List Part)
    (first now : Outputs) (emit : EmitState) (l : Sent text text1 faults faults1 room1 plan b before first now emit)
    (text2 : Option FeedText) (faults2 room2 : ℕ) (new : Outputs) (emit' : EmitState) where
  module _ (content : List ℕ)
      (r : Reads first_block (position text1 faults1 room1) (position text2 faults2 room2) content) where
    walked : Walked text text2 faults faults2 room2 (l.done ++ BlockOf content ∷ [])
    walked = walk_more text text1 faults faults1 room1 l.done l.walked text2 faults2 room2 content r

    pub sent_more : AcceptsBlock plan l.parts (call_of now new emit emit') content (Ok tt) → IsRecord content
        → Sent text text2 faults faults2 room2 plan b before first new emit'
    sent_more t is = record {
      done = l.done ++ BlockOf content ∷ [];
      walked = walked;
      parts = l.parts ++ record_parts content;
      taken-is = accepted_after before l.done (BlockOf content ∷ []) l.parts l.taken-is
          ∙ one_taken l.parts (BlockOf content) (Ok (l.parts ++ record_parts content))
          (block_taken l.parts content is t.0.sound);
      stands = t.0;
      begun = t.1 ∙ sym (begun_one b l.done (BlockOf content));
      gains = written_on first now new plan l.parts (record_parts content) emit emit' l.gains t.1 t.2;
    }

    pub sent_refused : (stopped : LinkFault) → AcceptsBlock plan l.parts (call_of now new emit emit') content (Err stopped)
        → EmitsObject text text2 faults faults2 (start_at plan b before first) new emit' (Err stopped)
    sent_refused stopped t =
        let whole = walk_whole text text2 faults faults2 room2 (l.done ++ BlockOf content ∷ []) walked in
        halted text text2 faults faults2 plan b before first now new emit' emit.has_begun l.done (BlockOf content) whole.0
        l.parts l.taken-is l.begun l.gains walked.took.faults whole.1
        (at_block text text2 faults faults2 room2 before l.done content l.parts walked l.taken-is) stopped
        (block_halts plan l.parts l.stands.sound now new emit emit' content stopped t)

  pub sent_ends : Stops first_block (position text1 faults1 room1) (position text2 faults2 room2) EndsBetween
      → (result : Result (Unit {0}) LinkFault) → AcceptsParts plan l.parts (call_of now new emit emit') (EndOfFile ∷ []) result
      → IfErr result (λ stopped. stopped ≢ fault.NoMemory)
      → EmitsObject text text2 faults faults2 (start_at plan b before first) new emit' result
  sent_ends s (Ok done) t n =
      let end = walk_ends text text1 faults faults1 room1 l.done l.walked text2 faults2 room2 s in (
        end.1,
        l.done ++ ObjectEnds ∷ [],
        end.0,
        record {
          parts = l.parts ++ EndOfFile ∷ [];
          taken-is = accepted_after before l.done (ObjectEnds ∷ []) l.parts l.taken-is
              ∙ one_taken l.parts ObjectEnds (Ok (l.parts ++ EndOfFile ∷ [])) (end_taken l.parts t.0.sound);
          stands = t.0;
          between = ends_again l.parts t.0.sound;
          begun = t.1 ∙ sym (begun_one b l.done ObjectEnds);
          gains = written_on first now new plan l.parts (EndOfFile ∷ []) emit emit' l.gains t.1 t.2;
        },
      )
  sent_ends s (Err stopped) t n =
      let end = walk_ends text text1 faults faults1 room1 l.done l.walked text2 faults2 room2 s in
      let P : List Item → Type 0 = λ these. GivesItems text these in
      halted text text2 faults faults2 plan b before first now new emit' emit.has_begun l.done ObjectEnds [] l.parts l.taken-is
      l.begun l.gains end.1 (subst P (sym (append-nil (l.done ++ ObjectEnds ∷ []))) end.0) (λ room. absurd room) stopped
      (end_halts plan l.parts l.stands.sound now new emit emit' stopped n t)

  -- exactly the writes for the items so far were made
  exactly_now : WrittenAfter (planned plan) b before l.done first now
  exactly_now =
      let P : Bool → Type 0 = λ x. Gains first now (written (planned plan) x l.parts) in
      record { parts = l.parts; taken-is = l.taken-is; gains = subst P l.begun l.gains }

  refused_here : (stopped : LinkFault)
      → StopsBefore (planned plan) b before (l.done ++ Refused stopped ∷ []) stopped first now
  refused_here stopped = record {
    done = l.done;
    item = Refused stopped;
    more = [];
    split = refl;
    exactly = exactly_now;
    refused = refl;
  }

  no_write : (inner : BlockFault) (output : Output) → fault.Write output ≡ of_block inner → ⊥
  no_write block.Device output is = cc
  no_write block.TooMuch output is = cc
  no_write inner output is = cc

  stopped_so : (stopped : LinkFault) → (inner : BlockFault) → stopped ≡ of_block inner
      → StopsObject text text1 faults faults1 room1 l.done l.walked text2 faults2 room2 stopped
      → EmitsObject text text2 faults faults2 (start_at plan b before first) now emit (Err stopped)
  stopped_so fault.Read inner is h = (h.0, l.done, h.1, exactly_now)
  stopped_so fault.NoMemory inner is h = absurd (no_memory inner is)
  stopped_so (fault.Write output) inner is h = absurd (no_write inner output is)
  stopped_so stopped inner is h = (h.0, l.done ++ Refused stopped ∷ [], h.1, refused_here stopped)

  pub sent_stops : (inner : BlockFault)
      → Stops first_block (position text1 faults1 room1) (position text2 faults2 room2) (why_of inner)
      → (stopped : LinkFault) → stopped ≡ of_block inner
      → EmitsObject text text2 faults faults2 (start_at plan b before first) now emit (Err stopped)
  sent_stops inner s stopped is =
      let P : LinkFault → Type 0 = λ these. EmitsObject text text2 faults faults2 (start_at plan b before first) now emit (Err these) in
      subst P (sym is) (stopped_so (of_block inner) inner refl
      (walk_stops text text1 faults faults1 room1 l.done l.walked text2 faults2 room2 inner s))

-- ---- objects one after another

pub record SentAll {F : Type 0} (text : F → Option FeedText) (faults : F → ℕ) (initial here : List F) (index : ℕ)
    (plan : PlanTables) (b : Bool) (before : List Part) (first now : Outputs) (emit : EmitState) : Type 0 where
  pub sources : List (List ℕ)
  pub items : List Item
  pub feeds : SoFar text faults initial here index sources
  pub are : AreItems sources items
  pub emitted : Emitted plan b before items first now emit

module _ {F : Type 0} (text : F → Option FeedText) (faults : F → ℕ) where
  pub all_begin : (initial : List F) (plan : PlanTables) (before : List Part) (first now : Outputs) (emit : EmitState)
      → EmitAfter plan before emit → fault_of before EndOfFile ≡ None
      → Gains first now (written (planned plan) emit.has_begun before)
      → SentAll text faults initial initial 0 plan emit.has_begun before first now emit
  all_begin initial plan before first now emit s b g = record {
    sources = [];
    items = [];
    feeds = begin text faults initial;
    are = objects.AreItems.Nothing;
    emitted = record { parts = before; taken-is = refl; stands = s; between = b; begun = refl; gains = g };
  }

  pub all_sent : (initial here : List F) (index : ℕ) (plan : PlanTables) (b : Bool) (before : List Part)
      (first now : Outputs) (emit : EmitState) → SentAll text faults initial here index plan b before first now emit
      → length here ≤ index
      → Emits (pass_of text faults initial here) (start_at plan b before first) now emit (Ok tt)
  all_sent initial here index plan b before first now emit l over =
      let all = all_read text faults initial here index l.sources l.feeds over in
      (all.0, l.items, record { sources = l.sources; given = all.1; are = l.are }, l.emitted)

  -- one more object is read
  module _ (initial here : List F) (index : ℕ) (plan : PlanTables) (b : Bool) (before : List Part)
      (first now new : Outputs) (emit emit' : EmitState)
      (l : SentAll text faults initial here index plan b before first now emit)
      (inside : index < length here) (d x z : F) (x-is : x ≡ get_or here index d) where
    parts : List Part
    parts = l.emitted.parts

    pub object_sent : EmitsObject (text x) (text z) (faults x) (faults z) (start_at plan emit.has_begun l.emitted.parts first) new emit'
        (Ok tt)
        → SentAll text faults initial (set here index z) (index + 1) plan b before first new emit'
    object_sent h = record {
      sources = l.sources ++ h.2.source ∷ [];
      items = l.items ++ h.1;
      feeds = read_more text faults initial here index l.sources l.feeds inside d x z x-is h.2.source h.2.has h.0;
      are = are_after l.sources (h.2.source ∷ []) l.items h.1 l.are (one_object h.2.source h.1 h.2.are);
      emitted = record {
        parts = h.3.parts;
        taken-is = accepted_after before l.items h.1 l.emitted.parts l.emitted.taken-is ∙ h.3.taken-is;
        stands = h.3.stands;
        between = h.3.between;
        begun = h.3.begun ∙ ap (λ x. begun_by x h.1) l.emitted.begun ∙ begun_on b l.items h.1;
        gains = h.3.gains;
      };
    }

    module _ (own : List Item) (g : GivesItems (text x) own) (same : faults z ≡ faults x) where
      others : (sources : List (List ℕ)) × GiveAll text initial (l.sources ++ g.source ∷ sources)
      others = given_more text faults initial here index l.sources l.feeds inside d x z x-is g.source g.has

      others_come : (items : List Item) × AreItems others.0 items
      others_come = objects_come others.0

      all_given : GiveItems text initial (l.items ++ (own ++ others_come.0))
      all_given = record {
        sources = l.sources ++ g.source ∷ others.0;
        given = others.1;
        are = are_after l.sources (g.source ∷ others.0) l.items (own ++ others_come.0) l.are
            (objects.AreItems.Object g.are others_come.1);
      }

      stops_so : (stopped : LinkFault) → StopsAt stopped (planned plan) emit.has_begun l.emitted.parts own first new
          → NoneFailed faults initial (set here index z) × (items : List Item) × GiveItems text initial items
          × StopsAt stopped (planned plan) b before items first new
      stops_so stopped s = (
        none_failed text faults initial here index l.sources l.feeds inside d x z x-is same,
        l.items ++ (own ++ others_come.0),
        all_given,
        stops_more plan b emit.has_begun before l.items l.emitted.parts l.emitted.taken-is l.emitted.begun first new
            stopped own others_come.0 s,
      )

    pub object_stops : (stopped : LinkFault)
        → EmitsObject (text x) (text z) (faults x) (faults z) (start_at plan emit.has_begun l.emitted.parts first) new emit' (Err stopped)
        → Emits (pass_of text faults initial (set here index z)) (start_at plan b before first) new emit' (Err stopped)
    object_stops fault.Read h = (
      l.items ++ h.1,
      record {
        sources = l.sources;
        beginning = h.2.beginning;
        failed = failed_here text faults initial here index l.sources l.feeds inside d x z x-is h.2.beginning h.2.has h.0;
        before = l.items;
        own = h.1;
        are = l.are;
        begun = h.2.are;
        items-are = refl;
      },
      written_more plan b emit.has_begun before l.items l.emitted.parts l.emitted.taken-is l.emitted.begun first new h.1
          h.3,
    )
    object_stops fault.NoMemory h =
        let so = stops_so h.1 h.2 h.0 fault.NoMemory h.3 in (
          so.0,
          so.1,
          so.2,
          so.3,
          at_feed text faults initial here index l.sources l.feeds inside d x z x-is before l.items l.emitted.parts l.are
              l.emitted.taken-is h.4,
        )
    object_stops stopped h = stops_so h.1 h.2 h.0 stopped h.3

-- if the pass stopped before a refused item, the fault of this item is the first fault of the items
pub refused_first : (found : Findings) (b : Bool) (before : List Part) (items : List Item) (stopped : LinkFault)
    (old new : Outputs) → StopsBefore found b before items stopped old new → taken before items ≡ Err stopped
refused_first found b before items stopped old new h =
    ap (taken before) h.split ∙ accepted_after before h.done (h.item ∷ h.more) h.exactly.parts h.exactly.taken-is
    ∙ bind_stops (accepted_item h.exactly.parts h.item) (λ these. taken these h.more) stopped h.refused

-- ---- the end

-- a second pass that hasn't written the front has written nothing
pub nothing_written : (plan : PlanTables) (old : Outputs) (has_begun : Bool) → has_begun ≡ false
    → Gains old old (written (planned plan) has_begun [])
nothing_written plan old has_begun e =
    let P : Bool → Type 0 = λ begun. Gains old old (written (planned plan) begun []) in subst P (sym e) (gains_nothing link old)

module _ {F : Type 0} (text : F → Option FeedText) (faults : F → ℕ) (feeds feeds' : List F) (plan : PlanTables)
    (b : Bool) (fresh : b ≡ false) (old : Outputs) where
  pub second_stops : (now : Outputs) (emit : EmitState) (stopped : LinkFault)
      → Emits (pass_of text faults feeds feeds') (start_at plan b [] old) now emit (Err stopped)
      → ReadsSecond (pass_of text faults feeds feeds') (planned plan) old now (Err stopped)
  second_stops now emit fault.Read h =
      let P : Bool → Type 0 = λ x. WrittenAfter (planned plan) x [] h.0 old now in (h.0, h.1, subst P fresh h.2)
  second_stops now emit (fault.Write output) h = (
    h.0,
    h.1,
    h.2,
    written (planned plan) true h.3.parts,
    passes.AreWrites.SoFar h.3.done h.3.more h.3.parts h.3.split h.3.taken-is,
    h.3.stops,
  )
  second_stops now emit fault.NoMemory h = (
    h.0,
    h.1,
    h.2,
    written (planned plan) true h.3.parts,
    passes.AreWrites.SoFar h.3.done h.3.more h.3.parts h.3.split h.3.taken-is,
    h.3.stops,
    inl h.4,
  )
  second_stops now emit stopped h =
      let P : Bool → Type 0 = λ x. StopsBefore (planned plan) x [] h.1 stopped old now in (h.0, h.1, h.2, subst P fresh h.3)

  module _ (now new : Outputs) (emit : EmitState) (h : Emits (pass_of text faults feeds feeds') (start_at plan b [] old) now emit (Ok tt)) where
    pub second_ends : (result : Result LinkDone LinkFault) → EmitEnds plan h.3.parts now new emit result
        → ReadsSecond (pass_of text faults feeds feeds') (planned plan) old new result
    second_ends (Ok done) e = (
      h.0,
      h.1,
      h.2,
      h.3.parts,
      h.3.taken-is,
      gains_on old now new (written (planned plan) emit.has_begun h.3.parts) (link_writes (planned plan) h.3.parts) h.3.gains e.2,
      e.1,
      e.3,
    )
    second_ends (Err (fault.Write output)) e = (
      h.0,
      h.1,
      h.2,
      link_writes (planned plan) h.3.parts ++ flushes,
      passes.AreWrites.All h.3.parts h.3.taken-is,
      stops_in_on output old now new (written (planned plan) emit.has_begun h.3.parts)
          (link_writes (planned plan) h.3.parts ++ flushes) h.3.gains e.1,
    )
    second_ends (Err fault.NoMemory) e = (
      h.0,
      h.1,
      h.2,
      link_writes (planned plan) h.3.parts ++ flushes,
      passes.AreWrites.All h.3.parts h.3.taken-is,
      stops_between_on old now new (written (planned plan) emit.has_begun h.3.parts)
          (link_writes (planned plan) h.3.parts ++ flushes) h.3.gains e.1,
      inr (h.1, h.2, (h.3.parts, h.3.taken-is)),
    )
    second_ends (Err fault.BadOrder) e = absurd (none_some rule.BadOrder (sym h.3.between ∙ e.0))
      where
        none_some : (broken : ModuleFault) → None ≡ Some broken → ⊥
        none_some broken same = cc
    second_ends (Err stopped) e = absurd e
