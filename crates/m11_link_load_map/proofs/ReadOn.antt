-- The loops that read objects and record facts, by means of those of a link's first pass.
use Rattle.std.proofs.Common.{◌≡◌, ◌∙◌, ℕ, ◌+◌, ◌<◌, ◌≤◌, ◌⊎◌, Bool, if◌then◌else◌, List, [], ◌∷◌, ◌++◌, length, get_or, set, Option, Some, None, Result, Ok, Err, IfErr, refl, sym, ap, subst, inl, inr, ◌≢◌}
use Rattle.m11_base.specs.Feed.{Text}
use Rattle.m11_base.proofs.FeedsRead.{all_read, begin, read_more}
use Rattle.m11_obj_blocks.specs.Blocks.{first_block}
use Rattle.m11_obj_blocks.specs.Limited.{EndsBetween, Reads, Stops, most_bytes, position}
use Rattle.m11_link_modules.specs.Parts.{Part, EndOfFile, record_parts}
use Rattle.m11_link_modules.specs.declared.fault.ModuleFault.{ModuleFault}
use Rattle.m11_link_modules.specs.declared.fault.ModuleFault.TheVariants as rule
use Rattle.m11_obj.specs.Reading.{IsRecord}
use Rattle.m11_link_layout.specs.Layout.{LayoutState, LayoutAfter, AcceptsBlock, AcceptsParts}
use Rattle.m11_link_layout.specs.Plan.{LayoutEnds, PlanTables}
use Rattle.m11_link_layout.specs.declared.fault.LinkFault.{LinkFault}
use Rattle.m11_link_layout.specs.declared.fault.LinkFault.TheVariants as fault
use Rattle.m11_base_writes.specs.Passes.{pass_of}
use Rattle.m11_link.specs.FirstPass.{LaysOutObject, LayoutBetween}
use Rattle.m11_link.specs.Objects.{BlockOf, ObjectEnds, taken, unless_too_large}
use Rattle.m11_link.specs.Objects as objects
use Rattle.m11_link.proofs.FirstRead.{Laid, LaidAll, are_after, laid_ends, object_stops, one_object, reading_ends, reading_stops}
use Rattle.m11_link.proofs.ItemsAccepted.{bind_on, block_taken, end_taken, ends_again, one_taken, rest_sound, accepted_after}
use Rattle.m11_link.proofs.ObjectsRead.{walk_begins, walk_ends, walk_more}
use Rattle.m11_link_load_map.specs.Noted.{noted_of}
use Rattle.m11_link_load_map.specs.Reading.{NotedBetween, NotesAll, NotesObject, NotesObjects, NotedAfter}
use Rattle.m11_link_load_map.specs.Stopping.{StopsIn}
use Rattle.m11_link_load_map.specs.declared.fault.ObjectsFault.{ObjectsFault}
use Rattle.m11_link_load_map.specs.declared.noted.MapFact.{MapFact}
use Rattle.m11_link_load_map.proofs.NotedParts.{noted-append, noted_end}
use Rattle.m11_link_load_map.proofs.StoppedIn.{stops_in}

-- ---- one block

-- if a layout accepted a block, and its facts were recorded, this is the state after the block
pub block_noted : (bottom : ℕ) (before : List Part) (bytes : List ℕ) (layout layout' : LayoutState) (noted noted' : List MapFact)
    → NotedAfter bottom before layout noted → LayoutAfter bottom (before ++ record_parts bytes) layout'
    → noted' ≡ noted ++ noted_of (record_parts bytes)
    → NotedAfter bottom (before ++ record_parts bytes) layout' noted'
block_noted bottom before bytes layout layout' noted noted' s laid e = record {
  laid = laid;
  noted-are = e ∙ ap (λ (these : List MapFact). these ++ noted_of (record_parts bytes)) s.noted-are
      ∙ sym (noted-append before (record_parts bytes));
}

-- if a layout accepted a block, but memory was refused for its facts, the block may be refused with `NoMemory`
pub block_lost : (bottom : ℕ) (before : List Part) (bytes : List ℕ) (layout : LayoutState) → IsRecord bytes
    → LayoutAfter bottom (before ++ record_parts bytes) layout
    → AcceptsBlock bottom before layout bytes (Err fault.NoMemory)
block_lost bottom before bytes layout is s = (is, inr (rest_sound [] before (record_parts bytes) s.sound))

-- ---- one object

-- blocks were read from the feed, their parts were accepted, and their facts were recorded
pub record Seen (text text' : Option Text) (faults faults' room bottom : ℕ) (before : List Part) (layout : LayoutState)
    (noted : List MapFact) : Type 0 where
  pub laid : Laid text text' faults faults' room bottom before layout
  pub noted-are : noted ≡ noted_of laid.parts

pub seen_first : (text : Option Text) (faults bottom : ℕ) (before : List Part) (layout : LayoutState) (noted : List MapFact)
    → NotedAfter bottom before layout noted → Seen text text faults faults most_bytes bottom before layout noted
seen_first text faults bottom before layout noted s = record {
  laid = record {
    done = [];
    walked = walk_begins text faults;
    parts = before;
    taken-is = refl;
    stands = s.laid;
  };
  noted-are = s.noted-are;
}

pub stands_here : (text text' : Option Text) (faults faults' room bottom : ℕ) (before : List Part) (layout : LayoutState)
    (noted : List MapFact) (l : Seen text text' faults faults' room bottom before layout noted)
    → NotedAfter bottom l.laid.parts layout noted
stands_here text text' faults faults' room bottom before layout noted l = record {
  laid = l.laid.stands;
  noted-are = l.noted-are;
}

module _ (text text1 : Option Text) (faults faults1 room1 bottom : ℕ) (before : List Part) (layout1 : LayoutState)
    (noted1 : List MapFact) (l : Seen text text1 faults faults1 room1 bottom before layout1 noted1) (text2 : Option Text)
    (faults2 room2 : ℕ) (layout2 : LayoutState) (noted2 : List MapFact) where
  pub seen_more : (content : List ℕ) → Reads first_block (position text1 faults1 room1) (position text2 faults2 room2) content
      → NotedAfter bottom (l.laid.parts ++ record_parts content) layout2 noted2 → IsRecord content
      → Seen text text2 faults faults2 room2 bottom before layout2 noted2
  seen_more content r s is = record {
    laid = record {
      done = l.laid.done ++ BlockOf content ∷ [];
      walked = walk_more text text1 faults faults1 room1 l.laid.done l.laid.walked text2 faults2 room2 content r;
      parts = l.laid.parts ++ record_parts content;
      taken-is = accepted_after before l.laid.done (BlockOf content ∷ []) l.laid.parts l.laid.taken-is
          ∙ one_taken l.laid.parts (BlockOf content) (Ok (l.laid.parts ++ record_parts content))
          (block_taken l.laid.parts content is s.laid.sound);
      stands = s.laid;
    };
    noted-are = s.noted-are;
  }

  pub seen_ends : Stops first_block (position text1 faults1 room1) (position text2 faults2 room2) EndsBetween
      → (result : Result (Unit {0}) LinkFault) → AcceptsParts bottom l.laid.parts layout2 (EndOfFile ∷ []) result
      → IfErr result (λ stopped. stopped ≢ fault.NoMemory)
      → noted2 ≡ noted1 → NotesObject text text2 faults faults2 bottom before layout2 noted2 result
  seen_ends s (Ok done) t n e =
      let end = walk_ends text text1 faults faults1 room1 l.laid.done l.laid.walked text2 faults2 room2 s in (
        end.1,
        l.laid.done ++ ObjectEnds ∷ [],
        end.0,
        record {
          reaches = record {
            parts = l.laid.parts ++ EndOfFile ∷ [];
            taken-is = accepted_after before l.laid.done (ObjectEnds ∷ []) l.laid.parts l.laid.taken-is
                ∙ one_taken l.laid.parts ObjectEnds (Ok (l.laid.parts ++ EndOfFile ∷ [])) (end_taken l.laid.parts t.sound);
            stands = record { stands = t; between = ends_again l.laid.parts t.sound };
          };
          noted-are = e ∙ l.noted-are ∙ sym (noted_end l.laid.parts);
        },
      )
  seen_ends s (Err stopped) t n e =
      laid_ends text text1 faults faults1 room1 bottom before layout1 l.laid text2 faults2 room2 layout2 s (Err stopped) t n

-- ---- objects one after another

pub record SeenAll {F : Type 0} (text : F → Option Text) (faults : F → ℕ) (initial now : List F) (index : ℕ)
    (bottom : ℕ) (before : List Part) (layout : LayoutState) (noted : List MapFact) : Type 0 where
  pub laid : LaidAll text faults initial now index bottom before layout
  pub noted-are : noted ≡ noted_of laid.reaches.parts

module _ {F : Type 0} (text : F → Option Text) (faults : F → ℕ) where
  pub seen_begin : (initial : List F) (bottom : ℕ) (before : List Part) (layout : LayoutState) (noted : List MapFact)
      → NotedBetween bottom before layout noted
      → SeenAll text faults initial initial 0 bottom before layout noted
  seen_begin initial bottom before layout noted s = record {
    laid = record {
      sources = [];
      items = [];
      feeds = begin text faults initial;
      are = objects.AreItems.Nothing;
      reaches = record { parts = before; taken-is = refl; stands = s.between };
    };
    noted-are = s.noted-are;
  }

  pub all_seen : (initial now : List F) (index bottom : ℕ) (before : List Part) (layout : LayoutState) (noted : List MapFact)
      → SeenAll text faults initial now index bottom before layout noted → length now ≤ index
      → NotesObjects (pass_of text faults initial now) bottom before layout noted (Ok tt)
  all_seen initial now index bottom before layout noted l over =
      let all = all_read text faults initial now index l.laid.sources l.laid.feeds over in (
        all.0,
        l.laid.items,
        record { sources = l.laid.sources; given = all.1; are = l.laid.are },
        record { reaches = l.laid.reaches; noted-are = l.noted-are },
      )

  pub stands_now : (initial now : List F) (index bottom : ℕ) (before : List Part) (layout : LayoutState) (noted : List MapFact)
      (l : SeenAll text faults initial now index bottom before layout noted)
      → NotedAfter bottom l.laid.reaches.parts layout noted
  stands_now initial now index bottom before layout noted l = record {
    laid = l.laid.reaches.stands.stands;
    noted-are = l.noted-are;
  }

  -- if the object at the index was accepted, the objects before the next index were
  pub object_seen : (initial now : List F) (index bottom : ℕ) (before : List Part) (layout new : LayoutState) (noted noted' : List MapFact)
      (l : SeenAll text faults initial now index bottom before layout noted)
      (inside : index < length now) (d x z : F) (x-is : x ≡ get_or now index d)
      → NotesObject (text x) (text z) (faults x) (faults z) bottom l.laid.reaches.parts new noted' (Ok tt)
      → SeenAll text faults initial (set now index z) (index + 1) bottom before new noted'
  object_seen initial now index bottom before layout new noted noted' l inside d x z x-is h = record {
    laid = record {
      sources = l.laid.sources ++ h.2.source ∷ [];
      items = l.laid.items ++ h.1;
      feeds = read_more text faults initial now index l.laid.sources l.laid.feeds inside d x z x-is h.2.source h.2.has h.0;
      are = are_after l.laid.sources (h.2.source ∷ []) l.laid.items h.1 l.laid.are (one_object h.2.source h.1 h.2.are);
      reaches = record {
        parts = h.3.reaches.parts;
        taken-is = accepted_after before l.laid.items h.1 l.laid.reaches.parts l.laid.reaches.taken-is ∙ h.3.reaches.taken-is;
        stands = h.3.reaches.stands;
      };
    };
    noted-are = h.3.noted-are;
  }

  -- if reading the object at the index stops, the result has its fault and the index
  pub object_lost : (initial now : List F) (index bottom : ℕ) (before : List Part) (layout new : LayoutState) (noted noted' : List MapFact)
      (l : SeenAll text faults initial now index bottom before layout noted)
      (inside : index < length now) (d x z : F) (x-is : x ≡ get_or now index d) (count : ℕ) (stopped : LinkFault) → count ≡ index
      → LaysOutObject (text x) (text z) (faults x) (faults z) bottom l.laid.reaches.parts new (Err stopped)
      → NotesObjects (pass_of text faults initial (set now index z)) bottom before new noted'
      (Err (record { object_index = Some count; fault = stopped }))
  object_lost initial now index bottom before layout new noted noted' l inside d x z x-is count stopped same h =
      let P : ℕ → Type 0 = λ i. StopsIn (pass_of text faults initial (set now index z)) bottom before i stopped in (
        object_stops text faults initial now index bottom before layout new l.laid inside d x z x-is stopped h,
        subst P (sym same) (stops_in text faults initial now index bottom before layout new l.laid inside d x z x-is stopped h),
      )

-- ---- all objects

module _ {F : Type 0} (text : F → Option Text) (faults : F → ℕ) (feeds feeds' : List F) (bottom : ℕ)
    (layout : LayoutState) (noted : List MapFact) where
  pub all_stop : (stopped : ObjectsFault) → NotesObjects (pass_of text faults feeds feeds') bottom [] layout noted (Err stopped)
      → NotesAll (pass_of text faults feeds feeds') bottom noted (Err stopped)
  all_stop stopped h = (reading_stops text faults feeds feeds' bottom layout stopped.fault h.0, h.1)

  module _ (l : NotesObjects (pass_of text faults feeds feeds') bottom [] layout noted (Ok tt)) where
    after_all : (stopped : LinkFault) → LayoutEnds bottom l.3.reaches.parts (Err stopped)
        → (stopped ≡ fault.TooLarge) ⊎ (stopped ≡ fault.NoMemory)
    after_all fault.TooLarge e = inl refl
    after_all fault.NoMemory e = inr refl
    after_all fault.BadOrder e = absurd (none_some rule.BadOrder (sym l.3.reaches.stands.between ∙ e))
      where
        none_some : (broken : ModuleFault) → None ≡ Some broken → ⊥
        none_some broken same = cc
    after_all stopped e = absurd e

    pub all_refused : (stopped : LinkFault) → LayoutEnds bottom l.3.reaches.parts (Err stopped)
        → NotesAll (pass_of text faults feeds feeds') bottom noted (Err (record { object_index = None; fault = stopped }))
    all_refused stopped e = (
      reading_ends text faults feeds feeds' bottom layout (l.0, l.1, l.2, l.3.reaches) (Err stopped) e,
      ((l.1, l.2, (l.3.reaches.parts, l.3.reaches.taken-is)), after_all stopped e),
    )

    pub all_end : (plan : PlanTables) → LayoutEnds bottom l.3.reaches.parts (Ok plan)
        → NotesAll (pass_of text faults feeds feeds') bottom noted (Ok plan)
    all_end plan e = (
      l.0,
      l.1,
      l.2,
      l.3.reaches.parts,
      bind_on (taken [] l.1) (unless_too_large bottom) l.3.reaches.parts l.3.reaches.taken-is
          ∙ ap (λ (b : Bool). if b then Err fault.TooLarge else Ok l.3.reaches.parts) e.1.fits,
      e.1,
      l.3.noted-are,
    )

pub noted_begins : (bottom : ℕ) (layout : LayoutState) (noted : List MapFact) → LayoutBetween bottom [] layout → noted ≡ []
    → NotedBetween bottom [] layout noted
unfolding noted_of
noted_begins bottom layout noted s e = record { between = s; noted-are = e }
