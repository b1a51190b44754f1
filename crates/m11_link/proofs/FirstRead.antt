-- The loops of the first pass.
use Rattle.std.proofs.Common.{◌≡◌, ◌∙◌, ℕ, ◌+◌, ◌<◌, ◌≤◌, Bool, true, false, if◌then◌else◌, List, [], ◌∷◌, ◌++◌, length, get_or, set, Option, Some, None, Result, Ok, Err, IfErr, inl, inr, refl, sym, ap, subst, append_assoc, ◌≢◌}
use Rattle.std.proofs.lemmas.List.{append-nil}
use Rattle.m11_base.specs.Feed.{Text}
use Rattle.m11_obj_blocks.specs.declared.block_fault.BlockFault.{BlockFault}
use Rattle.m11_obj_blocks.specs.declared.block_fault.BlockFault.TheVariants as block
use Rattle.m11_obj_blocks.specs.Blocks.{first_block, why_of}
use Rattle.m11_obj_blocks.specs.Limited.{EndsBetween, Reads, Stops, most_bytes, position}
use Rattle.m11_obj.specs.Reading.{IsRecord}
use Rattle.m11_link_modules.specs.Parts.{Part, EndOfFile, record_parts}
use Rattle.m11_link_modules.specs.declared.fault.ModuleFault.{ModuleFault}
use Rattle.m11_link_modules.specs.declared.fault.ModuleFault.TheVariants as rule
use Rattle.m11_link_layout.specs.Fault.{of_block}
use Rattle.m11_link_layout.specs.Plan.{LayoutEnds, PlanTables}
use Rattle.m11_link_layout.specs.Sections.{is_too_large}
use Rattle.m11_link_layout.specs.Layout.{LayoutState, LayoutAfter, AcceptsBlock, AcceptsParts}
use Rattle.m11_link_layout.specs.declared.fault.LinkFault.{LinkFault}
use Rattle.m11_link_layout.specs.declared.fault.LinkFault.TheVariants as fault
use Rattle.m11_base_writes.specs.Passes.{pass_of}
use Rattle.m11_link.specs.FirstPass.{AtBlock, LaysOut, LaysOutObject, PlansFirst, Reaches, ReadsFirst, LayoutBetween}
use Rattle.m11_link.specs.Objects.{Item, AreItems, BlockOf, ObjectEnds, Refused, GivesItems, ObjectItems, taken, unless_too_large}
use Rattle.m11_link.specs.Objects as objects
use Rattle.m11_base.proofs.FeedsRead.{SoFar, begin, all_read, failed_here, given_more, none_failed, read_more}
use Rattle.m11_link.proofs.ItemsAccepted.{Decides, bind_on, bind_stops, block_decides, block_taken, decides_more, decides_then, end_decides, end_taken, ends_again, ends_first, fault_after, one_taken, accepted_after}
use Rattle.m11_link.proofs.Room.{at_block, at_feed, has_room}
use Rattle.m11_link.proofs.Steady.{objects_come}
use Rattle.m11_link.proofs.ObjectsRead.{Walked, StopsObject, walk_begins, walk_ends, walk_more, walk_stops, walk_whole}

-- ---- one object

-- a feed has returned blocks, and the layout has accepted their parts
pub record Laid (text text' : Option Text) (faults faults' room bottom : ℕ) (before : List Part) (layout : LayoutState)
    : Type 0 where
  pub done : List Item
  pub walked : Walked text text' faults faults' room done
  pub parts : List Part
  pub taken-is : taken before done ≡ Ok parts
  pub stands : LayoutAfter bottom parts layout

pub laid_first : (text : Option Text) (faults bottom : ℕ) (before : List Part) (layout : LayoutState)
    → LayoutAfter bottom before layout → Laid text text faults faults most_bytes bottom before layout
laid_first text faults bottom before layout s = record {
  done = [];
  walked = walk_begins text faults;
  parts = before;
  taken-is = refl;
  stands = s;
}

-- if the items of an object decide a fault, this fault is a result of laying out the object
object_decided : (text text' : Option Text) (faults faults' bottom : ℕ) (before : List Part) (layout : LayoutState)
    (items : List Item) (stopped : LinkFault) → faults' ≡ faults → GivesItems text items → Decides before items stopped
    → (stopped ≡ fault.NoMemory → AtBlock text text' before)
    → LaysOutObject text text' faults faults' bottom before layout (Err stopped)
object_decided text text' faults faults' bottom before layout items fault.Read same g d at = absurd d
object_decided text text' faults faults' bottom before layout items fault.NoMemory same g d at = (same, at refl)
object_decided text text' faults faults' bottom before layout items stopped same g d at = (same, items, g, d)

-- no fault of a block is `NoMemory`
pub no_memory : (inner : BlockFault) → fault.NoMemory ≡ of_block inner → ⊥
no_memory block.Device is = cc
no_memory block.TooMuch is = cc
no_memory inner is = cc

-- the end of an object is refused for no memory
pub no_memory_at_end : (result : Result (Unit {0}) LinkFault) → IfErr result (λ stopped. stopped ≡ fault.BadOrder)
    → IfErr result (λ stopped. stopped ≢ fault.NoMemory)
no_memory_at_end (Ok done) is = tt
no_memory_at_end (Err stopped) is = λ e. let same : fault.BadOrder ≡ fault.NoMemory = sym is ∙ e in cc

module _ (text text1 : Option Text) (faults faults1 room1 bottom : ℕ) (before : List Part) (layout1 : LayoutState)
    (l : Laid text text1 faults faults1 room1 bottom before layout1) (text2 : Option Text) (faults2 room2 : ℕ)
    (layout2 : LayoutState) where
  module _ (content : List ℕ)
      (r : Reads first_block (position text1 faults1 room1) (position text2 faults2 room2) content) where
    walked : Walked text text2 faults faults2 room2 (l.done ++ BlockOf content ∷ [])
    walked = walk_more text text1 faults faults1 room1 l.done l.walked text2 faults2 room2 content r

    pub laid_more : AcceptsBlock bottom l.parts layout2 content (Ok tt) → IsRecord content
        → Laid text text2 faults faults2 room2 bottom before layout2
    laid_more t is = record {
      done = l.done ++ BlockOf content ∷ [];
      walked = walked;
      parts = l.parts ++ record_parts content;
      taken-is = accepted_after before l.done (BlockOf content ∷ []) l.parts l.taken-is
          ∙ one_taken l.parts (BlockOf content) (Ok (l.parts ++ record_parts content))
          (block_taken l.parts content is t.sound);
      stands = t;
    }

    lacks_here : AcceptsBlock bottom l.parts layout2 content (Err fault.NoMemory) → AtBlock text text2 before
    lacks_here t = at_block text text2 faults faults2 room2 before l.done content l.parts walked l.taken-is
        (has_room l.parts content t.0 t.1)

    pub laid_refused : (stopped : LinkFault) → AcceptsBlock bottom l.parts layout2 content (Err stopped)
        → LaysOutObject text text2 faults faults2 bottom before layout2 (Err stopped)
    laid_refused stopped t =
        let items = l.done ++ BlockOf content ∷ [] in
        let whole = walk_whole text text2 faults faults2 room2 items walked in
        let P : LinkFault → Type 0 = λ these. AcceptsBlock bottom l.parts layout2 content (Err these) in
        object_decided text text2 faults faults2 bottom before layout2 (items ++ whole.0) stopped walked.took.faults whole.1
        (decides_more before items whole.0 stopped
        (decides_then before l.parts l.done (BlockOf content ∷ []) stopped l.taken-is
        (block_decides bottom l.parts layout2 content stopped t)))
        (λ e. lacks_here (subst P e t))

  pub laid_ends : Stops first_block (position text1 faults1 room1) (position text2 faults2 room2) EndsBetween
      → (result : Result (Unit {0}) LinkFault) → AcceptsParts bottom l.parts layout2 (EndOfFile ∷ []) result
      → IfErr result (λ stopped. stopped ≢ fault.NoMemory)
      → LaysOutObject text text2 faults faults2 bottom before layout2 result
  laid_ends s (Ok done) t n =
      let end = walk_ends text text1 faults faults1 room1 l.done l.walked text2 faults2 room2 s in (
        end.1,
        l.done ++ ObjectEnds ∷ [],
        end.0,
        record {
          parts = l.parts ++ EndOfFile ∷ [];
          taken-is = accepted_after before l.done (ObjectEnds ∷ []) l.parts l.taken-is
              ∙ one_taken l.parts ObjectEnds (Ok (l.parts ++ EndOfFile ∷ [])) (end_taken l.parts t.sound);
          stands = record { stands = t; between = ends_again l.parts t.sound };
        },
      )
  laid_ends s (Err stopped) t n =
      let end = walk_ends text text1 faults faults1 room1 l.done l.walked text2 faults2 room2 s in
      object_decided text text2 faults faults2 bottom before layout2 (l.done ++ ObjectEnds ∷ []) stopped end.1 end.0
      (decides_then before l.parts l.done (ObjectEnds ∷ []) stopped l.taken-is
      (end_decides l.parts stopped t))
      (λ e. absurd (n e))

  stopped_so : (stopped : LinkFault) (inner : BlockFault) → stopped ≡ of_block inner
      → StopsObject text text1 faults faults1 room1 l.done l.walked text2 faults2 room2 stopped
      → LaysOutObject text text2 faults faults2 bottom before layout2 (Err stopped)
  stopped_so fault.Read inner is h = (h.0, l.done, h.1, (l.parts, l.taken-is))
  stopped_so fault.NoMemory inner is h = absurd (no_memory inner is)
  stopped_so stopped inner is h = (
    h.0,
    l.done ++ Refused stopped ∷ [],
    h.1,
    accepted_after before l.done (Refused stopped ∷ []) l.parts l.taken-is,
  )

  pub laid_stops : (inner : BlockFault)
      → Stops first_block (position text1 faults1 room1) (position text2 faults2 room2) (why_of inner)
      → (stopped : LinkFault) → stopped ≡ of_block inner
      → LaysOutObject text text2 faults faults2 bottom before layout2 (Err stopped)
  laid_stops inner s stopped is =
      let P : LinkFault → Type 0 = λ these. LaysOutObject text text2 faults faults2 bottom before layout2 (Err these) in
      subst P (sym is) (stopped_so (of_block inner) inner refl
      (walk_stops text text1 faults faults1 room1 l.done l.walked text2 faults2 room2 inner s))

-- ---- objects one after another

pub are_after : (sources others : List (List ℕ)) (items more : List Item) → AreItems sources items
    → AreItems others more
    → AreItems (sources ++ others) (items ++ more)
are_after _ others _ more objects.AreItems.Nothing h = h
are_after _ others _ more
    (objects.AreItems.Object {source = source} {sources = sources} {own = own} {items = items} o a) h =
    let P : List Item → Type 0 = λ these. AreItems (source ∷ (sources ++ others)) these in
    subst P (sym (append_assoc own items more))
    (objects.AreItems.Object o (are_after sources others items more a h))

pub one_object : (source : List ℕ) (own : List Item) → ObjectItems most_bytes source own → AreItems (source ∷ []) own
one_object source own o =
    let P : List Item → Type 0 = λ these. AreItems (source ∷ []) these in
    subst P (append-nil own) (objects.AreItems.Object o objects.AreItems.Nothing)

-- the feeds before this index were read, and the layout has accepted the parts of their objects
pub record LaidAll {F : Type 0} (text : F → Option Text) (faults : F → ℕ) (initial now : List F) (index : ℕ)
    (bottom : ℕ) (before : List Part) (layout : LayoutState) : Type 0 where
  pub sources : List (List ℕ)
  pub items : List Item
  pub feeds : SoFar text faults initial now index sources
  pub are : AreItems sources items
  pub reaches : Reaches bottom before items layout

module _ {F : Type 0} (text : F → Option Text) (faults : F → ℕ) where
  pub all_begin : (initial : List F) (bottom : ℕ) (before : List Part) (layout : LayoutState)
      → LayoutBetween bottom before layout → LaidAll text faults initial initial 0 bottom before layout
  all_begin initial bottom before layout s = record {
    sources = [];
    items = [];
    feeds = begin text faults initial;
    are = objects.AreItems.Nothing;
    reaches = record { parts = before; taken-is = refl; stands = s };
  }

  pub all_laid : (initial now : List F) (index bottom : ℕ) (before : List Part) (layout : LayoutState)
      → LaidAll text faults initial now index bottom before layout → length now ≤ index
      → LaysOut (pass_of text faults initial now) bottom before layout (Ok tt)
  all_laid initial now index bottom before layout l over =
      let all = all_read text faults initial now index l.sources l.feeds over in
      (all.0, l.items, record { sources = l.sources; given = all.1; are = l.are }, l.reaches)

  -- one more object is laid out
  module _ (initial now : List F) (index bottom : ℕ) (before : List Part) (layout new : LayoutState)
      (l : LaidAll text faults initial now index bottom before layout)
      (inside : index < length now) (d x z : F) (x-is : x ≡ get_or now index d) where
    pub object_laid : LaysOutObject (text x) (text z) (faults x) (faults z) bottom l.reaches.parts new (Ok tt)
        → LaidAll text faults initial (set now index z) (index + 1) bottom before new
    object_laid h = record {
      sources = l.sources ++ h.2.source ∷ [];
      items = l.items ++ h.1;
      feeds = read_more text faults initial now index l.sources l.feeds inside d x z x-is h.2.source h.2.has h.0;
      are = are_after l.sources (h.2.source ∷ []) l.items h.1 l.are (one_object h.2.source h.1 h.2.are);
      reaches = record {
        parts = h.3.parts;
        taken-is = accepted_after before l.items h.1 l.reaches.parts l.reaches.taken-is ∙ h.3.taken-is;
        stands = h.3.stands;
      };
    }

    pub object_stops : (stopped : LinkFault)
        → LaysOutObject (text x) (text z) (faults x) (faults z) bottom l.reaches.parts new (Err stopped)
        → LaysOut (pass_of text faults initial (set now index z)) bottom before new (Err stopped)
    object_stops fault.Read h = (
      l.items ++ h.1,
      record {
        sources = l.sources;
        beginning = h.2.beginning;
        failed = failed_here text faults initial now index l.sources l.feeds inside d x z x-is
            h.2.beginning h.2.has h.0;
        before = l.items;
        own = h.1;
        are = l.are;
        begun = h.2.are;
        items-are = refl;
      },
      (h.3.0, accepted_after before l.items h.1 l.reaches.parts l.reaches.taken-is ∙ h.3.1),
    )
    object_stops fault.NoMemory h = (
      none_failed text faults initial now index l.sources l.feeds inside d x z x-is h.0,
      at_feed text faults initial now index l.sources l.feeds inside d x z x-is before l.items l.reaches.parts l.are
          l.reaches.taken-is h.1,
    )
    object_stops stopped h =
        let given = given_more text faults initial now index l.sources l.feeds inside d x z x-is h.2.source h.2.has in
        let others = objects_come given.0 in (
          none_failed text faults initial now index l.sources l.feeds inside d x z x-is h.0,
          l.items ++ (h.1 ++ others.0),
          record {
            sources = l.sources ++ h.2.source ∷ given.0;
            given = given.1;
            are = are_after l.sources (h.2.source ∷ given.0) l.items (h.1 ++ others.0) l.are
                (objects.AreItems.Object h.2.are others.1);
          },
          accepted_after before l.items (h.1 ++ others.0) l.reaches.parts l.reaches.taken-is
              ∙ fault_after l.reaches.parts h.1 others.0 stopped h.3,
        )

-- ---- the whole first pass

pub layout_begins : (bottom : ℕ) (layout : LayoutState) → LayoutAfter bottom [] layout → LayoutBetween bottom [] layout
layout_begins bottom layout s = record { stands = s; between = ends_first }

fits_is : (bottom : ℕ) (parts : List Part) (is_large : Bool) → is_too_large bottom parts ≡ is_large
    → unless_too_large bottom parts ≡ (if is_large then Err fault.TooLarge else Ok parts)
fits_is bottom parts is_large e =
    ap (λ (b : Bool). if b then Err fault.TooLarge else Ok parts) e

module _ {F : Type 0} (text : F → Option Text) (faults : F → ℕ) (feeds feeds' : List F) (bottom : ℕ)
    (layout : LayoutState) where
  pub reading_stops : (stopped : LinkFault) → LaysOut (pass_of text faults feeds feeds') bottom [] layout (Err stopped)
      → ReadsFirst (pass_of text faults feeds feeds') bottom (Err stopped)
  reading_stops fault.Read h = h
  reading_stops fault.NoMemory h = (h.0, inl h.1)
  reading_stops stopped h =
      (h.0, h.1, h.2, bind_stops (taken [] h.1) (unless_too_large bottom) stopped h.3)

  pub reading_ends : (l : LaysOut (pass_of text faults feeds feeds') bottom [] layout (Ok tt)) (result : Result PlanTables LinkFault)
      → LayoutEnds bottom l.3.parts result → PlansFirst (pass_of text faults feeds feeds') bottom result
  reading_ends l (Ok plan) e = record {
    parts = l.3.parts;
    reads = (
      l.0,
      l.1,
      l.2,
      bind_on (taken [] l.1) (unless_too_large bottom) l.3.parts l.3.taken-is ∙ fits_is bottom l.3.parts false e.1.fits,
    );
    is = e.1;
  }
  reading_ends l (Err fault.TooLarge) e = (
    l.0,
    l.1,
    l.2,
    bind_on (taken [] l.1) (unless_too_large bottom) l.3.parts l.3.taken-is ∙ fits_is bottom l.3.parts true e.1,
  )
  reading_ends l (Err fault.BadOrder) e = absurd (none_some rule.BadOrder (sym l.3.stands.between ∙ e))
    where
      none_some : (broken : ModuleFault) → None ≡ Some broken → ⊥
      none_some broken same = cc
  reading_ends l (Err fault.NoMemory) e = (l.0, inr (l.1, l.2, (l.3.parts, l.3.taken-is)))
  reading_ends l (Err stopped) e = absurd e
