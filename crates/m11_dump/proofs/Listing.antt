-- The blocks of a library, read and shown one after another.
use Rattle.std.proofs.Common.{◌≡◌, ◌∙◌, ℕ, ◌+◌, ◌^◌, ◌<◌, ◌≤◌, false, List, [], ◌∷◌, ◌++◌, append-nil, append_assoc, length, length-append, inl, inr, Some, Result, Ok, Err, refl, sym, ap, subst, arith}
use Rattle.std.specs.List.{flat_map}
use Rattle.m11_obj.specs.Reading.{◌>>=◌, record_entries}
use Rattle.m11_obj.specs.Records.{Content}
use Rattle.m11_obj.specs.declared.fault.RecordFault.{RecordFault}
use Rattle.m11_obj_blocks.specs.declared.block_fault.BlockFault.{BlockFault}
use Rattle.m11_obj_blocks.specs.Blocks.{first_block, why_of}
use Rattle.m11_obj_blocks.specs.Limited.{EndsBetween, Position, Read, Reads, Stops, Took, Why}
use Rattle.m11_obj_blocks.proofs.Limits.{took_nothing, took_then}
use Rattle.m11_base_writes.specs.States.{OutputState}
use Rattle.m11_link_modules.specs.declared.fault.ModuleFault.TheVariants as rule
use Rattle.m11_dump.specs.Entries.{entry_line}
use Rattle.m11_dump.specs.Libraries.{AcceptsPart, DumpsLibrary, Finds, GivesBlocks, InOrder, LacksBlock, ListsBlocks, RefusesPart, again, block_lines, library_text, lines_as}
use Rattle.m11_dump.specs.LibraryParts.{IsSound, IsSoundAs, begins_as, is_read, part_of, stage_then}
use Rattle.m11_dump.specs.Objects.{AreInFront, FailsAt, FailsToPut, Gained}
use Rattle.m11_dump.specs.Positions.{StopsAt, count_read, bytes_before_stop, placed_at, stop_byte}
use Rattle.m11_dump.proofs.Gaining.{gained_nothing, gained_then}
use Rattle.m11_dump.proofs.Offsets.{given_room}
use Rattle.m11_dump.proofs.Reading.{front_more, room_falls}
use Rattle.m11_dump.specs.declared.fault.DumpFault.{DumpFault}
use Rattle.m11_dump.specs.declared.fault.DumpFault.TheVariants as fault
use Rattle.m11_dump.specs.declared.fault.LocatedFault.{LocatedFault}
use Rattle.m11_dump.specs.declared.library_parts.Part.{Part}
use Rattle.m11_dump.specs.declared.library_parts.Part.TheVariants.{Directory, Inner, ModuleEnd, LibraryEnd, Other}
use Rattle.m11_dump.specs.declared.library_parts.Stage.{Stage}
use Rattle.m11_dump.specs.declared.library_parts.Stage.TheVariants.{Between, Over}

-- ---- a block of which only the type is read

pub unread_begins : (part : Part) (content : List ℕ) → is_read part ≡ false → begins_as part content ≡ false
unread_begins Directory content e = absurd cc
unread_begins Inner content e = refl
unread_begins ModuleEnd content e = refl
unread_begins LibraryEnd content e = refl
unread_begins Other content e = absurd cc

pub unread_sound : (part : Part) (content : List ℕ) → is_read part ≡ false → IsSoundAs part content
unread_sound Directory content e = absurd cc
unread_sound Inner content e = tt
unread_sound ModuleEnd content e = tt
unread_sound LibraryEnd content e = tt
unread_sound Other content e = absurd cc

pub unread_lines : (part : Part) (content : List ℕ) → is_read part ≡ false → lines_as part content ≡ []
unread_lines Directory content e = absurd cc
unread_lines Inner content e = refl
unread_lines ModuleEnd content e = refl
unread_lines LibraryEnd content e = refl
unread_lines Other content e = absurd cc

-- ---- a directory whose lines weren't all written

-- the bytes of a record are the content of its block
pub record_is : (read : Result Content RecordFault) (bytes own : List ℕ) → Ok own ≡ (read >>= λ content. Ok bytes) → own ≡ bytes
record_is (Ok content) bytes own e = cc
record_is (Err inner) bytes own e = absurd cc

entries_refused : (stage : Stage) (content : List ℕ) (count : ℕ) (output output' : OutputState) (inner : DumpFault) → part_of content ≡ Directory
    → FailsToPut (flat_map entry_line (record_entries content)) output output' inner
    → RefusesPart stage content count output output' inner count
entries_refused stage content count output output' fault.Write part h =
    let P : Part → Type 0 = λ x. FailsAt (lines_as x content) output output' in (subst P (sym part) h, refl)
entries_refused stage content count output output' fault.NoMemory part h = (h, refl)
entries_refused stage content count output output' (fault.Block inner) part h = absurd h
entries_refused stage content count output output' (fault.Record inner) part h = absurd h
entries_refused stage content count output output' (fault.Rule inner) part h = absurd h
entries_refused stage content count output output' (fault.Tape inner) part h = absurd h

pub directory_refused : (stage : Stage) (blocks : ℕ) (content : List ℕ) (count byte : ℕ) (output output' : OutputState) (inner : DumpFault)
    (said : LocatedFault) → part_of content ≡ Directory → FailsToPut (flat_map entry_line (record_entries content)) output output' inner
    → byte ≡ count → said ≡ placed_at inner blocks byte → AcceptsPart stage blocks content count output output' (Err said)
directory_refused stage blocks content count byte output output' inner said part h at e =
    let P : LocatedFault → Type 0 = λ x. AcceptsPart stage blocks content count output output' (Err x) in
    let Q : ℕ → Type 0 = λ n. RefusesPart stage content count output output' inner n in
    subst P (sym e) (subst Q (sym at) (entries_refused stage content count output output' inner part h), refl)

-- ---- one more block

order_more : (first stage next : Stage) (contents : List (List ℕ)) (content : List ℕ) → InOrder first contents stage → IsSound content
    → stage_then stage content ≡ Some next → InOrder first (contents ++ content ∷ []) next
order_more first stage next [] content e sound then =
    let P : Stage → Type 0 = λ s. stage_then s content ≡ Some next in (next, sound, subst P (sym e) then, refl)
order_more first stage next (other ∷ contents) content o sound then =
    (o.0, o.1, o.2, order_more o.0 stage next contents content o.3 sound then)

text_more : (contents : List (List ℕ)) (content : List ℕ)
    → library_text (contents ++ content ∷ []) ≡ library_text contents ++ block_lines content
text_more [] content = append-nil (block_lines content)
text_more (first ∷ contents) content =
    ap (λ (text : List ℕ). block_lines first ++ text) (text_more contents content)
    ∙ sym (append_assoc (block_lines first) (library_text contents) (block_lines content))

-- ---- bytes that were read

module _ (start here new : Position) (front given : List ℕ) (before : ℕ) (whole : start.room ≡ 4194304) (took : Took start here given)
    (all : length front ≡ before) where
  count_is : (count : ℕ) (more : List ℕ) → here.room ≡ length more + new.room → count ≡ before + count_read new
      → count ≡ length ((front ++ given) ++ more)
  count_is count more room e =
      omega (arith, whole, took.room, room, e, all, length-append (front ++ given) more, length-append front given)

  stops_after : {Fault A : Type 0} (read : List ℕ → Read Fault A) (why : Why Fault) (count byte : ℕ) → Stops read here new why
      → count ≡ before + count_read new → byte ≡ stop_byte why count → StopsAt read why here new (front ++ given) byte
  stops_after read why count byte stops e is = (
    stops,
    is ∙ ap (stop_byte why) (count_is count (bytes_before_stop read here new why stops) (given_room read here new why stops) e),
  )

-- ---- how far a dump has come

-- these blocks were read and shown; the number of bytes that may still be read bounds the number of blocks
pub record Listing (first stage : Stage) (start here : Position) (output output' : OutputState) (blocks : ℕ) (contents : List (List ℕ)) : Type 0
  where
    pub gives : GivesBlocks start here contents
    pub order : InOrder first contents stage
    pub gained : Gained (library_text contents) output output'
    pub counts : blocks ≡ length contents + 1
    pub whole : start.room ≡ 4194304
    pub few : blocks + here.room ≤ 4194305

pub listing_begins : (first : Stage) (start : Position) (output : OutputState) → start.room ≡ 4194304
    → Listing first first start start output output 1 []
listing_begins first start output room = record {
  gives = record { given = []; took = took_nothing start; blocks = λ rest. refl };
  order = refl;
  gained = gained_nothing output;
  counts = refl;
  whole = room;
  few = omega (arith, room);
}

module _ (first stage : Stage) (start here : Position) (output output' : OutputState) (blocks : ℕ) (contents : List (List ℕ))
    (d : Listing first stage start here output output' blocks contents) where
  pub blocks_fit : blocks < 2 ^ 32
  blocks_fit = omega (arith, d.few)

  pub listing_taken : (new : Position) (content : List ℕ) (r : Reads first_block here new content) (final : OutputState) (count : ℕ)
      (next : Stage) → AcceptsPart stage blocks content count output' final (Ok next)
      → Listing first next start new output final (blocks + 1) (contents ++ content ∷ [])
  listing_taken new content r final count next h =
      let less = room_falls here new content r in
      let T : List ℕ → Type 0 = λ text. Gained text output final in
      record {
        gives = record {
          given = d.gives.given ++ r.given;
          took = took_then start here new d.gives.given r.given d.gives.took r.took;
          blocks = λ rest.
              let R : List ℕ → Type 0 = λ bytes. AreInFront (contents ++ content ∷ []) bytes rest in
              subst R (sym (append_assoc d.gives.given r.given rest))
              (front_more contents content (d.gives.given ++ (r.given ++ rest)) (r.given ++ rest) rest
              (d.gives.blocks (r.given ++ rest)) (r.is rest));
        };
        order = order_more first stage next contents content d.order h.0 h.1;
        gained = subst T (sym (text_more contents content)) (gained_then output output' final (library_text contents) (block_lines content) d.gained h.2);
        counts = omega (arith, d.counts, length-append contents (content ∷ []));
        whole = d.whole;
        few = omega (arith, d.few, less);
      }

module _ (first stage : Stage) (start here : Position) (output output' : OutputState) (blocks : ℕ) (contents : List (List ℕ))
    (d : Listing first stage start here output output' blocks contents) (front : List ℕ) (before : ℕ) (all : length front ≡ before) where
  number_is : blocks + 1 ≡ length contents + 2
  number_is = omega (arith, d.counts)

  pub listing_over : stage ≡ Over → ListsBlocks front first start here output output' (Ok tt)
  listing_over over =
      let P : Stage → Type 0 = λ s. InOrder first contents s in (contents, d.gives, subst P over d.order, d.gained)

  -- if no further block can be read, the dump stops as the definition says
  lacks : (new : Position) (inner : DumpFault) (byte : ℕ) (said : LocatedFault) → LacksBlock inner here new (front ++ d.gives.given) byte
      → said ≡ placed_at inner blocks byte → ListsBlocks front first start new output output' (Err said)
  lacks new inner byte said h e =
      let P : LocatedFault → Type 0 = λ x. ListsBlocks front first start new output output' (Err x) in
      subst P (sym e) (contents, here, stage, d.gives, d.order, inl (h, d.gained), number_is)

  pub listing_stops : (new : Position) (inner : BlockFault) (said : LocatedFault) (count byte : ℕ) → Stops first_block here new (why_of inner)
      → count ≡ before + count_read new → byte ≡ stop_byte (why_of inner) count → said ≡ placed_at (fault.Block inner) blocks byte
      → ListsBlocks front first start new output output' (Err said)
  listing_stops new inner said count byte stops e is said-is =
      lacks new (fault.Block inner) byte said
      (stops_after start here new front d.gives.given before d.whole d.gives.took all first_block (why_of inner) count byte stops e is) said-is

  pub listing_ends : (new : Position) (said : LocatedFault) (count : ℕ) → Stops first_block here new EndsBetween
      → count ≡ before + count_read new → said ≡ placed_at (fault.Rule rule.BadOrder) blocks count
      → ListsBlocks front first start new output output' (Err said)
  listing_ends new said count stops e said-is =
      lacks new (fault.Rule rule.BadOrder) count said
      (stops_after start here new front d.gives.given before d.whole d.gives.took all first_block EndsBetween count count stops e refl) said-is

  -- a further block was read
  module _ (new : Position) (content : List ℕ) (r : Reads first_block here new content) (final : OutputState) (count : ℕ)
      (e : count ≡ before + count_read new) where
    pub listing_refused : (said : LocatedFault) → AcceptsPart stage blocks content count output' final (Err said)
        → ListsBlocks front first start new output final (Err said)
    listing_refused said h =
        let P : ℕ → Type 0 = λ n. RefusesPart stage content n output' final said.fault said.byte in
        let is = count_is start here new front d.gives.given before d.whole d.gives.took all count r.given r.took.room e in (
          contents,
          here,
          stage,
          d.gives,
          d.order,
          inr (content, r, output', d.gained, subst P is h.0),
          h.1 ∙ number_is,
        )

-- ---- a library, after its first block

module _ (old start new : Position) (first lead : List ℕ) (finds : Finds old start first lead) (stage : Stage)
    (output middle output' : OutputState) (accepts : AcceptsPart Between 0 first (length lead) output middle (Ok stage)) where
  pub library_dumped : (result : Result (Unit {0}) LocatedFault) → ListsBlocks lead stage (again start) new middle output' result
      → DumpsLibrary old new output output' result
  library_dumped (Ok done) h = (
    first,
    lead,
    start,
    h.0,
    finds,
    h.1,
    (stage, accepts.0, accepts.1, h.2),
    gained_then output middle output' (block_lines first) (library_text h.0) accepts.2 h.3,
  )
  library_dumped (Err said) h = inr (inr (first, lead, start, finds, stage, middle, accepts, h))
