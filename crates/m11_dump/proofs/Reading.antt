-- The blocks of an object, read and shown one after another.
use Rattle.std.proofs.Common.{◌≡◌, ◌∙◌, ℕ, ◌+◌, ◌^◌, ◌<◌, ◌≤◌, ◌↔◌, Bool, true, false, IsTrue, IsErr, List, [], ◌∷◌, ◌++◌, append-nil, append_assoc, length, length-append, inl, inr, None, Result, Ok, Err, refl, sym, ap, subst, arith}
use Rattle.std.specs.List.{AllByRecursion, concat}
use Rattle.m11_obj_blocks.specs.declared.block_fault.BlockFault.{BlockFault}
use Rattle.m11_obj_blocks.specs.Blocks.{first_block, why_of}
use Rattle.m11_obj_blocks.specs.Limited.{EndsBetween, Position, Reads, Stops}
use Rattle.m11_obj_blocks.proofs.Limits.{took_nothing, took_then}
use Rattle.m11_obj.specs.Reading.{IsRecord, content_of}
use Rattle.m11_obj.specs.Records.{Content}
use Rattle.m11_base_writes.specs.States.{OutputState}
use Rattle.m11_dump.specs.ObjectTexts.{object_text, object_texts, point, texts_from}
use Rattle.m11_dump.specs.Objects.{AreInFront, DumpsObject, EndsObject, Gained, GivesRecords, HeldAt, HeldFits, LacksOne, PutsTexts, RefusesBlock, RefusesOne, ShowsBlock, ShowsLast, StopsAfter, StopsHeld, held_records, open_parts, point_of, texts_held, texts_next}
use Rattle.m11_dump.specs.Positions.{RecordShowsAt, content_start, count_read, placed_at, stop_byte}
use Rattle.m11_dump.specs.Records.{address_then, kept, records_of}
use Rattle.m11_link_modules.specs.Positions.{RulesState, known_of}
use Rattle.m11_dump.proofs.Gaining.{gained_all, gained_nothing, gained_texts, lacked_after, refused_after}
use Rattle.m11_dump.proofs.Judging.{follow_more, open_more}
use Rattle.m11_dump.proofs.Offsets.{read_is, stops_at}
use Rattle.m11_dump.specs.declared.fault.DumpFault.{DumpFault}
use Rattle.m11_dump.specs.declared.fault.DumpFault.TheVariants as fault
use Rattle.m11_dump.specs.declared.fault.LocatedFault.{LocatedFault}
use Rattle.m11_dump.specs.declared.stand.Stand.{Stand}
use Rattle.m11_dump.specs.declared.view.View.{View}

-- ---- one more block

records_more : (contents : List (List ℕ)) (content : List ℕ)
    → records_of (contents ++ content ∷ []) ≡ records_of contents ++ (kept (content_of content) ++ [])
records_more [] content = refl
records_more (first ∷ contents) content =
    ap (λ (l : List Content). kept (content_of first) ++ l) (records_more contents content)
    ∙ sym (append_assoc (kept (content_of first)) (records_of contents) (kept (content_of content) ++ []))

pub front_more : (contents : List (List ℕ)) (content bytes middle rest : List ℕ) → AreInFront contents bytes middle
    → first_block middle ≡ Ok (content, rest) → AreInFront (contents ++ content ∷ []) bytes rest
front_more [] content bytes middle rest h e = (rest, ap first_block h ∙ e, refl)
front_more (first ∷ contents) content bytes middle rest h e = (h.0, h.1, front_more contents content h.0 middle rest h.2 e)

all_more : (contents : List (List ℕ)) (content : List ℕ) → AllByRecursion IsRecord contents → IsRecord content
    → AllByRecursion IsRecord (contents ++ content ∷ [])
all_more [] content all one = (one, tt)
all_more (first ∷ contents) content all one = (all.0, all_more contents content all.1 one)

-- ---- how far a dump has come

-- these blocks were read, and everything before the pending text was shown; the dump has this state after them; the number of bytes
-- that may still be read bounds the number of blocks
pub record Dumping (view : View) (old here : Position) (output output' : OutputState) (s : Stand) (known : RulesState) (contents : List (List ℕ))
    : Type 0 where
  pub gives : GivesRecords old here contents
  pub put : List (List ℕ)
  pub gained : Gained (concat put) output output'
  pub leads : (more : List Content) → texts_from view (point 0 0 false) (records_of contents ++ more)
      ≡ put ++ texts_from view (point_of s.address s.held) (held_records s.held ++ more)
  pub fits : HeldFits s.held
  pub at : HeldAt s.address s.held
  pub counts : s.blocks ≡ length contents
  pub judged : known ≡ known_of (open_parts [] contents)
  pub whole : old.room ≡ 4194304
  pub few : s.blocks + here.room ≤ 4194304

pub dump_begins : (view : View) (old : Position) (output : OutputState) (s : Stand) (known : RulesState) → old.room ≡ 4194304
    → s.address ≡ 0 → s.blocks ≡ 0 → s.held ≡ None → known ≡ known_of [] → Dumping view old old output output s known []
dump_begins view old output s known room address blocks held none = rw (address, blocks, held) (record {
  gives = record {
    given = [];
    took = took_nothing old;
    blocks = λ rest. refl;
    records = tt;
    modules = tt;
  };
  put = [];
  gained = gained_nothing output;
  leads = λ more. refl;
  fits = tt;
  at = tt;
  counts = refl;
  judged = none;
  whole = room;
  few = omega (arith, room);
})

-- no block is read from no bytes
none_is_no_block : (content rest : List ℕ) → first_block [] ≡ Ok (content, rest) → ⊥
unfolding first_block
none_is_no_block content rest e = cc

some_given : (given content : List ℕ) → ((rest : List ℕ) → first_block (given ++ rest) ≡ Ok (content, rest)) → 0 < length given
some_given [] content is = absurd (none_is_no_block content [] (is []))
some_given (byte ∷ given) content is = omega arith

pub room_falls : (here there : Position) (content : List ℕ) → Reads first_block here there content → there.room < here.room
room_falls here there content r = omega (arith, some_given r.given content r.is, r.took.room)

-- a reader that returned a result hasn't failed
pub reads_on : {X : Type 0} (has_failed : Bool) (returned : X) → (IsTrue has_failed ↔ IsErr {E = BlockFault} (Ok returned))
    → has_failed ≡ false
reads_on false returned h = refl
reads_on {X} true returned h = absurd (let bad = h.0 refl in cc)

module _ (view : View) (old here : Position) (output output' : OutputState) (s : Stand) (known : RulesState) (contents : List (List ℕ))
    (d : Dumping view old here output output' s known contents) where
  pub blocks_fit : s.blocks < 2 ^ 32
  blocks_fit = omega (arith, d.few)

  pub held_fits : HeldFits s.held
  held_fits = d.fits

  pub held_at : HeldAt s.address s.held
  held_at = d.at

  number_is : s.blocks + 1 ≡ length contents + 1
  number_is = ap (λ (n : ℕ). n + 1) d.counts

  -- the texts of all blocks are those written and those of the pending text
  all_held : object_texts view contents ≡ d.put ++ texts_held view s.address s.held
  all_held = ap (λ (l : List Content). texts_from view (point 0 0 false) l) (sym (append-nil (records_of contents))) ∙ d.leads []

  all_next : (content : List ℕ) → object_texts view (contents ++ content ∷ []) ≡ d.put ++ texts_next view s.address s.held content
  all_next content = ap (λ (l : List Content). texts_from view (point 0 0 false) l) (records_more contents content)
      ∙ d.leads (kept (content_of content) ++ [])

  held_put : (final : OutputState) → Gained (concat (texts_held view s.address s.held)) output' final
      → Gained (object_text view contents) output final
  held_put final gained = gained_all output output' final (object_texts view contents) d.put (texts_held view s.address s.held) all_held
      d.gained gained

  next_put : (content : List ℕ) (final : OutputState) → Gained (concat (texts_next view s.address s.held content)) output' final
      → Gained (object_text view (contents ++ content ∷ [])) output final
  next_put content final gained = gained_all output output' final (object_texts view (contents ++ content ∷ [])) d.put
      (texts_next view s.address s.held content) (all_next content) d.gained gained

  held_refused : (final : OutputState) → RefusesOne (texts_held view s.address s.held) output' final
      → RefusesOne (object_texts view contents) output final
  held_refused final r = refused_after output output' final (object_texts view contents) d.put (texts_held view s.address s.held) all_held
      d.gained r

  held_lacked : (final : OutputState) → LacksOne (texts_held view s.address s.held) output' final
      → LacksOne (object_texts view contents) output final
  held_lacked final r = lacked_after output output' final (object_texts view contents) d.put (texts_held view s.address s.held) all_held
      d.gained r

  next_refused : (content : List ℕ) (final : OutputState) → RefusesOne (texts_next view s.address s.held content) output' final
      → RefusesOne (object_texts view (contents ++ content ∷ [])) output final
  next_refused content final r = refused_after output output' final (object_texts view (contents ++ content ∷ [])) d.put
      (texts_next view s.address s.held content) (all_next content) d.gained r

  next_lacked : (content : List ℕ) (final : OutputState) → LacksOne (texts_next view s.address s.held content) output' final
      → LacksOne (object_texts view (contents ++ content ∷ [])) output final
  next_lacked content final r = lacked_after output output' final (object_texts view (contents ++ content ∷ [])) d.put
      (texts_next view s.address s.held content) (all_next content) d.gained r

  -- if the pending text can't be shown, the dump stops for that reason
  last_fails : (new : Position) (final : OutputState) (inner : DumpFault) (count : ℕ) → count ≡ count_read new
      → PutsTexts {A = Unit {0}} (texts_held view s.address s.held) output' final (Err inner)
      → StopsAfter view inner here new output final contents d.gives.given count
  last_fails new final (fault.Block inner) count is h = absurd h
  last_fails new final (fault.Record inner) count is h = absurd h
  last_fails new final (fault.Rule inner) count is h = absurd h
  last_fails new final (fault.Tape inner) count is h = absurd h
  last_fails new final fault.Write count is h = (object_texts view contents, inl refl, held_refused final h, is)
  last_fails new final fault.NoMemory count is h = (is, inl (object_texts view contents, inl refl, held_lacked final h))

  last_stops : (new : Position) (final : OutputState) (said : LocatedFault) (count : ℕ) → count ≡ count_read new
      → ShowsLast view s.address s.held s.blocks count output' final (Err said) → DumpsObject view old new output final (Err said)
  last_stops new final said count is h =
      let P : LocatedFault → Type 0 = λ x. DumpsObject view old new output final (Err x) in
      subst P (sym h.2) (contents, here, d.gives, last_fails new final h.0 count is h.1, number_is)

  pub dump_ends : (new : Position) (final : OutputState) (count : ℕ) (result : Result (Unit {0}) LocatedFault) → count ≡ count_read new
      → Stops first_block here new EndsBetween → EndsObject view s (open_parts [] contents) count output' final result
      → DumpsObject view old new output final result
  dump_ends new final count (Ok done) is stops j = (contents, here, d.gives, held_put final j.0, stops, j.1)
  dump_ends new final count (Err said) is stops (inl j) =
      let P : LocatedFault → Type 0 = λ x. DumpsObject view old new output final (Err x) in
      let at = stops_at first_block EndsBetween old here new d.gives.given count d.whole d.gives.took stops is in
      subst P (sym j.1.2) (contents, here, d.gives, inr (at, j.1.1, held_put final j.0), number_is)
  dump_ends new final count (Err said) is stops (inr h) = last_stops new final said count is h

  pub block_refused : (new : Position) (final : OutputState) (inner : BlockFault) (said other : LocatedFault) (byte count : ℕ)
      → said ≡ placed_at (fault.Block inner) s.blocks byte → byte ≡ stop_byte (why_of inner) count → count ≡ count_read new
      → Stops first_block here new (why_of inner) → StopsHeld view s said count output' final other
      → DumpsObject view old new output final (Err other)
  block_refused new final inner said other byte count e is read h (inl t) =
      let P : LocatedFault → Type 0 = λ x. DumpsObject view old new output final (Err x) in
      let stops = stops_at first_block (why_of inner) old here new d.gives.given byte d.whole d.gives.took h
      (is ∙ ap (stop_byte (why_of inner)) read) in
      subst P (sym (t.0 ∙ e)) (contents, here, d.gives, (stops, held_put final t.1), number_is)
  block_refused new final inner said other byte count e is read h (inr t) = last_stops new final other count read t

  module _ (new : Position) (content : List ℕ) (r : Reads first_block here new content) (final : OutputState) where
    count_is : count_read new ≡ length (d.gives.given ++ r.given)
    count_is = read_is old here new d.gives.given r.given d.whole d.gives.took r.took.room

    refused : (f : DumpFault) (byte : ℕ) → RefusesBlock view s (open_parts [] contents) content (count_read new) output' final f byte
        → StopsAfter view f here new output final contents d.gives.given byte
    refused (fault.Block inner) byte h = absurd h
    refused (fault.Record inner) byte h =
        let P : ℕ → Type 0 = λ n. RecordShowsAt inner content n byte in (content, r, h.0, held_put final h.1, subst P count_is h.2)
    refused (fault.Rule inner) byte h =
        inl (content, r, h.0, h.1, next_put content final h.2, h.3 ∙ ap (content_start content) count_is)
    refused (fault.Tape inner) byte h = absurd h
    refused fault.Write byte (is, inl h) = (object_texts view contents, inl refl, held_refused final h, is)
    refused fault.Write byte (is, inr h) =
        (object_texts view (contents ++ content ∷ []), inr (content, r, h.0, refl), next_refused content final h.1, is)
    refused fault.NoMemory byte (is, inl h) = (is, inl (object_texts view contents, inl refl, held_lacked final h))
    refused fault.NoMemory byte (is, inr (one, inl h)) =
        (is, inl (object_texts view (contents ++ content ∷ []), inr (content, r, one, refl), next_lacked content final h))
    refused fault.NoMemory byte (is, inr (one, inr h)) = (is, inr (content, r, one, next_put content final h.0, h.1))

    pub block_stops : (count : ℕ) (known' : RulesState) (said : LocatedFault) → count ≡ count_read new
        → ShowsBlock view s (open_parts [] contents) known' content count output' final (Err said)
        → DumpsObject view old new output final (Err said)
    block_stops count known' said e h =
        let P : ℕ → Type 0 = λ n. RefusesBlock view s (open_parts [] contents) content n output' final said.fault said.byte in
        (contents, here, d.gives, refused said.fault said.byte (subst P e h.0), h.1 ∙ number_is)

    pub block_taken : (count : ℕ) (known' : RulesState) (s' : Stand)
        → ShowsBlock view s (open_parts [] contents) known' content count output' final (Ok s')
        → Dumping view old new output final s' known' (contents ++ content ∷ [])
    block_taken count known' s' h =
        let t = h.1 in
        let blocks : s'.blocks ≡ s.blocks + 1 = h.3 in
        let less = room_falls here new content r in
        let A : ℕ → Type 0 = λ a. HeldAt a s'.held in
        record {
          gives = record {
            given = d.gives.given ++ r.given;
            took = took_then old here new d.gives.given r.given d.gives.took r.took;
            blocks = λ rest.
                let R : List ℕ → Type 0 = λ bytes. AreInFront (contents ++ content ∷ []) bytes rest in
                subst R (sym (append_assoc d.gives.given r.given rest))
                (front_more contents content (d.gives.given ++ (r.given ++ rest)) (r.given ++ rest) rest
                (d.gives.blocks (r.given ++ rest)) (r.is rest));
            records = all_more contents content d.gives.records h.0;
            modules = follow_more [] contents content d.gives.modules h.4.0;
          };
          put = d.put ++ t.0;
          gained = gained_texts output output' final d.put t.0 d.gained t.1;
          leads = λ more.
              ap (λ (l : List Content). texts_from view (point 0 0 false) (l ++ more)) (records_more contents content)
              ∙ ap (λ (l : List Content). texts_from view (point 0 0 false) l)
              (append_assoc (records_of contents) (kept (content_of content) ++ []) more)
              ∙ ap (λ (l : List Content). texts_from view (point 0 0 false) (records_of contents ++ (l ++ more)))
              (append-nil (kept (content_of content)))
              ∙ d.leads (kept (content_of content) ++ more)
              ∙ ap (λ (l : List (List ℕ)). d.put ++ l) (t.2 more)
              ∙ sym (append_assoc d.put t.0 (texts_from view (point_of (address_then s.address (content_of content)) s'.held)
              (held_records s'.held ++ more)))
              ∙ ap (λ (a : ℕ). (d.put ++ t.0) ++ texts_from view (point_of a s'.held) (held_records s'.held ++ more)) (sym h.2);
          fits = t.3;
          at = subst A (sym h.2) t.4;
          counts = omega (arith, blocks, d.counts, length-append contents (content ∷ []));
          judged = h.4.1 ∙ ap known_of (sym (open_more [] contents content));
          whole = d.whole;
          few = omega (arith, d.few, less, blocks);
        }
