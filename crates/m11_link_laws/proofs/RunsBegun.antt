-- A second pass that stops with known objects has written a beginning of the writes of all of them.
use Rattle.std.proofs.Common.{◌≡◌, ◌∙◌, ℕ, Bool, true, false, List, [], ◌∷◌, ◌++◌, append_assoc, Option, Some, None, Ok, Err, refl, sym, ap, subst, arith, length-append}
use Rattle.m11_base.specs.Feed.{BeginsWith, HasBytes, OneFailed, Text}
use Rattle.m11_obj_blocks.specs.Limited.{most_bytes}
use Rattle.m11_obj_blocks.specs.Tapes.{tape_block}
use Rattle.m11_link_modules.specs.Parts.{Part}
use Rattle.m11_link_layout.specs.declared.fault.LinkFault.{LinkFault}
use Rattle.m11_link_layout.specs.declared.fault.LinkFault.TheVariants as fault
use Rattle.m11_link_text.specs.Findings.{Findings}
use Rattle.m11_link.specs.Emit.{written}
use Rattle.m11_base_writes.specs.Passes.{AreKnown, IsKnown, pass_of}
use Rattle.m11_link.specs.Front.{front_writes}
use Rattle.m11_link.specs.Objects.{AreItems, BeginningItems, FailAfter, Item, ObjectItems, taken}
use Rattle.m11_link.specs.Objects as objects
use Rattle.m11_link.specs.Outputs.{Gains, Stops, link}
use Rattle.m11_base_writes.specs.Outputs.{Outputs, Write, files, to_product}
use Rattle.m11_link.specs.SecondPass.{AreWrites, ReadsSecond, begun_by}
use Rattle.m11_link.specs.SecondPass as passes
use Rattle.m11_link.specs.Written.{link_writes, parts_writes}
use Rattle.m11_link.proofs.ItemsAccepted.{PartsOrFault, accepted_after}
use Rattle.m11_link.proofs.Sole.{objects_same}
use Rattle.m11_link.proofs.Steady.{block_steady, object_comes, objects_come}
use Rattle.m11_link.proofs.WritesAfter.{parts_more}
use Rattle.m11_base_writes.specs.Writes.{LeavesBeginnings, gained}
use Rattle.m11_base_writes.proofs.Writing.{beginnings_left, flushed_beginnings, gained-append, keeps, stops_before}
use Rattle.m11_link_laws.proofs.ItemsParts.{items_parts, parts_are}

-- ---- the items of a beginning of an object are the first ones of the whole

abbrev Goes : ℕ → List ℕ → List Item → Type 0
Goes room bytes own = (more : List Item) × ObjectItems room bytes (own ++ more)

goes_on : (room : ℕ) (bytes rest : List ℕ) (own : List Item) → BeginningItems room bytes own
    → Goes room (bytes ++ rest) own
goes_on room bytes rest _
    (objects.BeginningItems.Begins {left = left} {rest = after} {content = content} {items = items} e fits h) =
    let others = goes_on left after rest items h in
    let seen = block_steady.ok bytes rest content after e in (
      others.0,
      objects.ObjectItems.Begins seen
          (omega (arith, fits, length-append bytes rest, length-append after rest)) others.1,
    )
goes_on room bytes rest _ (objects.BeginningItems.IsOpen short le) = object_comes room (bytes ++ rest)

both_are : (sources others : List (List ℕ)) (items more : List Item) → AreItems sources items → AreItems others more
    → AreItems (sources ++ others) (items ++ more)
both_are _ others _ more objects.AreItems.Nothing k = k
both_are _ others _ more (objects.AreItems.Object {source = source} {sources = sources} {own = own} {items = items} o h) k =
    let P : List Item → Type 0 = λ these. AreItems (source ∷ (sources ++ others)) these in
    subst P (sym (append_assoc own items more)) (objects.AreItems.Object o (both_are sources others items more h k))

-- ---- the objects before a failure, and a beginning of the next one, are a beginning of the known ones

record Stand (sources front : List (List ℕ)) (beginning : List ℕ) : Type 0 where
  left : List ℕ
  after : List (List ℕ)
  split : sources ≡ front ++ (beginning ++ left) ∷ after

begun_bytes : (text : Option Text) (source beginning : List ℕ) → IsKnown text source → BeginsWith text beginning
    → (left : List ℕ) × (source ≡ beginning ++ left)
begun_bytes None source beginning k h = absurd k
begun_bytes (Some text) source beginning k h = (h.0, sym k ∙ h.1)

known_bytes : (text : Option Text) (source other : List ℕ) → IsKnown text source → HasBytes text other → source ≡ other
known_bytes None source other k h = absurd k
known_bytes (Some text) source other k h = sym k ∙ h

stand : {F : Type 0} (text : F → Option Text) (faults : F → ℕ) (feeds feeds' : List F) (sources front : List (List ℕ))
    (beginning : List ℕ) → AreKnown text feeds sources → OneFailed text faults feeds feeds' front beginning
    → Stand sources front beginning
stand text faults [] feeds' sources front beginning k h = absurd h
stand text faults (old ∷ olds) [] sources front beginning k h = absurd h
stand text faults (old ∷ olds) (new ∷ news) [] front beginning k h = absurd k
stand text faults (old ∷ olds) (new ∷ news) (source ∷ sources) [] beginning k h =
    let b = begun_bytes (text old) source beginning k.0 h.0 in
    record { left = b.0; after = sources; split = ap (λ (xs : List ℕ). xs ∷ sources) b.1 }
stand text faults (old ∷ olds) (new ∷ news) (source ∷ sources) (first ∷ front) beginning k h =
    let more = stand text faults olds news sources front beginning k.1 h.2 in
    record {
      left = more.left;
      after = more.after;
      split = ap (λ (xs : List ℕ). xs ∷ sources) (known_bytes (text old) source first k.0 h.0)
          ∙ ap (λ (xs : List (List ℕ)). first ∷ xs) more.split;
    }

-- `some` is a beginning of `items`
abbrev Front : List Item → List Item → Type 0
Front items some = (more : List Item) × (items ≡ some ++ more)

failed_front : {F : Type 0} (text : F → Option Text) (faults : F → ℕ) (feeds feeds' : List F)
    (sources : List (List ℕ)) (items some : List Item) → AreItems sources items → AreKnown text feeds sources
    → FailAfter text faults feeds feeds' some → Front items some
failed_front text faults feeds feeds' sources items some are known f =
    let s = stand text faults feeds feeds' sources f.sources f.beginning known f.failed in
    let own = goes_on most_bytes f.beginning s.left f.own f.begun in
    let after = objects_come s.after in
    let all : List Item = f.before ++ ((f.own ++ own.0) ++ after.0) in
    let split : List (List ℕ) = f.sources ++ (f.beginning ++ s.left) ∷ s.after in
    let whole : AreItems split all =
    both_are f.sources ((f.beginning ++ s.left) ∷ s.after) f.before ((f.own ++ own.0) ++ after.0) f.are
    (objects.AreItems.Object own.1 after.1) in
    let P : List (List ℕ) → Type 0 = λ these. AreItems these items in
    let same : items ≡ all = objects_same split items all (subst P s.split are) whole in
    let moved : all ≡ some ++ (own.0 ++ after.0) =
    ap (λ (xs : List Item). f.before ++ xs) (append_assoc f.own own.0 after.0)
    ∙ sym (append_assoc f.before f.own (own.0 ++ after.0))
    ∙ ap (λ (xs : List Item). xs ++ (own.0 ++ after.0)) (sym f.items-are) in
    (own.0 ++ after.0, same ∙ moved)

-- ---- the writes of some items are a beginning of those of all

more_parts : (items some more : List Item) (parts these : List Part) → items ≡ some ++ more
    → taken [] items ≡ Ok parts → taken [] some ≡ Ok these → parts ≡ these ++ items_parts more
more_parts items some more parts these split e f =
    parts_are these more parts (sym (accepted_after [] some more these f) ∙ ap (taken []) (sym split) ∙ e)

abbrev Begins : List Write → List Write → Type 0
Begins all some = (more : List Write) × (all ≡ some ++ more)

parts_begin : (found : Findings) (these rest : List Part)
    → Begins (link_writes found (these ++ rest)) (front_writes found ++ parts_writes found these)
parts_begin found these rest =
    let last : List Write = to_product (tape_block found.transfer []) ∷ [] in
    let front = front_writes found in
    let some = parts_writes found these in
    let more = reported_from found these rest in (
      more.0 ++ last,
      ap (λ (ws : List Write). (front ++ ws) ++ last) more.1
          ∙ ap (λ (ws : List Write). ws ++ last) (sym (append_assoc front some more.0))
          ∙ append_assoc (front ++ some) more.0 last,
    )
  where
    reported_from : (found : Findings) (these rest : List Part)
        → Begins (parts_writes found (these ++ rest)) (parts_writes found these)
    reported_from found these rest = (_, parts_more found these rest)

written_begins : (found : Findings) (has_begun : Bool) (parts these rest : List Part) → parts ≡ these ++ rest
    → Begins (link_writes found parts) (written found has_begun these)
written_begins found false parts these rest split = (link_writes found parts, refl)
written_begins found true parts these rest split =
    let b = parts_begin found these rest in
    (b.0, ap (link_writes found) split ∙ b.1)

-- ---- the bytes written are a beginning

all_begun : (old new : Outputs) (all some more : List Write) → all ≡ some ++ more → Gains old new some
    → LeavesBeginnings link old new all
all_begun old new all some more split gains = λ output. (
  gained link output some,
  gained link output more,
  ap (gained link output) split ∙ gained-append link output some more,
  gains.texts output,
)

stopped_begun : (old new : Outputs) (all some more : List Write) (stopped : LinkFault) → all ≡ some ++ more
    → Stops old new some stopped → LeavesBeginnings link old new all
stopped_begun old new all some more stopped split stops =
    let P : List Write → Type 0 = λ ws. LeavesBeginnings link old new ws in
    subst P (sym split)
    (beginnings_left link old new (some ++ more) stopped (stops_before link old new some more stopped stops))

pub nothing_begun : (old new : Outputs) (all : List Write) → new ≡ old → LeavesBeginnings link old new all
nothing_begun old new all same =
    let P : Outputs → Type 0 = λ now. LeavesBeginnings link old now all in
    subst P (sym same) (λ output. ([], gained link output all, refl, keeps (old output).text))

module _ {F : Type 0} (text : F → Option Text) (faults : F → ℕ) (feeds feeds' : List F) (sources : List (List ℕ))
    (items : List Item) (are : AreItems sources items) (known : AreKnown text feeds sources) (found : Findings)
    (parts : List Part) (taken-is : taken [] items ≡ Ok parts) (old new : Outputs) where
  abbrev Begun : Type 0
  Begun = LeavesBeginnings link old new (link_writes found parts)

  -- if a feed fails in the second pass, each output has a beginning of the writes of all parts
  pub read_begun : ReadsSecond (pass_of text faults feeds feeds') found old new (Err fault.Read) → Begun
  read_begun h =
      let some : List Item = h.0 in
      let front = failed_front text faults feeds feeds' sources items some are known h.1 in
      let split = more_parts items some front.0 parts h.2.parts front.1 taken-is h.2.taken-is in
      let b = written_begins found (begun_by false some) parts h.2.parts (items_parts front.0) split in
      all_begun old new (link_writes found parts) (written found (begun_by false some) h.2.parts) b.0 b.1 h.2.gains

  one_parts : (r : PartsOrFault) (xs ys : List Part) → r ≡ Ok xs → r ≡ Ok ys → xs ≡ ys
  one_parts r xs ys e f = let g : ◌≡◌ {A = PartsOrFault} (Ok xs) (Ok ys) = sym e ∙ f in cc

  -- if an output fails or memory is refused, each output has a beginning of the writes of all parts
  pub stop_begun : (stopped : LinkFault) (others : List Item) → others ≡ items → (writes : List Write)
      → AreWrites found others writes → Stops old new writes stopped → Begun
  stop_begun stopped others same _ (passes.AreWrites.SoFar done more these begins taken-so) stops =
      let split = more_parts items done more parts these (sym same ∙ begins) taken-is taken-so in
      let b = written_begins found true parts these (items_parts more) split in
      stopped_begun old new (link_writes found parts) (written found true these) b.0 stopped b.1 stops
  stop_begun stopped others same _ (passes.AreWrites.All these taken-so) stops =
      let here : these ≡ parts = one_parts (taken [] items) these parts (ap (taken []) (sym same) ∙ taken-so) taken-is in
      let P : List Part → Type 0 = λ xs. LeavesBeginnings link old new (link_writes found xs) in
      subst P here (flushed_beginnings link old new (link_writes found these) files stopped stops)
