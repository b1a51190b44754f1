-- Where memory may be refused: at a block for which there is room.
use Rattle.std.proofs.Common.{◌≡◌, ◌∙◌, ℕ, ◌<◌, zero, suc, Bool, true, false, if◌then◌else◌, List, [], ◌∷◌, ◌++◌, append-nil, append_assoc, length, get_or, set, ◌⊎◌, inl, inr, Option, None, Ok, refl, sym, ap, subst, arith}
use Rattle.m11_base.specs.Feed.{Text}
use Rattle.m11_base.proofs.FeedsRead.{SoFar}
use Rattle.m11_base_writes.specs.Passes.{pass_of}
use Rattle.m11_obj_blocks.specs.Limited.{most_bytes}
use Rattle.m11_obj_blocks.proofs.BlockFrames.{nothing_read}
use Rattle.m11_obj.specs.Reading.{IsRecord, content_of}
use Rattle.m11_link_modules.specs.Parts.{Part, record_parts}
use Rattle.m11_link_modules.specs.Positions.{adds_name}
use Rattle.m11_link_modules.specs.Rules.{StopsAtName, fault_of, first_fault}
use Rattle.m11_link_modules.specs.declared.fault.ModuleFault.{ModuleFault}
use Rattle.m11_link_layout.proofs.Walking.{head_none, rest_none}
use Rattle.std.specs.Option.{option_or}
use Rattle.m11_link.specs.FirstPass.{AtBlock, AtFeed, HasRoom, to_first_name}
use Rattle.m11_link.specs.Objects.{BlockOf, Item, ObjectEnds, ObjectItems, taken}
use Rattle.m11_link.specs.Objects as objects
use Rattle.m11_link.proofs.ItemsAccepted.{record_read}
use Rattle.m11_link.proofs.ObjectsRead.{Walked}

-- ---- a record up to its first name

none_then : (first rest : Option ModuleFault) → first ≡ None → rest ≡ None → option_or first rest ≡ None
none_then first rest e f = let P : Option ModuleFault → Type 0 = λ o. option_or o rest ≡ None in subst P (sym e) f

-- if a part has no fault, and those after it have none up to their first name, they have none up to the first name of all
cut_sound : (before : List Part) (part : Part) (parts : List Part) → fault_of before part ≡ None
    → first_fault (before ++ part ∷ []) (to_first_name parts) ≡ None
    → first_fault before (to_first_name (part ∷ parts)) ≡ None
unfolding first_fault
cut_sound before part parts e f = by (adds_name part)
  where
    by : (adds : Bool) → first_fault before (part ∷ (if adds then [] else to_first_name parts)) ≡ None
    by true = none_then (fault_of before part) None e refl
    by false = none_then (fault_of before part) (first_fault (before ++ part ∷ []) (to_first_name parts)) e f

sound_fits : (before parts : List Part) → first_fault before parts ≡ None → first_fault before (to_first_name parts) ≡ None
unfolding first_fault
sound_fits before [] e = e
sound_fits before (part ∷ parts) e =
    let rest = first_fault (before ++ part ∷ []) parts in
    cut_sound before part parts (head_none (fault_of before part) rest e)
    (sound_fits (before ++ part ∷ []) parts (rest_none (fault_of before part) rest e))

name_fits : (before some : List Part) (part : Part) (left : List Part) → first_fault before (some ++ part ∷ []) ≡ None
    → adds_name part ≡ true → first_fault before (to_first_name (some ++ part ∷ left)) ≡ None
unfolding first_fault
name_fits before [] part left e adds =
    let P : Bool → Type 0 = λ b. first_fault before (part ∷ (if b then [] else to_first_name left)) ≡ None in
    subst P (sym adds) e
name_fits before (first ∷ some) part left e adds =
    let rest = first_fault (before ++ first ∷ []) (some ++ part ∷ []) in
    cut_sound before first (some ++ part ∷ left) (head_none (fault_of before first) rest e)
    (name_fits (before ++ first ∷ []) some part left (rest_none (fault_of before first) rest e) adds)

fits : (before parts : List Part) → StopsAtName (first_fault before) parts ⊎ (first_fault before parts ≡ None)
    → first_fault before (to_first_name parts) ≡ None
fits before parts (inl s) =
    let P : List Part → Type 0 = λ these. first_fault before (to_first_name these) ≡ None in
    subst P (sym s.split) (name_fits before s.taken s.part s.left s.sound s.adds)
fits before parts (inr e) = sound_fits before parts e

pub has_room : (before : List Part) (content : List ℕ) → IsRecord content
    → StopsAtName (first_fault before) (record_parts content) ⊎ (first_fault before (record_parts content) ≡ None)
    → HasRoom before content
has_room before content is h = (record_parts content, record_read (content_of content) is, fits before (record_parts content) h)

-- ---- the bytes of a block, and no others

pub at_block : (text text' : Option Text) (faults faults' room : ℕ) (before : List Part) (done : List Item) (content : List ℕ)
    (parts : List Part) → Walked text text' faults faults' room (done ++ BlockOf content ∷ []) → taken before done ≡ Ok parts
    → HasRoom parts content → AtBlock text text' before
at_block text text' faults faults' room before done content parts w taken-is r =
    let block : List Item = BlockOf content ∷ [] in
    let P : List ℕ → Type 0 = λ bytes. ObjectItems most_bytes bytes ((done ++ block) ++ ObjectEnds ∷ []) in
    let Q : List Item → Type 0 = λ these. ObjectItems most_bytes w.given these in
    let whole = w.passed.whole [] (ObjectEnds ∷ []) (objects.ObjectItems.Ends nothing_read (omega arith)) in
    let are = subst Q (append_assoc done block (ObjectEnds ∷ [])) (subst P (append-nil w.given) whole) in
    (w.given, w.took.gave, done, content, are, parts, taken-is, r)

-- ---- the feed that a loop reads

split_part : {F : Type 0} (done left : List F) (index : ℕ) → length done ≡ index → index < length (done ++ left)
    → (x : F) × (rest : List F) × (left ≡ x ∷ rest)
split_part [] [] index e h = absurd (omega arith)
split_part [] (x ∷ left) index e h = (x, left, refl)
split_part (y ∷ done) left zero e h = absurd (omega arith)
split_part (y ∷ done) left (suc index) e h = split_part done left index (omega arith) (omega arith)

get_part : {F : Type 0} (done rest : List F) (x d : F) → get_or (done ++ x ∷ rest) (length done) d ≡ x
get_part [] rest x d = refl
get_part (y ∷ done) rest x d = get_part done rest x d

set_part : {F : Type 0} (done rest : List F) (x new : F) → set (done ++ x ∷ rest) (length done) new ≡ done ++ new ∷ rest
set_part [] rest x new = refl
set_part {F = F} (y ∷ done) rest x new = ap (λ (t : List F). y ∷ t) (set_part done rest x new)

module _ {F : Type 0} (text : F → Option Text) (faults : F → ℕ) (initial now : List F) (index : ℕ) (sources : List (List ℕ))
    (s : SoFar text faults initial now index sources) (inside : index < length now) (d x z : F) (x-is : x ≡ get_or now index d)
  where
    part : (y : F) × (rest : List F) × (s.left ≡ y ∷ rest)
    part = split_part s.done_now s.left index s.index_now (omega (arith, ap length s.now-is))

    -- the feeds after the one at the index
    pub feeds_left : List F
    feeds_left = part.1

    now_here : now ≡ s.done_now ++ part.0 ∷ part.1
    now_here = s.now-is ∙ ap (λ (t : List F). s.done_now ++ t) part.2

    x_here : x ≡ part.0
    x_here = x-is ∙ ap (λ (t : List F). get_or t index d) now_here
        ∙ ap (λ i. get_or (s.done_now ++ part.0 ∷ part.1) i d) (sym s.index_now)
        ∙ get_part s.done_now part.1 part.0 d

    pub old_feeds : initial ≡ s.done ++ x ∷ feeds_left
    unfolding feeds_left
    old_feeds = s.initial-is ∙ ap (λ (t : List F). s.done ++ t) part.2
        ∙ ap (λ (y : F). s.done ++ y ∷ part.1) (sym x_here)

    pub new_feeds : set now index z ≡ s.done_now ++ z ∷ feeds_left
    unfolding feeds_left
    new_feeds = ap (λ (t : List F). set t index z) now_here
        ∙ ap (λ i. set (s.done_now ++ part.0 ∷ part.1) i z) (sym s.index_now)
        ∙ set_part s.done_now part.1 part.0 z

    -- if memory is refused for a block of this feed, it is refused so in the pass
    pub at_feed : (before : List Part) (items : List Item) (parts : List Part) → objects.AreItems sources items
        → taken before items ≡ Ok parts → AtBlock (text x) (text z) parts
        → AtFeed (pass_of text faults initial (set now index z)) before
    at_feed before items parts are taken-is h = (
      s.done,
      s.done_now,
      feeds_left,
      x,
      z,
      old_feeds,
      new_feeds,
      items,
      record { sources = sources; given = s.given; are = are },
      parts,
      taken-is,
      h,
    )
