-- The bytes of joined files hold the blocks of each file in order.
use Rattle.std.proofs.Common.{◌≡◌, ◌∙◌, ℕ, ◌+◌, ◌-◌, ◌≤◌, List, [], ◌∷◌, ◌++◌, length, append_assoc, append-nil, Ok, Err, refl, sym, ap, subst, arith, inl, inr}
use Rattle.std.specs.List.{AllByRecursion, concat}
use Rattle.std.proofs.lemmas.List.{map-append}
use Rattle.m11_obj_blocks.specs.Limited.{Between, most_bytes}
use Rattle.m11_obj_blocks.specs.Blocks.{AreRead, first_block}
use Rattle.m11_obj_blocks.proofs.BlockFrames.{begun, nothing_read, start_within, zero_in_front}
use Rattle.m11_link_modules.specs.Parts.{Part}
use Rattle.m11_link.specs.Objects.{AreItems, BlockOf, Item, ObjectEnds, ObjectItems, outcome, taken, accepted_item}
use Rattle.m11_link.specs.Objects as objects
use Rattle.m11_link.proofs.ItemsAccepted.{bind_ok}
use Rattle.m11_link.proofs.Sole.{objects_same}
use Rattle.m11_link.proofs.Steady.{block_shorter, block_steady}
use Rattle.m11_link_laws.specs.Joining.{AreModules, LinkAlike}
use Rattle.m11_link_laws.proofs.JoiningItems.{IsWhole, blocks, files_alike, files_items, joined_items}

-- ---- bytes after others

-- after bytes that end between blocks, the first block is that of the following bytes
skipped : (bytes following : List ℕ) → first_block bytes ≡ Err Between → first_block (bytes ++ following) ≡ first_block following
skipped [] following e = refl
skipped (byte ∷ bytes) following e =
    elim (begun byte bytes) [
      | inl nul ↦
          let P : ℕ → Type 0 = λ first. first_block (first ∷ (bytes ++ following)) ≡ first_block following in
          subst P (sym nul.0) (zero_in_front (bytes ++ following) ∙ skipped bytes following (sym nul.1 ∙ e))
      | inr other ↦ elim other [
        | inl one ↦ absurd (start_within bytes (sym one.1 ∙ e))
        | inr refused ↦ absurd (let bad = sym refused ∙ e in cc)
      ]
    ]

same_read : (contents : List (List ℕ)) (bytes others : List ℕ) → first_block others ≡ first_block bytes
    → AreRead contents bytes → AreRead contents others
same_read [] bytes others same h = same ∙ h
same_read (content ∷ contents) bytes others same h = (h.0, same ∙ h.1, h.2)

-- two lists of bytes, one after the other, are read as the blocks of the first and then those of the second
read_then : (contents more : List (List ℕ)) (bytes following : List ℕ) → AreRead contents bytes → AreRead more following
    → AreRead (contents ++ more) (bytes ++ following)
read_then [] more bytes following h k = same_read more following (bytes ++ following) (skipped bytes following h) k
read_then (content ∷ contents) more bytes following h k = (
  h.0 ++ following,
  block_steady.ok bytes following content h.0 h.1,
  read_then contents more h.0 following h.2 k,
)

-- ---- blocks as items

-- bytes within the limit yield the items of their blocks, and then the end of the object
within_items : (contents : List (List ℕ)) (room : ℕ) (bytes : List ℕ) → AreRead contents bytes → length bytes ≤ room
    → ObjectItems room bytes (blocks contents ++ ObjectEnds ∷ [])
within_items [] room bytes h le = objects.ObjectItems.Ends h le
within_items (content ∷ contents) room bytes h le =
    let shorter = block_shorter bytes content h.0 h.1 in
    let left : ℕ = length h.0 + room - length bytes in
    objects.ObjectItems.Begins {left = left} h.1 (omega (arith, shorter, le))
    (within_items contents left h.0 h.2 (omega (arith, shorter, le)))

-- the blocks of an object whose items have no fault
pub record Found (bytes : List ℕ) (items : List Item) : Type 0 where
  pub contents : List (List ℕ)
  pub read : AreRead contents bytes
  pub is : items ≡ blocks contents ++ ObjectEnds ∷ []

pub found : (room : ℕ) (bytes : List ℕ) (items : List Item) → ObjectItems room bytes items
    → (before parts : List Part) → taken before items ≡ Ok parts → Found bytes items
found room bytes _ (objects.ObjectItems.Begins {left = left} {rest = rest} {content = content} {items = items} e f h)
    before parts t =
    let first = bind_ok (accepted_item before (BlockOf content)) (λ these. taken these items) parts t in
    let more = found left rest items h first.0 parts first.2 in
    record {
      contents = content ∷ more.contents;
      read = (rest, e, more.read);
      is = ap (λ (these : List Item). BlockOf content ∷ these) more.is;
    }
found room bytes _ (objects.ObjectItems.Ends e le) before parts t = record { contents = []; read = e; is = refl }
found room bytes _ (objects.ObjectItems.IsCut e le) before parts t = absurd cc
found room bytes _ (objects.ObjectItems.IsBad e le) before parts t = absurd cc
found room bytes _ (objects.ObjectItems.Passes lt short) before parts t = absurd cc

-- ---- files

abbrev all_contents : List (List (List ℕ)) → List (List ℕ)
all_contents [] = []
all_contents (contents ∷ files) = contents ++ all_contents files

joined_blocks : (files : List (List (List ℕ))) → blocks (all_contents files) ++ ObjectEnds ∷ [] ≡ joined_items files
joined_blocks [] = refl
joined_blocks (contents ∷ files) =
    ap (λ (these : List Item). these ++ ObjectEnds ∷ [])
    (map-append (λ content. BlockOf content) contents (all_contents files))
    ∙ append_assoc (blocks contents) (blocks (all_contents files)) (ObjectEnds ∷ [])
    ∙ ap (λ (these : List Item). blocks contents ++ these) (joined_blocks files)

-- the contents of the blocks of each file
record Files (sources : List (List ℕ)) : Type 0 where
  pub files : List (List (List ℕ))
  pub whole : AllByRecursion IsWhole files
  pub are : AreItems sources (files_items files)
  pub joined : AreRead (all_contents files) (concat sources)

files_of : (sources : List (List ℕ)) → AllByRecursion AreModules sources → Files sources
files_of [] h = record { files = []; whole = tt; are = objects.Nothing; joined = nothing_read }
files_of (source ∷ sources) h =
    let f = found most_bytes source h.0.0 h.0.1 [] h.0.2 h.0.3 in
    let more = files_of sources h.1 in
    let P : List Item → Type 0 = λ items. AreItems (source ∷ sources) items in
    record {
      files = f.contents ∷ more.files;
      whole = ((h.0.2, ap (λ (items : List Item). taken [] items) (sym f.is) ∙ h.0.3), more.whole);
      are = subst P (ap (λ (items : List Item). items ++ files_items more.files) f.is
          ∙ append_assoc (blocks f.contents) (ObjectEnds ∷ []) (files_items more.files))
          (objects.Object h.0.1 more.are);
      joined = read_then f.contents (all_contents more.files) source (concat sources) f.read more.joined;
    }

-- the file of all bytes, if it is within the limit, yields the items of all blocks, and one end
joined_are : (sources : List (List ℕ)) (f : Files sources) → length (concat sources) ≤ most_bytes
    → AreItems (concat sources ∷ []) (joined_items f.files)
joined_are sources f le =
    let P : List Item → Type 0 = λ items. AreItems (concat sources ∷ []) items in
    subst P (append-nil (blocks (all_contents f.files) ++ ObjectEnds ∷ []) ∙ joined_blocks f.files)
    (objects.Object (within_items (all_contents f.files) most_bytes (concat sources) f.joined le) objects.Nothing)

-- if each file consists of whole modules, and all bytes together are within the limit, a link of the files has the same result as a
-- link of one file with all their bytes
pub joined_alike : (bottom : ℕ) (sources : List (List ℕ)) (items joined : List Item)
    → AllByRecursion AreModules sources → length (concat sources) ≤ most_bytes
    → AreItems sources items → AreItems (concat sources ∷ []) joined
    → LinkAlike bottom (outcome bottom items) (outcome bottom joined)
joined_alike bottom sources items joined h le a b =
    let f = files_of sources h in
    let first = objects_same sources (files_items f.files) items f.are a in
    let second = objects_same (concat sources ∷ []) (joined_items f.files) joined (joined_are sources f le) b in
    let of_files = outcome bottom (files_items f.files) in
    let P : List Item → Type 0 = λ these. LinkAlike bottom (outcome bottom these) (outcome bottom joined) in
    let Q : List Item → Type 0 = λ these. LinkAlike bottom of_files (outcome bottom these) in
    subst P first (subst Q second (files_alike bottom f.files f.whole))
