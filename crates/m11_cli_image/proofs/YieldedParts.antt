-- Objects of sources yield the parts of the sources, one after another.
use Rattle.std.proofs.Common.{◌≡◌, ◌∙◌, ℕ, List, [], ◌∷◌, ◌++◌, append_assoc, map, flat_map, Ok, Err, refl, sym, ap, ap₂, subst}
use Rattle.std.specs.List.{AllByRecursion}
use Rattle.std.proofs.lemmas.List.Concat.{flat_map-append}
use Rattle.m11_obj_blocks.specs.Blocks.{AreRead, first_block}
use Rattle.m11_obj_blocks.specs.Limited.{Between, most_bytes}
use Rattle.m11_obj_blocks.proofs.BlockFrames.{blocks_read}
use Rattle.m11_obj_blocks.proofs.ReadSteps.{rest_is, value_is}
use Rattle.m11_link.specs.Objects.{AreItems, BlockOf, Item, ObjectEnds, taken}
use Rattle.m11_link.specs.Objects as objects
use Rattle.m11_link_laws.proofs.ItemsParts.{items_parts, parts_are, parts_within}
use Rattle.m11_link_laws.proofs.JoiningBytes.{found}
use Rattle.m11_link_laws.proofs.JoiningItems.{blocks}
use Rattle.m11_link_laws.proofs.WholeObjects.{taken_both}
use Rattle.m11_link_modules.specs.Parts.{Part, EndOfFile, parts_in, parts_of, record_parts}
use Rattle.m11_obj.specs.Records.{Content, Fits, record_data}
use Rattle.m11_obj.proofs.RecordsAgain.{record_again}
use Rattle.m11_cli_image.specs.Objects.{SourceFits, contents_of, link_parts, object_of, object_parts}
use Rattle.m11_cli_image.specs.Sources.{Source}
use Rattle.m11_cli_image.proofs.ReadRecords.{are_blocks}

-- ---- bytes have one list of blocks

no_more : (content : List ℕ) (bytes rest : List ℕ) → first_block bytes ≡ Err Between → first_block bytes ≡ Ok (content, rest)
    → ⊥
no_more content bytes rest e f = let bad = sym e ∙ f in cc

same_blocks : (one other : List (List ℕ)) (bytes : List ℕ) → AreRead one bytes → AreRead other bytes → one ≡ other
same_blocks [] [] bytes h k = refl
same_blocks [] (content ∷ other) bytes h k = absurd (no_more content bytes k.0 h k.1)
same_blocks (content ∷ one) [] bytes h k = absurd (no_more content bytes h.0 k h.1)
same_blocks (content ∷ one) (content' ∷ other) bytes h k =
    let both = sym h.1 ∙ k.1 in
    let P : List ℕ → Type 0 = λ rest. AreRead other rest in
    ap₂ (λ (first : List ℕ) (more : List (List ℕ)). first ∷ more) (value_is content content' h.0 k.0 both)
    (same_blocks one other h.0 h.2 (subst P (sym (rest_is content content' h.0 k.0 both)) k.2))

-- ---- the parts of one object

record_is : (content : Content) → Fits content → record_parts (record_data content) ≡ parts_of content
record_is content fits = ap (λ read. parts_in read) (record_again content fits)

blocks_parts : (contents : List Content) → AllByRecursion Fits contents
    → items_parts (blocks (map record_data contents) ++ ObjectEnds ∷ []) ≡ flat_map parts_of contents ++ EndOfFile ∷ []
unfolding items_parts
blocks_parts [] fit = refl
blocks_parts (content ∷ contents) fit =
    ap₂ (λ (first more : List Part). first ++ more) (record_is content fit.0) (blocks_parts contents fit.1)
    ∙ sym (append_assoc (parts_of content) (flat_map parts_of contents) (EndOfFile ∷ []))

both_parts : (xs ys : List Item) → items_parts (xs ++ ys) ≡ items_parts xs ++ items_parts ys
unfolding items_parts
both_parts xs ys = flat_map-append parts_within xs ys

no_parts : items_parts [] ≡ []
unfolding items_parts
no_parts = refl

object_parts_are : (source : Source) (own : List Item) (before parts : List Part) → SourceFits source
    → objects.ObjectItems most_bytes (object_of source) own → taken before own ≡ Ok parts
    → items_parts own ≡ object_parts source
object_parts_are source own before parts fits items e =
    let f = found most_bytes (object_of source) own items before parts e in
    let read = blocks_read (map record_data (contents_of source)) (object_of source)
    (are_blocks (contents_of source) fits.records) in
    ap items_parts f.is
    ∙ ap (λ contents. items_parts (blocks contents ++ ObjectEnds ∷ []))
    (same_blocks f.contents (map record_data (contents_of source)) (object_of source) f.read read)
    ∙ blocks_parts (contents_of source) fits.records

-- ---- the parts of all

after_one : (source : Source) (sources : List Source) (items : List Item) (before parts : List Part) → SourceFits source
    → ((others : List Item) (between : List Part) → AreItems (map object_of sources) others → taken between others ≡ Ok parts
    → items_parts others ≡ link_parts sources)
    → AreItems (object_of source ∷ map object_of sources) items → taken before items ≡ Ok parts
    → items_parts items ≡ object_parts source ++ link_parts sources
after_one source sources _ before parts fits others (objects.AreItems.Object {own = own} {items = items} o h) e =
    let split = taken_both before own items parts e in
    both_parts own items
    ∙ ap₂ (λ (first more : List Part). first ++ more) (object_parts_are source own before split.0 fits o split.1)
    (others items split.0 h split.2)

nothing : (items : List Item) → AreItems [] items → items_parts items ≡ []
nothing _ objects.AreItems.Nothing = no_parts

all_parts : (sources : List Source) (items : List Item) (before parts : List Part) → AllByRecursion SourceFits sources
    → AreItems (map object_of sources) items → taken before items ≡ Ok parts → items_parts items ≡ link_parts sources
all_parts [] items before parts fit are e = nothing items are
all_parts (source ∷ sources) items before parts fit are e =
    after_one source sources items before parts fit.0
    (λ others between h t. all_parts sources others between parts fit.1 h t) are e

pub yields_parts : (sources : List Source) (items : List Item) (parts : List Part) → AllByRecursion SourceFits sources
    → AreItems (map object_of sources) items → taken [] items ≡ Ok parts → parts ≡ link_parts sources
yields_parts sources items parts fit are e = parts_are [] items parts e ∙ all_parts sources items [] parts fit are e
