-- The size of the tape of a link of objects of sources.
use Rattle.std.proofs.Common.{◌≡◌, ◌∙◌, ℕ, ◌+◌, ◌<◌, List, [], ◌∷◌, ◌++◌, length, map, flat_map, Option, Some, None, Ok, refl, sym, ap, subst, arith, length-append}
use Rattle.std.proofs.lemmas.List.{map-append}
use Rattle.std.proofs.lemmas.List.Concat.{flat_map-append}
use Rattle.std.proofs.lemmas.List.Sums.{sum_by-append, sum_by-cons}
use Rattle.std.specs.Prelude.{sum_by}
use Rattle.std.specs.List.{AllByRecursion, enumerate_from}
use Rattle.m11_asm_outputs.specs.Object.{texts_of}
use Rattle.m11_base.specs.Devices.{Bytes}
use Rattle.m11_base.specs.Rad50.{Name}
use Rattle.m11_obj_blocks.specs.Tapes.{tape_block, tape_header}
use Rattle.m11_base_writes.specs.declared.outputs.Output.TheVariants.{Product}
use Rattle.m11_base_writes.specs.Writes.{gained}
use Rattle.m11_link.specs.Objects.{AreItems, Item, outcome}
use Rattle.m11_link.specs.Outputs.{link}
use Rattle.m11_link.specs.Written.{PlacedText, link_writes, placed_text, with_relocation, with_relocations}
use Rattle.m11_link_laws.specs.LinkedTexts.{ObjectText, linked_text, linked_texts}
use Rattle.m11_link_laws.specs.Texts.{block_of, data_block}
use Rattle.m11_link_laws.proofs.TapesOfObjects.{tape_of_objects}
use Rattle.m11_link_layout.specs.Transfers.{transfer_address}
use Rattle.m11_link_modules.specs.Parts.{Part}
use Rattle.m11_link_modules.specs.Rules.{lies_within}
use Rattle.m11_link_text.specs.Findings.{Findings, findings_of}
use Rattle.m11_link_text.proofs.Stored.{size_kept}
use Rattle.m11_obj.specs.Pieces.{content_bytes, text_bytes}
use Rattle.m11_obj.specs.Texts.{TextParts, cutting, texts_after}
use Rattle.m11_obj.specs.declared.pieces.Piece.{Piece}
use Rattle.m11_obj.specs.declared.relocations.Relocation.{Relocation}
use Rattle.m11_cli_image.specs.Links.{all_texts, texts_at}
use Rattle.m11_cli_image.specs.Objects.{SourceFits, object_of, text_in}
use Rattle.m11_cli_image.specs.Sources.{Source}
use Rattle.m11_cli_image.specs.Tapes.{block_size, tape_size}
use Rattle.m11_cli_image.proofs.BytesPlaced.{some_bytes}
use Rattle.m11_cli_image.proofs.LinkedTapes.{are_linked}
use Rattle.m11_cli_image.proofs.LinkedTexts.{source_texts_linked}

-- ---- one block

block_length : (address : ℕ) (bytes : Bytes) → length (tape_block address bytes) ≡ length bytes + 7
unfolding tape_block
block_length address bytes =
    let header = tape_header address (length bytes) in
    let whole = length-append (header ++ bytes) (_ ∷ []) in
    let body = length-append header bytes in
    let six : length header ≡ 6 = refl in
    whole ∙ omega (arith, body, six)

data_length : (address : ℕ) (bytes : Bytes) → 0 < length bytes → length (data_block address bytes) ≡ length bytes + 7
data_length address [] lt = absurd (omega (arith, lt))
data_length address (byte ∷ bytes) lt = block_length address (byte ∷ bytes)

-- relocations leave the size of a text
size_stays : (found : Findings) (text : PlacedText) (relocations : List Relocation)
    → length (with_relocations found text relocations).bytes ≡ length text.bytes
size_stays found text [] = refl
size_stays found text (relocation ∷ relocations) =
    size_stays found (with_relocation found text relocation) relocations
    ∙ size_kept found text.module_index text.base text.address relocation text.bytes (lies_within relocation (length text.bytes)) refl

linked_length : (found : Findings) (text : ObjectText) → 0 < length text.bytes
    → length (block_of (linked_text found text)) ≡ length text.bytes + 7
linked_length found text lt =
    let size = size_stays found (placed_text found text.module_index text.section text.address text.bytes) text.relocations in
    let P : ℕ → Type 0 = λ count. 0 < count in
    data_length (linked_text found text).0 (linked_text found text).1 (subst P (sym size) lt) ∙ ap (λ (n : ℕ). n + 7) size

-- ---- the texts of sources

abbrev HasBytes : TextParts → Type 0
HasBytes text = 0 < length text.bytes

have_bytes : (before : Option Name) (fronts : List (List Piece)) → AllByRecursion HasBytes (texts_after before fronts)
have_bytes before [] = tt
have_bytes before ([] ∷ fronts) = have_bytes before fronts
have_bytes before ((first ∷ rest) ∷ fronts) =
    let some = some_bytes first.content in
    let size = length-append (content_bytes first.content) (text_bytes rest) in
    (omega (arith, some, size), have_bytes (Some first.section) fronts)

module _ (found : Findings) where
  abbrev blocks : List ObjectText → Bytes
  blocks texts = flat_map block_of (map (linked_text found) texts)

  texts_length : (index : ℕ) (texts : List TextParts) → AllByRecursion HasBytes texts
      → length (blocks (map (text_in index) texts)) ≡ sum_by block_size texts
  texts_length index [] h = refl
  texts_length index (text ∷ texts) h =
      let one = linked_length found (text_in index text) h.0 in
      let rest = texts_length index texts h.1 in
      let both = length-append (block_of (linked_text found (text_in index text))) (blocks (map (text_in index) texts)) in
      let sum = sum_by-cons block_size text texts in
      omega (arith, one, rest, both, sum)

  blocks_both : (some more : List ObjectText) → length (blocks (some ++ more)) ≡ length (blocks some) + length (blocks more)
  blocks_both some more =
      ap (λ (texts : List (ℕ × Bytes)). length (flat_map block_of texts)) (map-append (linked_text found) some more)
      ∙ ap (λ (bytes : Bytes). length bytes) (flat_map-append block_of (map (linked_text found) some) (map (linked_text found) more))
      ∙ length-append (blocks some) (blocks more)

  sources_length : (index : ℕ) (sources : List Source)
      → length (blocks (flat_map texts_at (enumerate_from index sources)))
      ≡ sum_by block_size (flat_map (λ source. texts_of source.pieces) sources)
  sources_length index [] = refl
  sources_length index (source ∷ sources) =
      let more = flat_map texts_at (enumerate_from (index + 1) sources) in
      let others = flat_map (λ source. texts_of source.pieces) sources in
      let both = blocks_both (texts_at (index, source)) more in
      let one = texts_length index (texts_of source.pieces) (have_bytes None (cutting source.pieces)) in
      let rest = sources_length (index + 1) sources in
      let sum = sum_by-append block_size (texts_of source.pieces) others in
      omega (arith, both, one, rest, sum)

-- ---- the tape

pub tape_length : (bottom : ℕ) (sources : List Source) (items : List Item) (parts : List Part) → AllByRecursion SourceFits sources
    → AreItems (map object_of sources) items → outcome bottom items ≡ Ok parts
    → length (gained link Product (link_writes (findings_of bottom parts) parts)) ≡ tape_size sources
tape_length bottom sources items parts fit are e =
    let linked = are_linked bottom sources items parts fit are e in
    let found = findings_of bottom parts in
    let transfer = transfer_address bottom parts in
    let texts = flat_map block_of (linked_texts found parts) in
    let whole : length (gained link Product (link_writes found parts)) ≡ length (texts ++ tape_block transfer []) =
    ap (λ (bytes : Bytes). length bytes) (tape_of_objects bottom (map object_of sources) items parts are e) in
    let both = length-append texts (tape_block transfer []) in
    let last = block_length transfer [] in
    let same : length texts ≡ length (blocks found (all_texts sources)) =
    ap (λ (these : List Part). length (flat_map block_of (linked_texts found these))) linked.parts_are
    ∙ ap (λ (these : List (ℕ × Bytes)). length (flat_map block_of these)) (source_texts_linked found sources) in
    let size = sources_length found 0 sources in
    whole ∙ omega (arith, both, last, same, size)
