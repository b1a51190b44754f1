-- The texts of objects have no more bytes than a block holds.
use Rattle.std.proofs.Common.{◌≡◌, ◌∙◌, ℕ, ◌+◌, ◌-◌, ◌≤◌, List, [], ◌∷◌, ◌++◌, length, sum, map, flat_map, Result, Ok, Err, refl, sym, ap, subst, arith, length-drop}
use Rattle.std.specs.Prelude.{⊤}
use Rattle.std.specs.List.{AllByRecursion}
use Rattle.std.proofs.lemmas.Bool.{ltb-false}
use Rattle.m11_obj_blocks.specs.Blocks.{start, second, count_of, count, content_of as bytes_of, first_block}
use Rattle.m11_obj_blocks.specs.Frames.{content_limit, header, word}
use Rattle.m11_obj_blocks.specs.declared.block_fault.BlockFault.TheVariants as block
use Rattle.m11_obj_blocks.proofs.BlockParts.{after_content, after_count, after_second, after_start}
use Rattle.m11_obj_blocks.proofs.BlockFrames.{content_takes}
use Rattle.m11_obj_blocks.proofs.FrameReads.{closed_takes}
use Rattle.m11_obj_blocks.proofs.ReadSteps.{bind_ok, value_is}
use Rattle.m11_obj.specs.Reading.{first_word, content_after, content_of}
use Rattle.m11_obj.specs.Records as records
use Rattle.m11_obj.specs.declared.fault.RecordFault.{RecordFault}
use Rattle.m11_obj.specs.declared.gsd.GsdEntry.{GsdEntry}
use Rattle.m11_obj.specs.declared.records.RecordKind.{RecordKind}
use Rattle.m11_obj.specs.declared.records.RecordKind.TheVariants as kind
use Rattle.m11_obj.specs.declared.relocations.Relocation.{Relocation}
use Rattle.m11_obj.proofs.FieldsOf as fields
use Rattle.m11_link_modules.specs.Parts.{Part, Entry, Text, Relocated, parts_in, parts_of}
use Rattle.m11_link.specs.Objects.{AreItems, BlockOf, Item, ObjectEnds, ObjectItems, Refused}
use Rattle.m11_link.specs.Objects as objects
use Rattle.m11_link.proofs.Steady.{count_within}
use Rattle.m11_link_laws.specs.LinkedTexts.{ObjectText, object_texts, texts_after}
use Rattle.m11_link_laws.proofs.ItemsParts.{items_parts, parts_within}

-- ---- the content of a block

block_held : (bytes content rest : List ℕ) → first_block bytes ≡ Ok (content, rest) → length content ≤ content_limit
unfolding first_block
block_held bytes content rest e =
    let begun = bind_ok (start bytes) after_start (content, rest) e in
    let s = bind_ok (second begun.0.1) after_second (content, rest) begun.2 in
    let n = bind_ok (count s.0.1) after_count (content, rest) s.2 in
    let xs = bind_ok (bytes_of n.0.0 n.0.1) after_content (content, rest) n.2 in
    let w = bind_ok (word s.0.1) (λ length. count_of length.0 length.1) n.0 n.1 in
    let within = count_within w.0.0 w.0.1 n.0.0 n.0.1 w.2 in
    let least = ltb-false w.0.0 4 within.0 in
    let most = ltb-false (content_limit + 4) w.0.0 within.1 in
    let is : w.0.0 - 4 ≡ n.0.0 = value_is (w.0.0 - 4) n.0.0 w.0.1 n.0.1 within.2 in
    let held = content_takes n.0.0 n.0.1 xs.0.0 xs.0.1 xs.1 in
    let same = (closed_takes block.BadSum xs.0.0 (sum (header (length xs.0.0) ++ xs.0.0)) content xs.0.1 rest xs.2).0 in
    omega (arith, least, most, is, held.0, ap length same)

-- ---- the text of a record

after_type : (rest : List ℕ) (address : ℕ) (bytes : List ℕ)
    → content_after kind.Text rest ≡ Ok (records.Text address bytes) → length bytes ≤ length rest
unfolding content_after
after_type rest address bytes e =
    let w =
    fields.bind_ok (first_word rest) (λ address. Ok (records.Text address.0 address.1)) (records.Text address bytes) e in
    let same : w.0.1 ≡ bytes =
    text_is w.0.0 address w.0.1 bytes (fields.ok_is (records.Text w.0.0 w.0.1) (records.Text address bytes) w.2) in
    let takes = fields.word_takes rest w.0 w.1 in
    omega (arith, ap length (sym same ∙ takes.following), length-drop 2 rest)
  where
    text_is : (a b : ℕ) (xs ys : List ℕ) → records.Text a xs ≡ records.Text b ys → xs ≡ ys
    text_is a b xs ys e = cc

text_held : (content : List ℕ) (address : ℕ) (bytes : List ℕ) → content_of content ≡ Ok (records.Text address bytes)
    → length bytes ≤ length content
text_held content address bytes e =
    let p = fields.parts_of content (records.Text address bytes) e in
    let P : RecordKind → Type 0 = λ k. content_after k p.rest ≡ Ok (records.Text address bytes) in
    let here = after_type p.rest address bytes (subst P (sym p.same) p.says) in
    omega (arith, here, ap length p.takes.following, length-drop 2 content)

-- ---- the texts among parts

abbrev pub Fits : Part → Type 0
Fits (Text address bytes) = length bytes ≤ content_limit
Fits part = ⊤

all_then : (xs ys : List Part) → AllByRecursion Fits xs → AllByRecursion Fits ys → AllByRecursion Fits (xs ++ ys)
all_then [] ys h k = k
all_then (x ∷ xs) ys h k = (h.0, all_then xs ys h.1 k)

entries_fit : (entries : List GsdEntry) → AllByRecursion Fits (map (λ entry. Entry entry) entries)
entries_fit [] = tt
entries_fit (entry ∷ entries) = (tt, entries_fit entries)

relocations_fit : (relocations : List Relocation)
    → AllByRecursion Fits (map (λ relocation. Relocated relocation) relocations)
relocations_fit [] = tt
relocations_fit (relocation ∷ relocations) = (tt, relocations_fit relocations)

record_fits : (bytes : List ℕ) (content : records.Content) → length bytes ≤ content_limit → content_of bytes ≡ Ok content
    → AllByRecursion Fits (parts_of content)
record_fits bytes (records.Gsd entries) le e = (tt, entries_fit entries)
record_fits bytes records.EndOfGsd le e = (tt, tt)
record_fits bytes (records.Text address text) le e = (omega (arith, text_held bytes address text e), tt)
record_fits bytes (records.Relocations relocations) le e = (tt, relocations_fit relocations)
record_fits bytes records.InternalSymbols le e = tt
record_fits bytes records.EndOfModule le e = (tt, tt)

content_fits : (bytes : List ℕ) → length bytes ≤ content_limit → (r : Result records.Content RecordFault)
    → content_of bytes ≡ r → AllByRecursion Fits (parts_in r)
content_fits bytes le (Ok content) e = record_fits bytes content le e
content_fits bytes le (Err inner) e = tt

more_items : (item : Item) (items : List Item) → AllByRecursion Fits (parts_within item)
    → AllByRecursion Fits (items_parts items) → AllByRecursion Fits (items_parts (item ∷ items))
unfolding items_parts
more_items item items h k = all_then (parts_within item) (flat_map parts_within items) h k

no_items : AllByRecursion Fits (items_parts [])
unfolding items_parts
no_items = tt

front_fits : (xs ys : List Part) → AllByRecursion Fits (xs ++ ys) → AllByRecursion Fits xs × AllByRecursion Fits ys
front_fits [] ys h = (tt, h)
front_fits (x ∷ xs) ys h = let more = front_fits xs ys h.1 in ((h.0, more.0), more.1)

first_item : (item : Item) (items : List Item) → AllByRecursion Fits (items_parts (item ∷ items))
    → AllByRecursion Fits (parts_within item) × AllByRecursion Fits (items_parts items)
unfolding items_parts
first_item item items h = front_fits (parts_within item) (flat_map parts_within items) h

both_fit : (xs ys : List Item) → AllByRecursion Fits (items_parts xs) → AllByRecursion Fits (items_parts ys)
    → AllByRecursion Fits (items_parts (xs ++ ys))
both_fit [] ys h k = k
both_fit (x ∷ xs) ys h k =
    let split = first_item x xs h in more_items x (xs ++ ys) split.0 (both_fit xs ys split.1 k)

object_fits : (room : ℕ) (bytes : List ℕ) (items : List Item) → ObjectItems room bytes items
    → AllByRecursion Fits (items_parts items)
object_fits room bytes _ (objects.ObjectItems.Begins {left = left} {rest = rest} {content = content} {items = items} e fits h) =
    more_items (BlockOf content) items
    (content_fits content (block_held bytes content rest e) (content_of content) refl) (object_fits left rest items h)
object_fits room bytes _ (objects.ObjectItems.Ends e le) = more_items ObjectEnds [] (tt, tt) no_items
object_fits room bytes _ (objects.ObjectItems.IsCut e le) = more_items _ [] tt no_items
object_fits room bytes _ (objects.ObjectItems.IsBad e le) = more_items _ [] tt no_items
object_fits room bytes _ (objects.ObjectItems.Passes lt short) = more_items _ [] tt no_items

pub objects_fit : (sources : List (List ℕ)) (items : List Item) → AreItems sources items
    → AllByRecursion Fits (items_parts items)
objects_fit _ _ objects.AreItems.Nothing = no_items
objects_fit _ _ (objects.AreItems.Object {source = source} {sources = sources} {own = own} {items = items} o h) =
    both_fit own items (object_fits _ source own o) (objects_fit sources items h)

-- ---- single texts

abbrev pub TextFits : ObjectText → Type 0
TextFits text = length text.bytes ≤ content_limit

texts_fit : (before parts : List Part) → AllByRecursion Fits parts → AllByRecursion TextFits (texts_after before parts)
texts_fit before [] h = tt
texts_fit before (Text address bytes ∷ parts) h = (h.0, texts_fit (before ++ Text address bytes ∷ []) parts h.1)
texts_fit before (part ∷ parts) h = texts_fit (before ++ part ∷ []) parts h.1

pub object_texts_fit : (parts : List Part) → AllByRecursion Fits parts → AllByRecursion TextFits (object_texts parts)
unfolding object_texts
object_texts_fit parts h = texts_fit [] parts h
