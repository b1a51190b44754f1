-- The tape of objects is read as their texts.
use Rattle.std.proofs.Common.{◌≡◌, ◌∙◌, ℕ, ◌+◌, ◌-◌, ◌<◌, ◌≤◌, Bool, true, false, if◌then◌else◌, List, [], ◌∷◌, ◌++◌, length, map, flat_map, append_assoc, append-nil, Option, Some, Ok, refl, sym, subst, arith}
use Rattle.std.specs.List.{AllByRecursion, filter, find}
use Rattle.std.specs.Option.{unwrap_or}
use Rattle.m11_obj_blocks.specs.Tapes.{IsTape, data_limit, tape_block}
use Rattle.m11_obj_blocks.specs.Tapes as tapes
use Rattle.m11_obj.specs.declared.relocations.Relocation.{Relocation}
use Rattle.m11_link_modules.specs.Parts.{Part}
use Rattle.m11_link_modules.specs.Rules.{lies_within}
use Rattle.m11_link_layout.specs.Transfers.{is_even, transfer_address, transfer_value, transfers_of}
use Rattle.m11_link_layout.specs.declared.definition.Transfer.{Transfer}
use Rattle.m11_base_writes.specs.declared.outputs.Output.TheVariants.{Product}
use Rattle.m11_link_text.specs.Findings.{Findings, findings_of}
use Rattle.m11_link_text.specs.Relocation.{modulo}
use Rattle.m11_link_text.proofs.Stored.{size_kept}
use Rattle.m11_link.specs.Objects.{AreItems, Item, outcome, taken}
use Rattle.m11_link.specs.Outputs.{link}
use Rattle.m11_link.specs.Written.{PlacedText, link_writes, placed_text, with_relocation, with_relocations}
use Rattle.m11_base_writes.specs.Writes.{gained}
use Rattle.m11_link_laws.specs.Texts.{block_of}
use Rattle.m11_link_laws.specs.LinkedTexts.{ObjectText, has_data, linked_text, linked_texts, object_texts, tape_blocks}
use Rattle.m11_link_laws.proofs.ItemsParts.{parts_are}
use Rattle.m11_link_laws.proofs.LinkedTextsWritten.{tape_of_linked_texts}
use Rattle.m11_link_laws.proofs.RunsDecided.{taken_of}
use Rattle.m11_link_laws.proofs.TextsFit.{Fits, TextFits, object_texts_fit, objects_fit}
use Rattle.m11_link_laws.proofs.WholeObjects.{taken_between, taken_sound}

-- ---- relocations leave the address and the size of a text

-- two texts have the same address and size
record Lies (text other : PlacedText) : Type 0 where
  same_address : text.address ≡ other.address
  size : length text.bytes ≡ length other.bytes

lies : (found : Findings) (text : PlacedText) (relocations : List Relocation)
    → Lies (with_relocations found text relocations) text
lies found text [] = record { same_address = refl; size = refl }
lies found text (relocation ∷ relocations) =
    let more = lies found (with_relocation found text relocation) relocations in
    record {
      same_address = more.same_address;
      size = more.size
          ∙ size_kept found text.module_index text.base text.address relocation text.bytes
          (lies_within relocation (length text.bytes)) refl;
    }

-- ---- texts that a tape may have

abbrev MayStand : ℕ × List ℕ → Type 0
MayStand text = (text.0 < 65536) × (length text.1 ≤ data_limit)

below_modulo : (number : ℕ) → modulo number < 65536
below_modulo number = omega arith

linked_stands : (found : Findings) (text : ObjectText) → TextFits text → MayStand (linked_text found text)
linked_stands found text fits =
    let placed = placed_text found text.module_index text.section text.address text.bytes in
    let l = lies found placed text.relocations in
    let below : placed.address < 65536 = below_modulo (found.base text.module_index text.section + text.address) in
    let Q : ℕ → Type 0 = λ address. address < 65536 in
    (subst Q (sym l.same_address) below, omega (arith, l.size, fits))

linked_stand : (found : Findings) (texts : List ObjectText) → AllByRecursion TextFits texts
    → AllByRecursion MayStand (map (linked_text found) texts)
linked_stand found [] h = tt
linked_stand found (text ∷ texts) h = (linked_stands found text h.0, linked_stand found texts h.1)

-- ---- blocks, and the transfer block after them

closing_tape : (start : ℕ) → start < 65536 → IsTape [] start (tape_block start [])
closing_tape start lt =
    let P : List ℕ → Type 0 = λ bytes. IsTape [] start bytes in
    subst P (append-nil (tape_block start [])) (tapes.IsTape.Transfer start [] lt)

abbrev Blocks : List (ℕ × List ℕ) → List (ℕ × List ℕ)
Blocks texts = filter (λ text. has_data text.1) texts

one_block : (address : ℕ) (bytes : List ℕ) (texts : List (ℕ × List ℕ)) (start : ℕ) → MayStand (address, bytes)
    → IsTape (Blocks texts) start (flat_map block_of texts ++ tape_block start [])
    → IsTape (Blocks ((address, bytes) ∷ texts)) start (flat_map block_of ((address, bytes) ∷ texts) ++ tape_block start [])
one_block address [] texts start fits tape = tape
one_block address (byte ∷ bytes) texts start fits tape =
    let content : List ℕ = byte ∷ bytes in
    let P : List ℕ → Type 0 = λ all. IsTape ((address, content) ∷ Blocks texts) start all in
    subst P (sym (append_assoc (tape_block address content) (flat_map block_of texts) (tape_block start [])))
    (tapes.IsTape.Block address content fits.0 (omega arith) fits.1 tape)

blocks_tape : (texts : List (ℕ × List ℕ)) (start : ℕ) → start < 65536 → AllByRecursion MayStand texts
    → IsTape (Blocks texts) start (flat_map block_of texts ++ tape_block start [])
blocks_tape [] start lt h = closing_tape start lt
blocks_tape (text ∷ texts) start lt h = one_block text.0 text.1 texts start h.0 (blocks_tape texts start lt h.1)

-- ---- the transfer address

either_below : (b : Bool) (value : ℕ) (others : Option ℕ) → value < 65536 → unwrap_or others 1 < 65536
    → unwrap_or (if b then Some value else others) 1 < 65536
either_below true value others lt more = lt
either_below false value others lt more = more

found_below : (bottom : ℕ) (parts : List Part) (transfers : List Transfer)
    → unwrap_or (find is_even (map (transfer_value bottom parts) transfers)) 1 < 65536
found_below bottom parts [] = omega arith
found_below bottom parts (transfer ∷ transfers) =
    either_below (is_even (transfer_value bottom parts transfer)) (transfer_value bottom parts transfer)
    (find is_even (map (transfer_value bottom parts) transfers)) (omega arith) (found_below bottom parts transfers)

transfer_below : (bottom : ℕ) (parts : List Part) → transfer_address bottom parts < 65536
unfolding transfer_address
transfer_below bottom parts = found_below bottom parts (transfers_of parts)

-- ---- objects

pub tape_of_objects : (bottom : ℕ) (sources : List (List ℕ)) (items : List Item) (parts : List Part)
    → AreItems sources items → outcome bottom items ≡ Ok parts
    → gained link Product (link_writes (findings_of bottom parts) parts)
    ≡ flat_map block_of (linked_texts (findings_of bottom parts) parts) ++ tape_block (transfer_address bottom parts) []
unfolding findings_of
tape_of_objects bottom sources items parts are e =
    let t = taken_of bottom (taken [] items) parts e in
    tape_of_linked_texts (findings_of bottom parts) parts (taken_sound items parts t) (taken_between sources items parts are t)

pub objects_make_a_tape : (bottom : ℕ) (sources : List (List ℕ)) (items : List Item) (parts : List Part)
    → AreItems sources items → outcome bottom items ≡ Ok parts
    → IsTape (tape_blocks (findings_of bottom parts) parts) (transfer_address bottom parts)
    (gained link Product (link_writes (findings_of bottom parts) parts))
objects_make_a_tape bottom sources items parts are e =
    let found = findings_of bottom parts in
    let t = taken_of bottom (taken [] items) parts e in
    let A : List Part → Type 0 = λ these. AllByRecursion Fits these in
    let fit = subst A (sym (parts_are [] items parts t)) (objects_fit sources items are) in
    let stand = linked_stand found (object_texts parts) (object_texts_fit parts fit) in
    let P : List ℕ → Type 0 = λ bytes. IsTape (tape_blocks found parts) (transfer_address bottom parts) bytes in
    subst P (sym (tape_of_objects bottom sources items parts are e))
    (blocks_tape (linked_texts found parts) (transfer_address bottom parts) (transfer_below bottom parts) stand)
