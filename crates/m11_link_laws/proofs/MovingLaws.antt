-- Links of the same parts with two bottoms: how their writes, texts and stored values differ.
use Rattle.std.proofs.Common.{◌≡◌, ℕ, ◌+◌, Bool, true, false, ◌&&◌, if◌then◌else◌, List, [], ◌∷◌, ◌++◌, map, Option, Some, None, refl, ap, ap₂, ◌∙◌}
use Rattle.m11_obj.specs.declared.gsd.GsdEntry.{GsdEntry}
use Rattle.m11_obj.specs.declared.gsd.GsdKind.{GsdKind}
use Rattle.m11_obj.specs.declared.gsd.GsdKind.TheVariants as kind
use Rattle.m11_obj.specs.declared.relocations.Relocation.{Relocation}
use Rattle.m11_obj.specs.declared.relocations.Target.{Target}
use Rattle.m11_link_modules.specs.Parts.{Part, Directory, Entry, EndOfDirectory, Text, Relocations, Relocated, EndOfModule, EndOfFile}
use Rattle.m11_link_modules.specs.Positions.{current_section, modules_in, this_module}
use Rattle.m11_link_layout.specs.Sections.{attributes_by}
use Rattle.m11_link_text.specs.Findings.{Findings, findings_of}
use Rattle.m11_link_text.specs.Relocation.{stored_bytes, symbol, value_of}
use Rattle.m11_link.specs.Written.{PlacedText, defined_names, different_writes, ended_writes, has_ended, parts_writes, placed_text, relocations_after, text_writes, with_relocations, writes_at, writes_after, writes_by}
use Rattle.m11_link_laws.specs.Moving.{Moved, all_stay, bytes_moved, ended_moved, global_moves, is_displaced, moved, moved_after, moves, number_moved, part_moved, relocations_moved, stores_limits, target_moves, text_moved, text_position, value_moved}
use Rattle.m11_link_laws.proofs.MovingFindings.{findings_moved, symbol_is}
use Rattle.m11_link_laws.proofs.MovingStored.{bytes_far, low_bytes, placed_far, relocations_far, relocations_stay, value_far}

-- ---- writes of parts

module _ (distance : ℕ) (parts : List Part) (near far : Findings) (m : Moved distance parts near far)
    (symbols : (name : ℕ × ℕ) → symbol far name ≡ moved distance (global_moves parts name) (symbol near name)) where
  different_is : (index : ℕ) (section : Option ((ℕ × ℕ) × ℕ))
      → different_writes far index section ≡ different_writes near index section
  different_is index None = refl
  different_is index (Some section) = rw (m.attributes section.0, m.module_name index) refl

  entry_is : (k : GsdKind) (index : ℕ) (defined : List (ℕ × ℕ)) (entry : GsdEntry)
      → writes_by k far index defined entry ≡ writes_by k near index defined entry
  entry_is kind.GlobalSymbol index defined entry = rw (m.module_name index) refl
  entry_is kind.ModuleName index defined entry = refl
  entry_is kind.ControlSection index defined entry = different_is index (attributes_by kind.ControlSection entry)
  entry_is kind.InternalSymbol index defined entry = refl
  entry_is kind.TransferAddress index defined entry = refl
  entry_is kind.ProgramSection index defined entry = different_is index (attributes_by kind.ProgramSection entry)
  entry_is kind.Identification index defined entry = refl

  ended_is : (index : ℕ) (section : ℕ × ℕ) (address : ℕ) (bytes : List ℕ) (following : List Part)
      → ended_writes far (placed_text far index section address bytes) following
      ≡ ended_moved distance parts near (moves parts index section)
      (placed_text near index section address bytes) following
  ended_is index section address bytes following =
      ap (λ text. ended_writes far text following)
      (placed_far distance parts near far m.base symbols m.bottom m.top index section address bytes)
      ∙ ap (λ text. if has_ended following then text_writes text else [])
      (relocations_far distance parts near far m.base symbols m.bottom m.top (moves parts index section)
      (placed_text near index section address bytes) (relocations_after following))

  part_is : (before : List Part) (part : Part) (following : List Part)
      → writes_at far before part following ≡ part_moved distance parts near before part following
  unfolding writes_at part_moved
  part_is before (Entry entry) following = entry_is entry.kind (modules_in before) (defined_names before) entry
  part_is before (Text address bytes) following =
      ended_is (modules_in before) (current_section (this_module before)) address bytes following
  part_is before Directory following = refl
  part_is before EndOfDirectory following = refl
  part_is before Relocations following = refl
  part_is before (Relocated relocation) following = refl
  part_is before EndOfModule following = refl
  part_is before EndOfFile following = refl

  after_is : (before others : List Part)
      → writes_after far before others ≡ moved_after distance parts near before others
  after_is before [] = refl
  after_is before (part ∷ others) =
      ap₂ (λ first rest. first ++ rest) (part_is before part others) (after_is (before ++ part ∷ []) others)

  parts_are : (others : List Part) → parts_writes far others ≡ moved_after distance parts near [] others
  unfolding parts_writes
  parts_are others = after_is [] others

-- ---- the findings of both links

symbols_are : (bottom distance : ℕ) (parts : List Part) (name : ℕ × ℕ)
    → symbol (findings_of (bottom + distance) parts) name
    ≡ moved distance (global_moves parts name) (symbol (findings_of bottom parts) name)
unfolding findings_of
symbols_are bottom distance parts name = symbol_is bottom distance parts name

pub parts_move : (bottom distance : ℕ) (parts others : List Part)
    → parts_writes (findings_of (bottom + distance) parts) others
    ≡ moved_after distance parts (findings_of bottom parts) [] others
parts_move bottom distance parts others =
    parts_are distance parts (findings_of bottom parts) (findings_of (bottom + distance) parts)
    (findings_moved bottom distance parts) (symbols_are bottom distance parts) others

pub text_moves : (bottom distance : ℕ) (parts : List Part) (index : ℕ) (section : ℕ × ℕ) (address : ℕ) (bytes : List ℕ)
    → placed_text (findings_of (bottom + distance) parts) index section address bytes
    ≡ text_moved distance (moves parts index section)
    (placed_text (findings_of bottom parts) index section address bytes)
text_moves bottom distance parts index section address bytes =
    let m = findings_moved bottom distance parts in
    placed_far distance parts (findings_of bottom parts) (findings_of (bottom + distance) parts) m.base
    (symbols_are bottom distance parts) m.bottom m.top index section address bytes

pub relocations_move : (bottom distance : ℕ) (parts : List Part) (does_move : Bool) (text : PlacedText)
    (relocations : List Relocation)
    → with_relocations (findings_of (bottom + distance) parts) (text_moved distance does_move text) relocations
    ≡ text_moved distance does_move
    (relocations_moved distance parts (findings_of bottom parts) does_move text relocations)
relocations_move bottom distance parts does_move text relocations =
    let m = findings_moved bottom distance parts in
    relocations_far distance parts (findings_of bottom parts) (findings_of (bottom + distance) parts) m.base
    (symbols_are bottom distance parts) m.bottom m.top does_move text relocations

pub value_moves : (bottom distance : ℕ) (parts : List Part) (index own location : ℕ) (does_move : Bool) (t : Target)
    → value_of (findings_of (bottom + distance) parts) index (moved distance does_move own)
    (moved distance does_move location) t
    ≡ value_moved distance parts (findings_of bottom parts) (text_position index own location does_move) t
value_moves bottom distance parts index own location does_move t =
    let m = findings_moved bottom distance parts in
    value_far distance parts (findings_of bottom parts) (findings_of (bottom + distance) parts) m.base
    (symbols_are bottom distance parts) m.bottom m.top index own location does_move t

pub bytes_move : (bottom distance : ℕ) (parts : List Part) (index own location : ℕ) (does_move is_byte : Bool)
    (t : Target)
    → stored_bytes (findings_of (bottom + distance) parts) index (moved distance does_move own)
    (moved distance does_move location) is_byte t
    ≡ bytes_moved distance parts (findings_of bottom parts) (text_position index own location does_move) is_byte t
bytes_move bottom distance parts index own location does_move is_byte t =
    let m = findings_moved bottom distance parts in
    bytes_far distance parts (findings_of bottom parts) (findings_of (bottom + distance) parts) m.base
    (symbols_are bottom distance parts) m.bottom m.top index own location does_move is_byte t

pub low_byte_moves : (bottom distance : ℕ) (parts : List Part) (index own location : ℕ) (does_move : Bool) (t : Target)
    → stores_limits t ≡ false
    → stored_bytes (findings_of (bottom + distance) parts) index (moved distance does_move own)
    (moved distance does_move location) true t
    ≡ map (number_moved 256 distance (target_moves parts index does_move t) (is_displaced t && does_move))
    (stored_bytes (findings_of bottom parts) index own location true t)
low_byte_moves bottom distance parts index own location does_move t e =
    bytes_move bottom distance parts index own location does_move true t
    ∙ low_bytes distance parts (findings_of bottom parts) index own location does_move t e

pub text_stays : (bottom distance : ℕ) (parts : List Part) (does_move : Bool) (text : PlacedText)
    (relocations : List Relocation) → all_stay parts text.module_index does_move relocations ≡ true
    → with_relocations (findings_of (bottom + distance) parts) (text_moved distance does_move text) relocations
    ≡ text_moved distance does_move (with_relocations (findings_of bottom parts) text relocations)
text_stays bottom distance parts does_move text relocations e =
    relocations_move bottom distance parts does_move text relocations
    ∙ ap (λ text. text_moved distance does_move text)
    (relocations_stay distance parts (findings_of bottom parts) does_move text relocations e)

-- ---- texts of a section

pub text_content : (bottom distance : ℕ) (parts : List Part) (index : ℕ) (section : ℕ × ℕ) (address : ℕ)
    (bytes : List ℕ) (relocations : List Relocation)
    → with_relocations (findings_of (bottom + distance) parts)
    (placed_text (findings_of (bottom + distance) parts) index section address bytes) relocations
    ≡ text_moved distance (moves parts index section) (relocations_moved distance parts (findings_of bottom parts)
    (moves parts index section) (placed_text (findings_of bottom parts) index section address bytes) relocations)
text_content bottom distance parts index section address bytes relocations =
    ap (λ text. with_relocations (findings_of (bottom + distance) parts) text relocations)
    (text_moves bottom distance parts index section address bytes)
    ∙ relocations_move bottom distance parts (moves parts index section)
    (placed_text (findings_of bottom parts) index section address bytes) relocations

pub content_stays : (bottom distance : ℕ) (parts : List Part) (index : ℕ) (section : ℕ × ℕ) (address : ℕ)
    (bytes : List ℕ) (relocations : List Relocation)
    → all_stay parts index (moves parts index section) relocations ≡ true
    → with_relocations (findings_of (bottom + distance) parts)
    (placed_text (findings_of (bottom + distance) parts) index section address bytes) relocations
    ≡ text_moved distance (moves parts index section) (with_relocations (findings_of bottom parts)
    (placed_text (findings_of bottom parts) index section address bytes) relocations)
content_stays bottom distance parts index section address bytes relocations e =
    ap (λ text. with_relocations (findings_of (bottom + distance) parts) text relocations)
    (text_moves bottom distance parts index section address bytes)
    ∙ text_stays bottom distance parts (moves parts index section)
    (placed_text (findings_of bottom parts) index section address bytes) relocations e
