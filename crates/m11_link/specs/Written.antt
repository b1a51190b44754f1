-- What a link writes, in order: first the front; then each text of a module as a block of the tape, with all its relocations, and a
-- message for each entry that conflicts with an earlier one; and last the transfer block. (RT-11 Volume and File Formats Manual,
-- "Object file format", TXT and RLD blocks; "Absolute binary file format". The messages, and the order between outputs, are this
-- project's own.)
use Rattle.std.specs.Prelude.{ℕ, ◌+◌, ◌==◌, ◌&&◌, min, Bool, true, false, List, [], ◌∷◌, ◌++◌, Option, Some, None, if◌then◌else◌}
use Rattle.std.specs.Map.{keys_of}
use Rattle.m11_base.specs.Devices.{Bytes}
use Rattle.m11_base.specs.Rad50.{Name}
use Rattle.m11_obj_blocks.specs.Tapes.{tape_block}
use Rattle.m11_obj.specs.declared.gsd.GsdEntry.{GsdEntry}
use Rattle.m11_obj.specs.declared.gsd.GsdKind.{GsdKind}
use Rattle.m11_obj.specs.declared.gsd.GsdKind.TheVariants.{GlobalSymbol}
use Rattle.m11_obj.specs.declared.relocations.Relocation.{Relocation}
use Rattle.m11_link_modules.specs.Names.{is_among}
use Rattle.m11_link_modules.specs.Parts.{Part, Entry, Text, Relocations, Relocated}
use Rattle.m11_link_modules.specs.Positions.{current_section, distinct, modules_in, this_module}
use Rattle.m11_link_modules.specs.Rules.{defines}
use Rattle.m11_link_layout.specs.Globals.{definitions_of}
use Rattle.m11_link_layout.specs.Sections.{attributes_by}
use Rattle.m11_base_writes.specs.declared.outputs.Output.{Output}
use Rattle.m11_base_writes.specs.declared.outputs.Output.TheVariants.{Messages}
use Rattle.m11_link_text.specs.Findings.{Findings}
use Rattle.m11_link_text.specs.Lines.{different_line, multiple_line}
use Rattle.m11_link.specs.Front.{front_writes}
use Rattle.m11_link_text.specs.Relocation.{modulo, relocated}
use Rattle.m11_base_writes.specs.Outputs.{Write, to_messages, to_product}

-- ---- texts

-- a text at its address, with the index of its module and the base of the module's contribution to the text's section; the values
-- of relocations depend on both
pub record PlacedText : Type 0 where
  pub module_index : ℕ
  pub base : ℕ
  pub address : ℕ
  pub bytes : Bytes

-- the text with these bytes, placed at this address relative to the base of this module's contribution to this section
abbrev pub placed_text : Findings → ℕ → Name → ℕ → Bytes → PlacedText
placed_text found module_index section address bytes = record {
  module_index = module_index;
  base = found.base module_index section;
  address = modulo (found.base module_index section + address);
  bytes = bytes;
}

abbrev pub with_relocation : Findings → PlacedText → Relocation → PlacedText
with_relocation found text relocation = record text {
  bytes = relocated found text.module_index text.base text.address relocation text.bytes;
}

-- a text after the values of these relocations are stored in it, in their order
abbrev pub with_relocations : Findings → PlacedText → List Relocation → PlacedText
with_relocations found text [] = text
with_relocations found text (relocation ∷ relocations) =
    with_relocations found (with_relocation found text relocation) relocations

-- the block of the tape for a text; none if it has no bytes
abbrev pub block_at : ℕ → Bytes → List Write
block_at address [] = []
block_at address (byte ∷ bytes) = to_product (tape_block address (byte ∷ bytes)) ∷ []

abbrev pub text_writes : PlacedText → List Write
text_writes text = block_at text.address text.bytes

-- the relocations of a text: those that follow it before any part that isn't of a relocation record
abbrev pub relocations_after : List Part → List Relocation
relocations_after [] = []
relocations_after (Relocations ∷ parts) = relocations_after parts
relocations_after (Relocated relocation ∷ parts) = relocation ∷ relocations_after parts
relocations_after (part ∷ parts) = []

-- whether a text has ended: a part follows that isn't of a relocation record; in a whole module every text has ended
abbrev pub has_ended : List Part → Bool
has_ended [] = false
has_ended (Relocations ∷ parts) = has_ended parts
has_ended (Relocated relocation ∷ parts) = has_ended parts
has_ended (part ∷ parts) = true

abbrev pub ended_writes : Findings → PlacedText → List Part → List Write
ended_writes found text following =
    if has_ended following then text_writes (with_relocations found text (relocations_after following)) else []

-- ---- messages

-- whether an entry has the attributes of the section's first entry; true if no module has an entry for the section in the first pass,
-- which is possible only if the second pass reads other bytes
abbrev pub attributes_agree : Option ℕ → ℕ → Bool
attributes_agree None attributes = true
attributes_agree (Some first) attributes = attributes == first

-- the message about a section entry whose attributes differ from those of the section's first entry; none for any other entry
abbrev pub different_writes : Findings → ℕ → Option (Name × ℕ) → List Write
different_writes found module_index None = []
different_writes found module_index (Some section) =
    if attributes_agree (found.attributes section.0) section.1 then []
    else to_messages (different_line section.0 (found.module_name module_index)) ∷ []

-- the names of defined globals, each once, in the order of first definitions
unfoldable pub defined_names : List Part → List Name
defined_names parts = distinct (keys_of (definitions_of parts))

-- the message about a definition of a name that is already defined; none for any other entry
abbrev pub symbol_writes : Findings → ℕ → List Name → GsdEntry → List Write
symbol_writes found module_index defined entry =
    if defines entry && is_among defined entry.name
    then to_messages (multiple_line entry.name (found.module_name module_index)) ∷ [] else []

-- the message about an entry of the module with this index, if there is one; these names were defined before the entry
abbrev pub writes_by : GsdKind → Findings → ℕ → List Name → GsdEntry → List Write
writes_by GlobalSymbol found module_index defined entry = symbol_writes found module_index defined entry
writes_by kind found module_index defined entry = different_writes found module_index (attributes_by kind entry)

abbrev pub entry_writes : Findings → ℕ → List Name → GsdEntry → List Write
entry_writes found module_index defined entry = writes_by entry.kind found module_index defined entry

-- ---- the writes in their order

-- the output for a part, which depends on the parts before and after it
unfoldable pub writes_at : Findings → List Part → Part → List Part → List Write
writes_at found before (Entry entry) following = entry_writes found (modules_in before) (defined_names before) entry
writes_at found before (Text address bytes) following = ended_writes found
    (placed_text found (modules_in before) (current_section (this_module before)) address bytes) following
writes_at found before part following = []

abbrev pub writes_after : Findings → List Part → List Part → List Write
writes_after found before [] = []
writes_after found before (part ∷ parts) =
    writes_at found before part parts ++ writes_after found (before ++ part ∷ []) parts

-- the output for all parts, in their order
unfoldable pub parts_writes : Findings → List Part → List Write
parts_writes found parts = writes_after found [] parts

-- the writes so far: messages about undefined globals, the map, and the output for these parts, except a text that hasn't ended
abbrev pub writes_so_far : Findings → List Part → List Write
writes_so_far found parts = front_writes found ++ parts_writes found parts

-- the writes of the whole link: those for all parts, and the transfer block
abbrev pub link_writes : Findings → List Part → List Write
link_writes found parts = writes_so_far found parts ++ to_product (tape_block found.transfer []) ∷ []

-- ---- the number of messages

abbrev pub is_to_messages : Output → Bool
is_to_messages Messages = true
is_to_messages output = false

abbrev pub is_message : Write → Bool
is_message write = is_to_messages write.output

-- the highest count of messages: one less than 2 to the power of 32
abbrev pub most_messages : ℕ
most_messages = 4294967295

abbrev pub one_more : ℕ → Bool → ℕ
one_more count true = min (count + 1) most_messages
one_more count false = count

-- the count after more writes: one more for each message, up to the highest count
abbrev pub counted : ℕ → List Write → ℕ
counted count [] = count
counted count (write ∷ writes) = counted (one_more count (is_message write)) writes
