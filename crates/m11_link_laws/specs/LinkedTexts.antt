-- The tape of a link: each text that has data, with the values that its relocations store, as one block. (RT-11 Volume and File Formats
-- Manual, "Object file format", TXT and RLD blocks; "Absolute binary file format".)
use Rattle.std.specs.Prelude.{ℕ, Bool, true, false, List, [], ◌∷◌, ◌++◌, map, Option, Some, None}
use Rattle.std.specs.List.{cons_option, filter}
use Rattle.m11_base.specs.Devices.{Bytes}
use Rattle.m11_base.specs.Rad50.{Name}
use Rattle.m11_obj.specs.declared.relocations.Relocation.{Relocation}
use Rattle.m11_link_modules.specs.Parts.{Part, Text}
use Rattle.m11_link_modules.specs.Positions.{current_section, modules_in, this_module}
use Rattle.m11_link_text.specs.Findings.{Findings}
use Rattle.m11_link.specs.Written.{PlacedText, placed_text, relocations_after, with_relocations}

-- a text as it is in an object: the index of its module, the section that the module selected last, its address relative to the base
-- of the module's contribution to that section, its bytes, and the relocations between it and the next part that isn't of a
-- relocation record
pub record ObjectText : Type 0 where
  pub module_index : ℕ
  pub section : Name
  pub address : ℕ
  pub bytes : Bytes
  pub relocations : List Relocation

abbrev pub text_at : List Part → Part → List Part → Option ObjectText
text_at before (Text address bytes) following = Some (record {
  module_index = modules_in before;
  section = current_section (this_module before);
  address = address;
  bytes = bytes;
  relocations = relocations_after following;
})
text_at before part following = None

abbrev pub texts_after : List Part → List Part → List ObjectText
texts_after before [] = []
texts_after before (part ∷ following) =
    cons_option (text_at before part following) (texts_after (before ++ part ∷ []) following)

-- the texts of all objects, in the order of the parts
unfoldable pub object_texts : List Part → List ObjectText
object_texts parts = texts_after [] parts

-- a text at its address in the link, with the values that its relocations store, one after another
abbrev pub linked : Findings → ObjectText → PlacedText
linked found text =
    with_relocations found (placed_text found text.module_index text.section text.address text.bytes) text.relocations

abbrev pub linked_text : Findings → ObjectText → ℕ × Bytes
linked_text found text = ((linked found text).address, (linked found text).bytes)

-- the address in the link and the relocated bytes of each text, in the order of the parts
abbrev pub linked_texts : Findings → List Part → List (ℕ × Bytes)
linked_texts found parts = map (linked_text found) (object_texts parts)

abbrev pub has_data : Bytes → Bool
has_data [] = false
has_data (byte ∷ bytes) = true

-- the texts that are blocks of the tape: a block without data would be the transfer block
abbrev pub tape_blocks : Findings → List Part → List (ℕ × Bytes)
tape_blocks found parts = filter (λ text. has_data text.1) (linked_texts found parts)
