-- The bytes in a linked program for a piece of an object. (RT-11 Volume and File Formats Manual, "Object file format", TXT and RLD
-- blocks.)
use Rattle.std.specs.Prelude.{ℕ, Option, Some, None}
use Rattle.m11_base.specs.Devices.{Bytes}
use Rattle.m11_link_text.specs.Findings.{Findings}
use Rattle.m11_link_text.specs.Relocation.{stored_bytes}
use Rattle.m11_obj.specs.declared.relocations.Relocation.{Relocation}
use Rattle.m11_obj.specs.Pieces.{content_bytes, relocation_at}
use Rattle.m11_obj.specs.declared.pieces.PieceContent.{PieceContent}
use Rattle.m11_obj.specs.declared.pieces.PieceContent.TheVariants.{Byte, Word}
use Rattle.m11_obj.specs.declared.pieces.RelocationKind.{RelocationKind}
use Rattle.m11_obj.specs.declared.pieces.StoredConstant.{StoredConstant}

-- the bytes that a relocation stores, or those of the text if there is no relocation
abbrev pub bytes_by : Findings → ℕ → ℕ → ℕ → Bytes → Option Relocation → Bytes
bytes_by found module_index own linked_location text (Some relocation) =
    stored_bytes found module_index own linked_location relocation.is_byte relocation.target
bytes_by found module_index own linked_location text None = text

-- the linked bytes of a piece at a linked location, in a text of the module with this index, in the section contribution with this base;
-- the bytes don't depend on the displacement of the relocation, which is 4 here
abbrev pub linked_bytes : Findings → ℕ → ℕ → ℕ → PieceContent → Bytes
linked_bytes found module_index own linked_location content =
    bytes_by found module_index own linked_location (content_bytes content) (relocation_at 4 content)

abbrev pub constant_of : RelocationKind → ℕ → StoredConstant
constant_of kind constant = record { constant = constant; kind = kind }

-- the linked bytes of a word, and of a byte
abbrev pub linked_word : Findings → ℕ → ℕ → ℕ → RelocationKind → ℕ → Bytes
linked_word found module_index own linked_location kind constant =
    linked_bytes found module_index own linked_location (Word (constant_of kind constant))

abbrev pub linked_byte : Findings → ℕ → ℕ → ℕ → RelocationKind → ℕ → Bytes
linked_byte found module_index own linked_location kind constant =
    linked_bytes found module_index own linked_location (Byte (constant_of kind constant))
