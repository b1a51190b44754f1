-- The records of an object, one in each block: the content of a record, and the only form in which it is written. (RT-11 Volume
-- and File Formats Manual, "Object file format".)
use Rattle.std.specs.Prelude.{◌≡◌, ℕ, ◌+◌, ◌≤◌, ◌<◌, ◌^◌, List, [], ◌++◌, length}
use Rattle.m11_base.specs.Devices.{Bytes}
use Rattle.m11_obj.specs.declared.gsd.GsdEntry.{GsdEntry}
use Rattle.m11_obj.specs.declared.relocations.Relocation.{Relocation}
use Rattle.m11_obj_blocks.specs.Frames.{word_bytes, content_limit}
use Rattle.m11_obj.specs.Gsd.{entries_bytes, EntriesFit, entry_limit}
use Rattle.m11_obj.specs.Relocations.{relocations_bytes, RelocationsFit}

-- the content of a record, by its type; a text has its load address and its bytes
pub data Content : Type 0 where
  Gsd : List GsdEntry → Content
  EndOfGsd : Content
  Text : ℕ → Bytes → Content
  Relocations : List Relocation → Content
  InternalSymbols : Content
  EndOfModule : Content

-- the bytes of a record: its type word, and the fields that a record of this type has
abbrev pub record_data : Content → Bytes
record_data (Gsd entries) = word_bytes 1 ++ entries_bytes entries
record_data EndOfGsd = word_bytes 2
record_data (Text address bytes) = word_bytes 3 ++ word_bytes address ++ bytes
record_data (Relocations relocations) = word_bytes 4 ++ relocations_bytes relocations
record_data InternalSymbols = word_bytes 5
record_data EndOfModule = word_bytes 6

-- the fields of a content are in range, and the bytes of its record fit into a block
abbrev pub Fits : Content → Type 0
Fits (Gsd entries) = (length entries ≤ entry_limit) × EntriesFit entries
Fits (Text address bytes) = (address < 2 ^ 16) × (length bytes + 4 ≤ content_limit)
Fits (Relocations relocations) =
    (length (relocations_bytes relocations) + 2 ≤ content_limit) × RelocationsFit relocations
Fits _ = Unit {0}

-- the record of this content has fields; any other record is written as only a type word, and bytes after that are ignored
abbrev pub HasFields : Content → Type 0
HasFields (Gsd entries) = Unit {0}
HasFields EndOfGsd = ⊥
HasFields (Text address bytes) = Unit {0}
HasFields (Relocations relocations) = Unit {0}
HasFields InternalSymbols = ⊥
HasFields EndOfModule = ⊥

-- these bytes of a block are a record of this content: the bytes written for it and then, if the record has no fields, any bytes,
-- which are ignored
pub record IsRecordOf (content : Content) (bytes : Bytes) : Type 0 where
  pub fits : Fits content
  pub ignored : Bytes
  pub written : bytes ≡ record_data content ++ ignored
  pub nothing : HasFields content → ignored ≡ []
