-- The content of a block, read once: its type and a text immediately, the entries of a directory and each relocation when the
-- caller asks for them. (RT-11 Volume and File Formats Manual, "Object file format". This division is this project's own.)
use Rattle.std.specs.Prelude.{◌≡◌, ◌<◌, ◌≤◌, [], ◌∷◌, length, Option, Some, None, Result, Ok, Err}
use Rattle.m11_base.specs.Devices.{Bytes}
use Rattle.m11_obj_blocks.specs.Frames.{content_limit}
use Rattle.m11_obj.specs.declared.contents.Contents.{Contents}
use Rattle.m11_obj.specs.declared.contents.Contents.TheVariants as contents
use Rattle.m11_obj.specs.declared.fault.RecordFault.{RecordFault}
use Rattle.m11_obj.specs.declared.relocations.Relocation.{Relocation}
use Rattle.m11_obj.specs.Reading.{◌>>=◌, content_of, entries_of, relocations_of}
use Rattle.m11_obj.specs.Records.{Content, Gsd, EndOfGsd, Text, Relocations, InternalSymbols, EndOfModule}

-- the content of a directory record, from the bytes after its type word; or the first fault of its entries
abbrev pub unread_directory : Bytes → Result Content RecordFault
unread_directory bytes = entries_of bytes >>= λ entries. Ok (Gsd entries)

-- the content of a relocation record, from the bytes after its type word; or the first fault of its relocations
abbrev pub unread_content : Bytes → Result Content RecordFault
unread_content bytes = relocations_of bytes >>= λ relocations. Ok (Relocations relocations)

-- a call read the content of a block, or returned the first fault; the entries and relocations of the content are still unread, and may
-- have a fault
abbrev pub ReadsContents : Bytes → Result Contents RecordFault → Type 0
ReadsContents bytes (Ok (contents.Directory unread)) = content_of bytes ≡ unread_directory unread
ReadsContents bytes (Ok contents.EndOfDirectory) = content_of bytes ≡ Ok EndOfGsd
ReadsContents bytes (Ok (contents.Text address text)) =
    (content_of bytes ≡ Ok (Text address text.now)) × (length text.now ≤ content_limit)
ReadsContents bytes (Ok (contents.Relocations unread)) = content_of bytes ≡ unread_content unread
ReadsContents bytes (Ok contents.InternalSymbols) = content_of bytes ≡ Ok InternalSymbols
ReadsContents bytes (Ok contents.EndOfModule) = content_of bytes ≡ Ok EndOfModule
ReadsContents bytes (Err fault) = content_of bytes ≡ Err fault

-- a call read the next relocation, which leaves fewer bytes unread; or no relocation was left; or the call returned the first fault
abbrev pub ReadsRelocation : Bytes → Bytes → Result (Option Relocation) RecordFault → Type 0
ReadsRelocation old new (Ok None) = relocations_of old ≡ Ok []
ReadsRelocation old new (Ok (Some relocation)) =
    (relocations_of old ≡ (relocations_of new >>= λ others. Ok (relocation ∷ others))) × (length new < length old)
ReadsRelocation old new (Err fault) = relocations_of old ≡ Err fault
