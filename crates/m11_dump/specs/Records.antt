-- The lines of a record that isn't a text, and of a text in octal. (The records: RT-11 Volume and File Formats Manual, "Object file
-- format". The lines are this project's own.)
use Rattle.std.specs.Prelude.{ℕ, ◌++◌, List, [], ◌∷◌, codes, Result, Ok, Err}
use Rattle.std.specs.List.{flat_map}
use Rattle.m11_base.specs.Devices.{Bytes}
use Rattle.m11_base.specs.Octal.{octal_text}
use Rattle.m11_obj.specs.Reading.{content_of}
use Rattle.m11_obj.specs.Records.{Content, Gsd, EndOfGsd, Text, Relocations, InternalSymbols, EndOfModule}
use Rattle.m11_obj.specs.declared.fault.RecordFault.{RecordFault}
use Rattle.m11_dump.specs.Entries.{entry_line}
use Rattle.m11_dump.specs.Octets.{octets}
use Rattle.m11_dump.specs.Relocations.{relocation_line}

-- the lines of a text in octal: its address within its section, and its bytes
abbrev pub octal_lines : ℕ → Bytes → Bytes
octal_lines address bytes = ((codes "TEXT " ++ octal_text address) ++ octets address bytes) ++ 10 ∷ []

-- the lines of a record: one for each entry of a directory or each relocation, none for a text, one for any other record;
-- relocations apply to the text before them, which lies at this address
abbrev pub record_lines : ℕ → Content → Bytes
record_lines address (Gsd entries) = flat_map entry_line entries
record_lines address EndOfGsd = codes "END OF DIRECTORY\n"
record_lines address (Text own bytes) = []
record_lines address (Relocations relocations) = flat_map (relocation_line address) relocations
record_lines address InternalSymbols = codes "INTERNAL SYMBOLS\n"
record_lines address EndOfModule = codes "END OF MODULE\n"

-- the address of the last text up to and including this record, where the last text before it lies at `address`
abbrev pub address_after : ℕ → Content → ℕ
address_after address (Text own bytes) = own
address_after address content = address

-- ---- the records of blocks

-- the record of a block's content; none if it isn't valid
abbrev pub kept : Result Content RecordFault → List Content
kept (Ok content) = content ∷ []
kept (Err fault) = []

abbrev pub records_of : List Bytes → List Content
records_of contents = flat_map (λ content. kept (content_of content)) contents

abbrev pub address_then : ℕ → Result Content RecordFault → ℕ
address_then address (Ok content) = address_after address content
address_then address (Err fault) = address

abbrev pub lines_then : ℕ → Result Content RecordFault → Bytes
lines_then address (Ok content) = record_lines address content
lines_then address (Err fault) = []
