-- The messages of an assembly about flagged lines. (This project's own.)
use Rattle.std.specs.Prelude.{ℕ, [], ◌∷◌, ◌++◌, codes}
use Rattle.std.specs.Fmt.{decimal}
use Rattle.m11_base.specs.Devices.{Bytes}
use Rattle.m11_asm_listing.specs.Columns.{printed}
use Rattle.m11_obj_print.specs.Lines.{line_of}

-- the message of a flagged line: its flags, its number and its text; blanks at the end are left out
abbrev pub message_line : Bytes → ℕ → Bytes → Bytes
message_line flags number text = line_of (flags ++ codes " " ++ decimal number ++ codes ": " ++ printed text)

-- the line with the number of flagged lines, which ends the listing and the messages
abbrev pub count_line : ℕ → Bytes
count_line count = codes "ERRORS DETECTED: " ++ decimal count ++ 0o12 ∷ []
