-- The bytes that each output of an assembly gains, as one text: the blocks of the object, the lines of the listing, and the messages.
-- (RT-11 Volume and File Formats Manual, "Object file format"; MACRO-11 Language Reference Manual, "Listing control directives", "Table
-- of contents and symbol table" and "Diagnostic error message summary".)
use Rattle.std.specs.Prelude.{ℕ, if◌then◌else◌, List, [], ◌∷◌, ◌++◌, Option, Some, None}
use Rattle.std.specs.List.{cons_option}
use Rattle.m11_base.specs.Devices.{Bytes}
use Rattle.m11_obj_blocks.specs.Frames.{block}
use Rattle.m11_asm.specs.Listed.{added_lines, lines_of}
use Rattle.m11_asm_listing.specs.Messages.{count_line, message_line}
use Rattle.m11_asm_listing.specs.SymbolTable.{last_lines}
use Rattle.m11_obj.specs.Records.{Content, record_data}
use Rattle.m11_asm_passes.specs.Lines.{NumberedLine, table_at}
use Rattle.m11_asm_rules.specs.Items.{is_listed}
use Rattle.m11_asm_rules.specs.Lines.{after_line}
use Rattle.m11_scan.specs.ErrorFlags.{flags_text}
use Rattle.m11_asm.specs.Program.{Program}
use Rattle.m11_asm.specs.Written.{EndOfSource, flagged_count, is_flagged, last_location, flag_E, flags_at}

-- ---- the object

-- the block of a record in an object
abbrev pub content_block : Content → Bytes
content_block content = block (record_data content)

-- ---- the listing

-- the listing lines of a live line, if it is listed: one with its first three items, and further ones for any other items
abbrev pub listed : Program → List NumberedLine → NumberedLine → List Bytes
listed program before line =
    if is_listed (after_line program.map (table_at program.map before) line.given) line.given (flags_at program before line)
    then lines_of program.map (table_at program.map before) (flags_at program before line) line.number line.given else []

abbrev pub listed_after : Program → List NumberedLine → List NumberedLine → List Bytes
listed_after program before [] = []
listed_after program before (line ∷ lines) = listed program before line ++ listed_after program (before ++ line ∷ []) lines

-- the listing line of the empty line that is added, flagged E, if no `.END` became live; otherwise none
abbrev pub added_listed : EndOfSource → ℕ → List Bytes
added_listed ended counter = if ended.has_end then [] else added_lines flag_E ended.read counter

-- the lines for each live line that is listed, that for the added line, if there is one, and those of the symbol table and of the count of
-- flagged lines
abbrev pub listing_lines : Program → List NumberedLine → EndOfSource → List Bytes
listing_lines program lines ended = listed_after program [] lines
    ++ (added_listed ended (last_location program lines)
    ++ last_lines program.symbols program.sections (flagged_count program lines ended.has_end))

-- ---- the messages

-- the message of a line, if it is flagged
abbrev pub message_of : ℕ → ℕ → Bytes → Option Bytes
message_of flags number text = if is_flagged flags then Some (message_line (flags_text flags) number text) else None

abbrev pub messages_after : Program → List NumberedLine → List NumberedLine → List Bytes
messages_after program before [] = []
messages_after program before (line ∷ lines) =
    cons_option (message_of (flags_at program before line) line.number line.given.live.line.text)
    (messages_after program (before ++ line ∷ []) lines)

-- the message of the added line, if no `.END` became live
abbrev pub added_message : EndOfSource → List Bytes
added_message ended = if ended.has_end then [] else message_line (flags_text flag_E) ended.read [] ∷ []

-- one message for each flagged line, the message of the added line, if there is one, and the count of flagged lines
abbrev pub message_lines : Program → List NumberedLine → EndOfSource → List Bytes
message_lines program lines ended = messages_after program [] lines
    ++ (added_message ended ++ count_line (flagged_count program lines ended.has_end) ∷ [])
