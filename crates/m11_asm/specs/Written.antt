-- What an assembly writes, line by line: the texts of the object once they are closed, the lines of the listing, and the messages of
-- flagged lines; and what it writes at the end. (RT-11 Volume and File Formats Manual, "Object file format"; MACRO-11 Language
-- Reference Manual, "Listing control directives", "Table of contents and symbol table", "Diagnostic error message summary" and ".END
-- directive". The order of the three outputs, and the empty line, flagged E, that is added if no `.END` became live, are this
-- project's own.)
use Rattle.std.specs.Prelude.{ℕ, ◌+◌, ◌==◌, not, Bool, if◌then◌else◌, List, [], ◌∷◌, ◌++◌, count_by}
use Rattle.std.specs.Int.RustNames.{bit_or}
use Rattle.std.specs.List.{flat_map}
use Rattle.m11_base.specs.Devices.{Bytes}
use Rattle.m11_asm.specs.Listed.{added_lines, all_to_listing, listing_writes}
use Rattle.m11_asm_listing.specs.Messages.{count_line, message_line}
use Rattle.m11_asm_listing.specs.SymbolTable.{last_lines}
use Rattle.m11_asm_listing.specs.declared.symbol_table.SectionEntry.{SectionEntry}
use Rattle.m11_asm_listing.specs.declared.symbol_table.SymbolEntry.{SymbolEntry}
use Rattle.m11_obj.specs.Records.{EndOfModule}
use Rattle.m11_obj.specs.declared.pieces.Piece.{Piece}
use Rattle.m11_scan.specs.ErrorFlags.{flags_text}
use Rattle.m11_asm_rules.specs.Exports.{transfer_flags}
use Rattle.m11_asm_rules.specs.Lines.{pieces}
use Rattle.m11_asm_rules.specs.Meanings.{Map}
use Rattle.m11_asm_rules.specs.Placements.{placement}
use Rattle.m11_asm_rules.specs.Operations.{action}
use Rattle.m11_asm_rules.specs.Sources.{end_flags}
use Rattle.m11_asm_rules.specs.Tables.{location}
use Rattle.m11_asm_outputs.specs.Object.{content_writes, head_contents, last_records, records_closed_by}
use Rattle.m11_base_writes.specs.Outputs.{Write, flushes, to_messages}
use Rattle.m11_asm_passes.specs.Lines.{NumberedLine, givens, table_at}
use Rattle.m11_asm_passes.specs.Placed.{all_flags}
use Rattle.m11_asm.specs.Program.{Program}

-- ---- messages

-- the set with the flag E alone
abbrev pub flag_E : ℕ
flag_E = 0o10

abbrev pub is_flagged : ℕ → Bool
is_flagged flags = not (flags == 0)

-- the write of a line's message; none if the line isn't flagged
abbrev pub message_writes : ℕ → ℕ → Bytes → List Write
message_writes flags number text =
    if is_flagged flags then to_messages (message_line (flags_text flags) number text) ∷ [] else []

-- ---- pieces

-- the pieces of some lines, one after another
unfoldable pub pieces_in : Map → List NumberedLine → List Piece
pieces_in map lines = flat_map (λ line. line.pieces) (placement map (givens lines))

-- ---- a line, with the lines before it

-- the writes of the head of the object if no line comes before; otherwise none. So the head is written before the first line, or at the end
-- if there are no lines
abbrev pub head_before : Program → List NumberedLine → List Write
head_before program lines = elim lines [ [] ↦ content_writes (head_contents program.rows) | _ ↦ [] ]

-- the flags that a line reports: its own, and for `.END` the flags of its expression that depend on names, as the first pass found them
abbrev pub flags_at : Program → List NumberedLine → NumberedLine → ℕ
flags_at program before line =
    bit_or (all_flags program.map (table_at program.map before) line.given) (end_flags (transfer_flags program.transfer)
    (action line.given.is_own line.given.arguments line.given.live.line.text))

-- what a line writes: the records of the texts that its pieces close, then its listing lines, and then its message
unfoldable pub line_writes : Program → List NumberedLine → NumberedLine → List Write
line_writes program before line =
    content_writes (records_closed_by (pieces_in program.map before) (pieces program.map (table_at program.map before) line.given))
    ++ (listing_writes program.map (table_at program.map before) (flags_at program before line) line.number line.given
    ++ message_writes (flags_at program before line) line.number line.given.live.line.text)

abbrev pub written_after : Program → List NumberedLine → List NumberedLine → List Write
written_after program before [] = []
written_after program before (line ∷ lines) =
    (head_before program before ++ line_writes program before line) ++ written_after program (before ++ line ∷ []) lines

-- the writes of the first live lines of a source, with the head of the object before those of the first line; none without lines
unfoldable pub written : Program → List NumberedLine → List Write
written program lines = written_after program [] lines

-- the flags that each line of the second list reports, after the lines of the first list
abbrev pub flags_after : Program → List NumberedLine → List NumberedLine → List ℕ
flags_after program before [] = []
flags_after program before (line ∷ lines) = flags_at program before line ∷ flags_after program (before ++ line ∷ []) lines

-- how many of these lines are flagged
unfoldable pub flagged_in : Program → List NumberedLine → ℕ
flagged_in program lines = count_by is_flagged (flags_after program [] lines)

-- ---- the end

-- how many lines of the source were read, and whether `.END` became live
pub record EndOfSource : Type 0 where
  pub read : ℕ
  pub has_end : Bool

-- how many lines are flagged, including the one that is added if no `.END` became live
abbrev pub flagged_count : Program → List NumberedLine → Bool → ℕ
flagged_count program lines has_end = flagged_in program lines + (if has_end then 0 else 1)

-- the writes for the empty line, flagged E, that is added if no `.END` became live: a line of the listing with the location counter, and a
-- message; none if `.END` became live
abbrev pub added_writes : EndOfSource → ℕ → List Write
added_writes ended counter =
    if ended.has_end then []
    else all_to_listing (added_lines flag_E ended.read counter) ++ message_writes flag_E ended.read []

-- the last writes of any assembly, in order: the last text and the end of the module; the symbol table and the count of flagged lines, in
-- the listing; a flush of object and listing; and the count again, in the messages
abbrev pub closing_writes : List Piece → List SymbolEntry → List SectionEntry → ℕ → List Write
closing_writes pieces symbols sections count =
    content_writes (last_records pieces ++ EndOfModule ∷ [])
    ++ (all_to_listing (last_lines symbols sections count) ++ (flushes ++ to_messages (count_line count) ∷ []))

-- the location counter after these lines
abbrev pub last_location : Program → List NumberedLine → ℕ
last_location program lines = location (table_at program.map lines)

-- the head, if no line became live; the line that is added, at the location counter, if no `.END` became live; and the closing writes
abbrev pub last_writes : Program → List NumberedLine → EndOfSource → List Write
last_writes program lines ended =
    head_before program lines
    ++ (added_writes ended (last_location program lines)
    ++ closing_writes (pieces_in program.map lines) program.symbols program.sections (flagged_count program lines ended.has_end))

-- everything that a source writes: the writes of its lines, and those at the end
abbrev pub program_writes : Program → List NumberedLine → EndOfSource → List Write
program_writes program lines ended = written program lines ++ last_writes program lines ended
