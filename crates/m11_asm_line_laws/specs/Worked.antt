-- Sources of a few lines, with what they emit at their locations and their flags. (MACRO-11 Language Reference Manual, "Source program
-- format".)
use Rattle.std.specs.Prelude.{ℕ, false, List, [], map, None}
use Rattle.std.specs.List.{flat_map}
use Rattle.m11_scan_expressions.specs.Remarks.{no_remarks}
use Rattle.m11_base.specs.Names.{blank_name}
use Rattle.m11_base.specs.Devices.{Bytes}
use Rattle.m11_scan.specs.Line.{line_of}
use Rattle.m11_obj.specs.declared.pieces.Piece.{Piece}
use Rattle.m11_obj.specs.declared.pieces.PieceContent.TheVariants.{Byte, Word}
use Rattle.m11_obj.specs.declared.pieces.RelocationKind.{RelocationKind}
use Rattle.m11_asm_rules.specs.Contents.{fixed_byte, fixed_word, piece}
use Rattle.m11_asm_rules.specs.Meanings.{firm_known}
use Rattle.m11_asm_rules.specs.Placements.{LinePlacement, placement, program_map}
use Rattle.m11_asm_rules.specs.Tables.{first_table}
use Rattle.m11_asm.specs.Program.{program_of}
use Rattle.m11_asm.specs.Written.{flags_after}
use Rattle.m11_asm_passes.specs.Lines.{NumberedLine, numbered}
use Rattle.m11_scan.specs.ErrorFlags.{flags_text}
use Rattle.m11_unfold_rules.specs.Unfolding.{UnfoldedLine}

-- a line of the source itself that unfolding leaves unchanged
abbrev pub plain : Bytes → UnfoldedLine
plain text = record {
  live = record { line = line_of text; is_expanded = false };
  known = firm_known first_table 0;
  is_own = false;
  remarks = no_remarks;
  arguments = None;
}

-- the flags of each line, and the pieces of all lines
pub record Shown : Type 0 where
  pub flags : List Bytes
  pub pieces : List Piece

abbrev pub pieces_of : List LinePlacement → List Piece
pieces_of lines = flat_map (λ line. line.pieces) lines

-- a line with the number 0: no flag of a line depends on its number
abbrev pub unnumbered : UnfoldedLine → NumberedLine
unnumbered given = numbered 0 given

-- the flags that an assembly reports for each line
abbrev pub reported : List UnfoldedLine → List ℕ
reported lines = flags_after (program_of lines) [] (map unnumbered lines)

-- the results of the second pass, with the map of the first
abbrev pub assembled : List UnfoldedLine → Shown
assembled lines = record {
  flags = map flags_text (reported lines);
  pieces = pieces_of (placement (program_map lines) lines);
}

-- a source and its results
pub record Row : Type 0 where
  pub source : List Bytes
  pub flags : List Bytes
  pub pieces : List Piece

abbrev pub row : List Bytes → List Bytes → List Piece → Row
row source flags pieces = record { source = source; flags = flags; pieces = pieces }

abbrev pub found : Row → Shown
found row = assembled (map plain row.source)

abbrev pub expected : Row → Shown
expected row = record { flags = row.flags; pieces = row.pieces }

-- ---- pieces of the blank section

abbrev pub word : ℕ → ℕ → Piece
word location number = piece blank_name location (fixed_word number)

abbrev pub byte : ℕ → ℕ → Piece
byte location number = piece blank_name location (fixed_byte number)

abbrev pub moved_word : ℕ → RelocationKind → ℕ → Piece
moved_word location kind constant = piece blank_name location (Word (record { constant = constant; kind = kind }))

abbrev pub moved_byte : ℕ → RelocationKind → ℕ → Piece
moved_byte location kind constant = piece blank_name location (Byte (record { constant = constant; kind = kind }))
