-- The reading of whole sources: all lines in order, and the fault that stops it before the end of the last source. (MACRO-11 Language
-- Reference Manual, "Source program format". The two limits, that each is passed at a single byte, and that this byte and those after it
-- are ignored, are this project's own.)
use Rattle.std.specs.Prelude.{ℕ, ◌+◌, ◌==◌, ◌&&◌, nat_lt, false, if◌then◌else◌, List, [], ◌∷◌, ◌++◌, map, filter, Option, Some, None}
use Rattle.m11_base.specs.Devices.{Bytes}
use Rattle.m11_scan.specs.declared.fault.LineFault.{LineFault}
use Rattle.m11_scan.specs.declared.fault.LineFault.TheVariants.{TooMuchSource, TooManyLines}
use Rattle.m11_scan.specs.Line.{SourceLine, line_of}
use Rattle.m11_scan.specs.Lines.{RawLine, input_of, cut, is_line, line_text, size_of, bytes_in, lines_in, most_bytes, most_lines}

-- the lines up to the end of the last source; or those that end before the byte that passes a limit, and the fault of that limit
pub record Reading : Type 0 where
  pub lines : List SourceLine
  pub fault : Option LineFault

-- the lines among pieces of sources
abbrev pub lines_of : List RawLine → List SourceLine
lines_of pieces = map (λ piece. line_of (line_text piece)) (filter is_line pieces)

-- the byte at which a line begins, counted from 1: the first other than NUL, or the line feed after NULs alone
abbrev pub begins_at : Bytes → ℕ
begins_at [] = 1
begins_at (byte ∷ bytes) = if byte == 0 then 1 + begins_at bytes else 1

-- the fault of the limit that a piece passes first, if it passes one, after other pieces that pass none: any byte may pass the limit
-- on bytes; the byte at which a line begins may pass the limit on lines, unless it is past the limit on bytes
abbrev pub fault_at : List RawLine → RawLine → Option LineFault
fault_at before piece =
    if is_line piece && nat_lt most_lines (lines_in before + 1)
    then Some (if nat_lt most_bytes (bytes_in before + begins_at piece.bytes) then TooMuchSource else TooManyLines)
    else (if nat_lt most_bytes (bytes_in before + size_of piece) then Some TooMuchSource else None)

abbrev pub unless_fault : Option LineFault → List RawLine → Reading → Reading
unless_fault None before rest = rest
unless_fault (Some fault) before rest = record { lines = lines_of before; fault = Some fault }

-- the reading of pieces of sources: those in `before`, which pass no limit, then these, then unclosed bytes
abbrev pub reading_from : List RawLine → List RawLine → Bytes → Reading
reading_from before [] unclosed = record {
  lines = lines_of before;
  fault = fault_at before (record { bytes = unclosed; has_line_feed = false });
}
reading_from before (piece ∷ pieces) unclosed =
    unless_fault (fault_at before piece) before (reading_from (before ++ piece ∷ []) pieces unclosed)

-- the reading of an input from sources, up to their ends or to a position in one of them
abbrev pub reading_of_input : List (Option ℕ) → Reading
reading_of_input input = reading_from [] (cut input).lines (cut input).unclosed

abbrev pub reading_of : List Bytes → Reading
reading_of sources = reading_of_input (input_of sources)
