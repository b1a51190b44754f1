-- Source lines. (MACRO-11 Language Reference Manual, "Source program format". The treatment of NULs, of a CR before a line feed, and of
-- form feeds is this project's own.)
use Rattle.std.specs.Prelude.{◌≡◌, ℕ, ◌+◌, ⊤, Bool, true, false, not, ◌||◌, ◌&&◌, ◌==◌, if◌then◌else◌, List, [], ◌∷◌, ◌++◌, length, map, filter, sum_by, count_by, Option, Some, None}
use Rattle.std.specs.List.{flat_map}
use Rattle.m11_base.specs.Devices.{Bytes}

-- the input from sources, in order: the bytes of each source, and its end
abbrev pub input_of : List Bytes → List (Option ℕ)
input_of sources = flat_map (λ source. map (λ byte. Some byte) source ++ None ∷ []) sources

-- the bytes before a line feed or before the end of a source, and which of the two ends them
pub record RawLine : Type 0 where
  pub bytes : Bytes
  pub has_line_feed : Bool

-- an input cut after each line feed and at the end of each source: the pieces before the cuts, and the unclosed bytes after the last
-- cut
pub record Cut : Type 0 where
  pub lines : List RawLine
  pub unclosed : Bytes

abbrev pub closed_by : Bool → Cut → Cut
closed_by has_line_feed c =
    record { lines = record { bytes = []; has_line_feed = has_line_feed } ∷ c.lines; unclosed = c.unclosed }

abbrev pub in_front : ℕ → List RawLine → Bytes → Cut
in_front byte [] unclosed = record { lines = []; unclosed = byte ∷ unclosed }
in_front byte (line ∷ lines) unclosed = record {
  lines = record { bytes = byte ∷ line.bytes; has_line_feed = line.has_line_feed } ∷ lines;
  unclosed = unclosed;
}

abbrev pub cut : List (Option ℕ) → Cut
cut [] = record { lines = []; unclosed = [] }
cut (None ∷ input) = closed_by false (cut input)
cut (Some byte ∷ input) =
    if byte == 0o12 then closed_by true (cut input) else in_front byte (cut input).lines (cut input).unclosed

-- a form feed is read as a blank
abbrev pub as_read : ℕ → ℕ
as_read byte = if byte == 0o14 then 0o40 else byte

-- the bytes without NULs, and with blanks in place of form feeds
abbrev pub cleaned : Bytes → Bytes
cleaned bytes = map as_read (filter (λ byte. not (byte == 0)) bytes)

abbrev pub is_empty : Bytes → Bool
is_empty [] = true
is_empty (byte ∷ bytes) = false

-- the bytes without the CR at their end, if there is one
abbrev pub without_return : Bytes → Bytes
without_return [] = []
without_return (byte ∷ bytes) =
    if is_empty bytes && byte == 13 then [] else byte ∷ without_return bytes

-- the text of a line: its bytes without NULs, with blanks in place of form feeds, and without a CR at the end if a line feed
-- follows
abbrev pub line_text : RawLine → Bytes
line_text line =
    if line.has_line_feed then without_return (cleaned line.bytes) else cleaned line.bytes

-- whether these bytes are a line: a line feed ends them, or they aren't all NULs
abbrev pub is_line : RawLine → Bool
is_line line = line.has_line_feed || not (is_empty (cleaned line.bytes))

-- the number of bytes that a line has in its source, including its line feed if it has one
abbrev pub size_of : RawLine → ℕ
size_of line = length line.bytes + (if line.has_line_feed then 1 else 0)

-- the number of bytes in pieces of an input, including their line feeds
abbrev pub bytes_in : List RawLine → ℕ
bytes_in lines = sum_by size_of lines

-- the number of lines among pieces of an input
abbrev pub lines_in : List RawLine → ℕ
lines_in lines = count_by is_line lines

-- the most bytes that all sources together may have
abbrev pub most_bytes : ℕ
most_bytes = 4194304

-- the most lines that all sources together may have
abbrev pub most_lines : ℕ
most_lines = 65535

abbrev pub HasNoLineFeed : Bytes → Type 0
HasNoLineFeed [] = ⊤
HasNoLineFeed (byte ∷ bytes) = ((byte == 0o12) ≡ false) × HasNoLineFeed bytes
