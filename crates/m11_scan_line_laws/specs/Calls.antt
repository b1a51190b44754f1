-- The reading of sources call by call: the lines that calls have returned, and the sources that these lines were read from. (This
-- project's own.)
use Rattle.std.specs.Prelude.{◌≡◌, ℕ, ◌+◌, List, [], ◌++◌, map, Option, Some}
use Rattle.m11_base.specs.Devices.{Bytes}
use Rattle.m11_base.specs.Feed.{Text, GiveAll, NoneFailed, OneFailed}
use Rattle.m11_scan.specs.Line.{SourceLine}
use Rattle.m11_scan.specs.Lines.{RawLine, input_of, cut, bytes_in, lines_in, most_bytes, most_lines}
use Rattle.m11_scan.specs.Reader.{Position, position_at, Gave}
use Rattle.m11_scan_line_laws.specs.Extents.{EndWithLine}
use Rattle.m11_scan_line_laws.specs.Readings.{Reading, lines_of, reading_of, reading_of_input}

-- successful calls returned these lines: whole pieces within the limits were read from the sources, these are the lines among the
-- pieces, nothing was read after the last line, and no feed failed
pub record HasRead (first now : Position) (lines : List SourceLine) : Type 0 where
  pub given : List (Option ℕ)
  pub pieces : List RawLine
  pub gave : Gave first.texts now.texts given
  pub is_cut : cut given ≡ record { lines = pieces; unclosed = [] }
  pub are : lines ≡ lines_of pieces
  pub ends : EndWithLine pieces
  pub bytes_left : first.bytes_left ≡ bytes_in pieces + now.bytes_left
  pub lines_left : first.lines_left ≡ lines_in pieces + now.lines_left
  pub faults : now.faults ≡ first.faults

-- the position of a new reader
abbrev pub start : {F : Type 0} → (F → Option Text) → (F → ℕ) → List F → Position
start text faults feeds = position_at text faults feeds 0 most_bytes most_lines

-- no feed failed, and this is the reading of the sources in the feeds
abbrev pub HaveReading : {F : Type 0} → (F → Option Text) → (F → ℕ) → List F → List F → Reading → Type 0
HaveReading text faults old new reading = NoneFailed faults old new
    × (sources : List Bytes) × GiveAll text old sources × (reading_of sources ≡ reading)

-- no feed failed, and the reading of the sources in the feeds begins with these lines
abbrev pub BeginReading : {F : Type 0} → (F → Option Text) → (F → ℕ) → List F → List F → List SourceLine → Type 0
BeginReading text faults old new lines = NoneFailed faults old new
    × (sources : List Bytes) × GiveAll text old sources
    × (more : List SourceLine) × ((reading_of sources).lines ≡ lines ++ more)

-- a feed failed, and this is the reading of the bytes before the failure
abbrev pub FailReading : {F : Type 0} → (F → Option Text) → (F → ℕ) → List F → List F → Reading → Type 0
FailReading text faults old new reading = (sources : List Bytes) × (beginning : Bytes)
    × OneFailed text faults old new sources beginning
    × (reading_of_input (input_of sources ++ map (λ byte. Some byte) beginning) ≡ reading)
