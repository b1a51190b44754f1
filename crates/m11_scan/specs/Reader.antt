-- The reading of the lines of sources, one after another: the next line, or the first fault in the order of the bytes. (The
-- limits of 4,194,304 bytes and 65,535 lines in all sources together, and the faults, are this project's own.)
use Rattle.std.specs.Prelude.{◌≡◌, ◌==◌, ℕ, ◌+◌, Bool, true, false, List, [], ◌∷◌, ◌++◌, length, map, drop, slice_index, slice_set, Option, Some, None, Result, Ok, Err}
use Rattle.m11_base.specs.Devices.{Bytes, Rises}
use Rattle.m11_base.specs.Feed.{Text, GivesByte, GivesBytes, GivesEnd, GivesFailure}
use Rattle.m11_scan.specs.declared.fault.LineFault.{LineFault}
use Rattle.m11_scan.specs.declared.fault.LineFault.TheVariants.{Read, TooMuchSource, TooManyLines}
use Rattle.m11_scan.specs.Line.{SourceLine, line_of, no_line}
use Rattle.m11_scan.specs.Lines.{RawLine, cut, cleaned, is_line, line_text, size_of, bytes_in, lines_in, most_bytes, most_lines}

-- the reader between two calls: the number of sources read to their ends, the numbers of bytes and lines left within the limits, the last
-- line, and the fault, if there was one
pub record LineReading : Type 0 where
  pub source : ℕ
  pub bytes_left : ℕ
  pub lines_left : ℕ
  pub line : SourceLine
  pub fault : Option LineFault

-- the reader at the start of the first source
abbrev pub unread : LineReading
unread =
    record { source = 0; bytes_left = most_bytes; lines_left = most_lines; line = no_line; fault = None }

-- the state of the sources between two calls: the number of sources read to their ends, the unread texts of the others, the number
-- of failures of each source, and the numbers of bytes and lines left within the limits
pub record Position : Type 0 where
  pub source : ℕ
  pub texts : List (Option Text)
  pub faults : List ℕ
  pub bytes_left : ℕ
  pub lines_left : ℕ

abbrev pub position_at : {F : Type 0} → (F → Option Text) → (F → ℕ) → List F → ℕ → ℕ → ℕ → Position
position_at text faults feeds source bytes_left lines_left = record {
  source = source;
  texts = drop source (map text feeds);
  faults = map faults feeds;
  bytes_left = bytes_left;
  lines_left = lines_left;
}

abbrev pub position : {F : Type 0} → (F → Option Text) → (F → ℕ) → List F → LineReading → Position
position text faults feeds reading =
    position_at text faults feeds reading.source reading.bytes_left reading.lines_left

-- this input, which consists of bytes and of the ends of sources, was read from the sources in order. A source that was read to its
-- end drops out of the list, and part of the next one may have been read
abbrev pub Gave : List (Option Text) → List (Option Text) → List (Option ℕ) → Type 0
Gave [] new [] = new ≡ []
Gave [] new (symbol ∷ input) = ⊥
Gave (text ∷ texts) new [] = (text' : Option Text) × GivesBytes text text' [] × (new ≡ text' ∷ texts)
Gave (text ∷ texts) new (Some byte ∷ input) =
    (text' : Option Text) × GivesByte text text' byte × Gave (text' ∷ texts) new input
Gave (text ∷ texts) new (None ∷ input) = (text' : Option Text) × GivesEnd text text' × Gave texts new input

-- pieces of sources that aren't lines (each is the end of a source with nothing but NULs before it), and then bytes without a line
-- feed or an end, were read within the limits; if no more lines may begin, all of these bytes are NULs
pub record Came (old new : Position) (given : List (Option ℕ)) : Type 0 where
  pub passed : List RawLine
  pub unclosed : Bytes
  pub gave : Gave old.texts new.texts given
  pub is_cut : cut given ≡ record { lines = passed; unclosed = unclosed }
  pub none : lines_in passed ≡ 0
  pub bytes_left : old.bytes_left ≡ bytes_in passed + length unclosed + new.bytes_left
  pub lines_left : new.lines_left ≡ old.lines_left
  pub begins : old.lines_left ≡ 0 → cleaned unclosed ≡ []
  pub faults : new.faults ≡ old.faults

-- pieces of sources that aren't lines, and then a line, were read within the limits; the line ends with its line feed or with
-- its source
pub record ReadsLine (old new : Position) (line : SourceLine) : Type 0 where
  pub given : List (Option ℕ)
  pub passed : List RawLine
  pub raw : RawLine
  pub gave : Gave old.texts new.texts given
  pub is_cut : cut given ≡ record { lines = passed ++ raw ∷ []; unclosed = [] }
  pub none : lines_in passed ≡ 0
  pub some : is_line raw ≡ true
  pub is : line ≡ line_of (line_text raw)
  pub bytes_left : old.bytes_left ≡ bytes_in passed + size_of raw + new.bytes_left
  pub lines_left : old.lines_left ≡ 1 + new.lines_left
  pub faults : new.faults ≡ old.faults

-- no line was read, and no source is left
pub record ReadsEnd (old new : Position) : Type 0 where
  pub given : List (Option ℕ)
  pub came : Came old new given
  pub closed : came.unclosed ≡ []
  pub ended : new.texts ≡ []

-- the current source failed, its number of failures rose, and the other sources are unchanged
pub record Fails (old new : Position) : Type 0 where
  pub text : Option Text
  pub text' : Option Text
  pub texts : List (Option Text)
  pub count : ℕ
  pub was : old.texts ≡ text ∷ texts
  pub is : new.texts ≡ text' ∷ texts
  pub gives : GivesFailure text text' (slice_index old.faults old.source)
  pub rises : Rises (slice_index old.faults old.source) count
  pub source : new.source ≡ old.source
  pub faults : new.faults ≡ slice_set old.faults old.source count

-- the fault that came next: a failure of the current source, a byte past the limit on bytes, or the first byte other than NUL of a
-- line past the limit on lines
abbrev pub FaultComes : Position → Position → LineFault → Type 0
FaultComes old new Read = Fails old new
FaultComes old new TooMuchSource = (byte : ℕ) × Gave old.texts new.texts (Some byte ∷ [])
    × (new.faults ≡ old.faults) × (old.bytes_left ≡ 0)
FaultComes old new TooManyLines = (byte : ℕ) × Gave old.texts new.texts (Some byte ∷ [])
    × (new.faults ≡ old.faults) × ((byte == 0) ≡ false) × (old.lines_left ≡ 0) × (old.bytes_left ≡ 1 + new.bytes_left)

-- the result of a call: the line that it read, or none, or a fault
abbrev pub found : SourceLine → Result Bool LineFault → Result (Option SourceLine) LineFault
found line (Ok true) = Ok (Some line)
found line (Ok false) = Ok None
found line (Err fault) = Err fault

-- a call read the next line, found that there is none, or returned a fault
abbrev pub ReadsNext : Position → Position → Result (Option SourceLine) LineFault → Type 0
ReadsNext old new (Ok (Some line)) = ReadsLine old new line
ReadsNext old new (Ok None) = ReadsEnd old new
ReadsNext old new (Err fault) =
    (given : List (Option ℕ)) × (middle : Position) × Came old middle given × FaultComes middle new fault
