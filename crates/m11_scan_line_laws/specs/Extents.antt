-- How far feeds have been read when a reading of them stops: the bytes of their texts that a reader asked for or passed. Bytes that a feed
-- has ready beyond these, or reads ahead, don't count. (This project's own.)
use Rattle.std.specs.Prelude.{◌≡◌, ◌⊎◌, true, ℕ, List, [], ◌∷◌, ◌++◌, length, map, Option, Some, None}
use Rattle.m11_base.specs.Devices.{Bytes}
use Rattle.m11_base.specs.Feed.{Text, GivesBytes, HasBytes}
use Rattle.m11_scan.specs.declared.fault.LineFault.{LineFault}
use Rattle.m11_scan.specs.Line.{SourceLine}
use Rattle.m11_scan.specs.Lines.{RawLine, input_of, cut, is_line}
use Rattle.m11_scan_line_laws.specs.Readings.{lines_of, reading_of, reading_of_input}

-- these sources are all the bytes of the first feeds, in order; of the next feed exactly this prefix was read, and of the feeds
-- after it nothing. If there is no next feed, the prefix is empty
abbrev pub GaveTo : {F : Type 0} → (F → Option Text) → List F → List F → List Bytes → Bytes → Type 0
GaveTo text [] new [] beginning = (new ≡ []) × (beginning ≡ [])
GaveTo text [] new (source ∷ sources) beginning = ⊥
GaveTo text (old ∷ olds) [] sources beginning = ⊥
GaveTo text (old ∷ olds) (new ∷ news) [] beginning =
    GivesBytes (text old) (text new) beginning × (map text news ≡ map text olds)
GaveTo text (old ∷ olds) (new ∷ news) (source ∷ sources) beginning =
    HasBytes (text old) source × GaveTo text olds news sources beginning

-- the input from the feeds: the sources, each with its end, and then the beginning of the next source
abbrev pub came_of : List Bytes → Bytes → List (Option ℕ)
came_of sources beginning = input_of sources ++ map (λ byte. Some byte) beginning

-- the last piece is a line, or there is no piece
abbrev pub EndWithLine : List RawLine → Type 0
EndWithLine pieces = (pieces ≡ [])
    ⊎ ((before : List RawLine) × (last : RawLine) × (pieces ≡ before ++ last ∷ []) × (is_line last ≡ true))

-- the lines of the input are these, and the input ends where the last of them does: after its line feed or at the end of its
-- source. Without lines the input is empty
pub record ComesTo (came : List (Option ℕ)) (lines : List SourceLine) : Type 0 where
  pub pieces : List RawLine
  pub is_cut : cut came ≡ record { lines = pieces; unclosed = [] }
  pub are : lines ≡ lines_of pieces
  pub ends : EndWithLine pieces

-- the feeds were read to the end of these lines and no further
pub record GaveLines {F : Type 0} (text : F → Option Text) (old new : List F) (lines : List SourceLine) : Type 0 where
  pub sources : List Bytes
  pub beginning : Bytes
  pub gave : GaveTo text old new sources beginning
  pub comes : ComesTo (came_of sources beginning) lines

-- the feeds were read to their ends, and these are their lines
pub record GaveAll {F : Type 0} (text : F → Option Text) (old new : List F) (lines : List SourceLine) : Type 0 where
  pub sources : List Bytes
  pub gave : GaveTo text old new sources []
  pub each : length sources ≡ length old
  pub is_reading : reading_of sources ≡ record { lines = lines; fault = None }

-- the feeds were read to the end of these lines or further, but not to the end of another line
pub record GaveTill {F : Type 0} (text : F → Option Text) (old new : List F) (lines : List SourceLine) : Type 0 where
  pub sources : List Bytes
  pub beginning : Bytes
  pub gave : GaveTo text old new sources beginning
  pub is_reading : reading_of_input (came_of sources beginning) ≡ record { lines = lines; fault = None }

-- the feeds were read past the end of these lines, up to and including the byte that passes this limit
pub record GavePast {F : Type 0} (text : F → Option Text) (old new : List F) (lines : List SourceLine) (limit : LineFault) : Type 0 where
  pub sources : List Bytes
  pub beginning : Bytes
  pub byte : ℕ
  pub gave : GaveTo text old new sources (beginning ++ byte ∷ [])
  pub before : reading_of_input (came_of sources beginning) ≡ record { lines = lines; fault = None }
  pub passes : reading_of_input (came_of sources (beginning ++ byte ∷ [])) ≡ record { lines = lines; fault = Some limit }
