-- The reading of one source up to the end of a line: the bytes read from its feed, and why the reading stops. (This project's
-- own.)
use Rattle.std.specs.Prelude.{◌≡◌, ◌==◌, ℕ, ◌+◌, Bool, true, false, [], ◌∷◌, ◌++◌, length, take, Option, Result, Ok, Err}
use Rattle.m11_base.specs.Devices.{Bytes, Rises}
use Rattle.m11_base.specs.Feed.{Text, GivesByte, GivesBytes, GivesEnd, GivesFailure}
use Rattle.m11_scan.specs.declared.fault.LineFault.{LineFault}
use Rattle.m11_scan.specs.declared.fault.LineFault.TheVariants.{Read, TooMuchSource, TooManyLines}
use Rattle.m11_scan.specs.declared.sources.LineEnd.{LineEnd}
use Rattle.m11_scan.specs.declared.sources.LineEnd.TheVariants.{LineFeed, SourceEnd}
use Rattle.m11_scan.specs.Lines.{HasNoLineFeed, cleaned}
use Rattle.m11_scan.specs.OpenLine.{OpenLine, with_byte, with_all}

-- the unread text of the current source, the number of its failures, the number of bytes left within the limit, and the open line
pub record Source : Type 0 where
  pub text : Option Text
  pub faults : ℕ
  pub bytes_left : ℕ
  pub line : OpenLine

abbrev pub source : Option Text → ℕ → ℕ → OpenLine → Source
source text faults bytes_left line =
    record { text = text; faults = faults; bytes_left = bytes_left; line = line }

-- bytes without a line feed were read within the limits, and added to the line; if no line may begin, all of these bytes are NULs
pub record Took (may_begin : Bool) (old new : Source) (given : Bytes) : Type 0 where
  pub gave : GivesBytes old.text new.text given
  pub faults : new.faults ≡ old.faults
  pub bytes_left : old.bytes_left ≡ length given + new.bytes_left
  pub in_line : HasNoLineFeed given
  pub begins : may_begin ≡ false → cleaned given ≡ []
  pub line : new.line ≡ with_all old.line given

-- the reading ended with this result: at a line feed, at the end of the source, at a failure of the feed, or at a byte past a limit
abbrev pub CameLast : Bool → Source → Source → Result LineEnd LineFault → Type 0
CameLast may_begin old new (Ok LineFeed) = GivesByte old.text new.text 0o12 × (new.faults ≡ old.faults)
    × (old.bytes_left ≡ 1 + new.bytes_left) × (new.line ≡ old.line) × (may_begin ≡ true)
CameLast may_begin old new (Ok SourceEnd) = GivesEnd old.text new.text × (new.faults ≡ old.faults)
    × (new.bytes_left ≡ old.bytes_left) × (new.line ≡ old.line)
CameLast may_begin old new (Err Read) = GivesFailure old.text new.text old.faults × Rises old.faults new.faults
    × (new.bytes_left ≡ old.bytes_left)
CameLast may_begin old new (Err TooMuchSource) = (byte : ℕ) × GivesByte old.text new.text byte
    × (new.faults ≡ old.faults) × (old.bytes_left ≡ 0) × (new.bytes_left ≡ 0)
CameLast may_begin old new (Err TooManyLines) = (byte : ℕ) × GivesByte old.text new.text byte
    × (new.faults ≡ old.faults) × (old.bytes_left ≡ 1 + new.bytes_left) × ((byte == 0) ≡ false) × (may_begin ≡ false)

-- bytes without a line feed were read from a source, and then the reading ended with this result
pub record StopsAt (may_begin : Bool) (old new : Source) (result : Result LineEnd LineFault) : Type 0 where
  pub middle : Source
  pub given : Bytes
  pub took : Took may_begin old middle given
  pub last : CameLast may_begin middle new result

-- ready bytes were read, with a line feed at their end (true) or with no line feed (false)
abbrev pub TookReady : Bool → Source → Source → Bool → Type 0
TookReady may_begin old new true = StopsAt may_begin old new (Ok LineFeed)
TookReady may_begin old new false = (given : Bytes) × Took may_begin old new given

-- the bytes of a slice were read up to and including its first line feed, or all of them if it has none; all but the line feed
-- were added to the line
abbrev pub TookOf : Bytes → OpenLine → OpenLine → ℕ → Bool → Type 0
TookOf bytes old new count true = (given : Bytes) × (take count bytes ≡ given ++ 0o12 ∷ []) × (count ≡ length given + 1)
    × HasNoLineFeed given × (new ≡ with_all old given)
TookOf bytes old new count false = (count ≡ length bytes) × HasNoLineFeed bytes × (new ≡ with_all old bytes)

-- one byte was read: a line feed, a byte of the line, or a byte past a limit
abbrev pub ConsumesByte : Bool → ℕ → ℕ → ℕ → OpenLine → OpenLine → Result Bool LineFault → Type 0
ConsumesByte may_begin byte left left' line line' (Ok true) =
    (left ≡ 1 + left') × (line' ≡ line) × (byte ≡ 0o12) × (may_begin ≡ true)
ConsumesByte may_begin byte left left' line line' (Ok false) = (left ≡ 1 + left') × (line' ≡ with_byte line byte)
    × ((byte == 0o12) ≡ false) × (may_begin ≡ false → (byte == 0) ≡ true)
ConsumesByte may_begin byte left left' line line' (Err TooMuchSource) = (left ≡ 0) × (left' ≡ 0)
ConsumesByte may_begin byte left left' line line' (Err TooManyLines) =
    (left ≡ 1 + left') × ((byte == 0) ≡ false) × (may_begin ≡ false)
ConsumesByte may_begin byte left left' line line' (Err Read) = ⊥
