-- Sources of bytes: the text still to come, how it ends, and what one call reads of it; the text that comes through a fuse; and
-- feeds that are read one after another. (This project's own.)
use Rattle.std.specs.Prelude.{◌≡◌, ◌≢◌, ℕ, List, [], ◌∷◌, ◌++◌, length, take, ◌⊎◌, ⊤, Option, Some, None, MatchOption, OnSome, Result, MatchResult, if◌then◌else◌, nat_lt, ◌==◌, option_map, option_and_then}
use Rattle.std.specs.Io.KnownBytes.{Consumes, IsAtEnd, Keeps}
use Rattle.m11_base.specs.Devices.{Bytes, Rises, last_count}

-- how a text ends: with the end, and no call fails; with a failure in place of the end; or with the end, though any call may fail
pub data Ending : Type 0 where
  Ends : Ending
  Fails : Ending
  MayFail : Ending

-- the bytes still to come, and how they end
pub record Text : Type 0 where
  pub bytes : Bytes
  pub ending : Ending

-- the end of the text may be returned
abbrev pub MayEnd : Text → Type 0
MayEnd t = (t.bytes ≡ []) × (t.ending ≢ Fails)

-- a failure may come while these bytes are left, depending on how the text ends: never, only when no byte is left, or at any call
abbrev pub MayFailBefore : Bytes → Ending → Type 0
MayFailBefore bytes Ends = ⊥
MayFailBefore bytes Fails = bytes ≡ []
MayFailBefore bytes MayFail = ⊤

-- this byte, the next one of the text, was read; this says nothing about an unknown text
abbrev pub GivesByte : Option Text → Option Text → ℕ → Type 0
GivesByte None new byte = ⊤
GivesByte (Some t) new byte =
    (rest : Bytes) × (t.bytes ≡ byte ∷ rest) × (new ≡ Some (record { bytes = rest; ending = t.ending }))

-- these bytes, the next ones of the text, were read; this says nothing about an unknown text
abbrev pub GivesBytes : Option Text → Option Text → Bytes → Type 0
GivesBytes None new bytes = ⊤
GivesBytes (Some t) new bytes =
    (rest : Bytes) × (t.bytes ≡ bytes ++ rest) × (new ≡ Some (record { bytes = rest; ending = t.ending }))

-- the bytes that a feed shows as ready, of those available without a read: at most this many from the front, and none once the count of
-- failures is at its greatest value
abbrev pub ready_within : ℕ → ℕ → Bytes → Bytes
ready_within most count bytes = if count == last_count then [] else take most bytes

-- the end was returned, and the text is as before; this says nothing about an unknown text
abbrev pub GivesEnd : Option Text → Option Text → Type 0
GivesEnd None new = ⊤
GivesEnd (Some t) new = MayEnd t × (new ≡ Some t)

-- a failure was returned: no byte was read, and either the text may fail here or the count of failures was at its greatest value; this
-- says nothing about an unknown text
abbrev pub GivesFailure : Option Text → Option Text → ℕ → Type 0
GivesFailure None new count = ⊤
GivesFailure (Some t) new count =
    (MayFailBefore t.bytes t.ending ⊎ (count ≡ last_count)) × (new ≡ Some t)

-- what one call of a feed returned agrees with the feed's text before and after the call, and with its count of failures before the call
abbrev pub Gives : {E : Type 0} → Option Text → Option Text → ℕ → Result (Option ℕ) E → Type 0
Gives old new count result = MatchResult result
    (λ byte. MatchOption byte (GivesEnd old new) (GivesByte old new))
    (λ _. GivesFailure old new count)

-- a read from a reader consumed one byte, found the end of its bytes, or failed and left the reader as it was
abbrev pub ReadsByte : {E : Type 0} → Option Bytes → Option Bytes → Result (Option ℕ) E → Type 0
ReadsByte old new result = MatchResult result
    (λ byte. MatchOption byte (Consumes old new [] × OnSome old (IsAtEnd new)) (λ b. Consumes old new (b ∷ [])))
    (λ _. Keeps old new)

-- the text of a reader, if its bytes are known; each read of them may fail
abbrev pub text_of_reader : Option Bytes → Option Text
text_of_reader known = option_map (λ bytes. record { bytes = bytes; ending = MayFail }) known

-- the text that comes through a fuse of this many calls: it ends as `blown` if the fuse blows before the end of the bytes, and
-- otherwise as `whole`
abbrev pub bytes_through_fuse : ℕ → Bytes → Ending → Ending → Text
bytes_through_fuse calls bytes blown whole =
    if nat_lt calls (length bytes) then record { bytes = take calls bytes; ending = blown }
    else record { bytes = bytes; ending = whole }

-- The text that comes through a fuse of this many calls, if it can be known. A fuse that doesn't blow before the end of a text may
-- still blow at the calls that find this end. A text that may fail at any call by itself is unknown through a fuse, since each
-- failure uses up a call.
abbrev pub known_through_fuse : ℕ → Bytes → Ending → Option Text
known_through_fuse calls bytes Ends = Some (bytes_through_fuse calls bytes Fails MayFail)
known_through_fuse calls bytes Fails = Some (bytes_through_fuse calls bytes Fails Fails)
known_through_fuse calls bytes MayFail = None

-- the text of a feed through a fuse of this many calls, if it can be known; unknown if the feed's own text is
abbrev pub text_through_fuse : ℕ → Option Text → Option Text
text_through_fuse calls known = option_and_then (λ t. known_through_fuse calls t.bytes t.ending) known

-- ---- feeds that are read one after another

-- the text is these bytes, if it is known
abbrev pub HasBytes : Option Text → Bytes → Type 0
HasBytes None bytes = ⊤
HasBytes (Some t) bytes = t.bytes ≡ bytes

-- the text begins with these bytes, if it is known
abbrev pub BeginsWith : Option Text → Bytes → Type 0
BeginsWith None bytes = ⊤
BeginsWith (Some t) bytes = (rest : Bytes) × (t.bytes ≡ bytes ++ rest)

-- there are as many feeds as lists of bytes, and each feed's text, if it is known, is the list at its index
abbrev pub GiveAll : {F : Type 0} → (F → Option Text) → List F → List Bytes → Type 0
GiveAll text [] [] = ⊤
GiveAll text [] (source ∷ sources) = ⊥
GiveAll text (feed ∷ feeds) [] = ⊥
GiveAll text (feed ∷ feeds) (source ∷ sources) = HasBytes (text feed) source × GiveAll text feeds sources

-- there are as many feeds as before, and no count of failures changed
abbrev pub NoneFailed : {F : Type 0} → (F → ℕ) → List F → List F → Type 0
NoneFailed faults [] [] = ⊤
NoneFailed faults [] (new ∷ news) = ⊥
NoneFailed faults (old ∷ olds) [] = ⊥
NoneFailed faults (old ∷ olds) (new ∷ news) = (faults new ≡ faults old) × NoneFailed faults olds news

-- One feed failed after this prefix of its text, and its count of failures rose. The lists of bytes are the texts of the feeds before it,
-- where these are known. There are as many feeds as before, and no other count of failures changed.
abbrev pub OneFailed : {F : Type 0} → (F → Option Text) → (F → ℕ) → List F → List F → List Bytes → Bytes → Type 0
OneFailed text faults [] news sources beginning = ⊥
OneFailed text faults (old ∷ olds) [] sources beginning = ⊥
OneFailed text faults (old ∷ olds) (new ∷ news) [] beginning =
    BeginsWith (text old) beginning × Rises (faults old) (faults new) × NoneFailed faults olds news
OneFailed text faults (old ∷ olds) (new ∷ news) (source ∷ sources) beginning =
    HasBytes (text old) source × (faults new ≡ faults old) × OneFailed text faults olds news sources beginning
