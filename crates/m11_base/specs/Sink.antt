-- Sinks for bytes. (This project's own.) The known text of a sink is all that it has accepted. Adding to a known text is
-- `Appends` of the standard library, which says nothing about an unknown one.
use Rattle.std.specs.Prelude.{◌≡◌, ℕ, zero, suc, ◌-◌, [], ◌++◌, length, take, Option, option_map, Result, MatchResult}
use Rattle.std.specs.Io.KnownBytes.{Appends}
use Rattle.m11_base.specs.Devices.{Bytes, Rises}

-- a call of a sink added as many bytes as it returned, from the front of those offered to it, and none at an error
abbrev pub Takes : {E : Type 0} → Option Bytes → Option Bytes → Result ℕ E → Bytes → Type 0
Takes old new result bytes =
    MatchResult result (λ n. Appends old new (take n bytes)) (λ _. Appends old new [])

-- a count of failures rises if a call accepted none of the bytes offered to it, and is unchanged if it accepted some or none were offered;
-- the arguments are the count before and after the call, and the numbers of bytes accepted and offered
abbrev pub CountsAt : ℕ → ℕ → ℕ → ℕ → Type 0
CountsAt old new zero zero = new ≡ old
CountsAt old new zero (suc n) = Rises old new
CountsAt old new (suc n) m = new ≡ old

-- a count of failures rises if the call failed or accepted none of the bytes offered to it, and is unchanged otherwise
abbrev pub Counts : {E : Type 0} → ℕ → ℕ → Result ℕ E → Bytes → Type 0
Counts old new result bytes =
    MatchResult result (λ n. CountsAt old new n (length bytes)) (λ _. Rises old new)

-- a count of failures rises if a flush failed, and is unchanged otherwise
abbrev pub CountsFlush : {A E : Type 0} → ℕ → ℕ → Result A E → Type 0
CountsFlush old new result = MatchResult result (λ _. new ≡ old) (λ _. Rises old new)

-- the bytes that the device has received, if they are known: all accepted bytes but the last `held`, which are held back
abbrev pub handed_on : Option Bytes → ℕ → Option Bytes
handed_on text held = option_map (λ bytes. take (length bytes - held) bytes) text

-- a known text grew by a prefix of the bytes, perhaps by none or by all of them
abbrev pub AppendsPrefix : Option Bytes → Option Bytes → Bytes → Type 0
AppendsPrefix old new bytes = (part : Bytes) × (rest : Bytes) × (bytes ≡ part ++ rest) × Appends old new part
