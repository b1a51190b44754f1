-- Devices for reading or writing bytes: what all of them have in common. (This project's own: no manual covers it.) A device
-- may fail at a call. It counts the calls that failed, and a contract blames a device only if that count rises.
use Rattle.std.specs.Prelude.{◌≡◌, ℕ, ◌+◌, ◌-◌, ◌^◌, min, List}

-- bytes as numbers; the type doesn't restrict them to numbers below 256
abbrev pub Bytes : Type 0
Bytes = List ℕ

-- the greatest value that a count of failures can have
abbrev pub last_count : ℕ
last_count = 2 ^ 64 - 1

-- the count of failures rises by one, but not above `last_count`
abbrev pub Rises : ℕ → ℕ → Type 0
Rises old new = new ≡ min (old + 1) last_count
