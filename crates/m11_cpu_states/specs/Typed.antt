-- What the console can read: the bytes that were typed so far. (This project's own.)
use Rattle.std.specs.Prelude.{ℕ, Bool, true, false, ◌==◌, if◌then◌else◌, [], Option, Some}
use Rattle.m11_base.specs.Devices.{Bytes, last_count}
use Rattle.m11_base.specs.Feed.{Ending, Ends, Fails, Text}

-- how what was typed ends: with the end, if no byte will follow, and otherwise with a failure, since nobody knows the next byte
abbrev pub ending_of : Bool → Ending
ending_of true = Ends
ending_of false = Fails

-- the text of what was typed
abbrev pub typed : Bool → Bytes → Option Text
typed is_over bytes = Some (record { bytes = bytes; ending = ending_of is_over })

-- the bytes that can be read at once: none, once the count of failures is at its greatest value
abbrev pub ready_of : ℕ → Bytes → Bytes
ready_of count bytes = if count == last_count then [] else bytes
