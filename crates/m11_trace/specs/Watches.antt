-- Watched words between the steps of a run: each with the number of steps that must still change it to stop the run. (This project's own.)
use Rattle.std.specs.Prelude.{ℕ, ◌-◌, ◌==◌, ◌&&◌, if◌then◌else◌, Bool, not, List, [], ◌∷◌, Option, Some, None}
use Rattle.m11_base.specs.Devices.{Bytes}
use Rattle.m11_trace.specs.Stops.{watched_word}
use Rattle.m11_trace.specs.declared.stops.CountedAddress.{CountedAddress}
use Rattle.m11_trace.specs.declared.watches.Watch.{Watch}

-- a watched word before the first step, when the memory is this
abbrev pub watch_of : Bytes → CountedAddress → Watch
watch_of memory watched =
    record { address = watched.address; count = watched.count; word = watched_word watched.address memory }

-- whether the run stops because the latest step, which left this memory, changed the word: it isn't what it was before, and its count is down
-- to 1
abbrev pub is_last_change : Bytes → Watch → Bool
is_last_change memory watch = not (watch.word == watched_word watch.address memory) && watch.count == 1

-- the address of the first word that stops the run because the latest step changed it, if there is one
abbrev pub stopping_address : Bytes → List Watch → Option ℕ
stopping_address memory [] = None
stopping_address memory (watch ∷ others) =
    if is_last_change memory watch then Some watch.address else stopping_address memory others

-- a watched word after a step that left this memory: if the step changed the word, the count is one lower, but not below 0
abbrev pub watch_after : Bytes → Watch → Watch
watch_after memory watch =
    if watch.word == watched_word watch.address memory then watch
    else record { address = watch.address; count = watch.count - 1; word = watched_word watch.address memory }
