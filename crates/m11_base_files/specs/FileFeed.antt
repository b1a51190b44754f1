-- A file that is read: what is still to come of it at each stage, what is ready, and what one read does. (This project's own.)
use Rattle.std.specs.Prelude.{◌≡◌, ℕ, ◌<◌, ◌≤◌, [], ⊤, Option, Some, MatchOption, Result, MatchResult, IsErr}
use Rattle.std.specs.declared.io.impls.Empty.{Empty}
use Rattle.either.specs.declared.Either.{Either}
use Rattle.m11_base.specs.Devices.{Bytes, Rises, last_count}
use Rattle.m11_base.specs.Feed.{Text, Gives, MayFail, text_of_reader}
use Rattle.m11_base.specs.declared.buffered.BufferedFeed.{BufferedFeed}
use Rattle.m11_base.specs.declared.feed.Feed.{Ghosts}
use Rattle.m11_base.specs.declared.stream.ReaderFeed.{ReaderFeed}
use Rattle.m11_base_files.specs.declared.file_feed.Stage.{Stage}
use Rattle.m11_base_files.specs.declared.file_feed.Stage.TheVariants.{Unread, Reading, Unbuffered, Over}

-- a reader of nothing, or the file
abbrev pub Slot : Type 0 → Type 0
Slot F = Either Empty F

-- nothing has been read
abbrev pub IsUnread : {F : Type 0} → Stage F → Type 0
IsUnread (Unread alloc file) = ⊤
IsUnread (Reading feed) = ⊥
IsUnread (Unbuffered feed) = ⊥
IsUnread (Over count) = ⊥

-- the file has a feed, or had one and is closed
abbrev pub IsBegun : {F : Type 0} → Stage F → Type 0
IsBegun (Unread alloc file) = ⊥
IsBegun (Reading feed) = ⊤
IsBegun (Unbuffered feed) = ⊤
IsBegun (Over count) = ⊤

-- there is no buffer
abbrev pub LacksBuffer : {F : Type 0} → Stage F → Type 0
LacksBuffer (Unread alloc file) = ⊤
LacksBuffer (Reading feed) = ⊥
LacksBuffer (Unbuffered feed) = ⊤
LacksBuffer (Over count) = ⊤

-- a file that has a buffer is closed, and the count of its failures kept; any other is unchanged
abbrev pub closed : {F : Type 0} → Ghosts (BufferedFeed (Slot F)) → Stage F → Stage F
closed buffered (Unread alloc file) = Unread alloc file
closed buffered (Reading feed) = Over (buffered.faults feed)
closed buffered (Unbuffered feed) = Unbuffered feed
closed buffered (Over count) = Over count

-- ---- what a feed shows of its file; `buffered` and `plain` are what the feeds with and without a buffer show

-- the text still to come: that of the file if it hasn't been read, that of its feed once it has one, and empty once it is closed
abbrev pub text_of : {F : Type 0} → (F → Option Bytes) → Ghosts (BufferedFeed (Slot F)) → Ghosts (ReaderFeed F) → Stage F → Option Text
text_of remaining buffered plain (Unread alloc file) = text_of_reader (remaining file)
text_of remaining buffered plain (Reading feed) = buffered.text feed
text_of remaining buffered plain (Unbuffered feed) = plain.text feed
text_of remaining buffered plain (Over count) = Some (record { bytes = []; ending = MayFail })

-- how often a call has failed: as often as a call of the file's feed, once it has one
abbrev pub count_of : {F : Type 0} → Ghosts (BufferedFeed (Slot F)) → Ghosts (ReaderFeed F) → Stage F → ℕ
count_of buffered plain (Unread alloc file) = 0
count_of buffered plain (Reading feed) = buffered.faults feed
count_of buffered plain (Unbuffered feed) = plain.faults feed
count_of buffered plain (Over count) = count

-- an upper bound on the number of bytes still to come: `last_count` before the first read, then that of the file's feed, and 0 once the
-- file is closed
abbrev pub left_of : {F : Type 0} → Ghosts (BufferedFeed (Slot F)) → Ghosts (ReaderFeed F) → Stage F → ℕ
left_of buffered plain (Unread alloc file) = last_count
left_of buffered plain (Reading feed) = buffered.left feed
left_of buffered plain (Unbuffered feed) = plain.left feed
left_of buffered plain (Over count) = 0

-- the bytes available without a read: those of the feed if the file has a buffer, otherwise none
abbrev pub ready_of : {F : Type 0} → Ghosts (BufferedFeed (Slot F)) → Stage F → Bytes
ready_of buffered (Unread alloc file) = []
ready_of buffered (Reading feed) = buffered.ready_bytes feed
ready_of buffered (Unbuffered feed) = []
ready_of buffered (Over count) = []

-- ---- one call of `next`

-- an upper bound on the number of bytes still to come, before and after a read: a byte lowers it
abbrev pub Shrinks : {E : Type 0} → ℕ → ℕ → Result (Option ℕ) E → Type 0
Shrinks old new result = MatchResult result (λ byte. MatchOption byte (new ≤ old) (λ _. new < old)) (λ _. new ≤ old)

-- What one call returned agrees with the text, the count of failures and the bound on the bytes still to come, each before and after the
-- call: the count rose if the call failed, and the call failed if the count was at its greatest value; a byte lowered the bound.
abbrev pub StepsOver : {E : Type 0} → Option Text → Option Text → ℕ → ℕ → ℕ → ℕ → Result (Option ℕ) E → Type 0
StepsOver old_text new_text old_count new_count old_left new_left result =
    Gives old_text new_text old_count result
    × MatchResult result (λ _. new_count ≡ old_count) (λ _. Rises old_count new_count)
    × (old_count ≡ last_count → IsErr result)
    × Shrinks old_left new_left result

-- one call, from the feed before it to the feed after it; `shown` is what such a feed shows
abbrev pub Steps : {S : Type 0} {E : Type 0} → Ghosts S → S → S → Result (Option ℕ) E → Type 0
Steps shown old new result =
    StepsOver (shown.text old) (shown.text new) (shown.faults old) (shown.faults new) (shown.left old) (shown.left new) result
