-- Reading the blocks of an object one after another: the first block in some bytes, or the first fault in their order. (RT-11
-- Volume and File Formats Manual, "Object file format", formatted binary blocks.) The zeros before a block, the limits, and the
-- choice of faults are this project's own.
use Rattle.std.specs.Prelude.{◌≡◌, replicate, ◌≤◌, ◌<◌, ◌==◌, ℕ, ◌+◌, ◌-◌, Bool, true, false, List, [], ◌∷◌, ◌++◌, length, sum, take, drop, codes, Option, Some, None, Result, Ok, Err, nat_lt, if◌then◌else◌}
use Rattle.m11_base.specs.Devices.{Bytes}
use Rattle.m11_obj_blocks.specs.declared.block_fault.BlockFault.{BlockFault}
use Rattle.m11_obj_blocks.specs.declared.block_fault.BlockFault.TheVariants as fault
use Rattle.m11_obj_blocks.specs.declared.limited.Lack.{Lack}
use Rattle.m11_obj_blocks.specs.declared.limited.Lack.TheVariants as lack
use Rattle.m11_obj_blocks.specs.Frames.{second_byte, word, closed, header, block, content_limit}
use Rattle.m11_obj_blocks.specs.Limited.{Position, Between, Inside, Refused, Read, ◌>>=◌, Why, Fails, EndsBetween, EndsInside, Passes, Refuses, Never, Reads, Stops}

-- the 001 that begins a block, after zeros
abbrev pub start : Bytes → Read BlockFault (Unit {0})
start [] = Err Between
start (byte ∷ rest) =
    if byte == 0 then start rest else if byte == 1 then Ok (tt, rest) else Err (Refused fault.BadStart rest)

-- the 000 after the 001
abbrev pub second : Bytes → Read BlockFault (Unit {0})
second bytes = second_byte fault.BadStart bytes

-- the length of the content, from the length in the header, which counts four bytes more and must be 4 to 516
abbrev pub count_of : ℕ → Bytes → Read BlockFault ℕ
count_of length rest =
    if nat_lt length 4 then Err (Refused fault.TooShort rest)
    else if nat_lt (content_limit + 4) length then Err (Refused fault.TooLong rest) else Ok (length - 4, rest)

abbrev pub count : Bytes → Read BlockFault ℕ
count bytes = do
  length ← word bytes
  count_of length.0 length.1

-- the zeros and the four bytes before the content of the first block, read as the length of the content
abbrev pub front_of : Bytes → Read BlockFault ℕ
front_of bytes = do
  start ← start bytes
  second ← second start.1
  count second.1

-- the next `count` bytes, if there are that many
abbrev pub content_of : ℕ → Bytes → Read BlockFault Bytes
content_of count bytes = if nat_lt (length bytes) count then Err Inside else Ok (take count bytes, drop count bytes)

-- the content, if the right sum byte follows; another byte is `BadSum`
abbrev pub summed : Bytes → Bytes → Read BlockFault Bytes
summed content bytes = closed fault.BadSum content (sum (header (length content) ++ content)) bytes

-- the content of the first block
unfoldable pub first_block : Bytes → Read BlockFault Bytes
first_block bytes = do
  start ← start bytes
  second ← second start.1
  count ← count second.1
  content ← content_of count.0 count.1
  summed content.0 content.1

-- blocks with these contents are read one after another, and then the bytes end before a further block
abbrev pub AreRead : List Bytes → Bytes → Type 0
AreRead [] bytes = first_block bytes ≡ Err Between
AreRead (content ∷ contents) bytes =
    (rest : Bytes) × (first_block bytes ≡ Ok (content, rest)) × AreRead contents rest

-- these bytes are zeros, if any, and then at least the first byte of a block, but not all bytes of the block
pub record IsCut (bytes : Bytes) : Type 0 where
  pub zeros : ℕ
  pub content : Bytes
  pub part : Bytes
  pub missing : Bytes
  pub fits : length content ≤ content_limit
  pub split : block content ≡ part ++ missing
  pub some : 0 < length part
  pub cut : 0 < length missing
  pub is : bytes ≡ replicate zeros 0 ++ part

-- why a call that reads from the feed returns this fault; no such call returns `Failed`
abbrev pub why_of : BlockFault → Why BlockFault
why_of fault.Device = Fails
why_of fault.Truncated = EndsInside
why_of fault.BadSum = Refuses fault.BadSum
why_of fault.TooLong = Refuses fault.TooLong
why_of fault.BadStart = Refuses fault.BadStart
why_of fault.TooShort = Refuses fault.TooShort
why_of fault.Failed = Never
why_of fault.TooMuch = Passes

-- the fault if no byte was returned inside a block: the feed failed or ended, or the byte was past the limit
abbrev pub missing : Lack → BlockFault
missing lack.Device = fault.Device
missing lack.End = fault.Truncated
missing lack.TooMuch = fault.TooMuch

-- a part of a block was read; or it wasn't, for the reason that the fault shows
abbrev pub ReadsPart : {X A : Type 0} → (X → A) → (Bytes → Read BlockFault A) → Position → Position → Result X BlockFault
    → Type 0
ReadsPart view read old new (Ok x) = Reads read old new (view x)
ReadsPart view read old new (Err e) = Stops read old new (why_of e)

-- the start of a block was read; or the bytes ended before a block; or the start wasn't read, for the reason that the fault shows
abbrev pub ReadsStart : Position → Position → Result Bool BlockFault → Type 0
ReadsStart old new (Ok true) = Reads start old new tt
ReadsStart old new (Ok false) = Stops start old new EndsBetween
ReadsStart old new (Err e) = Stops start old new (why_of e)

-- the front of a block was read: any zeros, and the four bytes before its content; or the bytes ended before a block; or the front wasn't
-- read, for the reason that the fault shows
abbrev pub ReadsFront : Position → Position → Result (Option ℕ) BlockFault → Type 0
ReadsFront old new (Ok (Some count)) = Reads front_of old new count
ReadsFront old new (Ok None) = Stops front_of old new EndsBetween
ReadsFront old new (Err e) = Stops front_of old new (why_of e)

-- a block was read; or the bytes ended before a block; or no block was read, for the reason that the fault shows
abbrev pub ReadsBlock : {X : Type 0} → (X → Bytes) → Position → Position → Result (Option X) BlockFault → Type 0
ReadsBlock view old new (Ok (Some block)) = Reads first_block old new (view block)
ReadsBlock view old new (Ok None) = Stops first_block old new EndsBetween
ReadsBlock view old new (Err e) = Stops first_block old new (why_of e)

-- a block with this content was read; or the bytes ended before a block; or no block was read, for the reason that the fault shows
abbrev pub ReadsInto : Bytes → Position → Position → Result Bool BlockFault → Type 0
ReadsInto content old new (Ok true) = Reads first_block old new content
ReadsInto content old new (Ok false) = Stops first_block old new EndsBetween
ReadsInto content old new (Err e) = Stops first_block old new (why_of e)

-- a reader of blocks between two calls: how many more bytes it may read, and whether it has failed
pub record BlockReading : Type 0 where
  pub room : ℕ
  pub has_failed : Bool

-- the number by which a fault is reported
abbrev pub block_fault_number : BlockFault → ℕ
block_fault_number fault.Device = 1
block_fault_number fault.Truncated = 2
block_fault_number fault.BadSum = 3
block_fault_number fault.TooLong = 4
block_fault_number fault.BadStart = 5
block_fault_number fault.TooShort = 6
block_fault_number fault.Failed = 7
block_fault_number fault.TooMuch = 8

abbrev pub block_fault_name : BlockFault → Bytes
block_fault_name fault.Device = codes "Device"
block_fault_name fault.Truncated = codes "Truncated"
block_fault_name fault.BadSum = codes "BadSum"
block_fault_name fault.TooLong = codes "TooLong"
block_fault_name fault.BadStart = codes "BadStart"
block_fault_name fault.TooShort = codes "TooShort"
block_fault_name fault.Failed = codes "Failed"
block_fault_name fault.TooMuch = codes "TooMuch"
