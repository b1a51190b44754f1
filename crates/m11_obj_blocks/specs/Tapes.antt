-- Tapes: the blocks of absolute binary, and reading them one after another, up to the first fault in the order of the bytes. (RT-11
-- Volume and File Formats Manual, "Absolute binary file format".) That any byte but 001 is skipped before a block, the limits, and the
-- choice of faults are this project's own choices.
use Rattle.std.specs.Prelude.{◌≡◌, ◌≢◌, ◌==◌, ℕ, ◌+◌, ◌-◌, ◌%◌, ◌<◌, ◌≤◌, List, [], ◌∷◌, ◌++◌, length, sum, codes, ⊤, Result, Ok, Err, nat_lt, if◌then◌else◌}
use Rattle.m11_base.specs.Devices.{Bytes}
use Rattle.m11_obj_blocks.specs.declared.limited.Lack.{Lack}
use Rattle.m11_obj_blocks.specs.declared.limited.Lack.TheVariants as lack
use Rattle.m11_obj_blocks.specs.declared.tape_fault.TapeFault.{TapeFault}
use Rattle.m11_obj_blocks.specs.declared.tape_fault.TapeFault.TheVariants as fault
use Rattle.m11_obj_blocks.specs.declared.tape_part.TapePart.{TapePart}
use Rattle.m11_obj_blocks.specs.declared.tape_part.TapePart.TheVariants.{Data, Start}
use Rattle.m11_obj_blocks.specs.declared.tape_part.TapeStage.{TapeStage}
use Rattle.m11_obj_blocks.specs.declared.tape_part.TapeStage.TheVariants.{BeforeBlock, InBlock, AtEnd, AfterFault}
use Rattle.m11_obj_blocks.specs.Frames.{word_bytes, front, with_sum, second_byte, word, closed}
use Rattle.m11_obj_blocks.specs.Limited.{Position, Between, Inside, Refused, Read, ◌>>=◌, Why, Fails, EndsBetween, EndsInside, Passes, Refuses, Never, Reads, Stops}

-- ---- the format

-- the six bytes before the data: the count in them includes these six
abbrev pub tape_header : ℕ → ℕ → Bytes
tape_header address count = front (count + 6) ++ word_bytes address

-- a block: its header, its data, and the byte that makes the sum of all its bytes a multiple of 256
unfoldable pub tape_block : ℕ → Bytes → Bytes
tape_block address content = with_sum (tape_header address (length content) ++ content)

-- the most bytes of data that a block may have
abbrev pub data_limit : ℕ
data_limit = 65529

-- these bytes are blocks of data, in order, each with its address, and then the transfer block, which has an address but no data; any
-- bytes but 001 may come before each block, and any bytes at all after the transfer block
pub data IsTape : List (ℕ × Bytes) → ℕ → Bytes → Type 0 where
  Transfer : (address : ℕ) (rest : Bytes) → address < 65536 → IsTape [] address (tape_block address [] ++ rest)
  Skipped : {blocks : List (ℕ × Bytes)} {address : ℕ} {bytes : Bytes} (byte : ℕ) → byte ≢ 1
      → IsTape blocks address bytes → IsTape blocks address (byte ∷ bytes)
  Block : {blocks : List (ℕ × Bytes)} {start : ℕ} {bytes : Bytes} (address : ℕ) (content : Bytes) → address < 65536
      → 0 < length content → length content ≤ data_limit → IsTape blocks start bytes
      → IsTape ((address, content) ∷ blocks) start (tape_block address content ++ bytes)

-- ---- what calls read

-- the 001 that begins a block, after any other bytes
abbrev pub start : Bytes → Read TapeFault (Unit {0})
start [] = Err Between
start (byte ∷ rest) = if byte == 1 then Ok (tt, rest) else start rest

-- the 000 after the 001
abbrev pub second : Bytes → Read TapeFault (Unit {0})
second bytes = second_byte fault.BadStart bytes

-- the number of data bytes, from the count in the header, which includes six bytes more and must be at least 6
unfoldable pub count : Bytes → Read TapeFault ℕ
count bytes = do
  length ← word bytes
  if nat_lt length.0 6 then Err (Refused fault.TooShort length.1) else Ok (length.0 - 6, length.1)

-- the sum byte after bytes with this sum; any other byte is `BadSum`
abbrev pub summed : ℕ → Bytes → Read TapeFault (Unit {0})
summed total bytes = closed fault.BadSum tt total bytes

-- the sum of all bytes of a block but the last, modulo 256
abbrev pub total_of : ℕ → Bytes → ℕ
total_of address content = sum (tape_header address (length content) ++ content) % 256

-- the transfer block with this address, after its header: its sum byte is all that is left
unfoldable pub transfer : ℕ → Bytes → Read TapeFault TapePart
transfer address bytes = do
  last ← summed (total_of address []) bytes
  Ok (Start address, last.1)

-- the part after a header: a block of data, or the transfer block if the count is 0
abbrev pub part_of : ℕ → ℕ → Bytes → Read TapeFault TapePart
part_of count address bytes = if count == 0 then transfer address bytes else Ok (Data address count, bytes)

-- the first part: the header of a block of data, or the whole transfer block
unfoldable pub first_part : Bytes → Read TapeFault TapePart
first_part bytes = do
  start ← start bytes
  second ← second start.1
  count ← count second.1
  address ← word count.1
  part_of count.0 address.0 address.1

-- the sum byte of a block whose other bytes have this sum, and then the next part
unfoldable pub next_part : ℕ → Bytes → Read TapeFault TapePart
next_part total bytes = do
  last ← summed total bytes
  first_part last.1

abbrev pub data_byte : Bytes → Read TapeFault ℕ
data_byte [] = Err Inside
data_byte (byte ∷ rest) = Ok (byte, rest)

-- if the part is a block of data, its count is 1 to 65,529
abbrev pub PartFits : TapePart → Type 0
PartFits (Data address count) = (0 < count) × (count ≤ data_limit)
PartFits (Start address) = ⊤

-- blocks with these addresses and data are read one after another: the header of each block, its data, and then the next part; at the
-- end the transfer block with this address is read
abbrev pub AreRead : (Bytes → Read TapeFault TapePart) → List (ℕ × Bytes) → ℕ → Bytes → Type 0
AreRead read [] address bytes = (rest : Bytes) × (read bytes ≡ Ok (Start address, rest))
AreRead read (block ∷ blocks) address bytes =
    (rest : Bytes) × (read bytes ≡ Ok (Data block.0 (length block.1), block.1 ++ rest))
    × AreRead (next_part (total_of block.0 block.1)) blocks address rest

-- a block of data with `rest` after it is read back: its header, its bytes, and then the part that `rest` begins with
abbrev pub IsReadAgain : ℕ → Bytes → Bytes → Bytes → Type 0
IsReadAgain address content block rest = (following : Bytes)
    × (first_part (block ++ rest) ≡ Ok (Data address (length content), content ++ following))
    × (next_part (total_of address content) following ≡ first_part rest)

-- ---- the state of a reader, and what its calls return

-- a reader of a tape: how many more bytes it may read, and its stage
pub record TapeReading : Type 0 where
  pub room : ℕ
  pub stage : TapeStage

-- the stage in an open block with this address and count, after these bytes of its data were read
abbrev pub opened : ℕ → ℕ → Bytes → TapeStage
opened address count taken = InBlock (count - length taken) (sum (tape_header address count ++ taken) % 256)

-- the stage after a part, or after a fault
abbrev pub stage_after : Result TapePart TapeFault → TapeStage
stage_after (Ok (Data address count)) = InBlock count (sum (tape_header address count) % 256)
stage_after (Ok (Start address)) = AtEnd address
stage_after (Err e) = AfterFault

-- the stage after a data byte of the open block was read, or after a fault; before that, `left` data bytes were still to come, and `total`
-- was the sum of the block's bytes so far, modulo 256
abbrev pub stage_within : ℕ → ℕ → Result ℕ TapeFault → TapeStage
stage_within left total (Ok byte) = InBlock (left - 1) ((total + byte) % 256)
stage_within left total (Err e) = AfterFault

-- how many data bytes of the open block are still to be read; 0 if no block is open
abbrev pub left_of : TapeStage → ℕ
left_of (InBlock left total) = left
left_of _ = 0

-- how many bytes of data follow a part
abbrev pub count_of : TapePart → ℕ
count_of (Data address count) = count
count_of (Start address) = 0

-- nothing more is read: the transfer block was read, or a fault was returned
abbrev pub HasStopped : TapeStage → Type 0
HasStopped BeforeBlock = ⊥
HasStopped (InBlock left total) = ⊥
HasStopped (AtEnd address) = ⊤
HasStopped AfterFault = ⊤

-- why a call that reads from the feed returns this fault; no such call returns `Failed`
abbrev pub why_of : TapeFault → Why TapeFault
why_of fault.Device = Fails
why_of fault.Truncated = EndsInside
why_of fault.BadSum = Refuses fault.BadSum
why_of fault.BadStart = Refuses fault.BadStart
why_of fault.TooShort = Refuses fault.TooShort
why_of fault.Failed = Never
why_of fault.NoTransfer = EndsBetween
why_of fault.TooMuch = Passes

-- the fault if no byte was returned inside a block: the feed failed or ended, or the byte was past the limit
abbrev pub missing : Lack → TapeFault
missing lack.Device = fault.Device
missing lack.End = fault.Truncated
missing lack.TooMuch = fault.TooMuch

-- a value was read; or it wasn't, for the reason that the fault shows
abbrev pub ReadsPart : {X A : Type 0} → (X → A) → (Bytes → Read TapeFault A) → Position → Position → Result X TapeFault
    → Type 0
ReadsPart view read old new (Ok x) = Reads read old new (view x)
ReadsPart view read old new (Err e) = Stops read old new (why_of e)

-- a call for the next part: its result, and the stage after it; a reader that has stopped returns `Start` or `Failed`
abbrev pub ReadsNext : TapeStage → Position → Position → TapeStage → Result TapePart TapeFault → Type 0
ReadsNext BeforeBlock old new after result =
    ReadsPart (λ part. part) first_part old new result × (after ≡ stage_after result)
ReadsNext (InBlock left total) old new after result =
    ReadsPart (λ part. part) (next_part total) old new result × (after ≡ stage_after result)
ReadsNext (AtEnd address) old new after result = result ≡ Ok (Start address)
ReadsNext AfterFault old new after result = result ≡ Err fault.Failed

-- a call for the next byte of the open block: its result, and the stage after it; after a fault the call returns `Failed`; nothing is
-- said of a call before a block or after the transfer block
abbrev pub ReadsByte : TapeStage → Position → Position → TapeStage → Result ℕ TapeFault → Type 0
ReadsByte BeforeBlock old new after result = ⊤
ReadsByte (InBlock left total) old new after result =
    ReadsPart (λ byte. byte) data_byte old new result × (after ≡ stage_within left total result)
ReadsByte (AtEnd address) old new after result = ⊤
ReadsByte AfterFault old new after result = result ≡ Err fault.Failed

-- ---- the number and the name by which a fault is reported

abbrev pub tape_fault_number : TapeFault → ℕ
tape_fault_number fault.Device = 1
tape_fault_number fault.Truncated = 2
tape_fault_number fault.BadSum = 3
tape_fault_number fault.BadStart = 5
tape_fault_number fault.TooShort = 6
tape_fault_number fault.Failed = 7
tape_fault_number fault.NoTransfer = 8
tape_fault_number fault.TooMuch = 9

abbrev pub tape_fault_name : TapeFault → Bytes
tape_fault_name fault.Device = codes "Device"
tape_fault_name fault.Truncated = codes "Truncated"
tape_fault_name fault.BadSum = codes "BadSum"
tape_fault_name fault.BadStart = codes "BadStart"
tape_fault_name fault.TooShort = codes "TooShort"
tape_fault_name fault.Failed = codes "Failed"
tape_fault_name fault.NoTransfer = codes "NoTransfer"
tape_fault_name fault.TooMuch = codes "TooMuch"
