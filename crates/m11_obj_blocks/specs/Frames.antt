-- Formatted binary: what the blocks of objects and of tapes have in common, and the blocks of an object. (RT-11 Volume and File
-- Formats Manual, "Object file format", formatted binary blocks, and "Absolute binary file format".) Two things are this project's
-- own: that bytes 000 may come before, between and after the blocks of an object, and that each block has at most 512 bytes of
-- content.
use Rattle.std.specs.Prelude.{ℕ, ◌+◌, ◌-◌, ◌*◌, ◌%◌, ◌≤◌, ◌==◌, List, [], ◌∷◌, ◌++◌, length, sum, Ok, Err, if◌then◌else◌}
use Rattle.byteorder.specs.Endian.{little_bytes}
use Rattle.m11_base.specs.Devices.{Bytes}
use Rattle.m11_obj_blocks.specs.Limited.{Inside, Refused, Read}

-- ---- what blocks of objects and of tapes have in common

-- a word as two bytes, the low byte first
abbrev pub word_bytes : ℕ → Bytes
word_bytes word = little_bytes 2 word

-- 001, 000 and a length, which counts all the bytes of the block but the last
abbrev pub front : ℕ → Bytes
front length = 1 ∷ 0 ∷ word_bytes length

-- the byte that makes this total a multiple of 256 when it is added
abbrev pub closing : ℕ → ℕ
closing total = (256 - total % 256) % 256

-- the byte that makes the sum of bytes a multiple of 256
abbrev pub sum_byte : Bytes → ℕ
sum_byte bytes = closing (sum bytes)

-- bytes and their sum byte
abbrev pub with_sum : Bytes → Bytes
with_sum bytes = bytes ++ sum_byte bytes ∷ []

-- the 000 after the 001; any other byte is this fault
abbrev pub second_byte : {Fault : Type 0} → Fault → Bytes → Read Fault (Unit {0})
second_byte bad_start [] = Err Inside
second_byte bad_start (byte ∷ rest) = if byte == 0 then Ok (tt, rest) else Err (Refused bad_start rest)

-- a word, the low byte first
abbrev pub word : {Fault : Type 0} → Bytes → Read Fault ℕ
word [] = Err Inside
word (low ∷ []) = Err Inside
word (low ∷ high ∷ rest) = Ok (low + 256 * high, rest)

-- this value, if the next byte is the sum byte of a block whose other bytes have this sum; any other byte is this fault
abbrev pub closed : {Fault A : Type 0} → Fault → A → ℕ → Bytes → Read Fault A
closed bad_sum value total [] = Err Inside
closed bad_sum value total (byte ∷ rest) =
    if byte == closing total then Ok (value, rest) else Err (Refused bad_sum rest)

-- ---- the blocks of an object

-- the four bytes before the content: the length in them counts these four too
abbrev pub header : ℕ → Bytes
header content_length = front (content_length + 4)

-- a block: its header, its content, and the byte that makes the sum of all its bytes a multiple of 256
unfoldable pub block : Bytes → Bytes
block content = with_sum (header (length content) ++ content)

-- the most bytes of content that a block may have
abbrev pub content_limit : ℕ
content_limit = 512

-- these bytes are blocks with these contents, in order; any number of bytes 000 may come before, between and after the blocks
pub data AreBlocks : List Bytes → Bytes → Type 0 where
  Nothing : AreBlocks [] []
  Zero : {contents : List Bytes} {bytes : Bytes} → AreBlocks contents bytes → AreBlocks contents (0 ∷ bytes)
  Block : {contents : List Bytes} {bytes : Bytes} (content : Bytes) → length content ≤ content_limit
      → AreBlocks contents bytes → AreBlocks (content ∷ contents) (block content ++ bytes)
