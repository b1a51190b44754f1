-- Memory: bytes, whose addresses count up from 0. A word has its low byte at an even address and its high byte at the next one. (PDP-11/40
-- Processor Handbook, "Memory organization".)
use Rattle.std.specs.Prelude.{ℕ, ◌+◌, ◌*◌, ◌/◌, ◌%◌, List, [], ◌∷◌, slice_index_or, slice_set}
use Rattle.m11_base.specs.Devices.{Bytes}

-- the fewest words of memory that a machine may have
abbrev pub least_words : ℕ
least_words = 4096

-- the most words of memory that a machine may have: the last 4,096 words of the address space are those of devices
abbrev pub most_words : ℕ
most_words = 28672

-- the byte at an address; 0 past the end of memory
abbrev pub byte_at : Bytes → ℕ → ℕ
byte_at memory address = slice_index_or memory address 0

-- the word at an even address
abbrev pub word_at : Bytes → ℕ → ℕ
word_at memory address = byte_at memory address + 256 * byte_at memory (address + 1)

-- the memory after a byte was stored at an address
abbrev pub with_byte : ℕ → ℕ → Bytes → Bytes
with_byte address value memory = slice_set memory address value

-- the memory after a word was stored at an even address
abbrev pub with_word : ℕ → ℕ → Bytes → Bytes
with_word address value memory = with_byte (address + 1) (value / 256) (with_byte address (value % 256) memory)

-- the bytes of these words, in order: of each word the low byte and then the high byte
abbrev pub bytes_of : List ℕ → Bytes
bytes_of [] = []
bytes_of (word ∷ words) = word % 256 ∷ word / 256 ∷ bytes_of words
