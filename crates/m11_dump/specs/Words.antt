-- The words of a tape's blocks: six octal digits each, eight words to a line, which begins with the address of its first word. A
-- single last byte is shown as a byte, and so are all bytes of a block at an odd address. (The digits: MACRO-11 Language Reference
-- Manual, "Numbers". The lines are this project's own.)
use Rattle.std.specs.Prelude.{ℕ, ◌+◌, ◌*◌, ◌%◌, ◌==◌, if◌then◌else◌, [], ◌∷◌, ◌++◌, codes}
use Rattle.m11_base.specs.Devices.{Bytes}
use Rattle.m11_base.specs.Octal.{octal_text}
use Rattle.m11_dump.specs.Octets.{location_after, octal3, octets}

-- the beginning of a line, with the address of its first word, before the first of every eight words; nothing before the others.
-- The index counts bytes
abbrev pub words_start : ℕ → ℕ → Bytes
words_start address index =
    if index % 16 == 0 then codes "\n  " ++ octal_text (location_after address index) else []

-- the text of a word whose first byte has this index
abbrev pub word_cell : ℕ → ℕ → ℕ → Bytes
word_cell address index word = words_start address index ++ 32 ∷ octal_text word

-- the text of a single byte at this index
abbrev pub byte_cell : ℕ → ℕ → ℕ → Bytes
byte_cell address index byte = words_start address index ++ 32 ∷ octal3 byte

-- the text of bytes as words, and of a single last byte as a byte; the first byte has this index
abbrev pub words_from : ℕ → ℕ → Bytes → Bytes
words_from address index [] = []
words_from address index (byte ∷ []) = byte_cell address index byte
words_from address index (low ∷ high ∷ bytes) =
    word_cell address index (low + 256 * high) ++ words_from address (index + 2) bytes

-- the text of the data of a block at this address: as words, or as bytes if the address is odd
abbrev pub data_cells : ℕ → Bytes → Bytes
data_cells address bytes = if address % 2 == 1 then octets address bytes else words_from address 0 bytes
