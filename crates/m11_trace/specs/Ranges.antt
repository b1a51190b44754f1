-- Ranges of memory at the end of a run: words in octal, eight to a line, each line with the address of its first word. (This project's
-- own.)
use Rattle.std.specs.Prelude.{ℕ, zero, suc, ◌+◌, ◌-◌, ◌*◌, ◌/◌, ◌%◌, ◌==◌, if◌then◌else◌, List, [], ◌∷◌, ◌++◌, codes, Option, Some, None}
use Rattle.m11_base.specs.Devices.{Bytes}
use Rattle.m11_base.specs.Octal.{octal_text}
use Rattle.m11_trace.specs.Shots.{word_past}
use Rattle.m11_trace.specs.declared.ranges.Range.{Range}

-- the beginning of a line, with the address of its first word, before the first word of a range and every eighth one after it; nothing
-- before the others
abbrev pub word_start : ℕ → ℕ → Bytes
word_start address index = if index % 8 == 0 then codes "\n  " ++ octal_text address else []

-- the text of the word with this index in a range
abbrev pub word_cell : ℕ → ℕ → ℕ → Bytes
word_cell first index word = word_start ((first + 2 * index) % 65536) index ++ 32 ∷ octal_text word

-- the text of the word with this index and then that of the words after it; nothing if the word doesn't lie in memory
abbrev pub before_rest : ℕ → ℕ → Option ℕ → Bytes → Bytes
before_rest first index None rest = []
before_rest first index (Some word) rest = word_cell first index word ++ rest

-- the text of `left` words of a range, beginning with the word at this index, or of fewer if the memory ends before the last one
abbrev pub words_from : Bytes → ℕ → ℕ → ℕ → Bytes
words_from memory first index zero = []
words_from memory first index (suc left) =
    before_rest first index (word_past memory first (2 * index)) (words_from memory first (index + 1) left)

-- the number of words in a range; 0 if its last address is below its first
abbrev pub count_of : Range → ℕ
count_of range = (range.last + 2 - range.first) / 2

-- the even address of the word that contains the byte at this address
abbrev pub even_of : ℕ → ℕ
even_of address = address - address % 2

abbrev pub head_text : Range → Bytes
head_text range = (codes "MEMORY " ++ octal_text range.first) ++ (codes ":" ++ octal_text range.last)

abbrev pub words_text : Bytes → Range → Bytes
words_text memory range = words_from memory (even_of range.first) 0 (count_of range) ++ 10 ∷ []

abbrev pub range_text : Bytes → Range → Bytes
range_text memory range = head_text range ++ words_text memory range

abbrev pub ranges_text : Bytes → List Range → Bytes
ranges_text memory [] = []
ranges_text memory (range ∷ ranges) = range_text memory range ++ ranges_text memory ranges
