-- The lines of source that show what memory holds: each begins where the line before it ends, or at the next address that has a byte. (PDP-11/40
-- Processor Handbook, "Instruction set"; MACRO-11 Language Reference Manual, "Assembler statements".) What can't be an instruction is data: a
-- byte at an odd address, or before an address without one, is a byte of data.
use Rattle.std.specs.Prelude.{ℕ, zero, suc, ◌+◌, ◌-◌, ◌*◌, ◌%◌, ◌==◌, Bool, true, List, [], ◌∷◌, Some, None, slice_index, take}
use Rattle.m11_base.specs.Devices.{Bytes}
use Rattle.m11_base_disassembly.specs.Instructions.{size_of, statement_of}
use Rattle.m11_base_disassembly.specs.Statements.{Statement, DataByte}
use Rattle.m11_dump_source.specs.Memory.{Cells}
use Rattle.m11_dump_source.specs.declared.lines.Line.{Line}
use Rattle.m11_dump_source.specs.declared.lines.Shown.{Shown}
use Rattle.m11_dump_source.specs.declared.lines.Shown.TheVariants.{Byte, Word, TwoWords, ThreeWords}

-- ---- what a line shows

-- the bytes of these cells up to the first cell without one, but at most this many
abbrev pub leading : ℕ → Cells → Bytes
leading zero cells = []
leading (suc most) [] = []
leading (suc most) (None ∷ cells) = []
leading (suc most) (Some byte ∷ cells) = byte ∷ leading most cells

-- the words that bytes are, the low byte of each first; a single last byte is left out
abbrev pub words_in : Bytes → List ℕ
words_in [] = []
words_in (byte ∷ []) = []
words_in (low ∷ high ∷ bytes) = (low + 256 * high) ∷ words_in bytes

-- a word and the words after it, of which there are at most two
abbrev pub shown_words : ℕ → List ℕ → Shown
shown_words word [] = Word word
shown_words word (second ∷ []) = TwoWords word second
shown_words word (second ∷ third ∷ more) = ThreeWords word second third

-- the words of the statement that begins with this word, if these follow it; or the byte, where no word may begin
abbrev pub shown_by : Bool → List ℕ → ℕ → Shown
shown_by true (word ∷ more) byte = shown_words word (take (size_of word more - 1) more)
shown_by is_even words byte = Byte byte

-- what the line at this address shows, where these bytes begin. No statement has more than six
abbrev pub shown_at : ℕ → Bytes → Shown
shown_at address bytes = shown_by (address % 2 == 0) (words_in bytes) (slice_index bytes 0)

-- how many bytes a line shows
abbrev pub size_shown : Shown → ℕ
size_shown (Byte byte) = 1
size_shown (Word word) = 2
size_shown (TwoWords word second) = 4
size_shown (ThreeWords word second third) = 6

-- the statement at an address that shows this
abbrev pub statement_by : ℕ → Shown → Statement
statement_by address (Byte byte) = DataByte byte
statement_by address (Word word) = statement_of address word []
statement_by address (TwoWords word second) = statement_of address word (second ∷ [])
statement_by address (ThreeWords word second third) = statement_of address word (second ∷ third ∷ [])

abbrev pub statement_in : Line → Statement
statement_in line = statement_by line.address line.shown

-- ---- all lines

-- the line at this address, where these bytes begin
abbrev pub line_at : ℕ → Bytes → Line
line_at address bytes = record { address = address; shown = shown_at address bytes }

-- the lines that begin in these cells, the first of which has this address; the line before them shows the first `before`
abbrev pub lines_from : ℕ → ℕ → Cells → List Line
lines_from address before [] = []
lines_from address (suc before) (cell ∷ cells) = lines_from (address + 1) before cells
lines_from address zero (None ∷ cells) = lines_from (address + 1) 0 cells
lines_from address zero (Some byte ∷ cells) = line_at address (leading 6 (Some byte ∷ cells))
    ∷ lines_from (address + 1) (size_shown (shown_at address (leading 6 (Some byte ∷ cells))) - 1) cells

abbrev pub lines_of : Cells → List Line
lines_of cells = lines_from 0 0 cells
