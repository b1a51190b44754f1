-- The bytes of an object's text or of a tape's block as instructions, one to a line: a location, the bytes there, their line of
-- source, with names in operands, and a comment that names the location by the nearest symbol at or below it, if there is one. A byte at an
-- odd location is a byte of data, and so is a single last byte; a word with a reference of its own, as an address in a table, is a word of data.
-- The last line may continue into bytes beyond the text or block. (PDP-11/40 Processor Handbook, "Instruction set"; MACRO-11 Language
-- Reference Manual, "Addressing modes". The lines are this project's own.)
use Rattle.std.specs.Prelude.{◌≡◌, ◌<◌, ℕ, zero, suc, ◌+◌, ◌-◌, ◌*◌, ◌%◌, ◌==◌, if◌then◌else◌, List, [], ◌∷◌, ◌++◌, length, take, codes}
use Rattle.m11_base.specs.Devices.{Bytes}
use Rattle.m11_base.specs.Octal.{octal_text}
use Rattle.m11_base_disassembly.specs.Instructions.{size_of, statement_of}
use Rattle.m11_base_disassembly.specs.References.{is_data, no_references}
use Rattle.m11_base_disassembly.specs.Statements.{Statement, DataByte, DataWord}
use Rattle.m11_base_disassembly.specs.Symbols.{address_name}
use Rattle.m11_base_disassembly.specs.Texts.{statement_text}
use Rattle.m11_base_disassembly.specs.declared.references.References.{References}
use Rattle.m11_base_disassembly.specs.declared.symbols.Symbol.{Symbol}
use Rattle.m11_dump.specs.Octets.{location_after, octal3}

-- ---- the statement at the beginning of some bytes

-- the word made of two bytes, low byte first
abbrev pub word_of : ℕ → ℕ → ℕ
word_of low high = low + 256 * high

-- the first two words of these bytes, or as many as there are; an instruction has at most two words after its first one
abbrev pub following : Bytes → List ℕ
following [] = []
following (a ∷ []) = []
following (a ∷ b ∷ []) = word_of a b ∷ []
following (a ∷ b ∷ c ∷ []) = word_of a b ∷ []
following (a ∷ b ∷ c ∷ d ∷ bytes) = word_of a b ∷ word_of c d ∷ []

-- the statement at this even location, where this word begins and these follow: a word of data if it has a reference of its own that stands
-- for it, since no instruction's code has one
abbrev pub word_statement : References → ℕ → ℕ → List ℕ → Statement
word_statement references location word more = if is_data references.own then DataWord word else statement_of location word more

-- the number of words of that statement
abbrev pub word_size : References → ℕ → List ℕ → ℕ
word_size references word more = if is_data references.own then 1 else size_of word more

-- the statement at this location, where these bytes begin, if its words have these references: a data byte if the location is odd or only one
-- byte is left; without bytes, a data byte of 0
abbrev pub front_statement : References → ℕ → Bytes → Statement
front_statement references location [] = DataByte 0
front_statement references location (byte ∷ []) = DataByte byte
front_statement references location (low ∷ high ∷ bytes) =
    if location % 2 == 0 then word_statement references location (word_of low high) (following bytes) else DataByte low

-- the size in bytes of the statement at this location
abbrev pub front_size : References → ℕ → Bytes → ℕ
front_size references location [] = 1
front_size references location (byte ∷ []) = 1
front_size references location (low ∷ high ∷ bytes) =
    if location % 2 == 0 then 2 * word_size references (word_of low high) (following bytes) else 1

-- ---- the line of a statement

-- bytes as words, and a single last byte as a byte, each in octal after a blank
abbrev pub cells : Bytes → Bytes
cells [] = []
cells (byte ∷ []) = 32 ∷ octal3 byte
cells (low ∷ high ∷ bytes) = (32 ∷ octal_text (word_of low high)) ++ cells bytes

-- the blanks between the `count` bytes of a line and its source, which begins in column 31
abbrev pub gap : ℕ → Bytes
gap count =
    if count == 1 then codes "                  " else if count == 2 then codes "               "
    else if count == 4 then codes "        " else codes " "

-- a line: a location, the bytes there and a line of source
abbrev pub line_by : ℕ → Bytes → Bytes → Bytes
line_by location shown source =
    ((((codes "  " ++ octal_text location) ++ cells shown) ++ gap (length shown)) ++ source) ++ 10 ∷ []

-- the source of the statement at this location, and a comment that names the location by the nearest of these symbols at or below it;
-- no comment if there is no such symbol
abbrev pub front_source : List Symbol → References → ℕ → Bytes → Bytes
front_source symbols references location bytes =
    statement_text symbols references (front_statement references location bytes) ++ address_name (codes "\t;") symbols location

-- the line of the statement at this location, whose words have these references
abbrev pub line_text : List Symbol → References → ℕ → Bytes → Bytes
line_text symbols references location bytes =
    line_by location (take (front_size references location bytes) bytes) (front_source symbols references location bytes)

-- ---- lines one after another

-- the first line of a text or block: a keyword and an address
abbrev pub head_line : Bytes → ℕ → Bytes
head_line word address = (word ++ octal_text address) ++ 10 ∷ []

-- no word of a text or block refers to anything
abbrev pub unreferred : ℕ → References
unreferred index = no_references

-- the lines that begin among these bytes, the first of which has this index in a text or block at this address; `references` gives the
-- references of a statement's words by the index of its first byte. The previous line shows the first `shown` bytes, and `beyond` follows the bytes
abbrev pub lines_from : List Symbol → (ℕ → References) → ℕ → ℕ → ℕ → Bytes → Bytes → Bytes
lines_from symbols references address index shown [] beyond = []
lines_from symbols references address index zero (byte ∷ bytes) beyond =
    line_text symbols (references index) (location_after address index) ((byte ∷ bytes) ++ beyond)
    ++ lines_from symbols references address (index + 1)
    (front_size (references index) (location_after address index) ((byte ∷ bytes) ++ beyond) - 1) bytes beyond
lines_from symbols references address index (suc shown) (byte ∷ bytes) beyond =
    lines_from symbols references address (index + 1) shown bytes beyond

-- how many bytes of `beyond` are shown by the last line that begins among these bytes, or by the previous line if none begins there
abbrev pub over_from : (ℕ → References) → ℕ → ℕ → ℕ → Bytes → Bytes → ℕ
over_from references address index shown [] beyond = shown
over_from references address index zero (byte ∷ bytes) beyond = over_from references address (index + 1)
    (front_size (references index) (location_after address index) ((byte ∷ bytes) ++ beyond) - 1) bytes beyond
over_from references address index (suc shown) (byte ∷ bytes) beyond = over_from references address (index + 1) shown bytes beyond

-- the lines of these bytes, with the first byte at this address and nothing beyond the last
abbrev pub lines : List Symbol → (ℕ → References) → ℕ → Bytes → Bytes
lines symbols references address bytes = lines_from symbols references address 0 0 bytes []

-- ---- which bytes each line shows

-- the text consists of lines, each of which shows the next element of this list at its location, with a line of source; no element
-- is empty, and the elements together are the bytes
abbrev pub AreLines : ℕ → ℕ → List Bytes → Bytes → Bytes → Type 0
AreLines address index [] bytes text = (bytes ≡ []) × (text ≡ [])
AreLines address index (shown ∷ others) bytes text = (source : Bytes) × (rest : Bytes) × (more : Bytes)
    × (0 < length shown) × (bytes ≡ shown ++ rest) × (text ≡ line_by (location_after address index) shown source ++ more)
    × AreLines address (index + length shown) others rest more
