-- The items of the source that shows what memory holds: the names that stand for no line, the names that it can't define, and for each line a
-- move of the location counter where one is needed, its labels, and what it shows. (MACRO-11 Language Reference Manual, "Label field", "Comment
-- field", "Direct assignment statements" and "Current location counter".)
use Rattle.std.specs.Prelude.{ℕ, ◌+◌, ◌<◌, ◌≤◌, ◌==◌, if◌then◌else◌, List, [], ◌∷◌, ◌++◌, length, map, Option, Some, None}
use Rattle.std.specs.List.{AllByRecursion, flat_map}
use Rattle.m11_base.specs.Devices.{Bytes}
use Rattle.m11_base.specs.Rad50.{IsName}
use Rattle.m11_base_disassembly.specs.declared.symbols.Symbol.{Symbol}
use Rattle.m11_asm_dump_laws.specs.Items.{Item, Labelled, Assigned, Noted, MovedTo, Shows, ShowsByte}
use Rattle.m11_dump_source.specs.Labels.{kept_of, left_out, symbols_in}
use Rattle.m11_dump_source.specs.Lines.{lines_of, size_shown}
use Rattle.m11_dump_source.specs.Memory.{Cells}
use Rattle.m11_dump_source.specs.Texts.{begins_at}
use Rattle.m11_dump_source.specs.declared.lines.Line.{Line}
use Rattle.m11_dump_source.specs.declared.lines.Shown.{Shown}
use Rattle.m11_dump_source.specs.declared.lines.Shown.TheVariants.{Byte, Word, TwoWords, ThreeWords}

-- ---- one line

-- what a line shows, as an item
abbrev pub item_of : Shown → Item
item_of (Byte byte) = ShowsByte byte
item_of (Word word) = Shows word []
item_of (TwoWords word second) = Shows word (second ∷ [])
item_of (ThreeWords word second third) = Shows word (second ∷ third ∷ [])

-- the label of an address, if this symbol has that value
abbrev pub label_at : ℕ → Symbol → List Item
label_at address symbol = if symbol.value == address then Labelled symbol ∷ [] else []

-- the labels of an address
abbrev pub labels_at : ℕ → List Symbol → List Item
labels_at address symbols = flat_map (label_at address) symbols

-- the move to an address, unless the location counter is there
abbrev pub move_to : ℕ → ℕ → List Item
move_to here address = if here == address then [] else MovedTo address ∷ []

-- a line with its labels, where the location counter is `here`
abbrev pub line_items : List Symbol → ℕ → Line → List Item
line_items symbols here line = move_to here line.address ++ (labels_at line.address symbols ++ item_of line.shown ∷ [])

-- ---- all lines

-- lines one after another
abbrev pub items_in : List Symbol → ℕ → List Line → List Item
items_in symbols here [] = []
items_in symbols here (line ∷ lines) = line_items symbols here line ++ items_in symbols (line.address + size_shown line.shown) lines

-- a symbol's value, unless a line begins there
abbrev pub value_of : List Line → Symbol → List Item
value_of lines symbol = if begins_at lines symbol.value then [] else Assigned symbol ∷ []

-- the items of these lines, where the first names are kept and the others are left out
abbrev pub items_by : List Symbol → List Symbol → ℕ → List Line → List Item
items_by kept others start lines = flat_map (value_of lines) kept ++ (map Noted others ++ items_in (symbols_in kept start lines) 0 lines)

-- the items of what memory holds, with these names and this transfer address
abbrev pub items_of : List Symbol → ℕ → Cells → List Item
items_of names start cells = items_by (kept_of names) (left_out names) start (lines_of cells)

-- all symbols of the source of what memory holds
abbrev pub all_symbols : List Symbol → ℕ → Cells → List Symbol
all_symbols names start cells = symbols_in (kept_of names) start (lines_of cells)

-- ---- what is given

-- a cell of memory has a byte, or none
abbrev pub IsCell : Option ℕ → Type 0
IsCell None = Unit {0}
IsCell (Some byte) = byte < 256

-- memory has at most 65,536 cells
pub record AreCells (cells : Cells) : Type 0 where
  pub few : length cells ≤ 65536
  pub bytes : AllByRecursion IsCell cells

-- each block's data are bytes
abbrev pub AreBlocks : List (ℕ × Bytes) → Type 0
AreBlocks blocks = AllByRecursion (λ block. AllByRecursion (λ byte. byte < 256) block.1) blocks

-- a name has six characters, and its value is a word
abbrev pub IsGiven : Symbol → Type 0
IsGiven symbol = IsName symbol.name × (symbol.value < 65536)

abbrev pub AreNames : List Symbol → Type 0
AreNames symbols = AllByRecursion IsGiven symbols
