-- The lines of a source that says what memory holds: labels, assignments, comments, moves of the location counter, and what words and bytes
-- hold. (MACRO-11 Language Reference Manual, "Label field", "Comment field", "Direct assignment statements", "Current location counter" and
-- ".END directive".)
use Rattle.std.specs.Prelude.{◌≡◌, ℕ, ◌+◌, ◌*◌, ◌%◌, ◌<◌, ◌==◌, false, if◌then◌else◌, List, [], ◌∷◌, ◌++◌, Option, Some, None, codes, length, map}
use Rattle.std.specs.List.{AllByRecursion, flat_map}
use Rattle.m11_base.specs.Devices.{Bytes}
use Rattle.m11_base.specs.Names.{absolute_name}
use Rattle.m11_base.specs.Rad50.{IsName, is_same_name, name_text}
use Rattle.m11_base.specs.declared.operand.Register.{Register}
use Rattle.m11_base_disassembly.specs.Instructions.{size_of, statement_of}
use Rattle.m11_base_disassembly.specs.Meaning.{AreWords}
use Rattle.m11_base_disassembly.specs.Names.{bare_name}
use Rattle.m11_base_disassembly.specs.Numbers.{number_text}
use Rattle.m11_base_disassembly.specs.Statements.{DataByte}
use Rattle.m11_base_disassembly.specs.Symbols.{address_text}
use Rattle.m11_base_disassembly.specs.Texts.{prefixed}
use Rattle.m11_base_disassembly.specs.declared.symbols.Symbol.{Symbol}
use Rattle.m11_obj.specs.declared.pieces.Piece.{Piece}
use Rattle.m11_obj.specs.declared.pieces.PieceContent.{PieceContent}
use Rattle.m11_scan_expressions.specs.Quantities.{Quantity, absolute}
use Rattle.m11_unfold_rules.specs.Unfolding.{UnfoldedLine}
use Rattle.m11_asm_rules.specs.Contents.{fixed_byte, fixed_word, further, pieces_from}
use Rattle.m11_asm_rules.specs.Meanings.{empty_map}
use Rattle.m11_asm_rules.specs.Placements.{placement, program_map}
use Rattle.m11_asm_rules.specs.Sources.{transfer_after}
use Rattle.m11_asm_rules.specs.Tables.{first_table}
use Rattle.m11_asm_dump_laws.specs.Knowledge.{IsSpelled, register_name}
use Rattle.m11_asm_dump_laws.specs.Texts.{line_text}

-- what a line says
pub data Item : Type 0 where
  -- its label, in a line of its own, is this symbol
  Labelled : Symbol → Item
  -- this symbol has its value
  Assigned : Symbol → Item
  -- a comment says the value of this symbol, which the source doesn't define
  Noted : Symbol → Item
  -- the location counter goes to an address
  MovedTo : ℕ → Item
  -- these words are here: one, and those after it that its instruction has
  Shows : ℕ → List ℕ → Item
  -- this byte is here
  ShowsByte : ℕ → Item

abbrev pub symbol_text : Symbol → Bytes
symbol_text symbol = bare_name (name_text symbol.name)

-- the text of a line at an address, where these symbols name addresses
abbrev pub item_text : List Symbol → ℕ → Item → Bytes
item_text symbols here (Labelled symbol) = symbol_text symbol ++ codes ":"
item_text symbols here (Assigned symbol) = symbol_text symbol ++ codes "=" ++ number_text symbol.value
item_text symbols here (Noted symbol) = codes "; " ++ symbol_text symbol ++ codes "=" ++ number_text symbol.value
item_text symbols here (MovedTo address) = prefixed (codes "\t.=") address
item_text symbols here (Shows word more) = line_text symbols (statement_of here word more)
item_text symbols here (ShowsByte byte) = line_text symbols (DataByte byte)

-- what a line puts at its address
abbrev pub contents_in : Item → List PieceContent
contents_in (Shows word more) = map fixed_word (word ∷ more)
contents_in (ShowsByte byte) = fixed_byte byte ∷ []
contents_in other = []

-- the location counter after a line
abbrev pub after_item : ℕ → Item → ℕ
after_item here (MovedTo address) = address
after_item here (Shows word more) = further here ((1 + length more) * 2)
after_item here (ShowsByte byte) = further here 1
after_item here other = here

-- what a line says can be so at its address: a label's value is the address, and words are as many as one statement has, at an even one; a
-- comment can be so anywhere
abbrev pub IsSound : ℕ → Item → Type 0
IsSound here (Labelled symbol) = symbol.value ≡ here
IsSound here (Assigned symbol) = symbol.value < 65536
IsSound here (Noted symbol) = IsName symbol.name
IsSound here (MovedTo address) = address < 65536
IsSound here (Shows word more) = (here % 2 ≡ 0) × (word < 65536) × AreWords more × (size_of word more ≡ 1 + length more)
IsSound here (ShowsByte byte) = byte < 256

-- ---- several lines, the first of which is at this address

abbrev pub texts_of : List Symbol → ℕ → List Item → List Bytes
texts_of symbols here [] = []
texts_of symbols here (item ∷ items) = item_text symbols here item ∷ texts_of symbols (after_item here item) items

abbrev pub pieces_of : ℕ → List Item → List Piece
pieces_of here [] = []
pieces_of here (item ∷ items) = pieces_from absolute_name here (contents_in item) ++ pieces_of (after_item here item) items

abbrev pub AreSound : ℕ → List Item → Type 0
AreSound here [] = Unit {0}
AreSound here (item ∷ items) = IsSound here item × AreSound (after_item here item) items

-- ---- the symbols that lines define

abbrev pub defined_in : Item → List Symbol
defined_in (Labelled symbol) = symbol ∷ []
defined_in (Assigned symbol) = symbol ∷ []
defined_in other = []

abbrev pub all_defined : List Item → List Symbol
all_defined items = flat_map defined_in items

-- no two symbols of a list have one name
abbrev pub AreDistinct : List Symbol → Type 0
AreDistinct [] = Unit {0}
AreDistinct (symbol ∷ symbols) = AllByRecursion (λ other. is_same_name other.name symbol.name ≡ false) symbols × AreDistinct symbols

-- a symbol isn't called as a register
abbrev pub IsNoRegister : Symbol → Type 0
IsNoRegister symbol = (register : Register) → is_same_name (register_name register) symbol.name ≡ false

-- a list has a symbol
abbrev pub IsAmong : List Symbol → Symbol → Type 0
IsAmong all symbol = (before : List Symbol) × (after : List Symbol) × (all ≡ before ++ symbol ∷ after)

-- each line can be so at its address; each symbol that one defines can be defined, and is defined once; and each symbol that may stand for an
-- address is defined
pub record AreWellFormed (symbols : List Symbol) (items : List Item) : Type 0 where
  pub sound : AreSound 0 items
  pub spelled : AllByRecursion IsSpelled (all_defined items)
  pub others : AllByRecursion IsNoRegister (all_defined items)
  pub distinct : AreDistinct (all_defined items)
  pub known : AllByRecursion (IsAmong (all_defined items)) symbols

-- ---- a source

-- the last line, with the transfer address, unless that is odd
abbrev pub end_text : List Symbol → ℕ → Bytes
end_text symbols start = codes "\t.END" ++ (if start % 2 == 0 then codes "\t" ++ address_text symbols start else [])

-- the lines of a source that has these items in the absolute section
abbrev pub source_of : List Symbol → ℕ → List Item → List Bytes
source_of symbols start items = codes "\t.ASECT" ∷ (texts_of symbols 0 items ++ end_text symbols start ∷ [])

-- ---- the assembly of a source

-- the transfer address of a source that starts here: none, if that is odd
abbrev pub start_of : ℕ → Option Quantity
start_of start = if start % 2 == 0 then Some (absolute start 0) else None

-- live lines put what these items say at its addresses in the absolute section, and nothing else; no line has a flag; and the transfer address
-- is the start
pub record AssembleAs (lines : List UnfoldedLine) (start : ℕ) (items : List Item) : Type 0 where
  pub pieces : flat_map (λ placed. placed.pieces) (placement (program_map lines) lines) ≡ pieces_of 0 items
  pub unflagged : AllByRecursion (λ placed. placed.flags ≡ 0) (placement (program_map lines) lines)
  pub transfer : transfer_after empty_map first_table lines ≡ start_of start
