-- The lines of a text that give symbols: the globals in the map of a link and in a load map, and the names in the symbol table of a
-- listing. (The columns are this project's own; docs/FORMATS.md describes them.)
use Rattle.std.specs.Prelude.{◌==◌, ◌&&◌, ℕ, if◌then◌else◌, Bool, true, false, List, [], ◌∷◌, codes, Option, Some, None, Result, Ok, Err}
use Rattle.std.specs.Str.{bytes_eq}
use Rattle.m11_base.specs.Devices.{Bytes}
use Rattle.m11_base.specs.Rad50.{Name}
use Rattle.m11_base_disassembly.specs.Columns.{column, name_at, number_at, symbol_with}
use Rattle.m11_base_disassembly.specs.Contributions.{scope_of}
use Rattle.m11_base_disassembly.specs.Lines.{lines_of}
use Rattle.m11_base_disassembly.specs.Listings.{listed_symbol}
use Rattle.m11_base_disassembly.specs.Places.{placed_symbol}
use Rattle.m11_base_disassembly.specs.declared.contributions.Contribution.{Contribution}
use Rattle.m11_base_disassembly.specs.declared.map_fault.MapFault.{MapFault}
use Rattle.m11_base_disassembly.specs.declared.map_fault.MapFault.TheVariants.{BadMap}
use Rattle.m11_base_disassembly.specs.declared.rows.Form.{Form}
use Rattle.m11_base_disassembly.specs.declared.rows.Form.TheVariants.{LinkMap, LoadMap, Listing, Placed}
use Rattle.m11_base_disassembly.specs.declared.symbols.Symbol.{Symbol}

-- how lines give symbols: the symbol of a line, or none, or `BadMap`; which line ends them; and whether the end of the text may end them
pub record Rows : Type 0 where
  pub symbol : Bytes → Result (Option Symbol) MapFault
  pub is_end : Bytes → Bool
  pub may_end : Bool

-- the global of a line of a link's map: its name, a blank, its value, and a blank, which may be the end of the line
abbrev pub linked_global : Bytes → Result (Option Symbol) MapFault
linked_global line =
    if column line 6 == 0o40 && column line 13 == 0o40 then symbol_with (name_at line 0) (number_at line 7) else Err BadMap

abbrev pub global_with : List Contribution → Option Name → Option Name → Result ℕ MapFault → Result (Option Symbol) MapFault
global_with contributions module_name (Some name) (Ok value) =
    Ok (Some (record { name = name; value = value; scope = scope_of module_name value contributions }))
global_with contributions module_name (Some name) (Err fault) = Err BadMap
global_with contributions module_name None value = Err BadMap

-- the global of a line of a load map: two blanks, its value, a blank, its name, a blank, and the name of its module, which may be missing.
-- If one of the load map's contributions may define it, it is a label there.
abbrev pub loaded_global : List Contribution → Bytes → Result (Option Symbol) MapFault
loaded_global contributions line =
    if column line 0 == 0o40 && column line 1 == 0o40 && column line 8 == 0o40 && column line 15 == 0o40
    then global_with contributions (name_at line 16) (name_at line 9) (number_at line 2) else Err BadMap

-- the globals in the map of a link end with the line UNDEFINED
abbrev pub link_rows : Rows
link_rows = record { symbol = linked_global; is_end = λ line. bytes_eq line (codes "UNDEFINED"); may_end = false }

-- the globals in a load map end with the text
abbrev pub load_rows : List Contribution → Rows
load_rows contributions = record { symbol = loaded_global contributions; is_end = λ line. false; may_end = true }

-- the names in a symbol table end with an empty line
abbrev pub listing_rows : ℕ → List Bytes → Rows
listing_rows bottom sections =
    record { symbol = listed_symbol bottom sections; is_end = λ line. bytes_eq line []; may_end = false }

-- the same with a load map, which shows the contributions from the module's first one on
abbrev pub placed_rows : List Contribution → List Bytes → Rows
placed_rows own sections =
    record { symbol = placed_symbol own sections; is_end = λ line. bytes_eq line []; may_end = false }

abbrev pub rows_of : Form → Rows
rows_of LinkMap = link_rows
rows_of (LoadMap contributions) = load_rows contributions.now
rows_of (Listing bottom sections) = listing_rows bottom (lines_of sections.now)
rows_of (Placed own sections) = placed_rows own.now (lines_of sections.now)

-- the symbol of a line, if there is one, before the symbols of the lines after it; or the first fault, if there is one
abbrev pub with_symbol : Result (Option Symbol) MapFault → Result (List Symbol) MapFault → Result (List Symbol) MapFault
with_symbol (Err fault) more = Err fault
with_symbol (Ok symbol) (Err fault) = Err fault
with_symbol (Ok None) (Ok symbols) = Ok symbols
with_symbol (Ok (Some symbol)) (Ok symbols) = Ok (symbol ∷ symbols)

-- the symbols of these lines, in order; `BadMap` if their end is missing or a line before it doesn't have the form of these lines
abbrev pub symbols_in : Rows → List Bytes → Result (List Symbol) MapFault
symbols_in rows [] = if rows.may_end then Ok [] else Err BadMap
symbols_in rows (line ∷ lines) = if rows.is_end line then Ok [] else with_symbol (rows.symbol line) (symbols_in rows lines)
