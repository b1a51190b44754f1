-- The names in texts: the maps of links, load maps, and listings. (This project's own; docs/VIEWS.md, "Names of addresses".)
use Rattle.std.specs.Prelude.{◌≡◌, ℕ, ◌<◌, if◌then◌else◌, List, [], ◌∷◌, ◌++◌, ◌⊎◌, length, codes, map, Option, Some, None, Result, Ok, Err}
use Rattle.std.specs.Option.{option_map, option_to_list}
use Rattle.std.specs.Str.{bytes_eq}
use Rattle.m11_base.specs.Devices.{Bytes, Rises}
use Rattle.m11_base.specs.Feed.{BeginsWith, Text}
use Rattle.m11_base_disassembly.specs.Columns.{six_at}
use Rattle.m11_base_disassembly.specs.Contributions.{contributions_of, section_symbols}
use Rattle.m11_base_disassembly.specs.Lines.{lines_after, lines_of}
use Rattle.m11_base_disassembly.specs.ListedLines.{PlacedListing, listed_lines, listed_parts, listing_of, placed_parts}
use Rattle.m11_base_disassembly.specs.Places.{place_of}
use Rattle.m11_base_disassembly.specs.Rows.{Rows, link_rows, listing_rows, load_rows, placed_rows, symbols_in}
use Rattle.m11_base_disassembly.specs.declared.contributions.Contribution.{Contribution}
use Rattle.m11_base_disassembly.specs.declared.kept.Kept.{Kept}
use Rattle.m11_base_disassembly.specs.declared.kept.Kept.TheVariants.{Names, NamesAndLines}
use Rattle.m11_base_disassembly.specs.declared.map_fault.MapFault.{MapFault}
use Rattle.m11_base_disassembly.specs.declared.map_fault.MapFault.TheVariants.{Read, BadMap, TooMuch, NoModule, NoMemory}
use Rattle.m11_base_disassembly.specs.declared.maps.NamesSoFar as declared
use Rattle.m11_base_disassembly.specs.declared.parts.Part.{Part}
use Rattle.m11_base_disassembly.specs.declared.symbols.Symbol.{Symbol}

-- ---- what files of names give

-- what files of names have given so far: what is kept of them; the names in maps, load maps and listings, in order, where the sections in a load
-- map come after its globals; the listings with their lines, in order, if lines are kept; and the contributions at which further listings may
-- lie: those in the last load map without those of modules whose listings came after it, none after a listing without a load map, or None before
-- a load map and before a listing
pub record NamesSoFar : Type 0 where
  pub kept : Kept
  pub symbols : List Symbol
  pub listings : List PlacedListing
  pub contributions : Option (List Contribution)

-- before any file
abbrev pub nothing : Kept → NamesSoFar
nothing kept = record { kept = kept; symbols = []; listings = []; contributions = None }

abbrev pub so_far : declared.NamesSoFar → NamesSoFar
so_far names = record {
  kept = names.kept;
  symbols = names.symbols.items;
  listings = map listing_of names.listings.items;
  contributions = option_map (λ found. found.items) names.contributions;
}

-- the names of the map of a link, after the old names
abbrev pub with_symbols : NamesSoFar → Result (List Symbol) MapFault → Result NamesSoFar MapFault
with_symbols old (Ok symbols) = Ok (record old { symbols = old.symbols ++ symbols })
with_symbols old (Err fault) = Err fault

-- what is kept of a listing with these lines, whose sections lie here, beside its names
abbrev pub kept_of : Kept → List Part → List Bytes → List PlacedListing
kept_of Names parts lines = []
kept_of NamesAndLines parts lines = record { parts = parts; lines = listed_lines lines } ∷ []

-- the names of a listing with these lines, whose sections lie here, after the old names, and the contributions that are left
abbrev pub with_listed : NamesSoFar → Option (List Contribution) → List Part → List Bytes → Result (List Symbol) MapFault
    → Result NamesSoFar MapFault
with_listed old contributions parts lines (Ok symbols) = Ok (record old {
  symbols = old.symbols ++ symbols;
  listings = old.listings ++ kept_of old.kept parts lines;
  contributions = contributions;
})
with_listed old contributions parts lines (Err fault) = Err fault

-- ---- which form a text has

-- the globals in the lines after the first line GLOBALS; `BadMap` if there is no such line
abbrev pub globals_in : Rows → List Bytes → Result (List Symbol) MapFault
globals_in rows lines = elim (lines_after (codes "GLOBALS") lines) [ Some globals ↦ symbols_in rows globals | None ↦ Err BadMap ]

-- what a load map with these contributions and globals gives
abbrev pub with_globals : NamesSoFar → List Contribution → Result (List Symbol) MapFault → Result NamesSoFar MapFault
with_globals old contributions (Ok symbols) = Ok (record old {
  symbols = (old.symbols ++ symbols) ++ section_symbols contributions contributions;
  contributions = Some contributions;
})
with_globals old contributions (Err fault) = Err fault

abbrev pub with_load_map : NamesSoFar → List Bytes → Result NamesSoFar MapFault
with_load_map old lines = elim (contributions_of lines) [
  | Ok contributions ↦ with_globals old contributions (globals_in (load_rows contributions) lines)
  | Err fault ↦ Err fault
]

-- what a listing gives with the contributions of a load map; `NoModule` if none of its modules has such sections
abbrev pub with_placed : NamesSoFar → List Contribution → List Bytes → List Bytes → List Bytes → Result NamesSoFar MapFault
with_placed old contributions lines table sections = elim (place_of sections contributions) [
  | Some place ↦ with_listed old (Some place.others) (placed_parts place.own sections) lines (symbols_in (placed_rows place.own sections) table)
  | None ↦ Err NoModule
]

-- what a listing with these lines, this symbol table and these lines of sections gives. Without a load map before it the listing is that of a
-- module that a link stores alone, so there is no place for a second one.
abbrev pub with_listing : ℕ → NamesSoFar → List Bytes → List Bytes → List Bytes → Result NamesSoFar MapFault
with_listing bottom old lines table sections = elim old.contributions [
  | None ↦ with_listed old (Some []) (listed_parts bottom sections) lines (symbols_in (listing_rows bottom sections) table)
  | Some contributions ↦ with_placed old contributions lines table sections
]

-- what a listing with these lines and this symbol table gives, whose sections are in the lines after the table's first empty line; `BadMap` if
-- there is no such line
abbrev pub with_table : ℕ → NamesSoFar → List Bytes → List Bytes → Result NamesSoFar MapFault
with_table bottom old lines table =
    elim (lines_after [] table) [ Some sections ↦ with_listing bottom old lines table sections | None ↦ Err BadMap ]

-- what files have given with a further text: a load map, if it begins with `LIMIT `; a listing, if it has a line SYMBOL TABLE; otherwise the
-- map of a link
abbrev pub with_text : ℕ → NamesSoFar → Bytes → Result NamesSoFar MapFault
with_text bottom old text =
    if bytes_eq (six_at text 0) (codes "LIMIT ") then with_load_map old (lines_of text)
    else elim (lines_after (codes "SYMBOL TABLE") (lines_of text)) [
      | Some table ↦ with_table bottom old (lines_of text) table
      | None ↦ with_symbols old (globals_in link_rows (lines_of text))
    ]

-- ---- reading a text

-- the largest size of a text, in bytes
abbrev pub most_bytes : ℕ
most_bytes = 16777216

-- Why a text couldn't be read: its device failed and counted the failure; the text has more than `most_bytes` bytes; or memory was refused.
-- In the last two cases the count of failures is unchanged.
abbrev pub IsUnread : Option Text → ℕ → ℕ → MapFault → Type 0
IsUnread text faults faults' Read = Rises faults faults'
IsUnread text faults faults' BadMap = ⊥
IsUnread text faults faults' NoModule = ⊥
IsUnread text faults faults' TooMuch =
    ((bytes : Bytes) × BeginsWith text bytes × (most_bytes < length bytes)) × (faults' ≡ faults)
IsUnread text faults faults' NoMemory = faults' ≡ faults

-- ---- adding symbols to others

-- the symbols of these lines were added after the old ones; or the call failed, with the fault of the first line that has one, or with
-- `NoMemory`
abbrev pub AddsSymbols : Rows → List Bytes → List Symbol → List Symbol → Result (Unit {0}) MapFault → Type 0
AddsSymbols rows lines old new (Ok done) = (more : List Symbol) × (symbols_in rows lines ≡ Ok more) × (new ≡ old ++ more)
AddsSymbols rows lines old new (Err fault) = (fault ≡ NoMemory) ⊎ (symbols_in rows lines ≡ Err fault)

-- the same with the globals in the lines after GLOBALS
abbrev pub AddsGlobals : Rows → List Bytes → List Symbol → List Symbol → Result (Unit {0}) MapFault → Type 0
AddsGlobals rows lines old new (Ok done) = (more : List Symbol) × (globals_in rows lines ≡ Ok more) × (new ≡ old ++ more)
AddsGlobals rows lines old new (Err fault) = (fault ≡ NoMemory) ⊎ (globals_in rows lines ≡ Err fault)

-- the symbol of a line, if it has one, was added after the old ones; or the call failed, with the line's fault, or with `NoMemory`
abbrev pub AddsSymbol : Rows → Bytes → List Symbol → List Symbol → Result (Unit {0}) MapFault → Type 0
AddsSymbol rows line old new (Ok done) =
    (symbol : Option Symbol) × (rows.symbol line ≡ Ok symbol) × (new ≡ old ++ option_to_list symbol)
AddsSymbol rows line old new (Err fault) = (fault ≡ NoMemory) ⊎ (rows.symbol line ≡ Err fault)

-- a call left what was expected; or it failed, with the fault that was expected, or with `NoMemory`
abbrev pub Leaves : Result NamesSoFar MapFault → NamesSoFar → Result (Unit {0}) MapFault → Type 0
Leaves expected new (Ok done) = expected ≡ Ok new
Leaves expected new (Err fault) = (fault ≡ NoMemory) ⊎ (expected ≡ Err fault)
