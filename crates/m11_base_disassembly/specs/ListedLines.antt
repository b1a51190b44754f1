-- The lines of listings that show words, and the text of the one line that shows the word at an address. (This project's own. The lines:
-- docs/FORMATS.md, "The listing that is written", which counts the columns from 1. Where a listing lies: docs/VIEWS.md, "Names of
-- addresses".)
use Rattle.std.specs.Prelude.{◌==◌, ◌&&◌, ◌+◌, ◌%◌, ℕ, Bool, nat_le, nat_lt, if◌then◌else◌, List, [], ◌∷◌, codes, drop, map, flat_map, Option, Some, None, Result, Ok, Err}
use Rattle.std.specs.List.{filter, filter_map, list_any}
use Rattle.std.specs.Str.{bytes_eq}
use Rattle.m11_base.specs.Devices.{Bytes}
use Rattle.m11_base_disassembly.specs.Columns.{number_at}
use Rattle.m11_base_disassembly.specs.Contributions.{end_of}
use Rattle.m11_base_disassembly.specs.Lines.{lines_of}
use Rattle.m11_base_disassembly.specs.Listings.{next_base, own_base}
use Rattle.m11_base_disassembly.specs.declared.contributions.Contribution.{Contribution}
use Rattle.m11_base_disassembly.specs.declared.listed_lines.ListedLine as declared_line
use Rattle.m11_base_disassembly.specs.declared.listed_lines.PlacedListing as declared_listing
use Rattle.m11_base_disassembly.specs.declared.map_fault.MapFault.{MapFault}
use Rattle.m11_base_disassembly.specs.declared.map_fault.MapFault.TheVariants.{BadMap}
use Rattle.m11_base_disassembly.specs.declared.parts.Part.{Part}
use Rattle.m11_base_disassembly.specs.declared.rows.Form.{Form}
use Rattle.m11_base_disassembly.specs.declared.rows.Form.TheVariants.{LinkMap, LoadMap, Listing, Placed}

-- ---- the lines that show words

-- a line of a listing that shows a word: the location of its first word, that word, and its text
pub record ListedLine : Type 0 where
  pub location : ℕ
  pub word : ℕ
  pub text : Bytes

abbrev pub line_of : declared_line.ListedLine → ListedLine
line_of line = record { location = line.location; word = line.word; text = line.text.items }

abbrev pub line_with : Result ℕ MapFault → Result ℕ MapFault → Bytes → Option ListedLine
line_with (Ok location) (Ok word) text = Some (record { location = location; word = word; text = text })
line_with (Ok location) (Err fault) text = None
line_with (Err fault) word text = None

-- the location in a line, the word that is its first item, and the text from column 42 on, which is empty in a line that continues another; None
-- if the line has no location, or no item, or its first item is a byte
abbrev pub listed_line : Bytes → Option ListedLine
listed_line line = line_with (number_at line 11) (number_at line 18) (drop 42 line)

-- the lines before the first one that equals `word`; all of them if none does
abbrev pub lines_before : Bytes → List Bytes → List Bytes
lines_before word [] = []
lines_before word (line ∷ lines) = if bytes_eq line word then [] else line ∷ lines_before word lines

-- the lines of a listing that show words, which come before its symbol table
abbrev pub listed_lines : List Bytes → List ListedLine
listed_lines lines = filter_map listed_line (lines_before (codes "SYMBOL TABLE") lines)

-- ---- where the sections of a listing lie

-- where the contribution of a module to a section lies
abbrev pub part_of : Contribution → Part
part_of contribution = record { base = contribution.base; end = end_of contribution }

-- where the sections in these lines, up to an empty one, lie if the contributions from those of the listing's module on are these
abbrev pub placed_parts : List Contribution → List Bytes → List Part
placed_parts own [] = []
placed_parts own (line ∷ lines) =
    if bytes_eq line [] then [] else elim own [ [] ↦ [] | contribution ∷ others ↦ part_of contribution ∷ placed_parts others lines ]

abbrev pub part_with : Result ℕ MapFault → Result ℕ MapFault → Result Part MapFault
part_with (Ok base) (Ok size) = Ok (record { base = base; end = base + size })
part_with (Ok base) (Err fault) = Err BadMap
part_with (Err fault) size = Err BadMap

-- where the section that a line describes lies, if the next relocatable section begins at `base`; `BadMap` if the line describes none
abbrev pub listed_part : ℕ → Bytes → Result Part MapFault
listed_part base line = part_with (own_base base line) (number_at line 7)

-- where the sections in these lines lie if relocatable ones begin at `base`, up to an empty line or one that describes no section
abbrev pub listed_parts : ℕ → List Bytes → List Part
listed_parts base [] = []
listed_parts base (line ∷ lines) = if bytes_eq line [] then [] else elim (next_base base line) [
  | Ok next ↦ elim (listed_part base line) [ Ok part ↦ part ∷ listed_parts next lines | Err fault ↦ [] ]
  | Err fault ↦ []
]

-- where the sections of a listing lie whose names are in lines of this form; none if they aren't those of a listing
abbrev pub parts_of : Form → List Part
parts_of LinkMap = []
parts_of (LoadMap contributions) = []
parts_of (Listing bottom sections) = listed_parts bottom (lines_of sections.now)
parts_of (Placed own sections) = placed_parts own.now (lines_of sections.now)

-- ---- the line that shows the word at an address

-- the lines of a listing that show words, and where its sections lie
pub record PlacedListing : Type 0 where
  pub parts : List Part
  pub lines : List ListedLine

abbrev pub listing_of : declared_listing.PlacedListing → PlacedListing
listing_of listing = record { parts = listing.parts.items; lines = map line_of listing.lines.items }

-- this location in a section that lies here is the address, and the section holds it
abbrev pub lies_at : ℕ → ℕ → Part → Bool
lies_at address location part =
    (part.base + location) % 0o200000 == address && (nat_le part.base address && nat_lt address part.end)

-- a line shows this word, and its location may be the address in one of the sections
abbrev pub fits : ℕ → ℕ → List Part → ListedLine → Bool
fits address word parts line = line.word == word && list_any (lies_at address line.location) parts

-- the lines of a listing, or of all listings, that fit
abbrev pub fitting_in : ℕ → ℕ → PlacedListing → List ListedLine
fitting_in address word listing = filter (fits address word listing.parts) listing.lines

abbrev pub fitting : ℕ → ℕ → List PlacedListing → List ListedLine
fitting address word listings = flat_map (fitting_in address word) listings

-- the text of the only line; None if there is none, or several
abbrev pub only_text : List ListedLine → Option Bytes
only_text [] = None
only_text (line ∷ []) = Some line.text
only_text (line ∷ other ∷ lines) = None

-- the text of the line that shows the word at an address, if exactly one line of all listings fits
abbrev pub listed_text : List PlacedListing → ℕ → ℕ → Option Bytes
listed_text listings address word = only_text (fitting address word listings)
