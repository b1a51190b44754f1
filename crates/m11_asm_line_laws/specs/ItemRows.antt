-- The items of lines in a listing, worked by hand. (MACRO-11 Language Reference Manual, "Listing control directives".)
use Rattle.std.specs.Prelude.{ℕ, Bool, true, false, List, [], ◌∷◌, codes, map}
use Rattle.m11_base.specs.Devices.{Bytes}
use Rattle.m11_scan.specs.Line.{line_of}
use Rattle.m11_asm_listing.specs.declared.items.Item.{Item}
use Rattle.m11_asm_listing.specs.declared.items.Item.TheVariants.{InByte, InWord}
use Rattle.m11_asm_listing.specs.declared.items.Mark.TheVariants.{OfObject, OfRegister, OfSection, Unmarked}
use Rattle.m11_asm_rules.specs.Items.{is_listed, items}
use Rattle.m11_asm_rules.specs.Lines.{after_line}
use Rattle.m11_asm_rules.specs.Meanings.{Map}
use Rattle.m11_asm_rules.specs.Placements.{program_map}
use Rattle.m11_asm_rules.specs.Tables.{Table, first_table}
use Rattle.m11_asm_line_laws.specs.Worked.{plain, reported}
use Rattle.m11_unfold_rules.specs.Unfolding.{UnfoldedLine}

abbrev pub items_from : Map → Table → List UnfoldedLine → List (List Item)
items_from known table [] = []
items_from known table (given ∷ lines) = items known table given ∷ items_from known (after_line known table given) lines

abbrev pub items_of : List UnfoldedLine → List (List Item)
items_of lines = items_from (program_map lines) first_table lines

abbrev pub source : List Bytes
source =
    codes "X=5" ∷ codes "Y=%2" ∷ codes "A: A=5" ∷ codes "Z=A" ∷ codes "V=W" ∷ codes "W=U" ∷ codes ".NCHR N,<abc>" ∷ codes ".=.+2"
    ∷ codes ".WORD X,A,Q+1" ∷ codes ".BYTE 377,.+400" ∷ codes "CLR Q" ∷ codes ".LIMIT" ∷ []

abbrev pub found_items : List (List Item)
found_items = items_of (map plain source)

abbrev pub worked_items : List (List Item)
worked_items =
    (InWord 5 Unmarked ∷ [])
    ∷ (InWord 2 OfRegister ∷ [])
    ∷ (InWord 5 Unmarked ∷ [])
    ∷ (InWord 0 OfSection ∷ [])
    ∷ []
    ∷ []
    ∷ (InWord 3 Unmarked ∷ [])
    ∷ []
    ∷ (InWord 5 Unmarked ∷ InWord 0 OfSection ∷ InWord 1 OfObject ∷ [])
    ∷ (InByte 0o377 Unmarked ∷ InByte 0o11 OfSection ∷ [])
    ∷ (InWord 0o005067 Unmarked ∷ InWord 0 OfObject ∷ [])
    ∷ (InWord 0 Unmarked ∷ InWord 0 Unmarked ∷ [])
    ∷ []

-- ---- the lines that a listing shows

abbrev pub expanded : Bytes → UnfoldedLine
expanded text = record (plain text) { live = record { line = line_of text; is_expanded = true } }

abbrev pub listed_from : Map → Table → List UnfoldedLine → List ℕ → List Bool
listed_from known table [] flags = []
listed_from known table (given ∷ lines) [] = []
listed_from known table (given ∷ lines) (flags ∷ others) =
    is_listed (after_line known table given) given flags ∷ listed_from known (after_line known table given) lines others

abbrev pub listed_of : List UnfoldedLine → List Bool
listed_of lines = listed_from (program_map lines) first_table lines (reported lines)

abbrev pub found_listed : List (List Bool)
found_listed =
    listed_of (plain (codes ".NLIST") ∷ plain (codes ".WORD 1") ∷ plain (codes ".LIST") ∷ plain (codes ".WORD 18") ∷ [])
    ∷ listed_of (plain (codes ".NLIST") ∷ plain (codes ".WORD 18") ∷ [])
    ∷ listed_of (expanded (codes "NOP") ∷ expanded (codes ".LIST ME") ∷ expanded (codes "NOP") ∷ expanded (codes ".NLIST ME,BIN") ∷ [])
    ∷ []

abbrev pub worked_listed : List (List Bool)
worked_listed =
    (false ∷ false ∷ true ∷ true ∷ [])
    ∷ (false ∷ true ∷ [])
    ∷ (false ∷ true ∷ true ∷ false ∷ [])
    ∷ []
