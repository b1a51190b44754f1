-- The lines of a listing. (MACRO-11 Language Reference Manual, "Listing control directives", for the parts of a line: flags, number,
-- location, contents, text. The columns and their widths, in decimal, are this project's own.)
--
--     1234567890123456789012345678901234567890123456789012345
--     B        3 000017 000001  000002  000003  .WORD 1,2,3,4
--                000026 000004
use Rattle.std.specs.Prelude.{ℕ, List, [], ◌∷◌, ◌++◌, take, drop}
use Rattle.std.specs.Fmt.{decimal}
use Rattle.m11_base.specs.Devices.{Bytes}
use Rattle.m11_base.specs.Octal.{octal_text}
use Rattle.m11_asm_listing.specs.declared.items.Item.{Item}
use Rattle.m11_asm_listing.specs.Columns.{at_left, at_right, blanks, printed}
use Rattle.m11_asm_listing.specs.Items.{items_column, location_after}
use Rattle.m11_obj_print.specs.Lines.{line_of}

-- ---- groups of columns

-- 10 columns: the first four flags of the line in 4, its number in 6
abbrev pub head : Bytes → ℕ → Bytes
head flags number = at_left 4 (take 4 flags) ++ at_right 6 (decimal number)

-- 31 columns: a blank, a location as six octal digits, and three items
abbrev pub location_and_items : ℕ → List Item → Bytes
location_and_items location items = blanks 1 ++ octal_text location ++ items_column items

-- ---- lines

-- a source line with its first three items; its text begins in column 43; blanks at the end are left out
abbrev pub listed_line : Bytes → ℕ → ℕ → List Item → Bytes → Bytes
listed_line flags number location items text =
    line_of (head flags number ++ location_and_items location items ++ blanks 1 ++ printed text)

-- a further line: ten blanks, the location of the first of these items, and the first three items, or all if there are fewer; blanks at the
-- end are left out
abbrev pub further_line : ℕ → List Item → Bytes
further_line location items = line_of (blanks 10 ++ location_and_items location items)

-- ---- all lines of one source line

-- the lines of further items, three to a line; the first item is at this location
abbrev pub further_lines : ℕ → List Item → List Bytes
further_lines location [] = []
further_lines location (one ∷ []) = further_line location (one ∷ []) ∷ []
further_lines location (one ∷ two ∷ []) = further_line location (one ∷ two ∷ []) ∷ []
further_lines location (one ∷ two ∷ three ∷ items) =
    further_line location (one ∷ two ∷ three ∷ []) ∷ further_lines (location_after location (one ∷ two ∷ three ∷ [])) items

-- all listing lines of a source line: the first one shows the location counter before the source line; the items begin at
-- `first_item_location`, which is the next location if the counter had to be made even
abbrev pub listed_lines : Bytes → ℕ → ℕ → ℕ → List Item → Bytes → List Bytes
listed_lines flags number location first_item_location items text =
    listed_line flags number location items text ∷ further_lines (location_after first_item_location (take 3 items)) (drop 3 items)
