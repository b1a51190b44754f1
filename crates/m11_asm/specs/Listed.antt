-- The listing lines of a source line, and of the empty line that is added if no `.END` became live. (MACRO-11 Language Reference Manual,
-- "Listing control directives". That each line shows the location counter as it was before that line, and that an empty line is added, are
-- this project's own choices.)
use Rattle.std.specs.Prelude.{ℕ, if◌then◌else◌, List, [], map as each}
use Rattle.m11_base_writes.specs.Outputs.{Write, to_report}
use Rattle.m11_base.specs.Devices.{Bytes}
use Rattle.m11_asm_listing.specs.Listing.{listed_lines}
use Rattle.m11_scan.specs.ErrorFlags.{flags_text}
use Rattle.m11_unfold_rules.specs.Unfolding.{UnfoldedLine}
use Rattle.m11_asm_rules.specs.Items.{is_listed, items}
use Rattle.m11_asm_rules.specs.Lines.{after_line, put_location, stands}
use Rattle.m11_asm_rules.specs.Operations.{action}
use Rattle.m11_asm_rules.specs.Meanings.{Map}
use Rattle.m11_asm_rules.specs.Tables.{Table, location}

-- the writes of lines to the listing, one after another
abbrev pub all_to_listing : List Bytes → List Write
all_to_listing lines = each to_report lines

-- ---- a line of the source, with the table before it

-- the listing lines of a source line; its first item is shown at the location where the line emits it
abbrev pub lines_of : Map → Table → ℕ → ℕ → UnfoldedLine → List Bytes
lines_of map table flags number given =
    listed_lines (flags_text flags) number (location table)
    (put_location (stands table given) (action given.is_own given.arguments given.live.line.text)) (items map table given) given.live.line.text

-- the writes to the listing for a source line: a flagged line is always listed; any other line is listed if the listing level after it
-- isn't below 0, and a line of an expansion needs `.LIST ME` as well
unfoldable pub listing_writes : Map → Table → ℕ → ℕ → UnfoldedLine → List Write
listing_writes map table flags number given =
    if is_listed (after_line map table given) given flags then all_to_listing (lines_of map table flags number given) else []

-- ---- the end

-- the listing lines of the empty line that is added if no `.END` became live, with its flags, its number and the location counter
abbrev pub added_lines : ℕ → ℕ → ℕ → List Bytes
added_lines flags number location = listed_lines (flags_text flags) number location location [] []
