-- The bytes and words that a listed line emits or assigns. (MACRO-11 Language Reference Manual, "Listing control directives":
-- bytes and words in octal, and the marks of relocation. The columns are this project's own.)
use Rattle.std.specs.Prelude.{ℕ, ◌+◌, ◌%◌, List, [], ◌∷◌, ◌++◌, map, sum_by, Option, Some, None}
use Rattle.std.specs.List.{slice_get}
use Rattle.m11_base.specs.Devices.{Bytes}
use Rattle.m11_base.specs.Octal.{octal_digit, octal_text}
use Rattle.m11_asm_listing.specs.declared.items.Item.{Item}
use Rattle.m11_asm_listing.specs.declared.items.Item.TheVariants.{InByte, InWord}
use Rattle.m11_asm_listing.specs.declared.items.Mark.{Mark}
use Rattle.m11_asm_listing.specs.declared.items.Mark.TheVariants.{Unmarked, OfSection, OfObject, OfRegister}
use Rattle.m11_asm_listing.specs.Columns.{blanks}

-- the character of a mark: a blank, `'`, `G` or `%`
abbrev pub mark_character : Mark → ℕ
mark_character Unmarked = 0o40
mark_character OfSection = 0o47
mark_character OfObject = 0o107
mark_character OfRegister = 0o45

-- 8 columns: for a word, a blank, six octal digits and the mark; for a byte, four blanks, three octal digits and the mark; without an item,
-- blanks
abbrev pub item_column : Option Item → Bytes
item_column None = blanks 8
item_column (Some (InByte byte mark)) = blanks 4 ++ map (octal_digit byte) (2 ∷ 1 ∷ 0 ∷ []) ++ mark_character mark ∷ []
item_column (Some (InWord word mark)) = blanks 1 ++ octal_text word ++ mark_character mark ∷ []

-- 24 columns: the first three items; a missing one is blank
abbrev pub items_column : List Item → Bytes
items_column items = item_column (slice_get items 0) ++ item_column (slice_get items 1) ++ item_column (slice_get items 2)

-- ---- the locations of items

-- the size of an item, in bytes
abbrev pub item_size : Item → ℕ
item_size (InByte byte mark) = 1
item_size (InWord word mark) = 2

-- the location after items, modulo 65536
abbrev pub location_after : ℕ → List Item → ℕ
location_after location items = (location + sum_by item_size items) % 65536
