-- Lines that an assembly turns into contents at the current location. (MACRO-11 Language Reference Manual, "Source program format".)
use Rattle.std.specs.Prelude.{◌≡◌, ◌<◌, false, List, [], ◌∷◌, None, length}
use Rattle.m11_base.specs.Devices.{Bytes}
use Rattle.m11_obj.specs.declared.pieces.PieceContent.{PieceContent}
use Rattle.m11_scan.specs.Line.{line_of}
use Rattle.m11_unfold_rules.specs.Unfolding.{UnfoldedLine}
use Rattle.m11_asm_rules.specs.Changes.{with_move}
use Rattle.m11_asm_rules.specs.Contents.{contents_size, pieces_from}
use Rattle.m11_asm_rules.specs.Lines.{after_line, flags, pieces}
use Rattle.m11_asm_rules.specs.Locations.{Steps}
use Rattle.m11_asm_rules.specs.Meanings.{Map}
use Rattle.m11_asm_rules.specs.Sources.{line_transfer}
use Rattle.m11_asm_rules.specs.Tables.{Table, location, section_name}

-- a line with these characters, which isn't a macro call or an operator that unfolding has handled
pub record IsLine (given : UnfoldedLine) (written : Bytes) : Type 0 where
  pub line : given.live.line ≡ line_of written
  pub own : given.is_own ≡ false

-- lines with these characters, one after another
abbrev pub AreRead : List UnfoldedLine → List Bytes → Type 0
AreRead [] [] = Unit {0}
AreRead [] (text ∷ texts) = ⊥
AreRead (given ∷ lines) [] = ⊥
AreRead (given ∷ lines) (text ∷ texts) = IsLine given text × AreRead lines texts

-- the current section has a location counter
abbrev pub HasCounter : Table → Type 0
HasCounter table = table.modes.section < length table.counters

-- a line emits these contents at the current location, has no flag but those of unfolding, moves the counter on by their size, and sets no
-- transfer address
pub record Assembles (map : Map) (table : Table) (given : UnfoldedLine) (contents : List PieceContent) : Type 0 where
  pub pieces : pieces map table given ≡ pieces_from (section_name table) (location table) contents
  pub flags : flags map table given ≡ given.remarks.flags
  pub after : after_line map table given ≡ with_move (Steps (contents_size contents)) table
  pub transfer : line_transfer map table given ≡ None
