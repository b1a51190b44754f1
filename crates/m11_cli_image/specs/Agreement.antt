-- The lines of a source, and sources that agree on which sections are ABS. (MACRO-11 Language Reference Manual, ".PSECT directive": REL and
-- ABS. This project's own: a section of a program has the attributes of its first entry, and entries with other attributes are reported.)
use Rattle.std.specs.Prelude.{◌≡◌, false, List, [], ◌∷◌, ⊤}
use Rattle.std.specs.List.{AllByRecursion, flat_map}
use Rattle.m11_link_layout.specs.Sections.{is_relocatable}
use Rattle.m11_obj.specs.declared.pieces.Piece.{Piece}
use Rattle.m11_asm_rules.specs.Meanings.{empty_map}
use Rattle.m11_asm_rules.specs.Placements.{LinePlacement, placement, program_map, table_after}
use Rattle.m11_unfold_rules.specs.Unfolding.{UnfoldedLine}
use Rattle.m11_cli_image.specs.Sections.{OwnSection, all_sections, attributes_of}
use Rattle.m11_cli_image.specs.Sources.{Source}

-- ---- lines

abbrev pub placed_pieces : LinePlacement → List Piece
placed_pieces line = line.pieces

-- a source consists of these live lines: its table is that of the first pass, and its pieces are placed under the map that the lines define
pub record IsOf (lines : List UnfoldedLine) (source : Source) : Type 0 where
  pub table : source.facts.table ≡ table_after empty_map lines
  pub pieces : source.pieces ≡ flat_map placed_pieces (placement (program_map lines) lines)

-- there are as many sources as lists of lines, and each source consists of its lines
abbrev pub AreOf : List (List UnfoldedLine) → List Source → Type 0
AreOf [] [] = ⊤
AreOf [] (source ∷ sources) = ⊥
AreOf (lines ∷ all) [] = ⊥
AreOf (lines ∷ all) (source ∷ sources) = IsOf lines source × AreOf all sources

-- ---- sections

-- if the source of this section calls it ABS, it isn't relocatable in the program: the first source that has it calls it ABS too
abbrev pub StaysAbsolute : List Source → OwnSection → Type 0
StaysAbsolute sources own = is_relocatable own.attributes ≡ false → is_relocatable (attributes_of sources own.name) ≡ false

abbrev pub AbsolutesAgree : List Source → Type 0
AbsolutesAgree sources = AllByRecursion (StaysAbsolute sources) (all_sections sources)
