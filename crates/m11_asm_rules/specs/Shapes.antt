-- The sections, locations and sizes of pieces, whatever their contents are. (MACRO-11 Language Reference Manual, "Current location
-- counter".)
use Rattle.std.specs.Prelude.{ℕ, List, map}
use Rattle.m11_base.specs.Rad50.{Name}
use Rattle.m11_obj.specs.declared.pieces.Piece.{Piece}
use Rattle.m11_asm_rules.specs.Contents.{content_size}
use Rattle.m11_asm_rules.specs.Placements.{LinePlacement}

-- the section, the location and the size of a piece
pub record Shape : Type 0 where
  pub section : Name
  pub location : ℕ
  pub size : ℕ

abbrev pub shape_of : Piece → Shape
shape_of piece = record { section = piece.section; location = piece.location; size = content_size piece.content }

-- the shapes of the pieces of a placed line
abbrev pub shapes_in : LinePlacement → List Shape
shapes_in line = map shape_of line.pieces
