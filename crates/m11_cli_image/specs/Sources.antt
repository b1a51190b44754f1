-- The part of a source that a linked program depends on. (MACRO-11 Language Reference Manual, "Relocation and linking". This project's own:
-- sections, globals and `.END` are those of the first pass, and the pieces are those of the second.)
use Rattle.std.specs.Prelude.{List}
use Rattle.m11_asm_directory.specs.FirstPass.{DirectoryFacts}
use Rattle.m11_obj.specs.declared.pieces.Piece.{Piece}

pub record Source : Type 0 where
  -- sections with their sizes, names with their values, and the transfer address, after the first pass
  pub facts : DirectoryFacts
  -- the pieces that the lines emit, in order, under the map of the first pass
  pub pieces : List Piece
