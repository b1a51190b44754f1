-- Pieces that lie one after another. (MACRO-11 Language Reference Manual, "Current location counter".)
use Rattle.std.specs.Prelude.{ℕ, ◌+◌, ◌≤◌, ◌==◌, Bool, true, false, List, [], ◌∷◌, ◌++◌, ⊤}
use Rattle.m11_obj.specs.declared.pieces.Piece.{Piece}
use Rattle.m11_unfold_rules.specs.Unfolding.{UnfoldedLine}
use Rattle.m11_asm_rules.specs.Contents.{content_size}
use Rattle.m11_asm_rules.specs.Lines.{after_line, pieces, stands}
use Rattle.m11_asm_rules.specs.Meanings.{Map}
use Rattle.m11_asm_rules.specs.Tables.{Table}

-- each piece begins no earlier than the end of the one before it, and the first no earlier than a location
abbrev pub LieFrom : ℕ → List Piece → Type 0
LieFrom location [] = ⊤
LieFrom location (piece ∷ pieces) = (location ≤ piece.location) × LieFrom (piece.location + content_size piece.content) pieces

abbrev pub pieces_if : Bool → List Piece → List Piece
pieces_if true pieces = pieces
pieces_if false pieces = []

-- the pieces in the section with this number, in the order of the lines
abbrev pub pieces_in : ℕ → Map → Table → List UnfoldedLine → List Piece
pieces_in section map table [] = []
pieces_in section map table (given ∷ lines) =
    pieces_if ((stands table given).modes.section == section) (pieces map table given)
    ++ pieces_in section map (after_line map table given) lines
