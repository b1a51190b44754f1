use Rattle.std.proofs.Common.{sym, refl, ◌∙◌, rules}
use Rattle.m11_scan.proofs.NextPieces.{skipped_here, skipped_later}
use Rattle.m11_scan.proofs.skipped.is_some_skipped.Goals as goal

pub returns-then-is_skipped : goal.returns-then-is_skipped
returns-then-is_skipped c =
    skipped_here c.pieces.rest.now c.first_piece-piece.result (search rules) c.first_piece-piece.ensures.piece
    c.first_piece-piece.ensures.begins (sym c.is_skipped.ensures ∙ c.if-is_skipped.true)
    ∙ c.pieces.invariant

pub pieces-preserved : goal.pieces-preserved
pieces-preserved c =
    skipped_later c.pieces.rest.now c.first_piece-piece.result (search rules) c.first_piece-piece.ensures.piece
    c.first_piece-piece.ensures.begins _ (sym c.is_skipped.ensures ∙ c.if-is_skipped.false) refl
    ∙ c.pieces.invariant
