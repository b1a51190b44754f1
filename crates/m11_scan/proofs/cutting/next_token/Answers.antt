use Rattle.std.proofs.Common.{length, ap, sym, ◌∙◌, arith}
use Rattle.std.proofs.lemmas.List.{length-drop, take_rest}
use Rattle.m11_scan.proofs.NextPieces.{cut_from, other_stands, token_stands}
use Rattle.m11_scan.proofs.cutting.next_token.Goals as goal

pub returns-in-Cut-clause-token : goal.returns-in-Cut-clause-token
returns-in-Cut-clause-token c =
    let same = ap length c.text-text.ensures.text in
    sym c.pieces.invariant.same
    ∙ token_stands c.args.line.now.text c.pieces.begin c.first_piece-piece.result (omega arith)
    (cut_from _ _ _ _ c.text-text.ensures.text c.first_piece-piece.ensures.piece) c.first_piece-piece.ensures.begins _ c.in-Cut.is

pub pieces-preserved : goal.pieces-preserved
pieces-preserved c =
    let same = ap length c.text-text.ensures.text in
    let rest = ap length (take_rest c.text-text.result.now c.pieces.begin) in
    let left = length-drop c.pieces.begin c.text-text.result.now in
    record {
      same =
          sym (other_stands c.args.line.now.text c.pieces.begin c.first_piece-piece.result (omega arith)
          (cut_from _ _ _ _ c.text-text.ensures.text c.first_piece-piece.ensures.piece) c.first_piece-piece.ensures.begins
          c.in_default.not-Cut)
          ∙ c.pieces.invariant.same;
      after = omega arith;
    }
