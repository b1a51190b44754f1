use Rattle.std.proofs.Common.{length, drop, ap, ◌∙◌, arith}
use Rattle.std.proofs.lemmas.List.{length-drop, take_rest}
use Rattle.m11_scan.specs.Pieces.{first_piece}
use Rattle.m11_scan.proofs.NextPieces.{cut_from, token_stands}
use Rattle.m11_scan.proofs.OrderedTokens.{next_later}
use Rattle.m11_scan.proofs.cutting.token_at.Goals as goal

pub returns-in-Cut-clause-token : goal.returns-in-Cut-clause-token
returns-in-Cut-clause-token c =
    let same = ap length c.text-text.ensures.text in
    token_stands c.args.line.now.text c.args.column c.first_piece-piece.result (omega arith)
    (cut_from _ _ _ _ c.text-text.ensures.text c.first_piece-piece.ensures.piece
    ∙ ap (λ begin. first_piece (drop begin c.args.line.now.text)) c.from-begin.ensures) c.first_piece-piece.ensures.begins _ c.in-Cut.is

pub returns-in_default-clause-later : goal.returns-in_default-clause-later
returns-in_default-clause-later c none =
    let same = ap length c.text-text.ensures.text in
    let rest = ap length (take_rest c.text-text.result.now c.args.column) in
    let left = length-drop c.args.column c.text-text.result.now in
    let within = c.first_piece-piece.ensures.within in
    next_later c.args.line.now.text c.args.column c.first_piece-piece.result (omega arith)
    (cut_from _ _ _ _ c.text-text.ensures.text c.first_piece-piece.ensures.piece
    ∙ ap (λ begin. first_piece (drop begin c.args.line.now.text)) c.from-begin.ensures) c.first_piece-piece.ensures.begins (omega arith)
    c.in_default.not-Cut
