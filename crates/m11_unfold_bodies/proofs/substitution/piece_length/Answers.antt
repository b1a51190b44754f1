use Rattle.std.proofs.Common.{arith}
use Rattle.m11_unfold_bodies.proofs.Pieces.{run_piece}
use Rattle.m11_unfold_bodies.proofs.substitution.piece_length.Goals as goal

pub returns-else-length-eq0-clause-piece : goal.returns-else-length-eq0-clause-piece
returns-else-length-eq0-clause-piece c =
    let other = c.if-length-eq0.false in
    run_piece c.args.text.now c.run_length-length.result c.run_length-length.ensures.run (omega arith)
