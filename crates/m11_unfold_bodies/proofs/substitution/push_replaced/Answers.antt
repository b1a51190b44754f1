use Rattle.m11_unfold_bodies.proofs.Pieces.{step_joined, one_more}
use Rattle.m11_unfold_bodies.proofs.substitution.push_replaced.Goals as goal

pub pieces-preserved : goal.pieces-preserved
pieces-preserved c =
    one_more c.pieces.invariant c.put_for-is_actual.result.0.now c.split_at.result.1.now c.put_for-is_actual.result.1 c.push_all.new.self
    (step_joined c.args.formals.now c.args.actuals.now c.pieces.is_after c.piece_length.result c.pieces.rest.now c.split_at.result.0.now
    c.split_at.result.1.now c.put_for-is_actual.result.0.now c.vanishes-is_gone.result c.put_for-is_actual.result.1
    c.split_at.ensures.front c.split_at.ensures.back c.piece_length.ensures.piece c.piece_length.ensures.text
    c.vanishes-is_gone.ensures c.put_for-is_actual.ensures.put c.put_for-is_actual.ensures.replaced)
    c.push_all.ensures
