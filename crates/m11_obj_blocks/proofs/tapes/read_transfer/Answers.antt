use Rattle.std.proofs.lemmas.Result.{err_from_is_err_and}
use Rattle.m11_obj_blocks.proofs.TapeParts.{transfer_stops, transfer_read}
use Rattle.m11_obj_blocks.proofs.tapes.read_transfer.Goals as goal

pub returns-in_err-read_sum-clause-part : goal.returns-in_err-read_sum-clause-part
returns-in_err-read_sum-clause-part g c =
    let p = err_from_is_err_and c.from_residual.result c.from_residual.ensures.1 in
    let s = rw c.header_total.ensures at c.in_err-read_sum.ensures in
    rw (p.1, p.2) (transfer_stops c.args.address _ _ _ s)

pub returns-clause-part : goal.returns-clause-part
returns-clause-part g c =
    let r = rw c.header_total.ensures at c.in_ok-read_sum.ensures in
    transfer_read c.args.address _ _ r
