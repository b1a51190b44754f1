use Rattle.std.proofs.lemmas.Result.{err_from_is_err_and}
use Rattle.m11_obj_blocks.specs.Limited.{position}
use Rattle.m11_obj_blocks.proofs.TapeParts.{next_sum_stops, next_read}
use Rattle.m11_obj_blocks.proofs.tapes.read_next.Goals as goal

pub returns-in_err-read_sum-clause-part : goal.returns-in_err-read_sum-clause-part
returns-in_err-read_sum-clause-part g c =
    let p = err_from_is_err_and c.from_residual.result c.from_residual.ensures.1 in
    rw (p.1, p.2) (next_sum_stops c.args.total
    (position (g.F.Feed.text c.args.feed.now) (g.F.Feed.faults c.args.feed.now) c.args.room.now)
    (position (g.F.Feed.text c.read_sum.new.feed) (g.F.Feed.faults c.read_sum.new.feed) c.read_sum.new.room) _
    c.in_err-read_sum.ensures)

pub returns-clause-part : goal.returns-clause-part
returns-clause-part g c =
    next_read c.args.total (position (g.F.Feed.text c.args.feed.now) (g.F.Feed.faults c.args.feed.now) c.args.room.now)
    (position (g.F.Feed.text c.read_sum.new.feed) (g.F.Feed.faults c.read_sum.new.feed) c.read_sum.new.room)
    c.in_ok-read_sum.ensures
    (position (g.F.Feed.text c.read_part.new.feed) (g.F.Feed.faults c.read_part.new.feed)
    c.read_part.new.room) c.read_part.result c.read_part.ensures.part
