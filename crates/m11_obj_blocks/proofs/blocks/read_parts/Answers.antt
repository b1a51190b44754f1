use Rattle.std.proofs.lemmas.Result.{err_from_is_err_and}
use Rattle.m11_obj_blocks.specs.Limited.{position, EndsBetween}
use Rattle.m11_obj_blocks.proofs.BlockParts.{front_stops, content_stops, sum_stops, block_read}
use Rattle.m11_obj_blocks.proofs.blocks.read_parts.Goals as goal

pub returns-in_err-count : goal.returns-in_err-count
returns-in_err-count g c =
    let p = err_from_is_err_and c.from_residual.result c.from_residual.ensures.1 in
    rw (p.1, p.2) (front_stops (position (g.F.Feed.text c.args.feed.now) (g.F.Feed.faults c.args.feed.now) c.args.room.now)
    (position (g.F.Feed.text c.read_front.new.feed) (g.F.Feed.faults c.read_front.new.feed) c.read_front.new.room) _ c.in_err-count.ensures.front)

pub returns-in_err-read_content-in-Some : goal.returns-in_err-read_content-in-Some
returns-in_err-read_content-in-Some g c =
    let counted = rw c.in-Some.is at c.in_ok-count.ensures.front in
    let p = err_from_is_err_and c.from_residual-in_err-read_content-in-Some.result
    c.from_residual-in_err-read_content-in-Some.ensures.1 in
    rw (p.1, p.2) (content_stops (position (g.F.Feed.text c.args.feed.now) (g.F.Feed.faults c.args.feed.now) c.args.room.now)
    (position (g.F.Feed.text c.read_front.new.feed) (g.F.Feed.faults c.read_front.new.feed) c.read_front.new.room) c.in-Some.count counted
    (position (g.F.Feed.text c.read_content.new.feed) (g.F.Feed.faults c.read_content.new.feed) c.read_content.new.room) _
    c.in_err-read_content-in-Some.ensures)

pub returns-in_err-read_sum-in-Some : goal.returns-in_err-read_sum-in-Some
returns-in_err-read_sum-in-Some g c =
    let counted = rw c.in-Some.is at c.in_ok-count.ensures.front in
    let p = err_from_is_err_and c.from_residual-in_err-read_sum-in-Some.result
    c.from_residual-in_err-read_sum-in-Some.ensures.1 in
    rw (p.1, p.2) (sum_stops (position (g.F.Feed.text c.args.feed.now) (g.F.Feed.faults c.args.feed.now) c.args.room.now)
    (position (g.F.Feed.text c.read_front.new.feed) (g.F.Feed.faults c.read_front.new.feed) c.read_front.new.room) c.in-Some.count counted
    (position (g.F.Feed.text c.read_content.new.feed) (g.F.Feed.faults c.read_content.new.feed) c.read_content.new.room)
    c.read_content.new.content.items c.in_ok-read_content-in-Some.ensures
    (position (g.F.Feed.text c.read_sum.new.feed) (g.F.Feed.faults c.read_sum.new.feed) c.read_sum.new.room) _
    c.in_err-read_sum-in-Some.ensures)

pub returns-in_ok-read_sum-in-Some : goal.returns-in_ok-read_sum-in-Some
returns-in_ok-read_sum-in-Some g c =
    let counted = rw c.in-Some.is at c.in_ok-count.ensures.front in
    block_read (position (g.F.Feed.text c.args.feed.now) (g.F.Feed.faults c.args.feed.now) c.args.room.now)
    (position (g.F.Feed.text c.read_front.new.feed) (g.F.Feed.faults c.read_front.new.feed) c.read_front.new.room) c.in-Some.count counted
    (position (g.F.Feed.text c.read_content.new.feed) (g.F.Feed.faults c.read_content.new.feed) c.read_content.new.room)
    c.read_content.new.content.items c.in_ok-read_content-in-Some.ensures
    (position (g.F.Feed.text c.read_sum.new.feed) (g.F.Feed.faults c.read_sum.new.feed) c.read_sum.new.room)
    c.in_ok-read_sum-in-Some.ensures

pub returns-in-None : goal.returns-in-None
returns-in-None g c = front_stops (position (g.F.Feed.text c.args.feed.now) (g.F.Feed.faults c.args.feed.now) c.args.room.now)
    (position (g.F.Feed.text c.read_front.new.feed) (g.F.Feed.faults c.read_front.new.feed) c.read_front.new.room) EndsBetween
    (rw c.in-None.is at c.in_ok-count.ensures.front)
