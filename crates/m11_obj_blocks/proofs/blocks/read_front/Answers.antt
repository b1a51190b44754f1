use Rattle.std.proofs.lemmas.Result.{err_from_is_err_and}
use Rattle.m11_obj_blocks.specs.Limited.{position, EndsBetween}
use Rattle.m11_obj_blocks.proofs.BlockParts.{start_stops, second_stops, count_stops, front_read}
use Rattle.m11_obj_blocks.proofs.blocks.read_front.Goals as goal

pub returns-in_err-read_start-clause-front : goal.returns-in_err-read_start-clause-front
returns-in_err-read_start-clause-front g c =
    let p = err_from_is_err_and c.from_residual.result c.from_residual.ensures.1 in
    rw (p.1, p.2) (start_stops (position (g.F.Feed.text c.args.feed.now) (g.F.Feed.faults c.args.feed.now) c.args.room.now)
    (position (g.F.Feed.text c.read_start.new.feed) (g.F.Feed.faults c.read_start.new.feed) c.read_start.new.room) _ c.in_err-read_start.ensures)

pub returns-then-not-branch-clause-front : goal.returns-then-not-branch-clause-front
returns-then-not-branch-clause-front g c = start_stops (position (g.F.Feed.text c.args.feed.now) (g.F.Feed.faults c.args.feed.now) c.args.room.now)
    (position (g.F.Feed.text c.read_start.new.feed) (g.F.Feed.faults c.read_start.new.feed) c.read_start.new.room) EndsBetween (rw c.if-not-branch.true at c.in_ok-read_start.ensures)

pub returns-in_err-read_second-clause-front : goal.returns-in_err-read_second-clause-front
returns-in_err-read_second-clause-front g c =
    let started = rw c.if-not-branch.false at c.in_ok-read_start.ensures in
    let p =
    err_from_is_err_and c.from_residual-in_err-read_second.result c.from_residual-in_err-read_second.ensures.1 in
    rw (p.1, p.2) (second_stops (position (g.F.Feed.text c.args.feed.now) (g.F.Feed.faults c.args.feed.now) c.args.room.now)
    (position (g.F.Feed.text c.read_start.new.feed) (g.F.Feed.faults c.read_start.new.feed) c.read_start.new.room) started
    (position (g.F.Feed.text c.read_second.new.feed) (g.F.Feed.faults c.read_second.new.feed) c.read_second.new.room) _ c.in_err-read_second.ensures)

pub returns-in_err-count-clause-front : goal.returns-in_err-count-clause-front
returns-in_err-count-clause-front g c =
    let started = rw c.if-not-branch.false at c.in_ok-read_start.ensures in
    let p =
    err_from_is_err_and c.from_residual-in_err-count.result c.from_residual-in_err-count.ensures.1 in
    rw (p.1, p.2) (count_stops (position (g.F.Feed.text c.args.feed.now) (g.F.Feed.faults c.args.feed.now) c.args.room.now)
    (position (g.F.Feed.text c.read_start.new.feed) (g.F.Feed.faults c.read_start.new.feed) c.read_start.new.room) started
    (position (g.F.Feed.text c.read_second.new.feed) (g.F.Feed.faults c.read_second.new.feed) c.read_second.new.room) c.in_ok-read_second.ensures
    (position (g.F.Feed.text c.read_count.new.feed) (g.F.Feed.faults c.read_count.new.feed) c.read_count.new.room) _ c.in_err-count.ensures.part)

pub returns-clause-front : goal.returns-clause-front
returns-clause-front g c =
    let started = rw c.if-not-branch.false at c.in_ok-read_start.ensures in
    front_read (position (g.F.Feed.text c.args.feed.now) (g.F.Feed.faults c.args.feed.now) c.args.room.now)
    (position (g.F.Feed.text c.read_start.new.feed) (g.F.Feed.faults c.read_start.new.feed) c.read_start.new.room) started
    (position (g.F.Feed.text c.read_second.new.feed) (g.F.Feed.faults c.read_second.new.feed) c.read_second.new.room) c.in_ok-read_second.ensures
    (position (g.F.Feed.text c.read_count.new.feed) (g.F.Feed.faults c.read_count.new.feed) c.read_count.new.room) c.in_ok-count.count c.in_ok-count.ensures.part
