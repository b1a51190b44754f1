use Rattle.std.proofs.lemmas.Result.{err_from_is_err_and}
use Rattle.m11_obj_blocks.specs.Limited.{position}
use Rattle.m11_obj_blocks.proofs.TapeParts.{part_start_stops, part_second_stops, part_count_stops, part_address_stops, part_transfer, part_data}
use Rattle.m11_obj_blocks.proofs.tapes.read_part.Goals as goal

pub returns-in_err-read_start-clause-part : goal.returns-in_err-read_start-clause-part
returns-in_err-read_start-clause-part g c =
    let p = err_from_is_err_and c.from_residual.result c.from_residual.ensures.1 in
    rw (p.1, p.2) (part_start_stops
    (position (g.F.Feed.text c.args.feed.now) (g.F.Feed.faults c.args.feed.now) c.args.room.now)
    (position (g.F.Feed.text c.read_start.new.feed) (g.F.Feed.faults c.read_start.new.feed) c.read_start.new.room)
    _ c.in_err-read_start.ensures)

pub returns-in_err-read_second-clause-part : goal.returns-in_err-read_second-clause-part
returns-in_err-read_second-clause-part g c =
    let p =
    err_from_is_err_and c.from_residual-in_err-read_second.result c.from_residual-in_err-read_second.ensures.1 in
    rw (p.1, p.2) (part_second_stops
    (position (g.F.Feed.text c.args.feed.now) (g.F.Feed.faults c.args.feed.now) c.args.room.now)
    (position (g.F.Feed.text c.read_start.new.feed) (g.F.Feed.faults c.read_start.new.feed) c.read_start.new.room)
    c.in_ok-read_start.ensures
    (position (g.F.Feed.text c.read_second.new.feed) (g.F.Feed.faults c.read_second.new.feed)
    c.read_second.new.room) _ c.in_err-read_second.ensures)

pub returns-in_err-count-clause-part : goal.returns-in_err-count-clause-part
returns-in_err-count-clause-part g c =
    let p = err_from_is_err_and c.from_residual-in_err-count.result c.from_residual-in_err-count.ensures.1 in
    rw (p.1, p.2) (part_count_stops
    (position (g.F.Feed.text c.args.feed.now) (g.F.Feed.faults c.args.feed.now) c.args.room.now)
    (position (g.F.Feed.text c.read_start.new.feed) (g.F.Feed.faults c.read_start.new.feed) c.read_start.new.room)
    c.in_ok-read_start.ensures
    (position (g.F.Feed.text c.read_second.new.feed) (g.F.Feed.faults c.read_second.new.feed)
    c.read_second.new.room) c.in_ok-read_second.ensures
    (position (g.F.Feed.text c.read_count.new.feed) (g.F.Feed.faults c.read_count.new.feed)
    c.read_count.new.room) _ c.in_err-count.ensures.part)

pub returns-in_err-address-clause-part : goal.returns-in_err-address-clause-part
returns-in_err-address-clause-part g c =
    let p = err_from_is_err_and c.from_residual-in_err-address.result c.from_residual-in_err-address.ensures.1 in
    rw (p.1, p.2) (part_address_stops
    (position (g.F.Feed.text c.args.feed.now) (g.F.Feed.faults c.args.feed.now) c.args.room.now)
    (position (g.F.Feed.text c.read_start.new.feed) (g.F.Feed.faults c.read_start.new.feed) c.read_start.new.room)
    c.in_ok-read_start.ensures
    (position (g.F.Feed.text c.read_second.new.feed) (g.F.Feed.faults c.read_second.new.feed)
    c.read_second.new.room) c.in_ok-read_second.ensures
    (position (g.F.Feed.text c.read_count.new.feed) (g.F.Feed.faults c.read_count.new.feed)
    c.read_count.new.room) c.in_ok-count.count c.in_ok-count.ensures.part
    (position (g.F.Feed.text c.read_word.new.feed) (g.F.Feed.faults c.read_word.new.feed)
    c.read_word.new.room) _ c.in_err-address.ensures)

pub returns-then-count-eq0-clause-part : goal.returns-then-count-eq0-clause-part
returns-then-count-eq0-clause-part g c =
    part_transfer (position (g.F.Feed.text c.args.feed.now) (g.F.Feed.faults c.args.feed.now) c.args.room.now)
    (position (g.F.Feed.text c.read_start.new.feed) (g.F.Feed.faults c.read_start.new.feed) c.read_start.new.room)
    c.in_ok-read_start.ensures
    (position (g.F.Feed.text c.read_second.new.feed) (g.F.Feed.faults c.read_second.new.feed)
    c.read_second.new.room) c.in_ok-read_second.ensures
    (position (g.F.Feed.text c.read_count.new.feed) (g.F.Feed.faults c.read_count.new.feed)
    c.read_count.new.room) c.in_ok-count.count c.in_ok-count.ensures.part
    (position (g.F.Feed.text c.read_word.new.feed) (g.F.Feed.faults c.read_word.new.feed)
    c.read_word.new.room) c.in_ok-address.address c.in_ok-address.ensures
    (position (g.F.Feed.text c.read_transfer.new.feed)
    (g.F.Feed.faults c.read_transfer.new.feed) c.read_transfer.new.room)
    c.if-count-eq0.true c.read_transfer.result c.read_transfer.ensures.part

pub returns-clause-part : goal.returns-clause-part
returns-clause-part g c =
    part_data (position (g.F.Feed.text c.args.feed.now) (g.F.Feed.faults c.args.feed.now) c.args.room.now)
    (position (g.F.Feed.text c.read_start.new.feed) (g.F.Feed.faults c.read_start.new.feed) c.read_start.new.room)
    c.in_ok-read_start.ensures
    (position (g.F.Feed.text c.read_second.new.feed) (g.F.Feed.faults c.read_second.new.feed)
    c.read_second.new.room) c.in_ok-read_second.ensures
    (position (g.F.Feed.text c.read_count.new.feed) (g.F.Feed.faults c.read_count.new.feed)
    c.read_count.new.room) c.in_ok-count.count c.in_ok-count.ensures.part
    (position (g.F.Feed.text c.read_word.new.feed) (g.F.Feed.faults c.read_word.new.feed)
    c.read_word.new.room) c.if-count-eq0.false c.in_ok-address.address
    c.in_ok-address.ensures
