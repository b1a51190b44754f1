use Rattle.std.proofs.lemmas.Result.{err_from_is_err_and}
use Rattle.m11_obj_blocks.specs.Limited.{position}
use Rattle.m11_dump.proofs.Taping.{memory_lacks, none_taken, one_taken}
use Rattle.m11_dump.proofs.tapes.read_data.Goals as goal

pub bytes-init : goal.bytes-init
bytes-init g c = rw c.new-bytes.ensures.items (none_taken (position (g.F.Feed.text c.args.feed.now) (g.F.Feed.faults c.args.feed.now) c.args.reader.now.room) c.args.address c.args.count
    c.args.reader.now.stage c.requires)

pub bytes-preserved : goal.bytes-preserved
bytes-preserved g c = rw c.in_ok-push-in-Ok.ensures.items (one_taken (position (g.F.Feed.text c.args.feed.now) (g.F.Feed.faults c.args.feed.now) c.args.reader.now.room)
    (position (g.F.Feed.text c.bytes.feed) (g.F.Feed.faults c.bytes.feed) c.bytes.reader.room) c.args.address c.args.count
    c.bytes.index c.bytes.reader.stage c.bytes.bytes.items c.bytes.invariant
    (position (g.F.Feed.text c.byte.new.feed) (g.F.Feed.faults c.byte.new.feed) c.byte.new.self.room) c.byte.new.self.stage
    c.in-Ok.byte c.in-Ok.ensures.reads)

pub returns-in_err-push-in-Ok : goal.returns-in_err-push-in-Ok
returns-in_err-push-in-Ok g c =
    let r = c.from_residual in
    let p = err_from_is_err_and r.result r.ensures.1 in
    rw (p.1, p.2) (memory_lacks (position (g.F.Feed.text c.args.feed.now) (g.F.Feed.faults c.args.feed.now) c.args.reader.now.room)
    (position (g.F.Feed.text c.bytes.feed) (g.F.Feed.faults c.bytes.feed) c.bytes.reader.room) c.args.address c.args.count
    c.bytes.index c.bytes.reader.stage c.bytes.bytes.items c.bytes.invariant c.bytes-test.true
    (position (g.F.Feed.text c.byte.new.feed) (g.F.Feed.faults c.byte.new.feed) c.byte.new.self.room) c.byte.new.self.stage
    c.in-Ok.byte c.in-Ok.ensures.reads)
