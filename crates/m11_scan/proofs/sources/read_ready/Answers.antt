use Rattle.std.proofs.Common.{arith}
use Rattle.m11_scan.proofs.SourceSteps.{ready_taken}
use Rattle.m11_scan.proofs.sources.read_ready.Goals as goal

pub returns-clause-took : goal.returns-clause-took
returns-clause-took g c =
    ready_taken c.args.may_begin (g.F.Feed.text c.args.feed.now) (g.F.Feed.text c.pass.new.self)
    (g.F.Feed.faults c.args.feed.now) (g.F.Feed.faults c.pass.new.self) c.args.bytes_left.now c.args.line.now
    c.take-taken.new.self c.ready-shown.result.now c.min.result c.take-taken.result.count c.if-not-may_begin.false
    (omega arith) (omega arith) c.pass.ensures.keeps (rw c.ready-shown.ensures.shown c.pass.ensures.passes)
    c.take-taken.result.is_closed c.take-taken.ensures
