use Rattle.std.proofs.Common.{[]}
use Rattle.m11_link.proofs.FirstRead.{layout_begins, reading_ends, reading_stops}
use Rattle.m11_link.proofs.run.read_first.Goals as goal

pub returns-in-Ok : goal.returns-in-Ok
returns-in-Ok g c =
    let laid = c.in-Ok.ensures c.args.bottom []
    (layout_begins c.args.bottom c.with_seed-layout.result c.with_seed-layout.ensures) in
    reading_ends g.F.Feed.text g.F.Feed.faults c.args.feeds.now c.lay_out.new.feeds c.args.bottom
    c.lay_out.new.layout laid c.end.result (c.end.ensures.ends c.args.bottom laid.3.parts laid.3.stands.stands)

pub returns-in-Err : goal.returns-in-Err
returns-in-Err g c =
    reading_stops g.F.Feed.text g.F.Feed.faults c.args.feeds.now c.lay_out.new.feeds c.args.bottom
    c.lay_out.new.layout c.in-Err.fault
    (c.in-Err.ensures c.args.bottom [] (layout_begins c.args.bottom c.with_seed-layout.result c.with_seed-layout.ensures))
