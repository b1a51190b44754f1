use Rattle.std.proofs.Common.{[]}
use Rattle.m11_link.proofs.FirstRead.{layout_begins}
use Rattle.m11_link_load_map.proofs.ReadOn.{all_end, all_refused, all_stop, noted_begins}
use Rattle.m11_link_load_map.proofs.reading.read_all.Goals as goal

pub returns-in-Ok-end : goal.returns-in-Ok-end
returns-in-Ok-end g c =
    let begun = noted_begins c.args.bottom c.with_seed-layout.result c.args.noted.now.items
    (layout_begins c.args.bottom c.with_seed-layout.result c.with_seed-layout.ensures) c.requires in
    let noted = c.in-Ok.ensures c.args.bottom [] begun in
    all_end g.F.Feed.text g.F.Feed.faults c.args.feeds.now c.read_objects.new.feeds c.args.bottom
    c.read_objects.new.layout c.read_objects.new.noted.items noted c.in-Ok-end.plan
    (c.in-Ok-end.ensures.ends c.args.bottom noted.3.reaches.parts noted.3.reaches.stands.stands)

pub returns-in-Err-end : goal.returns-in-Err-end
returns-in-Err-end g c =
    let begun = noted_begins c.args.bottom c.with_seed-layout.result c.args.noted.now.items
    (layout_begins c.args.bottom c.with_seed-layout.result c.with_seed-layout.ensures) c.requires in
    let noted = c.in-Ok.ensures c.args.bottom [] begun in
    all_refused g.F.Feed.text g.F.Feed.faults c.args.feeds.now c.read_objects.new.feeds c.args.bottom
    c.read_objects.new.layout c.read_objects.new.noted.items noted c.in-Err-end.fault
    (c.in-Err-end.ensures.ends c.args.bottom noted.3.reaches.parts noted.3.reaches.stands.stands)

pub returns-in-Err : goal.returns-in-Err
returns-in-Err g c =
    let begun = noted_begins c.args.bottom c.with_seed-layout.result c.args.noted.now.items
    (layout_begins c.args.bottom c.with_seed-layout.result c.with_seed-layout.ensures) c.requires in
    all_stop g.F.Feed.text g.F.Feed.faults c.args.feeds.now c.read_objects.new.feeds c.args.bottom
    c.read_objects.new.layout c.read_objects.new.noted.items c.in-Err.fault
    (c.in-Err.ensures c.args.bottom [] begun)
