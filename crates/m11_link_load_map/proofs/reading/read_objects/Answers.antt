use Rattle.std.proofs.Common.{◌+◌, get_or, refl, ap, arith}
use Rattle.m11_link_load_map.proofs.ReadOn.{all_seen, object_lost, object_seen, seen_begin, stands_now}
use Rattle.m11_link_load_map.proofs.reading.read_objects.Goals as goal

pub feeds-init : goal.feeds-init
feeds-init g c = record {
  counted = refl;
  seen = λ bottom before s.
      seen_begin g.F.Feed.text g.F.Feed.faults c.args.feeds.now bottom before c.args.layout.now c.args.noted.now.items s;
}

pub feeds-preserved : goal.feeds-preserved
feeds-preserved g c = record {
  counted = ap (λ i. i + 1) c.feeds.invariant.counted;
  seen = λ bottom before s.
      let l = c.feeds.invariant.seen bottom before s in
      let here = stands_now g.F.Feed.text g.F.Feed.faults c.args.feeds.now c.feeds.feeds c.feeds.feed-index bottom before
      c.feeds.layout c.feeds.noted.items l in
      object_seen g.F.Feed.text g.F.Feed.faults c.args.feeds.now c.feeds.feeds c.feeds.feed-index bottom before
      c.feeds.layout c.read_object.new.layout c.feeds.noted.items c.read_object.new.noted.items l
      (omega (arith, c.feeds-test.true)) c.feed-item.result
      (get_or c.feeds.feeds c.feeds.feed-index c.feed-item.result) c.read_object.new.feed refl
      (c.in-Ok.ensures bottom l.laid.reaches.parts here);
}

pub returns-in-Err : goal.returns-in-Err
returns-in-Err g c = λ bottom before s.
    let l = c.feeds.invariant.seen bottom before s in
    let here = stands_now g.F.Feed.text g.F.Feed.faults c.args.feeds.now c.feeds.feeds c.feeds.feed-index bottom before
    c.feeds.layout c.feeds.noted.items l in
    object_lost g.F.Feed.text g.F.Feed.faults c.args.feeds.now c.feeds.feeds c.feeds.feed-index bottom before
    c.feeds.layout c.read_object.new.layout c.feeds.noted.items c.read_object.new.noted.items l
    (omega (arith, c.feeds-test.true)) c.feed-item.result
    (get_or c.feeds.feeds c.feeds.feed-index c.feed-item.result) c.read_object.new.feed refl
    c.feeds.index c.in-Err.fault c.feeds.invariant.counted (c.in-Err.ensures bottom l.laid.reaches.parts here)

pub returns : goal.returns
returns g c = λ bottom before s.
    all_seen g.F.Feed.text g.F.Feed.faults c.args.feeds.now c.feeds.feeds c.feeds.feed-index bottom before
    c.feeds.layout c.feeds.noted.items (c.feeds.invariant.seen bottom before s) (omega (arith, c.feeds-test.false))
