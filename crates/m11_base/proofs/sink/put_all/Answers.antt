use Rattle.std.proofs.Common.{◌∙◌}
use Rattle.m11_base.proofs.Known.{takes_more, taken_uncounted}
use Rattle.m11_base.proofs.sink.put_all.Goals as goal

pub puts-preserved : goal.puts-preserved
puts-preserved g c =
    let i = c.puts.invariant in
    let t = takes_more _ _ _ c.args.bytes.now i.0 c.puts.rest.now c.split_at.result.1.now c.in-Ok.count i.1 c.split_at.ensures.back i.2 c.in-Ok.ensures.takes in
    (t.0, t.1, t.2, taken_uncounted _ _ c.in-Ok.count _ c.in-Ok.count-test.1 c.in-Ok.ensures.counts ∙ i.3)
