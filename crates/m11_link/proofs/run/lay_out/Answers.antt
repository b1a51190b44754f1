use Rattle.std.proofs.Common.{get_or, refl, arith}
use Rattle.std.proofs.lemmas.Result.{err_from_is_err_and}
use Rattle.m11_link.proofs.FirstRead.{all_begin, all_laid, object_laid, object_stops}
use Rattle.m11_link.proofs.run.lay_out.Goals as goal

pub feeds-init : goal.feeds-init
feeds-init g c = λ bottom before s.
    all_begin g.F.Feed.text g.F.Feed.faults c.args.feeds.now bottom before c.args.layout.now s

pub feeds-preserved : goal.feeds-preserved
feeds-preserved g c = λ bottom before s.
    let l = c.feeds.invariant bottom before s in
    object_laid g.F.Feed.text g.F.Feed.faults c.args.feeds.now c.feeds.feeds c.feeds.feed-index bottom before
    c.feeds.layout c.lay_out_object.new.layout l (omega (arith, c.feeds-test.true)) c.feed-item.result
    (get_or c.feeds.feeds c.feeds.feed-index c.feed-item.result) c.lay_out_object.new.feed refl
    (c.in_ok-lay_out_object.ensures bottom l.reaches.parts l.reaches.stands.stands)

pub returns-in_err-lay_out_object : goal.returns-in_err-lay_out_object
returns-in_err-lay_out_object g c = λ bottom before s.
    let r = c.from_residual in
    let p = err_from_is_err_and r.result r.ensures.1 in
    rw (p.1, p.2)
    (let l = c.feeds.invariant bottom before s in
    object_stops g.F.Feed.text g.F.Feed.faults c.args.feeds.now c.feeds.feeds c.feeds.feed-index bottom before
    c.feeds.layout c.lay_out_object.new.layout l (omega (arith, c.feeds-test.true)) c.feed-item.result
    (get_or c.feeds.feeds c.feeds.feed-index c.feed-item.result) c.lay_out_object.new.feed refl
    _ (c.in_err-lay_out_object.ensures bottom l.reaches.parts l.reaches.stands.stands))

pub returns : goal.returns
returns g c = λ bottom before s.
    all_laid g.F.Feed.text g.F.Feed.faults c.args.feeds.now c.feeds.feeds c.feeds.feed-index bottom before
    c.feeds.layout (c.feeds.invariant bottom before s) (omega (arith, c.feeds-test.false))
