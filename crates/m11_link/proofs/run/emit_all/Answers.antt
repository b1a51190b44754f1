use Rattle.std.proofs.Common.{get_or, refl, arith, ◌∙◌}
use Rattle.std.proofs.lemmas.Result.{err_from_is_err_and}
use Rattle.m11_base_writes.specs.Outputs.{outputs_of}
use Rattle.m11_link.proofs.SecondRead.{all_begin, all_sent, object_sent, object_stops}
use Rattle.m11_link.proofs.run.emit_all.Goals as goal

pub feeds-init : goal.feeds-init
feeds-init g c = record {
  sent = λ plan before first s b w.
      all_begin g.F.Feed.text g.F.Feed.faults c.args.feeds.now plan before first
      (outputs_of g.S.Sink g.T.Sink g.U.Sink c.args.tape.now c.args.map.now c.args.messages.now)
      c.args.emit.now s b w;
  stays = refl;
}

pub feeds-preserved : goal.feeds-preserved
feeds-preserved g c = record {
  sent = λ plan before first s b w.
      let l = c.feeds.invariant.sent plan before first s b w in
      object_sent g.F.Feed.text g.F.Feed.faults c.args.feeds.now c.feeds.feeds c.feeds.feed-index plan c.args.emit.now.has_begun before first
      (outputs_of g.S.Sink g.T.Sink g.U.Sink c.feeds.tape c.feeds.map c.feeds.messages)
      (outputs_of g.S.Sink g.T.Sink g.U.Sink c.emit_object.new.tape c.emit_object.new.map c.emit_object.new.messages)
      c.feeds.emit c.emit_object.new.emit l (omega (arith, c.feeds-test.true)) c.feed-item.result
      (get_or c.feeds.feeds c.feeds.feed-index c.feed-item.result) c.emit_object.new.feed refl
      (c.in_ok-emit_object.ensures.emits plan l.emitted.parts first l.emitted.stands l.emitted.gains);
  stays = c.in_ok-emit_object.ensures.stays ∙ c.feeds.invariant.stays;
}

pub returns-in_err-emit_object-clause-emits : goal.returns-in_err-emit_object-clause-emits
returns-in_err-emit_object-clause-emits g c = λ plan before first s b w.
    let r = c.from_residual in
    let p = err_from_is_err_and r.result r.ensures.1 in
    rw (p.1, p.2)
    (let l = c.feeds.invariant.sent plan before first s b w in
    object_stops g.F.Feed.text g.F.Feed.faults c.args.feeds.now c.feeds.feeds c.feeds.feed-index plan c.args.emit.now.has_begun before first
    (outputs_of g.S.Sink g.T.Sink g.U.Sink c.feeds.tape c.feeds.map c.feeds.messages)
    (outputs_of g.S.Sink g.T.Sink g.U.Sink c.emit_object.new.tape c.emit_object.new.map c.emit_object.new.messages)
    c.feeds.emit c.emit_object.new.emit l (omega (arith, c.feeds-test.true)) c.feed-item.result
    (get_or c.feeds.feeds c.feeds.feed-index c.feed-item.result) c.emit_object.new.feed refl
    _ (c.in_err-emit_object.ensures.emits plan l.emitted.parts first l.emitted.stands l.emitted.gains))

pub returns-clause-emits : goal.returns-clause-emits
returns-clause-emits g c = λ plan before first s b w.
    all_sent g.F.Feed.text g.F.Feed.faults c.args.feeds.now c.feeds.feeds c.feeds.feed-index plan c.args.emit.now.has_begun before first
    (outputs_of g.S.Sink g.T.Sink g.U.Sink c.feeds.tape c.feeds.map c.feeds.messages)
    c.feeds.emit (c.feeds.invariant.sent plan before first s b w) (omega (arith, c.feeds-test.false))
