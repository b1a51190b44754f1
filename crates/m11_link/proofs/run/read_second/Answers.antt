use Rattle.std.proofs.Common.{[]}
use Rattle.m11_base_writes.specs.Outputs.{outputs_of}
use Rattle.m11_link.proofs.ItemsAccepted.{ends_first}
use Rattle.m11_link.proofs.SecondRead.{nothing_written, second_ends, second_stops}
use Rattle.m11_link.proofs.run.read_second.Goals as goal

pub returns-in-Ok-clause-reads : goal.returns-in-Ok-clause-reads
returns-in-Ok-clause-reads g c =
    let old = (outputs_of g.S.Sink g.T.Sink g.U.Sink c.args.tape.now c.args.map.now c.args.messages.now) in
    let h = c.in-Ok.ensures.emits c.args.plan [] old c.new-emit.ensures.stands ends_first
    (nothing_written c.args.plan old c.new-emit.result.has_begun c.new-emit.ensures.fresh) in
    second_ends g.F.Feed.text g.F.Feed.faults c.args.feeds.now c.emit_all.new.feeds c.args.plan c.new-emit.result.has_begun
    c.new-emit.ensures.fresh old
    (outputs_of g.S.Sink g.T.Sink g.U.Sink c.emit_all.new.tape c.emit_all.new.map c.emit_all.new.messages)
    (outputs_of g.S.Sink g.T.Sink g.U.Sink c.end.new.tape c.end.new.map c.end.new.messages)
    c.emit_all.new.emit h c.end.result (c.end.ensures.ends c.args.plan h.3.parts h.3.stands)

pub returns-in-Err-clause-reads : goal.returns-in-Err-clause-reads
returns-in-Err-clause-reads g c =
    let old = (outputs_of g.S.Sink g.T.Sink g.U.Sink c.args.tape.now c.args.map.now c.args.messages.now) in
    second_stops g.F.Feed.text g.F.Feed.faults c.args.feeds.now c.emit_all.new.feeds c.args.plan c.new-emit.result.has_begun
    c.new-emit.ensures.fresh old
    (outputs_of g.S.Sink g.T.Sink g.U.Sink c.emit_all.new.tape c.emit_all.new.map c.emit_all.new.messages)
    c.emit_all.new.emit c.in-Err.fault (c.in-Err.ensures.emits c.args.plan [] old c.new-emit.ensures.stands ends_first
    (nothing_written c.args.plan old c.new-emit.result.has_begun c.new-emit.ensures.fresh))
