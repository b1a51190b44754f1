use Rattle.std.proofs.Common.{◌∙◌, refl, rules}
use Rattle.std.proofs.lemmas.Result.{err_from_is_err_and}
use Rattle.m11_obj_blocks.specs.Limited.{position}
use Rattle.m11_base_writes.specs.Outputs.{outputs_of}
use Rattle.m11_link.proofs.ObjectsRead.{block_falls, reads_on}
use Rattle.m11_link.proofs.SecondRead.{sent_ends, sent_first, sent_more, sent_refused, sent_stops}
use Rattle.m11_link.proofs.run.emit_object.Goals as goal

pub items-init : goal.items-init
items-init g c = rw c.new-reader.ensures (record {
  reads = search rules;
  sent = λ plan before first s w. sent_first (g.F.Feed.text c.args.feed.now) (g.F.Feed.faults c.args.feed.now) plan before
      first
      (outputs_of g.S.Sink g.T.Sink g.U.Sink c.args.tape.now c.args.map.now c.args.messages.now)
      c.args.emit.now s w;
  stays = refl;
})

pub items-smaller : goal.items-smaller
items-smaller g c =
    let reads = rw (c.items.invariant.reads, c.if-branch.true) at c.in_ok-next_into.ensures.reads in
    block_falls (position (g.F.Feed.text c.items.feed) (g.F.Feed.faults c.items.feed) c.items.reader.room)
    (position (g.F.Feed.text c.next_into.new.feed) (g.F.Feed.faults c.next_into.new.feed) c.next_into.new.self.room)
    c.next_into.new.block.items reads

pub items-preserved : goal.items-preserved
items-preserved g c = record {
  reads = reads_on c.next_into.new.self.has_failed c.in_ok-next_into.field-0 c.in_ok-next_into.ensures.fails;
  sent = λ plan before first s w.
      let l = c.items.invariant.sent plan before first s w in
      let reads = rw (c.items.invariant.reads, c.if-branch.true) at c.in_ok-next_into.ensures.reads in
      sent_more (g.F.Feed.text c.args.feed.now) (g.F.Feed.text c.items.feed) (g.F.Feed.faults c.args.feed.now)
      (g.F.Feed.faults c.items.feed) c.items.reader.room plan c.args.emit.now.has_begun before first
      (outputs_of g.S.Sink g.T.Sink g.U.Sink c.items.tape c.items.map c.items.messages)
      c.items.emit l (g.F.Feed.text c.next_into.new.feed) (g.F.Feed.faults c.next_into.new.feed) c.next_into.new.self.room
      (outputs_of g.S.Sink g.T.Sink g.U.Sink c.feed.new.tape c.feed.new.map c.feed.new.messages)
      c.feed.new.self c.next_into.new.block.items reads (c.in_ok-feed.ensures.takes plan l.parts l.stands)
      c.in_ok-feed.ensures.is_record;
  stays = c.in_ok-feed.ensures.stays ∙ c.items.invariant.stays;
}

pub returns-in_err-feed-clause-emits : goal.returns-in_err-feed-clause-emits
returns-in_err-feed-clause-emits g c = λ plan before first s w.
    let r = c.from_residual-in_err-feed in
    let p = err_from_is_err_and r.result r.ensures.1 in
    let l = c.items.invariant.sent plan before first s w in
    let reads = rw (c.items.invariant.reads, c.if-branch.true) at c.in_ok-next_into.ensures.reads in
    rw (p.1, p.2)
    (sent_refused (g.F.Feed.text c.args.feed.now) (g.F.Feed.text c.items.feed) (g.F.Feed.faults c.args.feed.now)
    (g.F.Feed.faults c.items.feed) c.items.reader.room plan c.args.emit.now.has_begun before first
    (outputs_of g.S.Sink g.T.Sink g.U.Sink c.items.tape c.items.map c.items.messages)
    c.items.emit l (g.F.Feed.text c.next_into.new.feed) (g.F.Feed.faults c.next_into.new.feed) c.next_into.new.self.room
    (outputs_of g.S.Sink g.T.Sink g.U.Sink c.feed.new.tape c.feed.new.map c.feed.new.messages)
    c.feed.new.self c.next_into.new.block.items reads _
    (c.in_err-feed.ensures.takes plan l.parts l.stands))

pub returns-clause-emits : goal.returns-clause-emits
returns-clause-emits g c = λ plan before first s w.
    let l = c.items.invariant.sent plan before first s w in
    let reads = rw (c.items.invariant.reads, c.if-branch.false) at c.in_ok-next_into.ensures.reads in
    sent_ends (g.F.Feed.text c.args.feed.now) (g.F.Feed.text c.items.feed) (g.F.Feed.faults c.args.feed.now)
    (g.F.Feed.faults c.items.feed) c.items.reader.room plan c.args.emit.now.has_begun before first
    (outputs_of g.S.Sink g.T.Sink g.U.Sink c.items.tape c.items.map c.items.messages)
    c.items.emit l (g.F.Feed.text c.next_into.new.feed) (g.F.Feed.faults c.next_into.new.feed) c.next_into.new.self.room
    (outputs_of g.S.Sink g.T.Sink g.U.Sink c.end_file.new.tape c.end_file.new.map c.end_file.new.messages)
    c.end_file.new.self reads c.end_file.result (c.end_file.ensures.takes plan l.parts l.stands)
    (c.end_file.ensures.no_memory l.stands.fault)

pub returns-in_err-next_into-clause-emits : goal.returns-in_err-next_into-clause-emits
returns-in_err-next_into-clause-emits g c = λ plan before first s w.
    let r = c.from_residual in
    let p = err_from_is_err_and r.result r.ensures.1 in
    let l = c.items.invariant.sent plan before first s w in
    let reads = rw c.items.invariant.reads at c.in_err-next_into.ensures.reads in
    rw p.1
    (sent_stops (g.F.Feed.text c.args.feed.now) (g.F.Feed.text c.items.feed) (g.F.Feed.faults c.args.feed.now)
    (g.F.Feed.faults c.items.feed) c.items.reader.room plan c.args.emit.now.has_begun before first
    (outputs_of g.S.Sink g.T.Sink g.U.Sink c.items.tape c.items.map c.items.messages)
    c.items.emit l (g.F.Feed.text c.next_into.new.feed) (g.F.Feed.faults c.next_into.new.feed) c.next_into.new.self.room
    (outputs_of g.S.Sink g.T.Sink g.U.Sink c.items.tape c.items.map c.items.messages)
    c.items.emit c.in_err-next_into.field-0.0 reads p.0 p.2)
