use Rattle.std.proofs.Common.{rules}
use Rattle.std.proofs.lemmas.Result.{err_from_is_err_and}
use Rattle.m11_obj_blocks.specs.Limited.{position}
use Rattle.m11_link.proofs.FirstRead.{laid_ends, laid_first, laid_more, laid_refused, laid_stops, no_memory_at_end}
use Rattle.m11_link.proofs.ObjectsRead.{block_falls, reads_on}
use Rattle.m11_link.proofs.run.lay_out_object.Goals as goal

pub items-init : goal.items-init
items-init g c = rw c.new-reader.ensures (record {
  reads = search rules;
  laid = λ bottom before s. laid_first (g.F.Feed.text c.args.feed.now) (g.F.Feed.faults c.args.feed.now) bottom before
      c.args.layout.now s;
})

pub items-smaller : goal.items-smaller
items-smaller g c =
    let reads = rw (c.items.invariant.reads, c.if-branch.true) at c.in_ok-next_into.ensures.reads in
    block_falls (position (g.F.Feed.text c.items.feed) (g.F.Feed.faults c.items.feed) c.items.reader.room)
    (position (g.F.Feed.text c.next_into.new.feed) (g.F.Feed.faults c.next_into.new.feed) c.next_into.new.self.room)
    c.next_into.new.block.items reads

pub items-preserved : goal.items-preserved
items-preserved g c = record {
  reads = reads_on c.next_into.new.self.has_failed c.in_ok-next_into.field-0 c.in_ok-next_into.ensures.fails;
  laid = λ bottom before s.
      let l = c.items.invariant.laid bottom before s in
      let reads = rw (c.items.invariant.reads, c.if-branch.true) at c.in_ok-next_into.ensures.reads in
      laid_more (g.F.Feed.text c.args.feed.now) (g.F.Feed.text c.items.feed) (g.F.Feed.faults c.args.feed.now)
      (g.F.Feed.faults c.items.feed) c.items.reader.room bottom before c.items.layout l
      (g.F.Feed.text c.next_into.new.feed) (g.F.Feed.faults c.next_into.new.feed) c.next_into.new.self.room
      c.block.new.self
      c.next_into.new.block.items reads (c.in_ok-block.ensures.takes bottom l.parts l.stands) c.in_ok-block.ensures.is_record;
}

pub returns-in_err-block : goal.returns-in_err-block
returns-in_err-block g c = λ bottom before s.
    let r = c.from_residual-in_err-block in
    let p = err_from_is_err_and r.result r.ensures.1 in
    let l = c.items.invariant.laid bottom before s in
    let reads = rw (c.items.invariant.reads, c.if-branch.true) at c.in_ok-next_into.ensures.reads in
    rw (p.1, p.2)
    (laid_refused (g.F.Feed.text c.args.feed.now) (g.F.Feed.text c.items.feed) (g.F.Feed.faults c.args.feed.now)
    (g.F.Feed.faults c.items.feed) c.items.reader.room bottom before c.items.layout l
    (g.F.Feed.text c.next_into.new.feed) (g.F.Feed.faults c.next_into.new.feed) c.next_into.new.self.room
    c.block.new.self
    c.next_into.new.block.items reads _ (c.in_err-block.ensures.takes bottom l.parts l.stands))

pub returns : goal.returns
returns g c = λ bottom before s.
    let l = c.items.invariant.laid bottom before s in
    let reads = rw (c.items.invariant.reads, c.if-branch.false) at c.in_ok-next_into.ensures.reads in
    laid_ends (g.F.Feed.text c.args.feed.now) (g.F.Feed.text c.items.feed) (g.F.Feed.faults c.args.feed.now)
    (g.F.Feed.faults c.items.feed) c.items.reader.room bottom before c.items.layout l
    (g.F.Feed.text c.next_into.new.feed) (g.F.Feed.faults c.next_into.new.feed) c.next_into.new.self.room
    c.end_file.new.self
    reads c.end_file.result (c.end_file.ensures.takes bottom l.parts l.stands)
    (no_memory_at_end c.end_file.result (c.end_file.ensures.inside l.stands.fault))

pub returns-in_err-next_into : goal.returns-in_err-next_into
returns-in_err-next_into g c = λ bottom before s.
    let r = c.from_residual in
    let p = err_from_is_err_and r.result r.ensures.1 in
    let l = c.items.invariant.laid bottom before s in
    let reads = rw c.items.invariant.reads at c.in_err-next_into.ensures.reads in
    rw p.1
    (laid_stops (g.F.Feed.text c.args.feed.now) (g.F.Feed.text c.items.feed) (g.F.Feed.faults c.args.feed.now)
    (g.F.Feed.faults c.items.feed) c.items.reader.room bottom before c.items.layout l
    (g.F.Feed.text c.next_into.new.feed) (g.F.Feed.faults c.next_into.new.feed) c.next_into.new.self.room c.items.layout
    c.in_err-next_into.field-0.0 reads p.0 p.2)
