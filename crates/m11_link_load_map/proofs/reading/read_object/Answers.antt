use Rattle.std.proofs.Common.{refl, rules}
use Rattle.std.proofs.lemmas.Result.{err_from_is_err_and}
use Rattle.m11_obj_blocks.specs.Limited.{position}
use Rattle.m11_link.proofs.FirstRead.{laid_refused, laid_stops, no_memory_at_end}
use Rattle.m11_link.proofs.ObjectsRead.{block_falls, reads_on}
use Rattle.m11_link_load_map.proofs.ReadOn.{seen_ends, seen_first, seen_more, stands_here}
use Rattle.m11_link_load_map.proofs.reading.read_object.Goals as goal

pub items-init : goal.items-init
items-init g c = rw c.new-reader.ensures (record {
  reads = search rules;
  seen = λ bottom before s. seen_first (g.F.Feed.text c.args.feed.now) (g.F.Feed.faults c.args.feed.now) bottom before
      c.args.layout.now c.args.noted.now.items s;
})

pub items-smaller : goal.items-smaller
items-smaller g c =
    let reads = rw (c.items.invariant.reads, c.if-branch.true) at c.in_ok-next_into.ensures.reads in
    block_falls (position (g.F.Feed.text c.items.feed) (g.F.Feed.faults c.items.feed) c.items.reader.room)
    (position (g.F.Feed.text c.next_into.new.feed) (g.F.Feed.faults c.next_into.new.feed) c.next_into.new.self.room)
    c.next_into.new.block.items reads

pub items-preserved : goal.items-preserved
items-preserved g c = record {
  reads = reads_on c.next_into.new.self.has_failed c.in_ok-next_into.field-0 c.in_ok-next_into.ensures.fails;
  seen = λ bottom before s.
      let l = c.items.invariant.seen bottom before s in
      let reads = rw (c.items.invariant.reads, c.if-branch.true) at c.in_ok-next_into.ensures.reads in
      let here = stands_here (g.F.Feed.text c.args.feed.now) (g.F.Feed.text c.items.feed) (g.F.Feed.faults c.args.feed.now)
      (g.F.Feed.faults c.items.feed) c.items.reader.room bottom before c.items.layout c.items.noted.items l in
      seen_more (g.F.Feed.text c.args.feed.now) (g.F.Feed.text c.items.feed) (g.F.Feed.faults c.args.feed.now)
      (g.F.Feed.faults c.items.feed) c.items.reader.room bottom before c.items.layout c.items.noted.items l
      (g.F.Feed.text c.next_into.new.feed) (g.F.Feed.faults c.next_into.new.feed) c.next_into.new.self.room
      c.accept_block.new.layout c.accept_block.new.noted.items
      c.next_into.new.block.items reads (c.in_ok-accept_block.ensures.notes bottom l.laid.parts here) c.in_ok-accept_block.ensures.is_record;
}

pub returns-in_err-accept_block : goal.returns-in_err-accept_block
returns-in_err-accept_block g c = λ bottom before s.
    let r = c.from_residual-in_err-accept_block in
    let p = err_from_is_err_and r.result r.ensures.1 in
    let l = c.items.invariant.seen bottom before s in
    let reads = rw (c.items.invariant.reads, c.if-branch.true) at c.in_ok-next_into.ensures.reads in
    let here = stands_here (g.F.Feed.text c.args.feed.now) (g.F.Feed.text c.items.feed) (g.F.Feed.faults c.args.feed.now)
    (g.F.Feed.faults c.items.feed) c.items.reader.room bottom before c.items.layout c.items.noted.items l in
    rw (p.1, p.2)
    (laid_refused (g.F.Feed.text c.args.feed.now) (g.F.Feed.text c.items.feed) (g.F.Feed.faults c.args.feed.now)
    (g.F.Feed.faults c.items.feed) c.items.reader.room bottom before c.items.layout l.laid
    (g.F.Feed.text c.next_into.new.feed) (g.F.Feed.faults c.next_into.new.feed) c.next_into.new.self.room
    c.accept_block.new.layout
    c.next_into.new.block.items reads _ (c.in_err-accept_block.ensures.notes bottom l.laid.parts here))

pub returns : goal.returns
returns g c = λ bottom before s.
    let l = c.items.invariant.seen bottom before s in
    let reads = rw (c.items.invariant.reads, c.if-branch.false) at c.in_ok-next_into.ensures.reads in
    seen_ends (g.F.Feed.text c.args.feed.now) (g.F.Feed.text c.items.feed) (g.F.Feed.faults c.args.feed.now)
    (g.F.Feed.faults c.items.feed) c.items.reader.room bottom before c.items.layout c.items.noted.items l
    (g.F.Feed.text c.next_into.new.feed) (g.F.Feed.faults c.next_into.new.feed) c.next_into.new.self.room
    c.end_file.new.self c.items.noted.items
    reads c.end_file.result (c.end_file.ensures.takes bottom l.laid.parts l.laid.stands)
    (no_memory_at_end c.end_file.result (c.end_file.ensures.inside l.laid.stands.fault)) refl

pub returns-in_err-next_into : goal.returns-in_err-next_into
returns-in_err-next_into g c = λ bottom before s.
    let r = c.from_residual in
    let p = err_from_is_err_and r.result r.ensures.1 in
    let l = c.items.invariant.seen bottom before s in
    let reads = rw c.items.invariant.reads at c.in_err-next_into.ensures.reads in
    rw p.1
    (laid_stops (g.F.Feed.text c.args.feed.now) (g.F.Feed.text c.items.feed) (g.F.Feed.faults c.args.feed.now)
    (g.F.Feed.faults c.items.feed) c.items.reader.room bottom before c.items.layout l.laid
    (g.F.Feed.text c.next_into.new.feed) (g.F.Feed.faults c.next_into.new.feed) c.next_into.new.self.room c.items.layout
    c.in_err-next_into.field-0.0 reads p.0 p.2)
