use Rattle.std.proofs.Common.{[], refl, ◌∷◌, ◌++◌}
use Rattle.std.proofs.lemmas.Result.{err_from_is_err_and}
use Rattle.m11_obj_blocks.specs.Limited.{position}
use Rattle.m11_cpu.proofs.DataPut.{none_taken, is_open, some_put, data_stops, byte_outside, one_taken, all_taken}
use Rattle.m11_cpu.proofs.loading.load_block.Goals as goal

pub bytes-init : goal.bytes-init
bytes-init g c =
    ([], none_taken (position (g.F.Feed.text c.args.feed.now) (g.F.Feed.faults c.args.feed.now) c.args.reader.now.room) c.args.memory.now c.args.address c.args.count c.args.reader.now.stage c.requires)

pub byte-requires : goal.byte-requires
byte-requires g c =
    let i = c.bytes.invariant in
    is_open (position (g.F.Feed.text c.args.feed.now) (g.F.Feed.faults c.args.feed.now) c.args.reader.now.room) (position (g.F.Feed.text c.bytes.feed) (g.F.Feed.faults c.bytes.feed) c.bytes.reader.room) c.args.memory.now c.bytes.memory c.args.address c.args.count c.bytes.index c.bytes.reader.stage i.0 i.1 c.bytes-test.true

pub returns-in_err-byte-clause-put : goal.returns-in_err-byte-clause-put
returns-in_err-byte-clause-put g c =
    let i = c.bytes.invariant in
    let p = err_from_is_err_and c.from_residual.result c.from_residual.ensures.1 in
    rw (p.1, p.2) (i.0, data_stops (position (g.F.Feed.text c.args.feed.now) (g.F.Feed.faults c.args.feed.now) c.args.reader.now.room) (position (g.F.Feed.text c.bytes.feed) (g.F.Feed.faults c.bytes.feed) c.bytes.reader.room) c.args.memory.now c.bytes.memory c.args.address c.args.count c.bytes.index c.bytes.reader.stage i.0 i.1 c.bytes-test.true (position (g.F.Feed.text c.byte.new.feed) (g.F.Feed.faults c.byte.new.feed) c.byte.new.self.room) c.byte.new.self.stage _ c.in_err-byte.ensures.reads, tt)

pub returns-in_err-byte-clause-size : goal.returns-in_err-byte-clause-size
returns-in_err-byte-clause-size g c = c.bytes.invariant.1.size

pub returns-in-None-clause-put : goal.returns-in-None-clause-put
returns-in-None-clause-put g c =
    let i = c.bytes.invariant in
    let reads = c.in_ok-byte.ensures.reads in
    (i.0, ((position (g.F.Feed.text c.bytes.feed) (g.F.Feed.faults c.bytes.feed) c.bytes.reader.room), some_put (position (g.F.Feed.text c.args.feed.now) (g.F.Feed.faults c.args.feed.now) c.args.reader.now.room) (position (g.F.Feed.text c.bytes.feed) (g.F.Feed.faults c.bytes.feed) c.bytes.reader.room) c.args.memory.now c.bytes.memory c.args.address c.args.count c.bytes.index c.bytes.reader.stage i.0 i.1 c.bytes-test.true, byte_outside (position (g.F.Feed.text c.args.feed.now) (g.F.Feed.faults c.args.feed.now) c.args.reader.now.room) (position (g.F.Feed.text c.bytes.feed) (g.F.Feed.faults c.bytes.feed) c.bytes.reader.room) c.args.memory.now c.bytes.memory c.args.address c.args.count c.bytes.index c.bytes.reader.stage i.0 i.1 c.bytes-test.true (position (g.F.Feed.text c.byte.new.feed) (g.F.Feed.faults c.byte.new.feed) c.byte.new.self.room) c.byte.new.self.stage c.in_ok-byte.byte reads (c.in-None.ensures.none refl)), tt)

pub returns-in-None-clause-size : goal.returns-in-None-clause-size
returns-in-None-clause-size g c = c.bytes.invariant.1.size

pub bytes-preserved : goal.bytes-preserved
bytes-preserved g c =
    let i = c.bytes.invariant in
    (i.0 ++ c.in_ok-byte.byte ∷ [], one_taken (position (g.F.Feed.text c.args.feed.now) (g.F.Feed.faults c.args.feed.now) c.args.reader.now.room) (position (g.F.Feed.text c.bytes.feed) (g.F.Feed.faults c.bytes.feed) c.bytes.reader.room) c.args.memory.now c.bytes.memory c.args.address c.args.count c.bytes.index c.bytes.reader.stage i.0 i.1 c.bytes-test.true (position (g.F.Feed.text c.byte.new.feed) (g.F.Feed.faults c.byte.new.feed) c.byte.new.self.room) c.byte.new.self.stage c.in_ok-byte.byte c.in_ok-byte.ensures.reads c.in-Some.past c.set_byte.new.self c.in-Some.ensures.some.0 c.in-Some.ensures.some.1 c.set_byte.ensures.byte c.set_byte.ensures.size)

pub returns-clause-put : goal.returns-clause-put
returns-clause-put g c =
    let i = c.bytes.invariant in
    let all = all_taken (position (g.F.Feed.text c.args.feed.now) (g.F.Feed.faults c.args.feed.now) c.args.reader.now.room) (position (g.F.Feed.text c.bytes.feed) (g.F.Feed.faults c.bytes.feed) c.bytes.reader.room) c.args.memory.now c.bytes.memory c.args.address c.args.count c.bytes.index c.bytes.reader.stage i.0 i.1 c.bytes-test.false c.bytes.auto.index-end in
    (i.0, all.0, all.1)

pub returns-clause-size : goal.returns-clause-size
returns-clause-size g c = c.bytes.invariant.1.size
