use Rattle.std.proofs.Common.{[], ◌∷◌, ◌++◌, Ok, ap, ◌∙◌}
use Rattle.std.proofs.lemmas.Result.{err_from_is_err_and}
use Rattle.m11_obj_blocks.specs.declared.tape_part.TapePart.{TapePart}
use Rattle.m11_obj_blocks.specs.Limited.{position, most_bytes}
use Rattle.m11_obj_blocks.specs.Tapes.{stage_after}
use Rattle.m11_cpu.proofs.TapePut.{none_loaded, block_ended, stage_is, part_stops, tape_ends, room_falls, block_loaded, block_fails, counts_from}
use Rattle.m11_cpu.proofs.loading.load_tape.Goals as goal

pub parts-init : goal.parts-init
parts-init g c = rw c.new-reader.ensures ([], none_loaded (position (g.F.Feed.text c.args.feed.now) (g.F.Feed.faults c.args.feed.now) most_bytes) c.args.memory.now)

pub next-requires : goal.next-requires
next-requires g c = let i = c.parts.invariant in block_ended (position (g.F.Feed.text c.args.feed.now) (g.F.Feed.faults c.args.feed.now) most_bytes) (position (g.F.Feed.text c.parts.feed) (g.F.Feed.faults c.parts.feed) c.parts.reader.room) c.args.memory.now c.parts.memory c.parts.reader.stage i.0 i.1

pub returns-in_err-address-clause-loads : goal.returns-in_err-address-clause-loads
returns-in_err-address-clause-loads g c =
    let i = c.parts.invariant in
    let p = err_from_is_err_and c.from_residual.result c.from_residual.ensures.1 in
    rw (p.1, p.2) (c.next.new.self.room, part_stops (position (g.F.Feed.text c.args.feed.now) (g.F.Feed.faults c.args.feed.now) most_bytes) (position (g.F.Feed.text c.parts.feed) (g.F.Feed.faults c.parts.feed) c.parts.reader.room) c.args.memory.now c.parts.memory c.parts.reader.stage i.0 i.1 (position (g.F.Feed.text c.next.new.feed) (g.F.Feed.faults c.next.new.feed) c.next.new.self.room) c.next.new.self.stage c.next.result c.next.ensures.reads _ c.in_err-address.was)

pub returns-in_err-address-clause-size : goal.returns-in_err-address-clause-size
returns-in_err-address-clause-size g c = c.parts.invariant.1.size

pub load_block-requires : goal.load_block-requires
load_block-requires g c =
    let i = c.parts.invariant in
    stage_is (position (g.F.Feed.text c.args.feed.now) (g.F.Feed.faults c.args.feed.now) most_bytes) (position (g.F.Feed.text c.parts.feed) (g.F.Feed.faults c.parts.feed) c.parts.reader.room) c.args.memory.now c.parts.memory c.parts.reader.stage i.0 i.1 (position (g.F.Feed.text c.next.new.feed) (g.F.Feed.faults c.next.new.feed) c.next.new.self.room) c.next.new.self.stage c.next.result c.next.ensures.reads ∙ ap stage_after (c.in_ok-address.was ∙ ap (λ (part : TapePart). Ok part) c.in-Data.is)

pub parts-smaller : goal.parts-smaller
parts-smaller g c =
    let i = c.parts.invariant in
    let e = c.in_ok-load_block-in-Data.ensures.put in
    let fits = rw c.in-Data.is at c.in_ok-address.ensures.fits in
    room_falls (position (g.F.Feed.text c.args.feed.now) (g.F.Feed.faults c.args.feed.now) most_bytes) (position (g.F.Feed.text c.parts.feed) (g.F.Feed.faults c.parts.feed) c.parts.reader.room) c.args.memory.now c.parts.memory c.parts.reader.stage i.0 i.1 (position (g.F.Feed.text c.next.new.feed) (g.F.Feed.faults c.next.new.feed) c.next.new.self.room) c.next.new.self.stage c.next.result c.next.ensures.reads c.in-Data.address c.in-Data.count (c.in_ok-address.was ∙ ap (λ (part : TapePart). Ok part) c.in-Data.is) (position (g.F.Feed.text c.load_block.new.feed) (g.F.Feed.faults c.load_block.new.feed) c.load_block.new.reader.room) c.load_block.new.memory e.0 fits.0 e.1.0 e.1.1

pub parts-preserved : goal.parts-preserved
parts-preserved g c =
    let i = c.parts.invariant in
    let e = c.in_ok-load_block-in-Data.ensures.put in
    (i.0 ++ (c.in-Data.address, e.0) ∷ [], block_loaded (position (g.F.Feed.text c.args.feed.now) (g.F.Feed.faults c.args.feed.now) most_bytes) (position (g.F.Feed.text c.parts.feed) (g.F.Feed.faults c.parts.feed) c.parts.reader.room) c.args.memory.now c.parts.memory c.parts.reader.stage i.0 i.1 (position (g.F.Feed.text c.next.new.feed) (g.F.Feed.faults c.next.new.feed) c.next.new.self.room) c.next.new.self.stage c.next.result c.next.ensures.reads c.in-Data.address c.in-Data.count (c.in_ok-address.was ∙ ap (λ (part : TapePart). Ok part) c.in-Data.is) (position (g.F.Feed.text c.load_block.new.feed) (g.F.Feed.faults c.load_block.new.feed) c.load_block.new.reader.room) c.load_block.new.memory e.0 c.load_block.new.reader.stage e.1.0 e.1.1 e.1.2 e.1.3 e.2 c.load_block.ensures.size)

pub returns-in_err-load_block-in-Data-clause-loads :
    goal.returns-in_err-load_block-in-Data-clause-loads
returns-in_err-load_block-in-Data-clause-loads g c =
    let i = c.parts.invariant in
    let e = c.in_err-load_block-in-Data.ensures.put in
    let p = err_from_is_err_and c.from_residual-in_err-load_block-in-Data.result c.from_residual-in_err-load_block-in-Data.ensures.1 in
    rw (p.1, p.2) (c.load_block.new.reader.room, block_fails (position (g.F.Feed.text c.args.feed.now) (g.F.Feed.faults c.args.feed.now) most_bytes) (position (g.F.Feed.text c.parts.feed) (g.F.Feed.faults c.parts.feed) c.parts.reader.room) c.args.memory.now c.parts.memory c.parts.reader.stage i.0 i.1 (position (g.F.Feed.text c.next.new.feed) (g.F.Feed.faults c.next.new.feed) c.next.new.self.room) c.next.new.self.stage c.next.result c.next.ensures.reads c.in-Data.address c.in-Data.count (c.in_ok-address.was ∙ ap (λ (part : TapePart). Ok part) c.in-Data.is) (position (g.F.Feed.text c.load_block.new.feed) (g.F.Feed.faults c.load_block.new.feed) c.load_block.new.reader.room) c.load_block.new.memory e.0 (Unit {0}) c.in_err-load_block-in-Data.field-0.0 e.1)

pub returns-in_err-load_block-in-Data-clause-size :
    goal.returns-in_err-load_block-in-Data-clause-size
returns-in_err-load_block-in-Data-clause-size g c =
    c.load_block.ensures.size ∙ c.parts.invariant.1.size

pub returns-in-Start-clause-loads : goal.returns-in-Start-clause-loads
returns-in-Start-clause-loads g c =
    let i = c.parts.invariant in
    (c.next.new.self.room, tape_ends (position (g.F.Feed.text c.args.feed.now) (g.F.Feed.faults c.args.feed.now) most_bytes) (position (g.F.Feed.text c.parts.feed) (g.F.Feed.faults c.parts.feed) c.parts.reader.room) c.args.memory.now c.parts.memory c.parts.reader.stage i.0 i.1 (position (g.F.Feed.text c.next.new.feed) (g.F.Feed.faults c.next.new.feed) c.next.new.self.room) c.next.new.self.stage c.next.result c.next.ensures.reads _ (c.in_ok-address.was ∙ ap (λ (part : TapePart). Ok part) c.in-Start.is))

pub returns-in-Start-clause-size : goal.returns-in-Start-clause-size
returns-in-Start-clause-size g c = c.parts.invariant.1.size

pub returns-in_err-address-clause-counts : goal.returns-in_err-address-clause-counts
returns-in_err-address-clause-counts g c =
    counts_from (g.F.Feed.text c.args.feed.now) (g.F.Feed.text c.next.new.feed) (g.F.Feed.faults c.args.feed.now) (g.F.Feed.faults c.next.new.feed) c.args.memory.now c.parts.memory c.from_residual.result (returns-in_err-address-clause-loads g c)

pub returns-in_err-load_block-in-Data-clause-counts : goal.returns-in_err-load_block-in-Data-clause-counts
returns-in_err-load_block-in-Data-clause-counts g c =
    counts_from (g.F.Feed.text c.args.feed.now) (g.F.Feed.text c.load_block.new.feed) (g.F.Feed.faults c.args.feed.now) (g.F.Feed.faults c.load_block.new.feed) c.args.memory.now c.load_block.new.memory c.from_residual-in_err-load_block-in-Data.result (returns-in_err-load_block-in-Data-clause-loads g c)

pub returns-in-Start-clause-counts : goal.returns-in-Start-clause-counts
returns-in-Start-clause-counts g c =
    counts_from (g.F.Feed.text c.args.feed.now) (g.F.Feed.text c.next.new.feed) (g.F.Feed.faults c.args.feed.now) (g.F.Feed.faults c.next.new.feed) c.args.memory.now c.parts.memory (Ok c.in-Start.address) (returns-in-Start-clause-loads g c)
