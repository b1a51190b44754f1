use Rattle.std.proofs.Common.{arith}
use Rattle.std.proofs.lemmas.Result.{err_from_is_err_and}
use Rattle.m11_obj_blocks.specs.Limited.{position}
use Rattle.m11_obj_blocks.proofs.BlockParts.{content_missing}
use Rattle.m11_obj_blocks.proofs.Limits.{took_nothing}
use Rattle.m11_obj_blocks.proofs.blocks.read_content.Goals as goal

pub parts-init : goal.parts-init
parts-init g c = rw c.clear.ensures (took_nothing _, omega arith)

pub returns-in_err-byte : goal.returns-in_err-byte
returns-in_err-byte g c =
    let p = err_from_is_err_and c.from_residual.result c.from_residual.ensures.1 in
    rw (p.1, p.2) (content_missing c.args.count c.read_ready.result
    (position (g.F.Feed.text c.args.feed.now) (g.F.Feed.faults c.args.feed.now) c.args.room.now)
    (position (g.F.Feed.text c.parts.feed) (g.F.Feed.faults c.parts.feed) c.parts.room)
    (position (g.F.Feed.text c.read_ready.new.feed) (g.F.Feed.faults c.read_ready.new.feed) c.read_ready.new.room)
    (position (g.F.Feed.text c.next_byte.new.feed) (g.F.Feed.faults c.next_byte.new.feed) c.next_byte.new.room)
    c.parts.content.items c.read_ready.new.content.items _ c.parts.invariant.0 (omega arith)
    c.if-read_ready-eq0.true c.read_ready.ensures.took c.in_err-byte.ensures)
