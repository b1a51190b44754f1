use Rattle.m11_obj_blocks.specs.Limited.{position}
use Rattle.m11_obj_blocks.proofs.BlockFrames.{block_taken}
use Rattle.m11_obj_blocks.proofs.blocks.read_block.Goals as goal

pub returns-then-read_ready_block : goal.returns-then-read_ready_block
returns-then-read_ready_block g c =
    block_taken (position (g.F.Feed.text c.args.feed.now) (g.F.Feed.faults c.args.feed.now) c.args.room.now)
    (position (g.F.Feed.text c.read_ready_block.new.feed) (g.F.Feed.faults c.read_ready_block.new.feed) c.read_ready_block.new.room)
    c.read_ready_block.new.content.items c.if-read_ready_block.ensures.reads.0 c.if-read_ready_block.ensures.reads.1
