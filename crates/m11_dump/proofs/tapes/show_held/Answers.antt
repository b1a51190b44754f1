use Rattle.std.proofs.Common.{◌-◌}
use Rattle.m11_obj_blocks.specs.Limited.{most_bytes}
use Rattle.m11_base_writes.specs.States.{output_of}
use Rattle.m11_dump.proofs.Taping.{none_shown, some_refused, some_shown}
use Rattle.m11_dump.specs.Tapes.{tape_view}
use Rattle.m11_dump.proofs.tapes.show_held.Goals as goal

pub returns-in-Ok : goal.returns-in-Ok
returns-in-Ok g c = some_shown (tape_view c.args.view c.args.symbols.now) c.args.held.now c.in-Some.block c.args.beyond.now (most_bytes - c.args.reader.now.room) c.in-Ok.over
    (output_of g.S.Sink c.args.sink.now) (output_of g.S.Sink c.show_block.new.sink) c.in-Some.is c.in-Ok.ensures.text
    c.in-Ok.ensures.over

pub returns-in-Err : goal.returns-in-Err
returns-in-Err g c = some_refused (tape_view c.args.view c.args.symbols.now) c.args.held.now c.in-Some.block c.args.beyond.now (most_bytes - c.args.reader.now.room)
    (output_of g.S.Sink c.args.sink.now) (output_of g.S.Sink c.show_block.new.sink) c.in-Err.fault c.placed_after.result
    c.in-Some.is c.in-Err.ensures.text c.placed_after.ensures

pub returns-in-None : goal.returns-in-None
returns-in-None g c = none_shown (tape_view c.args.view c.args.symbols.now) c.args.held.now c.args.beyond.now (most_bytes - c.args.reader.now.room)
    (output_of g.S.Sink c.args.sink.now) c.in-None.is
