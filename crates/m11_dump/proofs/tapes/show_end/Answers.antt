use Rattle.std.proofs.Common.{◌-◌, Ok, Err}
use Rattle.m11_obj_blocks.specs.Limited.{most_bytes}
use Rattle.m11_base_writes.specs.States.{output_of}
use Rattle.m11_dump.proofs.Taping.{ends_shown}
use Rattle.m11_dump.specs.Tapes.{tape_view}
use Rattle.m11_dump.proofs.tapes.show_end.Goals as goal

pub returns-in-Ok : goal.returns-in-Ok
returns-in-Ok g c = ends_shown (tape_view c.args.view c.args.symbols.now) c.args.held.now c.args.address c.args.passed (most_bytes - c.args.reader.now.room)
    c.in_ok-show_held.field-0 (output_of g.S.Sink c.args.sink.now) (output_of g.S.Sink c.show_held.new.sink)
    (output_of g.S.Sink c.show_start.new.sink) c.show_held.result (Ok tt) c.in_ok-show_held.was c.show_held.ensures c.in-Ok.ensures

pub returns-in-Err : goal.returns-in-Err
returns-in-Err g c = ends_shown (tape_view c.args.view c.args.symbols.now) c.args.held.now c.args.address c.args.passed (most_bytes - c.args.reader.now.room)
    c.in_ok-show_held.field-0 (output_of g.S.Sink c.args.sink.now) (output_of g.S.Sink c.show_held.new.sink)
    (output_of g.S.Sink c.show_start.new.sink) c.show_held.result (Err c.placed_after.result) c.in_ok-show_held.was
    c.show_held.ensures (c.in-Err.fault, c.in-Err.ensures, c.placed_after.ensures)
