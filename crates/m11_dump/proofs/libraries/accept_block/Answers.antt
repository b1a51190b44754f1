use Rattle.m11_base_writes.specs.States.{output_of}
use Rattle.m11_dump.proofs.libraries.accept_block.Goals as goal

pub returns-in-Inner : goal.returns-in-Inner
returns-in-Inner g c = c.accept_unread.ensures (output_of g.S.Sink c.args.sink.now)

pub returns-in-ModuleEnd : goal.returns-in-ModuleEnd
returns-in-ModuleEnd g c = c.accept_unread-in-ModuleEnd.ensures (output_of g.S.Sink c.args.sink.now)

pub returns-in-LibraryEnd : goal.returns-in-LibraryEnd
returns-in-LibraryEnd g c = c.accept_unread-in-LibraryEnd.ensures (output_of g.S.Sink c.args.sink.now)

pub returns-in-Other : goal.returns-in-Other
returns-in-Other g c = c.refuse_other.ensures c.args.stage (output_of g.S.Sink c.args.sink.now)
