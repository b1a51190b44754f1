use Rattle.m11_obj.specs.Records as records
use Rattle.m11_base_writes.specs.States.{output_of}
use Rattle.m11_link.proofs.Emitted.{content_block, nothing_taken}
use Rattle.m11_link.proofs.emit.Emit.accept_block.Goals as goal

pub returns-in-Directory-clause-takes : goal.returns-in-Directory-clause-takes
returns-in-Directory-clause-takes g c = λ plan before stands. c.accept_directory.ensures.takes plan before c.args.block.now.items
    stands (rw c.in-Directory.is at c.in_ok-unread.ensures)

pub returns-in-EndOfDirectory-clause-takes : goal.returns-in-EndOfDirectory-clause-takes
returns-in-EndOfDirectory-clause-takes g c = λ plan before stands.
    content_block plan before _ _ c.args.self.now c.accept_end_of_directory.new.self c.args.block.now.items records.EndOfGsd
    c.accept_end_of_directory.result (rw c.in-EndOfDirectory.is at c.in_ok-unread.ensures)
    (c.accept_end_of_directory.ensures.takes plan before stands)

pub returns-in-Text-clause-takes : goal.returns-in-Text-clause-takes
returns-in-Text-clause-takes g c = λ plan before stands.
    let read = rw c.in-Text.is at c.in_ok-unread.ensures in
    content_block plan before _ _ c.args.self.now c.accept_text.new.self c.args.block.now.items
    (records.Text c.in-Text.address c.in-Text.bytes.now) c.accept_text.result read.0 (c.accept_text.ensures.takes plan before stands)

pub returns-in-Relocations-clause-takes : goal.returns-in-Relocations-clause-takes
returns-in-Relocations-clause-takes g c = λ plan before stands.
    c.accept_relocations.ensures.takes (output_of g.S.Sink c.args.tape.now) plan before c.args.block.now.items stands
    (rw c.in-Relocations.is at c.in_ok-unread.ensures)

pub returns-in-InternalSymbols-clause-takes : goal.returns-in-InternalSymbols-clause-takes
returns-in-InternalSymbols-clause-takes g c = λ plan before stands.
    content_block plan before _ _ c.args.self.now c.begin.new.self c.args.block.now.items records.InternalSymbols
    c.begin.result (rw c.in-InternalSymbols.is at c.in_ok-unread.ensures)
    (nothing_taken plan before c.args.self.now stands _ _ c.begin.new.self c.begin.result
    (c.begin.ensures.writes (output_of g.S.Sink c.args.tape.now)))

pub returns-in-EndOfModule-clause-takes : goal.returns-in-EndOfModule-clause-takes
returns-in-EndOfModule-clause-takes g c = λ plan before stands.
    content_block plan before _ _ c.args.self.now c.accept_end_of_module.new.self c.args.block.now.items records.EndOfModule
    c.accept_end_of_module.result (rw c.in-EndOfModule.is at c.in_ok-unread.ensures)
    (c.accept_end_of_module.ensures.takes plan before stands)
