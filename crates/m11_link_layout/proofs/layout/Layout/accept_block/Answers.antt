use Rattle.m11_obj.specs.Records as records
use Rattle.m11_link_layout.proofs.Standing.{block_taken}
use Rattle.m11_link_layout.proofs.layout.Layout.accept_block.Goals as goal

pub returns-in-Directory-clause-takes : goal.returns-in-Directory-clause-takes
returns-in-Directory-clause-takes c = λ bottom before stands. c.accept_directory.ensures.takes bottom before c.args.block.now.items
    stands (rw c.in-Directory.is at c.in_ok-unread.ensures)

pub returns-in-EndOfDirectory-clause-takes : goal.returns-in-EndOfDirectory-clause-takes
returns-in-EndOfDirectory-clause-takes c = λ bottom before stands.
    block_taken bottom before c.accept_end_of_directory.new.self c.args.block.now.items records.EndOfGsd
    c.accept_end_of_directory.result (rw c.in-EndOfDirectory.is at c.in_ok-unread.ensures)
    (c.accept_end_of_directory.ensures.takes bottom before stands)

pub returns-in-Text-clause-takes : goal.returns-in-Text-clause-takes
returns-in-Text-clause-takes c = λ bottom before stands.
    let read = rw c.in-Text.is at c.in_ok-unread.ensures in
    block_taken bottom before c.accept_text.new.self c.args.block.now.items
    (records.Text c.in-Text.address c.in-Text.bytes.now) c.accept_text.result read.0 (c.accept_text.ensures.takes bottom before stands)

pub returns-in-EndOfModule-clause-takes : goal.returns-in-EndOfModule-clause-takes
returns-in-EndOfModule-clause-takes c = λ bottom before stands.
    block_taken bottom before c.accept_end_of_module.new.self c.args.block.now.items records.EndOfModule
    c.accept_end_of_module.result (rw c.in-EndOfModule.is at c.in_ok-unread.ensures)
    (c.accept_end_of_module.ensures.takes bottom before stands)
