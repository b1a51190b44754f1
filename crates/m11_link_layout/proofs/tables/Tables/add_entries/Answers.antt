use Rattle.std.proofs.Common.{arith}
use Rattle.m11_link_modules.specs.Parts.{Entry}
use Rattle.m11_link_modules.proofs.Indexing.{found_at}
use Rattle.m11_link_layout.proofs.Noting.{item_noted, items_noted, entry_noted}
use Rattle.m11_link_layout.proofs.tables.Tables.add_entries.Goals as goal

pub entries-preserved : goal.entries-preserved
entries-preserved c =
    item_noted c.args.bottom (λ entry. Entry entry) c.args.self.now c.entries.self c.add_entry.new.self
    c.args.entries.now c.entries.entry-index c.entry-item.result
    (found_at c.args.entries.now c.entries.entry-index c.entry-item.result c.entries-test.true c.entry-item.is)
    c.entries.invariant (entry_noted c.args.bottom c.entries.self c.add_entry.new.self c.entry-item.result c.in_ok-add_entry.ensures)

pub returns : goal.returns
returns c = items_noted c.args.bottom (λ entry. Entry entry) c.args.self.now c.entries.self c.args.entries.now
    c.entries.entry-index (omega (arith, c.entries-test.false)) c.entries.invariant
