use Rattle.std.proofs.Common.{rules}
use Rattle.m11_obj.specs.Reading.{record_entries}
use Rattle.m11_dump.specs.Entries.{entry_line}
use Rattle.m11_dump.proofs.Items.{one_shown_at}
use Rattle.m11_dump.proofs.records.put_entries.Goals as goal

pub entries-preserved : goal.entries-preserved
entries-preserved c =
    one_shown_at entry_line c.args.text.now.items (record_entries c.args.record.now) c.entries.text.items
    c.extend_from_slice.new.self.items c.entries.index c.entry.result c.entry.ensures c.entries.invariant
    (search rules)
