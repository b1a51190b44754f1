use Rattle.std.proofs.Common.{drop}
use Rattle.m11_obj.specs.Reading.{record_entries}
use Rattle.m11_dump.specs.Entries.{entry_line}
use Rattle.m11_dump.proofs.Items.{Leads}
use Rattle.m11_dump.proofs.records.put_entries.Given as goal

abbrev pub invariant-entries : goal.invariant-entries
invariant-entries l = Leads entry_line l.initial.text.items (record_entries l.record) l.text.items
    (drop l.index (record_entries l.record))
