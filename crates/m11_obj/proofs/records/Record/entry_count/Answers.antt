use Rattle.std.proofs.Common.{ℕ, List, length, ap, arith}
use Rattle.m11_obj.specs.Reading.{record_entries}
use Rattle.m11_obj.proofs.RecordFields.{entries_counted}
use Rattle.m11_obj.proofs.records.Record.entry_count.Goals as goal

pub overflow_sub-result : goal.overflow_sub-result
overflow_sub-result c =
    omega (arith, entries_counted c.self.inside.content.now (c.in-Gsd.ensures.kind))

pub returns-in-Gsd : goal.returns-in-Gsd
returns-in-Gsd c =
    let counted = entries_counted c.self.inside.content.now (c.in-Gsd.ensures.kind) in
    let same =
    ap (λ (bytes : List ℕ). length (record_entries bytes)) c.self.view_is in
    omega (arith, counted, same)
