use Rattle.std.proofs.Common.{arith}
use Rattle.std.proofs.lemmas.Result.{err_from_is_err_and}
use Rattle.m11_obj.specs.Reading.{record_entries}
use Rattle.m11_link_modules.specs.Parts.{Entry}
use Rattle.m11_link_modules.proofs.Taking.{item_taken, item_refused, items_taken}
use Rattle.m11_link_modules.proofs.rules.Rules.each_entry.Goals as goal

pub returns-in_err-entry : goal.returns-in_err-entry
returns-in_err-entry c =
    let r = c.from_residual in
    let p = err_from_is_err_and r.result r.ensures.1 in
    rw (p.1, p.2)
    (item_refused (λ entry. Entry entry) c.args.self.now c.entries.self c.entry-in-entries.new.self c.entry-in-entries.new.self
    (record_entries c.args.record.now) c.entries.index c.entry.result _ c.entry.ensures c.entries.invariant c.in_err-entry.ensures)

pub entries-preserved : goal.entries-preserved
entries-preserved c = item_taken (λ entry. Entry entry) c.args.self.now c.entries.self c.entry-in-entries.new.self
    (record_entries c.args.record.now) c.entries.index c.entry.result _ c.entry.ensures c.entries.invariant c.in_ok-entry.ensures

pub returns : goal.returns
returns c = items_taken (λ entry. Entry entry) c.args.self.now c.entries.self (record_entries c.args.record.now) c.entries.index tt
    (omega (arith, c.entries-test.false, c.entry_count-index-end.ensures)) c.entries.invariant
