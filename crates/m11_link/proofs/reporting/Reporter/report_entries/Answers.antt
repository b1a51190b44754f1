use Rattle.std.proofs.Common.{arith}
use Rattle.std.proofs.lemmas.Result.{err_from_is_err_and}
use Rattle.m11_link_modules.proofs.Indexing.{found_at}
use Rattle.m11_link.proofs.Entering.{entries_went, entry_stopped, entry_went}
use Rattle.m11_link.proofs.reporting.Reporter.report_entries.Goals as goal

pub returns-in_err-report_entry : goal.returns-in_err-report_entry
returns-in_err-report_entry g c = λ tape map.
    let r = c.from_residual in
    let p = err_from_is_err_and r.result r.ensures.1 in
    rw (p.1, p.2)
    (entry_stopped c.args.module_index _ _ c.args.self.now c.entries.self
    c.args.entries.now c.entries.entry-index (c.entries.invariant tape map) _ c.report_entry.new.self
    c.entry-item.result _
    (found_at c.args.entries.now c.entries.entry-index c.entry-item.result c.entries-test.true c.entry-item.is)
    (c.in_err-report_entry.ensures tape map))

pub entries-preserved : goal.entries-preserved
entries-preserved g c = λ tape map. entry_went c.args.module_index _ _ c.args.self.now c.entries.self
    c.args.entries.now c.entries.entry-index (c.entries.invariant tape map) _ c.report_entry.new.self
    c.entry-item.result
    (found_at c.args.entries.now c.entries.entry-index c.entry-item.result c.entries-test.true c.entry-item.is)
    (c.in_ok-report_entry.ensures tape map).0 (c.in_ok-report_entry.ensures tape map).1

pub returns : goal.returns
returns g c = λ tape map. entries_went c.args.module_index _ _ c.args.self.now c.entries.self
    c.args.entries.now c.entries.entry-index (c.entries.invariant tape map) tt (omega (arith, c.entries-test.false))
