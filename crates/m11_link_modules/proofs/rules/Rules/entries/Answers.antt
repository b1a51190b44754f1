use Rattle.std.proofs.Common.{arith}
use Rattle.std.proofs.lemmas.Result.{err_from_is_err_and}
use Rattle.m11_link_modules.specs.Parts.{Entry}
use Rattle.m11_link_modules.proofs.Indexing.{found_at}
use Rattle.m11_link_modules.proofs.Taking.{item_taken, item_refused, items_taken}
use Rattle.m11_link_modules.proofs.rules.Rules.entries.Goals as goal

pub returns-in_err-entry : goal.returns-in_err-entry
returns-in_err-entry c =
    let r = c.from_residual in
    let p = err_from_is_err_and r.result r.ensures.1 in
    rw (p.1, p.2)
    (item_refused (λ entry. Entry entry) c.args.self.now c.entries.self c.entry.new.self c.entry.new.self
    c.args.entries.now c.entries.entry-index c.entry-item.result _
    (found_at c.args.entries.now c.entries.entry-index c.entry-item.result c.entries-test.true c.entry-item.is)
    c.entries.invariant c.in_err-entry.ensures)

pub entries-preserved : goal.entries-preserved
entries-preserved c = item_taken (λ entry. Entry entry) c.args.self.now c.entries.self c.entry.new.self
    c.args.entries.now c.entries.entry-index c.entry-item.result _
    (found_at c.args.entries.now c.entries.entry-index c.entry-item.result c.entries-test.true c.entry-item.is)
    c.entries.invariant c.in_ok-entry.ensures

pub returns : goal.returns
returns c = items_taken (λ entry. Entry entry) c.args.self.now c.entries.self c.args.entries.now c.entries.entry-index tt
    (omega (arith, c.entries-test.false)) c.entries.invariant
