use Rattle.std.proofs.Common.{ℕ}
use Rattle.m11_cpu_quick.proofs.OperandsFound.{at_register, register_fetched}
use Rattle.m11_cpu_quick.proofs.ResultsPut.{changes_one, put_register, tests, unread, writes}
use Rattle.m11_cpu_quick.proofs.QuickDone.{in_register, single_changes, single_reads, single_writes}
use Rattle.m11_cpu_quick.proofs.singles.single_in_register.Goals as goal

pub returns-in-Writes-clause-done : goal.returns-in-Writes-clause-done
returns-in-Writes-clause-done c =
    let uses = rw c.in-Writes.is at c.requires.usage in
    λ (k : ℕ). single_writes _ _ _ _ _ uses
    (writes _ _ _ _ c.single-computed.result _ _ _ _ _ c.args.machine.now c.set_codes.new.self (in_register _ _ _ c.requires.form_is.0)
    (unread _ _ _ _ _ uses (rw c.codes.ensures at c.single-computed.ensures.computed))
    (put_register _ _ c.single-computed.result k _ _ c.args.machine.now c.set_codes.new.self c.requires.form_is.1
    (rw (c.with_low.ensures, c.held-old.ensures) at c.hold.ensures) c.set_codes.ensures))

pub returns-in-Reads-clause-done : goal.returns-in-Reads-clause-done
returns-in-Reads-clause-done c =
    λ (k : ℕ). single_reads _ _ _ _ _ (rw c.in-Reads.is at c.requires.usage)
    (tests _ _ _ _ c.single-computed.result k _ _ _ c.args.machine.now c.set_codes-in-Reads.new.self
    (at_register _ _ _ _ _ c.args.machine.now c.requires.form_is.0 c.requires.form_is.1 (rw c.held-old.ensures at c.low.ensures.low))
    (rw c.codes.ensures at c.single-computed.ensures.computed) c.set_codes-in-Reads.ensures)

pub returns-in-Changes-clause-done : goal.returns-in-Changes-clause-done
returns-in-Changes-clause-done c =
    λ (k : ℕ). single_changes _ _ _ _ _ (rw c.in-Changes.is at c.requires.usage)
    (changes_one _ _ _ _ _ c.single-computed.result _ _ _ _ _ c.args.machine.now c.set_codes-in-Changes.new.self
    (in_register _ _ _ c.requires.form_is.0)
    (register_fetched _ _ _ k _ c.args.machine.now c.requires.form_is.1 (rw c.held-old.ensures at c.low.ensures.low))
    (rw c.codes.ensures at c.single-computed.ensures.computed)
    (put_register _ _ c.single-computed.result k _ _ c.args.machine.now c.set_codes-in-Changes.new.self c.requires.form_is.1
    (rw (c.with_low-in-Changes.ensures, c.held-old.ensures) at c.hold-in-Changes.ensures) c.set_codes-in-Changes.ensures))
