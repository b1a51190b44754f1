use Rattle.std.proofs.Common.{ℕ, sym, ◌∙◌}
use Rattle.m11_cpu_quick.proofs.OperandsFound.{register_fetched}
use Rattle.m11_cpu_quick.proofs.ResultsPut.{changes, compares, moves_register, put_register, written}
use Rattle.m11_cpu_quick.proofs.QuickDone.{double_changes, double_reads, double_writes}
use Rattle.m11_cpu_quick.proofs.doubles.double_into_register.Goals as goal

pub returns-in-Writes-clause-done : goal.returns-in-Writes-clause-done
returns-in-Writes-clause-done c =
    let uses = sym c.use_by_double.ensures ∙ c.in-Writes.is in
    λ (k : ℕ). double_writes _ _ _ _ _ _ uses
    (moves_register _ _ _ c.double-computed.result k _ _ c.args.machine.now c.set_codes.new.self c.requires.general
    (written _ _ _ _ _ _ uses (rw c.codes.ensures at c.double-computed.ensures.computed))
    (rw c.moved.ensures at c.hold.ensures) c.set_codes.ensures)

pub returns-in-Reads-clause-done : goal.returns-in-Reads-clause-done
returns-in-Reads-clause-done c =
    λ (k : ℕ). double_reads _ _ _ _ _ _ (sym c.use_by_double.ensures ∙ c.in-Reads.is)
    (compares _ _ _ _ _ c.double-computed.result k _ c.args.machine.now c.set_codes-in-Reads.new.self
    (register_fetched _ _ _ k _ c.args.machine.now c.requires.general (rw c.held-old.ensures at c.low.ensures.low))
    (rw c.codes.ensures at c.double-computed.ensures.computed) c.set_codes-in-Reads.ensures)

pub returns-in-Changes-clause-done : goal.returns-in-Changes-clause-done
returns-in-Changes-clause-done c =
    λ (k : ℕ). double_changes _ _ _ _ _ _ (sym c.use_by_double.ensures ∙ c.in-Changes.is)
    (changes _ _ _ _ _ c.double-computed.result k _ _ c.args.machine.now c.set_codes-in-Changes.new.self
    (register_fetched _ _ _ k _ c.args.machine.now c.requires.general (rw c.held-old.ensures at c.low.ensures.low))
    (rw c.codes.ensures at c.double-computed.ensures.computed)
    (put_register _ _ c.double-computed.result k _ _ c.args.machine.now c.set_codes-in-Changes.new.self
    c.requires.general (rw (c.with_low.ensures, c.held-old.ensures) at c.hold-in-Changes.ensures) c.set_codes-in-Changes.ensures))
