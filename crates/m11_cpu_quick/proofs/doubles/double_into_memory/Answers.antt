use Rattle.std.proofs.Common.{ℕ, List, sym, ◌∙◌}
use Rattle.m11_cpu_quick.specs.Beside.{shown}
use Rattle.m11_cpu_quick.proofs.ResultsPut.{changes, compares, moves_memory, put_memory, written}
use Rattle.m11_cpu_quick.proofs.QuickDone.{double_changes, double_reads, double_writes, plain_fetched}
use Rattle.m11_cpu_quick.proofs.doubles.double_into_memory.Goals as goal

pub returns-in-Writes-clause-done : goal.returns-in-Writes-clause-done
returns-in-Writes-clause-done c =
    let uses = sym c.use_by_double.ensures ∙ c.in-Writes.is in
    λ (k : ℕ) (rs : List ℕ). double_writes _ _ _ _ _ _ uses
    (moves_memory _ _ _ c.double-computed.result k rs c.args.machine.now c.set_codes.new.self c.requires.plain
    c.store_plain.ensures.status (written _ _ _ _ _ _ uses (rw c.codes.ensures at c.double-computed.ensures.computed))
    (rw c.store_plain.ensures.stored at c.set_codes.ensures))

pub returns-in-Reads-clause-done : goal.returns-in-Reads-clause-done
returns-in-Reads-clause-done c =
    λ (k : ℕ) (rs : List ℕ). double_reads _ _ _ _ _ _ (sym c.use_by_double.ensures ∙ c.in-Reads.is)
    (compares _ _ _ _ _ c.double-computed.result k rs c.args.machine.now c.set_codes-in-Reads.new.self
    (plain_fetched _ _ _ (shown k rs c.args.machine.now) c.requires.plain c.plain-value.ensures.value)
    (rw c.codes.ensures at c.double-computed.ensures.computed) c.set_codes-in-Reads.ensures)

pub returns-in-Changes-clause-done : goal.returns-in-Changes-clause-done
returns-in-Changes-clause-done c =
    λ (k : ℕ) (rs : List ℕ). double_changes _ _ _ _ _ _ (sym c.use_by_double.ensures ∙ c.in-Changes.is)
    (changes _ _ _ _ _ c.double-computed.result k rs rs c.args.machine.now c.set_codes-in-Changes.new.self
    (plain_fetched _ _ _ (shown k rs c.args.machine.now) c.requires.plain c.plain-value.ensures.value)
    (rw c.codes.ensures at c.double-computed.ensures.computed)
    (put_memory _ _ c.double-computed.result k rs c.args.machine.now c.set_codes-in-Changes.new.self
    c.requires.plain c.store_plain-in-Changes.ensures.status (rw c.store_plain-in-Changes.ensures.stored at c.set_codes-in-Changes.ensures)))
