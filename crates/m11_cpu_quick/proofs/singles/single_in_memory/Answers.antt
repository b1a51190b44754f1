use Rattle.std.proofs.Common.{ℕ, List}
use Rattle.m11_base.specs.declared.operand.Operand.{Operand}
use Rattle.m11_cpu_quick.specs.Beside.{shown}
use Rattle.m11_cpu_quick.proofs.OperandsFound.{at_location}
use Rattle.m11_cpu_quick.proofs.ResultsPut.{changes_one, put_memory, tests, unread, writes}
use Rattle.m11_cpu_quick.proofs.QuickDone.{plain_fetched, single_changes, single_reads, single_writes}
use Rattle.m11_cpu_quick.proofs.singles.single_in_memory.Goals as goal

pub returns-in-Writes-clause-done : goal.returns-in-Writes-clause-done
returns-in-Writes-clause-done c =
    let uses = rw c.in-Writes.is at c.requires.usage in
    λ (operand : Operand) (k k' : ℕ) (rs rs' : List ℕ) found. single_writes _ _ _ _ _ uses
    (writes _ _ _ _ c.single-computed.result k k' rs rs' rs' c.args.machine.now c.set_codes.new.self found
    (unread _ _ _ _ _ uses (rw c.codes.ensures at c.single-computed.ensures.computed))
    (put_memory _ _ c.single-computed.result k' rs' c.args.machine.now c.set_codes.new.self c.requires.plain
    c.store_plain.ensures.status (rw c.store_plain.ensures.stored at c.set_codes.ensures)))

pub returns-in-Reads-clause-done : goal.returns-in-Reads-clause-done
returns-in-Reads-clause-done c =
    λ (operand : Operand) (k k' : ℕ) (rs rs' : List ℕ) found. single_reads _ _ _ _ _ (rw c.in-Reads.is at c.requires.usage)
    (tests _ _ _ _ c.single-computed.result k k' rs rs' c.args.machine.now c.set_codes-in-Reads.new.self
    (at_location _ _ _ _ _ _ _ _ c.args.machine.now found c.requires.plain c.plain-value.ensures.value)
    (rw c.codes.ensures at c.single-computed.ensures.computed) c.set_codes-in-Reads.ensures)

pub returns-in-Changes-clause-done : goal.returns-in-Changes-clause-done
returns-in-Changes-clause-done c =
    λ (operand : Operand) (k k' : ℕ) (rs rs' : List ℕ) found. single_changes _ _ _ _ _ (rw c.in-Changes.is at c.requires.usage)
    (changes_one _ _ _ _ _ c.single-computed.result k k' rs rs' rs' c.args.machine.now c.set_codes-in-Changes.new.self found
    (plain_fetched _ _ _ (shown k' rs' c.args.machine.now) c.requires.plain c.plain-value.ensures.value)
    (rw c.codes.ensures at c.single-computed.ensures.computed)
    (put_memory _ _ c.single-computed.result k' rs' c.args.machine.now c.set_codes-in-Changes.new.self c.requires.plain
    c.store_plain-in-Changes.ensures.status (rw c.store_plain-in-Changes.ensures.stored at c.set_codes-in-Changes.ensures)))
