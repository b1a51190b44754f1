use Rattle.std.proofs.Common.{sym, ◌∙◌}
use Rattle.m11_cpu_quick.proofs.QuickDone.{single_changes, single_reads, single_writes}
use Rattle.m11_cpu_quick.proofs.singles.single.Goals as goal

pub returns-in_ok-after-in-Some-Writes-clause-some : goal.returns-in_ok-after-in-Some-Writes-clause-some
returns-in_ok-after-in-Some-Writes-clause-some c =
    single_writes _ _ _ _ _ (sym c.use_by_single.ensures ∙ rw c.in-Some-Writes.field-0-is at c.in-Some-Writes.is)
    c.in_ok-after-in-Some-Writes.ensures.some

pub returns-in_ok-after-in-Some-Reads-clause-some : goal.returns-in_ok-after-in-Some-Reads-clause-some
returns-in_ok-after-in-Some-Reads-clause-some c =
    single_reads _ _ _ _ _ (sym c.use_by_single.ensures ∙ rw c.in-Some-Reads.field-0-is at c.in-Some-Reads.is)
    c.in_ok-after-in-Some-Reads.ensures.some

pub returns-in_ok-after-in-Some-Changes-clause-some : goal.returns-in_ok-after-in-Some-Changes-clause-some
returns-in_ok-after-in-Some-Changes-clause-some c =
    single_changes _ _ _ _ _ (sym c.use_by_single.ensures ∙ rw c.in-Some-Changes.field-0-is at c.in-Some-Changes.is)
    c.in_ok-after-in-Some-Changes.ensures.some
