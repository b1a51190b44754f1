use Rattle.std.proofs.Common.{sym}
use Rattle.m11_link.specs.Outputs.{link}
use Rattle.m11_base_writes.proofs.Writing.{gains_nothing}
use Rattle.m11_link.proofs.front.put_if_of_strength.Goals as goal

pub returns-in-Some-clause-writes : goal.returns-in-Some-clause-writes
returns-in-Some-clause-writes g c = λ tape messages. rw (sym c.in-Some.ensures)
    (rw (c.as_slice.ensures.value, c.name_line.ensures) at (c.put_report.ensures.writes tape messages))

pub returns-in-None-clause-writes : goal.returns-in-None-clause-writes
returns-in-None-clause-writes g c = λ tape messages. rw (sym c.in-None.ensures) (gains_nothing link _)
