use Rattle.std.proofs.Common.{[]}
use Rattle.m11_base_writes.proofs.Putting.{to_no_report, to_the_report}
use Rattle.m11_base_writes.proofs.outputs.flush_report.Goals as goal

pub returns-in-Some-clause-writes : goal.returns-in-Some-clause-writes
returns-in-Some-clause-writes g c = λ product messages. rw c.in-Some.is
    (to_the_report g.E.OutputFault.stop product _ _ messages _ _ _ c.of_output.ensures c.flush_or_fail.ensures.puts)

pub returns-in-None-clause-writes : goal.returns-in-None-clause-writes
returns-in-None-clause-writes g c = λ product messages.
    rw c.in-None.is (to_no_report g.E.OutputFault.stop {A = Unit {0}} product messages [] tt)
