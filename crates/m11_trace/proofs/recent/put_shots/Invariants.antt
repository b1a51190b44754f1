use Rattle.m11_trace.specs.Known.{known_of}
use Rattle.m11_trace.proofs.Reports.{Showing}
use Rattle.m11_trace.proofs.recent.put_shots.Given as goal

abbrev pub invariant-shots : goal.invariant-shots
invariant-shots g l = Showing (known_of l.fn.known) l.fn.number l.left l.fn.recent.items (g.M.Sink.text l.fn.messages) (g.M.Sink.text l.messages)
    (g.M.Sink.faults l.fn.messages) (g.M.Sink.faults l.messages)

abbrev pub decreases-shots : goal.decreases-shots
decreases-shots g l = l.left
