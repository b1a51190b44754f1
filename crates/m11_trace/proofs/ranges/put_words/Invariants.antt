use Rattle.std.proofs.Common.{◌-◌}
use Rattle.m11_trace.proofs.Parts.{Putting}
use Rattle.m11_trace.proofs.ranges.put_words.Given as goal

abbrev pub invariant-words : goal.invariant-words
invariant-words g l = Putting l.memory l.first l.index l.count (g.M.Sink.text l.fn.messages) (g.M.Sink.text l.messages)
    (g.M.Sink.faults l.fn.messages) (g.M.Sink.faults l.messages)

abbrev pub decreases-words : goal.decreases-words
decreases-words g l = l.count - l.index
