use Rattle.std.proofs.Common.{◌≢◌, ◌-◌, ◌*◌, ◌<◌, ◌≤◌, get_or}
use Rattle.m11_cpu_machine.specs.Memory.{most_words, word_at}
use Rattle.m11_trace.proofs.Copies.{Walked}
use Rattle.m11_trace.proofs.changes.put_changes.Given as goal

abbrev pub invariant-changes : goal.invariant-changes
invariant-changes g l = Walked l.fn.before l.before l.memory l.index (g.M.Sink.text l.fn.messages) (g.M.Sink.text l.messages)
    (g.M.Sink.faults l.fn.messages) (g.M.Sink.faults l.messages)
    × (l.index ≤ most_words) × (l.index < most_words → get_or l.before l.index 0 ≢ word_at l.memory (2 * l.index))

abbrev pub decreases-changes : goal.decreases-changes
decreases-changes g l = most_words - l.index
