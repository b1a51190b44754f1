use Rattle.std.proofs.Common.{◌-◌, ◌≤◌}
use Rattle.m11_cpu_machine.specs.Memory.{most_words}
use Rattle.m11_trace.specs.Changes.{AreAlike}
use Rattle.m11_trace.proofs.changes.changed_from.Given as goal

abbrev pub invariant-groups : goal.invariant-groups
invariant-groups l = (l.fn.from ≤ l.index) × (l.index ≤ most_words) × AreAlike l.words l.memory l.fn.from l.index

abbrev pub decreases-groups : goal.decreases-groups
decreases-groups l = most_words - l.index

abbrev pub invariant-words : goal.invariant-words
invariant-words l = (l.fn.from ≤ l.index) × (l.index ≤ most_words) × AreAlike l.words l.memory l.fn.from l.index

abbrev pub decreases-words : goal.decreases-words
decreases-words l = most_words - l.index
