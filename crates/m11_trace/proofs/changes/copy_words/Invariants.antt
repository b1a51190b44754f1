use Rattle.std.proofs.Common.{◌≡◌, ℕ, ◌*◌, ◌<◌, get_or}
use Rattle.m11_cpu_machine.specs.Memory.{word_at}
use Rattle.m11_trace.proofs.changes.copy_words.Given as goal

abbrev pub invariant-words : goal.invariant-words
invariant-words l = (k : ℕ) → k < l.index → get_or l.words k 0 ≡ word_at l.memory (2 * k)
