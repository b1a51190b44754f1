use Rattle.std.proofs.Common.{◌≢◌, ℕ, ◌-◌, ◌<◌, ◌≤◌, get_or, length}
use Rattle.m11_base_disassembly.proofs.lines.line_length.Given as goal

abbrev pub invariant-bytes : goal.invariant-bytes
invariant-bytes l = (l.index ≤ length l.text) × ((k : ℕ) → k < l.index → get_or l.text k 0 ≢ 10)

abbrev pub decreases-bytes : goal.decreases-bytes
decreases-bytes l = length l.text - l.index
