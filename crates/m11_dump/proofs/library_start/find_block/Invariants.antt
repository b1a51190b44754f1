use Rattle.std.proofs.Common.{ℕ, ◌<◌}
use Rattle.m11_dump.proofs.LibraryStarts.{NoneAt}
use Rattle.m11_dump.proofs.library_start.find_block.Given as goal

abbrev pub invariant-starts : goal.invariant-starts
invariant-starts l = (k : ℕ) → k < l.start → NoneAt l.bytes k
