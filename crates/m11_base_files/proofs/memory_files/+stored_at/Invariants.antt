use Rattle.std.proofs.Common.{length}
use Rattle.m11_base_files.proofs.memory_files.+stored_at.Given as goal

abbrev pub decreases-stored_at : goal.decreases-stored_at
decreases-stored_at l = length l.stored.now
