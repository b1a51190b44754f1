use Rattle.std.proofs.Common.{length}
use Rattle.m11_dump.proofs.instructions.+add_cells.Given as goal

abbrev pub decreases-add_cells : goal.decreases-add_cells
decreases-add_cells l = length l.bytes.now
