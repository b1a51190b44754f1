use Rattle.m11_dump_laws.proofs.MemoryCells as cells
use Rattle.m11_dump_laws.proofs.pieces.memory_has_cells.Goals as goal

pub returns : goal.returns
returns c blocks are = cells.memory_has_cells blocks are
