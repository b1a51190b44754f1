-- Memory after blocks has cells with bytes, and no more cells than before.
use Rattle.std.proofs.Common.{◌≡◌, ◌∙◌, ℕ, zero, suc, ◌<◌, ◌≤◌, List, [], ◌∷◌, length, replicate, None, refl, arith}
use Rattle.std.specs.List.{AllByRecursion}
use Rattle.std.proofs.lemmas.List.{length-replicate}
use Rattle.m11_base.specs.Devices.{Bytes}
use Rattle.m11_dump_source.specs.Memory.{Cells, after_blocks, memory_of, with_bytes}
use Rattle.m11_dump_source.proofs.Stored.{as_long}
use Rattle.m11_dump_laws.specs.Items.{AreBlocks, AreCells, IsCell}

cells_with : (index : ℕ) (bytes : Bytes) (cells : Cells) → AllByRecursion (λ byte. byte < 256) bytes → AllByRecursion IsCell cells
    → AllByRecursion IsCell (with_bytes index bytes cells)
cells_with index bytes [] small all = tt
cells_with zero [] (cell ∷ cells) small all = all
cells_with zero (byte ∷ bytes) (cell ∷ cells) small all = (small.0, cells_with zero bytes cells small.1 all.1)
cells_with (suc index) bytes (cell ∷ cells) small all = (all.0, cells_with index bytes cells small all.1)

cells_after : (blocks : List (ℕ × Bytes)) (cells : Cells) → AreBlocks blocks → AllByRecursion IsCell cells
    → AllByRecursion IsCell (after_blocks blocks cells)
cells_after [] cells are all = all
cells_after (block ∷ blocks) cells are all =
    cells_after blocks (with_bytes block.0 block.1 cells) are.1 (cells_with block.0 block.1 cells are.0 all)

as_many : (blocks : List (ℕ × Bytes)) (cells : Cells) → length (after_blocks blocks cells) ≡ length cells
as_many [] cells = refl
as_many (block ∷ blocks) cells = as_many blocks (with_bytes block.0 block.1 cells) ∙ as_long block.0 block.1 cells

none_stored : (size : ℕ) → AllByRecursion IsCell (replicate size None)
none_stored zero = tt
none_stored (suc size) = (tt, none_stored size)

sized : (size : ℕ) (blocks : List (ℕ × Bytes)) → size ≤ 65536 → AreBlocks blocks → AreCells (after_blocks blocks (replicate size None))
sized size blocks few are =
    let same : length (after_blocks blocks (replicate size None)) ≡ size =
    as_many blocks (replicate size None) ∙ length-replicate size None in
    record { few = omega (arith, same, few); bytes = cells_after blocks (replicate size None) are (none_stored size) }

pub memory_has_cells : (blocks : List (ℕ × Bytes)) → AreBlocks blocks → AreCells (memory_of blocks)
memory_has_cells blocks are = sized 65536 blocks (omega arith) are
