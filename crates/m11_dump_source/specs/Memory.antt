-- What memory holds after the blocks of a tape were loaded, one after another. (RT-11 Volume and File Formats Manual, "Absolute binary file
-- format".)
use Rattle.std.specs.Prelude.{ℕ, zero, suc, List, [], ◌∷◌, Option, Some, None, replicate}
use Rattle.m11_base.specs.Devices.{Bytes}

-- the bytes of memory, by their addresses, or of a part of it; None where no block has a byte
abbrev pub Cells : Type 0
Cells = List (Option ℕ)

-- memory with these bytes, the first of them in the cell with this index. Bytes past the last cell are left out
abbrev pub with_bytes : ℕ → Bytes → Cells → Cells
with_bytes index bytes [] = []
with_bytes zero [] (cell ∷ cells) = cell ∷ cells
with_bytes zero (byte ∷ bytes) (cell ∷ cells) = Some byte ∷ with_bytes zero bytes cells
with_bytes (suc index) bytes (cell ∷ cells) = cell ∷ with_bytes index bytes cells

-- memory after these blocks: for each, the address of its data, and the data
abbrev pub after_blocks : List (ℕ × Bytes) → Cells → Cells
after_blocks [] cells = cells
after_blocks (block ∷ blocks) cells = after_blocks blocks (with_bytes block.0 block.1 cells)

-- the whole memory, of 65,536 bytes, after these blocks
abbrev pub memory_of : List (ℕ × Bytes) → Cells
memory_of blocks = after_blocks blocks (replicate 65536 None)
