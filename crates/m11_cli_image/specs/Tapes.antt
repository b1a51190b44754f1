-- The size of the tape of a linked program, by its sources alone. (RT-11 Volume and File Formats Manual, "Absolute binary file format". This
-- project's own: each text of an object is a block of the tape.)
use Rattle.std.specs.Prelude.{ℕ, ◌+◌, sum_by, List, length}
use Rattle.std.specs.List.{flat_map}
use Rattle.m11_asm_outputs.specs.Object.{texts_of}
use Rattle.m11_obj.specs.Texts.{TextParts}
use Rattle.m11_cli_image.specs.Sources.{Source}

-- the size in bytes of the block of a text: its data, six bytes before them and one after them
abbrev pub block_size : TextParts → ℕ
block_size text = length text.bytes + 7

-- the size in bytes of the tape: the blocks of all texts of the sources, and the transfer block, which has no data
abbrev pub tape_size : List Source → ℕ
tape_size sources = sum_by block_size (flat_map (λ source. texts_of source.pieces) sources) + 7
