-- Blocks: lists of bytes one after another, each after its length. (This project's own.)
use Rattle.std.specs.Prelude.{◌≡◌, ◌<◌, ◌^◌, ◌++◌, List, [], ◌∷◌, length}
use Rattle.std.specs.Int.{to_le_bytes, w32}
use Rattle.m11_base.specs.Devices.{Bytes}

-- the block of these bytes: their length in four bytes, from the lowest on, and then the bytes
abbrev pub block : Bytes → Bytes
block bytes = to_le_bytes w32 (length bytes) ++ bytes

-- bytes begin with the block of these, whose length fits four bytes, and this is what follows it
abbrev pub BeginsWithBlock : Bytes → Bytes → Bytes → Type 0
BeginsWithBlock bytes first rest = (length first < 2 ^ 32) × (bytes ≡ block first ++ rest)

-- the block of these bytes was appended, and their length fits four bytes
abbrev pub PutsBlock : Bytes → Bytes → Bytes → Type 0
PutsBlock old new bytes = (length bytes < 2 ^ 32) × (new ≡ old ++ block bytes)

-- bytes are the blocks of these lists, in order, and nothing else
abbrev pub AreBlocks : List Bytes → Bytes → Type 0
AreBlocks [] bytes = bytes ≡ []
AreBlocks (first ∷ more) bytes = (rest : Bytes) × BeginsWithBlock bytes first rest × AreBlocks more rest
