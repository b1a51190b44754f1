-- Requests: the words of a command line, the files that it can open, and what its console reads, as blocks. (This project's own.)
use Rattle.std.specs.Prelude.{List, [], ◌∷◌, string_bytes}
use Rattle.m11_base.specs.Devices.{Bytes}
use Rattle.m11_base_files.specs.declared.memory_files.MemoryFile.{MemoryFile}
use Rattle.m11_web.specs.Blocks.{AreBlocks}

-- of each file its path and its bytes
abbrev pub parts : List MemoryFile → List Bytes
parts [] = []
parts (file ∷ files) = string_bytes file.path ∷ file.bytes.items ∷ parts files

-- a request has these words, these files and this input: it is three blocks, the first of which holds the blocks of the words, and the second
-- those of the files
abbrev pub IsRequest : List Bytes → List MemoryFile → Bytes → Bytes → Type 0
IsRequest words files input request = (line : Bytes) × (shelf : Bytes) × AreBlocks (line ∷ shelf ∷ input ∷ []) request
    × AreBlocks words line × AreBlocks (parts files) shelf
