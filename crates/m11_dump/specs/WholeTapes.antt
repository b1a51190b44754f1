-- A tape that was read into memory: its blocks, up to its transfer block. (RT-11 Volume and File Formats Manual, "Absolute binary file
-- format". The faults and their positions are this project's own.)
use Rattle.std.specs.Prelude.{◌≡◌, ℕ, ◌+◌, ◌≤◌, ◌++◌, All, List, length, map, Result, Ok, Err}
use Rattle.m11_base.specs.Devices.{Bytes}
use Rattle.m11_obj_blocks.specs.Limited.{Position, Read, Reads, Took}
use Rattle.m11_obj_blocks.specs.Tapes.{IsTape, data_limit, first_part}
use Rattle.m11_obj_blocks.specs.declared.tape_fault.TapeFault.{TapeFault}
use Rattle.m11_obj_blocks.specs.declared.tape_part.TapePart.{TapePart}
use Rattle.m11_obj_blocks.specs.declared.tape_part.TapePart.TheVariants.{Data, Start}
use Rattle.m11_dump.specs.Positions.{count_read}
use Rattle.m11_dump.specs.Tapes.{GivesBlocks, StopsReading, part_after}
use Rattle.m11_dump.specs.declared.fault.DumpFault.{DumpFault}
use Rattle.m11_dump.specs.declared.fault.DumpFault.TheVariants as fault
use Rattle.m11_dump.specs.declared.fault.LocatedFault.{LocatedFault}
use Rattle.m11_dump.specs.declared.whole_tapes.TapeBlock.{TapeBlock}
use Rattle.m11_dump.specs.declared.whole_tapes.WholeTape.{WholeTape}

-- the address and the data of a block
abbrev pub block_of : TapeBlock → ℕ × Bytes
block_of block = (block.address, block.bytes.items)

abbrev pub blocks_of : List TapeBlock → List (ℕ × Bytes)
blocks_of blocks = map block_of blocks

-- a whole tape was read: its blocks and its transfer block, but nothing after the transfer block
pub record ReadsWhole (old new : Position) (whole : WholeTape) : Type 0 where
  pub here : Position
  pub gives : GivesBlocks old here (blocks_of whole.blocks.items)
  pub last : Reads (part_after first_part (blocks_of whole.blocks.items)) here new (Start whole.start)
  pub tape : IsTape (blocks_of whole.blocks.items) whole.start (gives.given ++ last.given)
  pub fits : All (λ block. length block.bytes.items ≤ data_limit) whole.blocks.items

-- the header of a block was read, and some, none or all of its data
pub record BeginsBlock (read : Bytes → Read TapeFault TapePart) (here new : Position) : Type 0 where
  pub address : ℕ
  pub count : ℕ
  pub opened : Position
  pub header : Reads read here opened (Data address count)
  pub taken : Bytes
  pub took : Took opened new taken
  pub within : length taken ≤ count

-- a reader that had read these blocks, which are the bytes `given`, stopped in the block after `before` blocks, and this byte shows why: no
-- further part could be read, or not all data of one; or memory was refused for the next block, and the byte is the number of bytes read
abbrev pub StopsWhole : DumpFault → Position → Position → List (ℕ × Bytes) → Bytes → ℕ → ℕ → Type 0
StopsWhole (fault.Tape inner) here new blocks given before byte = StopsReading inner here new blocks given before byte
StopsWhole fault.NoMemory here new blocks given before byte =
    (before ≡ length blocks) × BeginsBlock (part_after first_part blocks) here new × (byte ≡ count_read new)
StopsWhole fault.Write here new blocks given before byte = ⊥
StopsWhole (fault.Block inner) here new blocks given before byte = ⊥
StopsWhole (fault.Record inner) here new blocks given before byte = ⊥
StopsWhole (fault.Rule inner) here new blocks given before byte = ⊥

-- a whole tape is read; or reading stops after some blocks, for the reason that the fault gives
abbrev pub ReadsTape : Position → Position → Result WholeTape LocatedFault → Type 0
ReadsTape old new (Ok whole) = ReadsWhole old new whole
ReadsTape old new (Err said) = (blocks : List (ℕ × Bytes)) × (here : Position) × (gives : GivesBlocks old here blocks)
    × (before : ℕ) × StopsWhole said.fault here new blocks gives.given before said.byte × (said.block ≡ before + 1)
