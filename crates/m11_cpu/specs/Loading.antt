-- Loading: the blocks of a tape are put into memory, in order. (RT-11 Volume and File Formats Manual, "Absolute binary file format". That a
-- byte outside memory is refused as soon as it is read, before the checksum of its block is tested, is this project's own choice.)
use Rattle.std.specs.Prelude.{◌≡◌, ℕ, ◌+◌, ◌<◌, ◌≤◌, List, [], ◌∷◌, ◌++◌, length, take, drop, Option, Result, Ok, Err, ◌⊎◌}
use Rattle.std.specs.List.{AllByRecursion}
use Rattle.m11_base.specs.Devices.{Bytes, Rises}
use Rattle.m11_base.specs.Feed.{Text}
use Rattle.m11_obj_blocks.specs.Limited.{Position, position, Took, Read, Reads, Stops, most_bytes}
use Rattle.m11_obj_blocks.specs.Tapes.{IsTape, total_of, first_part, next_part, data_byte, why_of}
use Rattle.m11_obj_blocks.specs.declared.tape_fault.TapeFault.{TapeFault}
use Rattle.m11_obj_blocks.specs.declared.tape_fault.TapeFault.TheVariants as fault
use Rattle.m11_obj_blocks.specs.declared.tape_part.TapePart.{TapePart}
use Rattle.m11_obj_blocks.specs.declared.tape_part.TapePart.TheVariants.{Data, Start}
use Rattle.m11_cpu.specs.declared.fault.LoadFault.{LoadFault}
use Rattle.m11_cpu.specs.declared.loading.Start as program
use Rattle.m11_cpu_machine.specs.declared.machine.Machine.{Machine}
use Rattle.m11_cpu.specs.declared.fault.LoadFault.TheVariants.{Tape, OutsideMemory}

-- ---- memory

-- the memory with these bytes stored, the first of them at this address
abbrev pub with_bytes : ℕ → Bytes → Bytes → Bytes
with_bytes address bytes memory = take address memory ++ (bytes ++ drop (address + length bytes) memory)

-- these bytes, the first of them at this address, all have addresses in a memory of this many bytes; addresses don't wrap around to 0
-- after octal 177777
abbrev pub AreInside : ℕ → ℕ → Bytes → Type 0
AreInside size address bytes = (index : ℕ) → index < length bytes → address + index < size

-- the memory with these blocks stored in order; each block is an address and its bytes, and a later block overwrites an earlier one
abbrev pub stored : List (ℕ × Bytes) → Bytes → Bytes
stored [] memory = memory
stored (block ∷ blocks) memory = stored blocks (with_bytes block.0 block.1 memory)

-- ---- reading the feed

-- the function that reads the part of a tape after these blocks: `read` if there are no blocks, otherwise a function that first reads the
-- checksum of the last block
abbrev pub part_after : (Bytes → Read TapeFault TapePart) → List (ℕ × Bytes) → Bytes → Read TapeFault TapePart
part_after read [] = read
part_after read (block ∷ blocks) = part_after (next_part (total_of block.0 block.1)) blocks

-- the bytes are exactly these blocks in order: for each block, the bytes that are read as the checksum of the block before it, if there is
-- one, and as its header; and then its data
abbrev pub Hold : (Bytes → Read TapeFault TapePart) → List (ℕ × Bytes) → Bytes → Type 0
Hold read [] bytes = bytes ≡ []
Hold read (block ∷ blocks) bytes = (header : Bytes) × (following : Bytes) × (bytes ≡ header ++ (block.1 ++ following))
    × ((rest : Bytes) → read (header ++ rest) ≡ Ok (Data block.0 (length block.1), rest))
    × Hold (next_part (total_of block.0 block.1)) blocks following

-- ---- a load

-- these blocks were read and put into memory, and each of their bytes has an address inside it
pub record PutBlocks (old new : Position) (before after : Bytes) (blocks : List (ℕ × Bytes)) : Type 0 where
  pub given : Bytes
  pub took : Took old new given
  pub hold : Hold first_part blocks given
  pub inside : AllByRecursion (λ block. AreInside (length before) block.0 block.1) blocks
  pub memory : after ≡ stored blocks before

-- these bytes, fewer than `count`, were read and put into memory, the first at this address, and each has an address inside memory
pub record PutSome (old new : Position) (before after : Bytes) (address count : ℕ) (taken : Bytes) : Type 0 where
  pub took : Took old new taken
  pub some : length taken < count
  pub inside : AreInside (length before) address taken
  pub memory : after ≡ with_bytes address taken before

-- a byte was read, and its address is outside a memory of this size
abbrev pub GivesOutside : Position → Position → ℕ → ℕ → Type 0
GivesOutside old new size address = (byte : ℕ) × Took old new (byte ∷ []) × (size ≤ address)

-- a whole tape was read: its blocks, which were put into memory, then its transfer block, and no byte after that
pub record LoadsTape (old new : Position) (before after : Bytes) (start : ℕ) : Type 0 where
  pub blocks : List (ℕ × Bytes)
  pub following : Position
  pub put : PutBlocks old following before after blocks
  pub last : Reads (part_after first_part blocks) following new (Start start)
  pub tape : IsTape blocks start (put.given ++ last.given)

-- some blocks of a tape, perhaps none, were read and put into memory, and the part after them could not be read
pub record StopsAtPart (old new : Position) (before after : Bytes) (fault : TapeFault) : Type 0 where
  pub blocks : List (ℕ × Bytes)
  pub following : Position
  pub put : PutBlocks old following before after blocks
  pub stops : Stops (part_after first_part blocks) following new (why_of fault)

-- some blocks of a tape, perhaps none, were read and put into memory; then the header of the next block was read, and fewer than all of
-- its data bytes were read and put into memory
pub record InsideData (old new : Position) (before after : Bytes) (address : ℕ) (taken : Bytes) : Type 0 where
  pub blocks : List (ℕ × Bytes)
  pub following : Position
  pub held : Bytes
  pub put : PutBlocks old following before held blocks
  pub count : ℕ
  pub opened : Position
  pub header : Reads (part_after first_part blocks) following opened (Data address count)
  pub part : PutSome opened new held after address count taken

-- a load has this outcome: a whole tape was read; or a part or a byte of data couldn't be read; or a byte lies outside memory; after
-- a fault the memory holds the bytes that came before it
abbrev pub Loads : Position → Position → Bytes → Bytes → Result ℕ LoadFault → Type 0
Loads old new before after (Ok start) = LoadsTape old new before after start
Loads old new before after (Err (Tape fault)) =
    StopsAtPart old new before after fault
    ⊎ ((address : ℕ) × (taken : Bytes) × (here : Position) × InsideData old here before after address taken
    × Stops data_byte here new (why_of fault))
Loads old new before after (Err OutsideMemory) =
    (address : ℕ) × (taken : Bytes) × (here : Position) × InsideData old here before after address taken
    × GivesOutside here new (length before) (address + length taken)

-- a load from a feed has this outcome; at most `most_bytes` bytes are read from the feed, the most that a tape may have
abbrev pub LoadsFrom : Option Text → Option Text → ℕ → ℕ → Bytes → Bytes → Result ℕ LoadFault → Type 0
LoadsFrom text text' faults faults' before after result =
    (room : ℕ) × Loads (position text faults most_bytes) (position text' faults' room) before after result

-- the feed's count of failures rises if the device failed, and is unchanged otherwise
abbrev pub CountsFailure : ℕ → ℕ → Result ℕ LoadFault → Type 0
CountsFailure faults faults' (Err (Tape fault.Device)) = Rises faults faults'
CountsFailure faults faults' _ = faults' ≡ faults

-- the result of a load, with the transfer address in place of the `Start`
abbrev pub start_address : Result program.Start LoadFault → Result ℕ LoadFault
start_address (Ok start) = Ok start.address
start_address (Err fault) = Err fault

-- a load into a machine has this outcome; nothing of the machine changes but its memory, and the feed counts a failure of its device
abbrev pub LoadsInto : Option Text → Option Text → ℕ → ℕ → Machine → Machine → Result ℕ LoadFault → Type 0
LoadsInto text text' faults faults' before after result =
    LoadsFrom text text' faults faults' before.memory after.memory result
    × CountsFailure faults faults' result × (after ≡ record before { memory = after.memory })

-- ---- one block

-- after a block's header was read, putting the block's data into memory has this outcome: all bytes were stored, or those before a byte
-- that can't be read or lies outside memory; `span` is the block's address and the number of its bytes, and `content` the bytes stored
abbrev pub PutsData : {A : Type 0} → Position → Position → Bytes → Bytes → ℕ × ℕ → Bytes → Result A LoadFault → Type 0
PutsData old new before after span content (Ok done) =
    (length content ≡ span.1) × Took old new content × AreInside (length before) span.0 content
    × (after ≡ with_bytes span.0 content before)
PutsData old new before after span content (Err (Tape fault)) =
    (here : Position) × PutSome old here before after span.0 span.1 content × Stops data_byte here new (why_of fault)
PutsData old new before after span content (Err OutsideMemory) =
    (here : Position) × PutSome old here before after span.0 span.1 content
    × GivesOutside here new (length before) (span.0 + length content)
