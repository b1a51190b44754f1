-- A dump of a tape: its blocks one after another, up to its transfer block or to the first fault. (RT-11 Volume and File Formats
-- Manual, "Absolute binary file format". The lines, the faults and their positions are this project's own.)
use Rattle.std.specs.Prelude.{◌≡◌, ◌⊎◌, ℕ, ◌+◌, ◌-◌, ◌^◌, ◌<◌, ◌≤◌, ◌==◌, if◌then◌else◌, List, [], ◌∷◌, ◌++◌, length, take, codes, ⊤, Option, Some, None, Result, Ok, Err}
use Rattle.std.specs.List.{concat}
use Rattle.m11_base.specs.Devices.{Bytes}
use Rattle.m11_base.specs.Octal.{octal_text}
use Rattle.m11_base_disassembly.specs.declared.symbols.Symbol.{Symbol}
use Rattle.m11_obj_blocks.specs.Limited.{Position, Read, Reads, Stops, Took}
use Rattle.m11_obj_blocks.specs.Tapes.{IsTape, data_byte, data_limit, first_part, next_part, total_of, why_of}
use Rattle.m11_obj_blocks.specs.declared.tape_fault.TapeFault.{TapeFault}
use Rattle.m11_obj_blocks.specs.declared.tape_part.TapePart.{TapePart}
use Rattle.m11_obj_blocks.specs.declared.tape_part.TapePart.TheVariants.{Data, Start}
use Rattle.m11_obj_blocks.specs.declared.tape_part.TapeStage.{TapeStage}
use Rattle.m11_obj_blocks.specs.declared.tape_part.TapeStage.TheVariants.{InBlock}
use Rattle.m11_base_writes.specs.States.{OutputState}
use Rattle.m11_dump.specs.Objects.{FailsAt, FailsToPut, Gained}
use Rattle.m11_dump.specs.Positions.{StopsAt, count_read, fault_byte, placed_at}
use Rattle.m11_dump.specs.Words.{data_cells}
use Rattle.m11_dump.specs.declared.fault.DumpFault.{DumpFault}
use Rattle.m11_dump.specs.declared.fault.DumpFault.TheVariants as fault
use Rattle.m11_dump.specs.declared.fault.LocatedFault.{LocatedFault}
use Rattle.m11_dump.specs.Instructions.{head_line, lines_from, over_from, unreferred}
use Rattle.m11_dump.specs.Octets.{location_after}
use Rattle.m11_dump.specs.declared.tapes.Held.{Held}
use Rattle.m11_dump.specs.declared.view.View.{View}
use Rattle.m11_dump.specs.declared.view.View.TheVariants.{Octal, Instructions}

-- ---- the text of a tape

-- how the blocks of a tape are shown: in octal; or as instructions, with these globals as names of locations
pub data TapeView : Type 0 where
  InOctal : TapeView
  AsInstructions : List Symbol → TapeView

abbrev pub tape_view : View → List Symbol → TapeView
tape_view Octal symbols = InOctal
tape_view Instructions symbols = AsInstructions symbols

-- the bytes that continue a block: the first five of the next block, or all if it has fewer, if the next block begins where this one
-- ends; otherwise none. Five are enough, since no instruction is longer than six bytes
abbrev pub beyond : ℕ × Bytes → List (ℕ × Bytes) → Bytes
beyond block [] = []
beyond block (next ∷ blocks) = if next.0 == location_after block.0 (length block.1) then take 5 next.1 else []

-- the text of a data block whose first `shown` bytes are in the lines of the previous block: its address, and its data in octal or as
-- instructions
abbrev pub block_text : TapeView → ℕ → ℕ × Bytes → Bytes → Bytes
block_text InOctal shown block after = ((codes "BLOCK " ++ octal_text block.0) ++ data_cells block.0 block.1) ++ 10 ∷ []
block_text (AsInstructions symbols) shown block after =
    head_line (codes "BLOCK ") block.0 ++ lines_from symbols unreferred block.0 0 shown block.1 after

-- how many bytes of the next block are shown in the text of a block
abbrev pub over : TapeView → ℕ → ℕ × Bytes → Bytes → ℕ
over InOctal shown block after = 0
over (AsInstructions symbols) shown block after = over_from unreferred block.0 0 shown block.1 after

-- a list with the text of each of these blocks; the first `shown` bytes of the first one were shown before
abbrev pub texts_from : TapeView → ℕ → List (ℕ × Bytes) → List Bytes
texts_from view shown [] = []
texts_from view shown (block ∷ blocks) = block_text view shown block (beyond block blocks)
    ∷ texts_from view (over view shown block (beyond block blocks)) blocks

abbrev pub block_texts : TapeView → List (ℕ × Bytes) → List Bytes
block_texts view blocks = texts_from view 0 blocks

abbrev pub tape_text : TapeView → List (ℕ × Bytes) → Bytes
tape_text view blocks = concat (block_texts view blocks)

-- the line of the transfer block, even for an odd address, which starts no program
abbrev pub start_text : ℕ → Bytes
start_text address = (codes "START " ++ octal_text address) ++ 10 ∷ []

-- ---- reading

-- the function that reads the part after these blocks, beginning with the sum byte of the last one; `read` itself if there are none
abbrev pub part_after : (Bytes → Read TapeFault TapePart) → List (ℕ × Bytes) → Bytes → Read TapeFault TapePart
part_after read [] = read
part_after read (block ∷ blocks) = part_after (next_part (total_of block.0 block.1)) blocks

-- the bytes consist of these blocks: for each, its header, as the reader reads it, and its data. The header of a block after the first
-- begins with the sum byte of the block before it; the sum byte of the last block is left out
abbrev pub Hold : (Bytes → Read TapeFault TapePart) → List (ℕ × Bytes) → Bytes → Type 0
Hold read [] bytes = bytes ≡ []
Hold read (block ∷ blocks) bytes = (header : Bytes) × (following : Bytes) × (bytes ≡ header ++ (block.1 ++ following))
    × ((rest : Bytes) → read (header ++ rest) ≡ Ok (Data block.0 (length block.1), rest))
    × Hold (next_part (total_of block.0 block.1)) blocks following

-- a feed yielded these blocks, all but the sum byte of the last one
pub record GivesBlocks (old here : Position) (blocks : List (ℕ × Bytes)) : Type 0 where
  pub given : Bytes
  pub took : Took old here given
  pub hold : Hold first_part blocks given

-- the header of a block was read, and some or none of its data, but not all
pub record InsideData (read : Bytes → Read TapeFault TapePart) (here inside : Position) : Type 0 where
  pub address : ℕ
  pub count : ℕ
  pub opened : Position
  pub header : Reads read here opened (Data address count)
  pub taken : Bytes
  pub took : Took opened inside taken
  pub some : length taken < count

-- the texts of all that was read: of these blocks, and possibly of the transfer block after them
abbrev pub TextsRead : TapeView → List (ℕ × Bytes) → Position → Position → List Bytes → Type 0
TextsRead view blocks here new texts = (texts ≡ block_texts view blocks)
    ⊎ ((address : ℕ) × Reads (part_after first_part blocks) here new (Start address)
    × (texts ≡ block_texts view blocks ++ start_text address ∷ []))

-- not all data of the next block could be read after these bytes, and this byte shows why
abbrev pub StopsInside : (Bytes → Read TapeFault TapePart) → TapeFault → Position → Position → Bytes → ℕ → Type 0
StopsInside read inner here new before byte = (inside : Position) × (opened : InsideData read here inside)
    × StopsAt data_byte (why_of inner) inside new (before ++ (opened.header.given ++ opened.taken)) byte

-- the number of blocks before the one that holds the byte at this offset, after `count` blocks of data, the last of which has its data
-- up to the offset `end`: the byte there is the sum byte of that block
abbrev pub blocks_before : ℕ → ℕ → ℕ → ℕ
blocks_before count end byte = if byte == end then count - 1 else count

-- after these blocks, which are the bytes `given`, no further part could be read, or not all data of one; this byte shows why in the block
-- after `before` blocks
abbrev pub StopsReading : TapeFault → Position → Position → List (ℕ × Bytes) → Bytes → ℕ → ℕ → Type 0
StopsReading inner here new blocks given before byte =
    ((before ≡ blocks_before (length blocks) (length given) byte)
    × StopsAt (part_after first_part blocks) (why_of inner) here new given byte)
    ⊎ ((before ≡ length blocks) × StopsInside (part_after first_part blocks) inner here new given byte)

-- the output failed at one of the last two texts, after the `before` texts that precede it were written
pub record RefusesText (texts : List Bytes) (output output' : OutputState) (before : ℕ) : Type 0 where
  pub put : List Bytes
  pub text : Bytes
  pub others : List Bytes
  pub all : texts ≡ put ++ text ∷ others
  pub last : length others ≤ 1
  pub middle : OutputState
  pub gained : Gained (concat put) output middle
  pub fails : FailsAt text middle output'
  pub number : before ≡ length put

-- memory was refused after the first `before` texts were written, which are all but at most the last two
pub record LacksText (texts : List Bytes) (output output' : OutputState) (before : ℕ) : Type 0 where
  pub put : List Bytes
  pub others : List Bytes
  pub all : texts ≡ put ++ others
  pub last : length others ≤ 2
  pub gained : Gained (concat put) output output'
  pub number : before ≡ length put

-- a dump that had read these blocks from these bytes stopped in the block after `before` blocks, and this byte shows why: no further
-- part could be read, or not all data of one; a text couldn't be written; or memory was refused
abbrev pub StopsTape : TapeView → DumpFault → Position → Position → OutputState → OutputState → List (ℕ × Bytes) → Bytes → ℕ → ℕ → Type 0
StopsTape view (fault.Tape inner) here new output output' blocks given before byte = Gained (tape_text view blocks) output output'
    × StopsReading inner here new blocks given before byte
StopsTape view fault.Write here new output output' blocks given before byte =
    (texts : List Bytes) × TextsRead view blocks here new texts × RefusesText texts output output' before × (byte ≡ count_read new)
StopsTape view fault.NoMemory here new output output' blocks given before byte =
    (texts : List Bytes) × TextsRead view blocks here new texts × LacksText texts output output' before × (byte ≡ count_read new)
StopsTape view (fault.Block inner) here new output output' blocks given before byte = ⊥
StopsTape view (fault.Record inner) here new output output' blocks given before byte = ⊥
StopsTape view (fault.Rule inner) here new output output' blocks given before byte = ⊥

-- a whole tape was dumped: its blocks and its transfer block were read, but nothing after the transfer block, and the output gained
-- their text
pub record DumpsWhole (view : TapeView) (old new : Position) (output output' : OutputState) : Type 0 where
  pub blocks : List (ℕ × Bytes)
  pub start : ℕ
  pub here : Position
  pub gives : GivesBlocks old here blocks
  pub last : Reads (part_after first_part blocks) here new (Start start)
  pub tape : IsTape blocks start (gives.given ++ last.given)
  pub gained : Gained (tape_text view blocks ++ start_text start) output output'

-- what a dump of a tape does: the whole tape is dumped; or the dump stops after some blocks, for the reason that its fault gives
abbrev pub DumpsTape : TapeView → Position → Position → OutputState → OutputState → Result (Unit {0}) LocatedFault → Type 0
DumpsTape view old new output output' (Ok done) = DumpsWhole view old new output output'
DumpsTape view old new output output' (Err said) = (blocks : List (ℕ × Bytes)) × (here : Position) × (gives : GivesBlocks old here blocks)
    × (before : ℕ) × StopsTape view said.fault here new output output' blocks gives.given before said.byte × (said.block ≡ before + 1)

-- ---- parts of a dump

-- all data of a block was read, and the reader is in the state after the last byte of data
abbrev pub ReadsData : Position → Position → TapeStage → ℕ → ℕ → Bytes → Type 0
ReadsData opened end stage address count bytes =
    (length bytes ≡ count) × Took opened end bytes × (stage ≡ InBlock 0 (total_of address bytes))

-- not all of the data could be read; or memory was refused for it, after some or all of it was read
abbrev pub StopsData : DumpFault → Position → Position → ℕ → Type 0
StopsData (fault.Tape inner) opened new count = (taken : Bytes) × (inside : Position) × Took opened inside taken
    × (length taken < count) × Stops data_byte inside new (why_of inner)
StopsData fault.NoMemory opened new count = (taken : Bytes) × Took opened new taken × (length taken ≤ count)
StopsData fault.Write opened new count = ⊥
StopsData (fault.Block inner) opened new count = ⊥
StopsData (fault.Record inner) opened new count = ⊥
StopsData (fault.Rule inner) opened new count = ⊥

-- ---- the pending block: the last block that was read, which is shown once the next part is known; before the first block none is
-- pending

abbrev pub held_block : Option Held → List (ℕ × Bytes)
held_block None = []
held_block (Some held) = (held.address, held.bytes.items) ∷ []

abbrev pub held_shown : Option Held → ℕ
held_shown None = 0
held_shown (Some held) = held.shown

-- the pending block, if there is one, has no more data than a block of a tape may have, and fewer than 2 to the power of 32 blocks come
-- before it
abbrev pub HeldFits : Option Held → Type 0
HeldFits None = ⊤
HeldFits (Some held) = (length held.bytes.items ≤ data_limit) × (held.before < 2 ^ 32)

-- the bytes that continue the pending block, if this is the next block; none if no block is pending
abbrev pub held_beyond : Option Held → ℕ × Bytes → Bytes
held_beyond None next = []
held_beyond (Some held) next = beyond (held.address, held.bytes.items) (next ∷ [])

abbrev pub held_text : TapeView → Held → Bytes → Bytes
held_text view held after = block_text view held.shown (held.address, held.bytes.items) after

abbrev pub held_over : TapeView → Held → Bytes → ℕ
held_over view held after = over view held.shown (held.address, held.bytes.items) after

-- the pending block was shown; or none is pending, and nothing was written; or showing it failed after `count` bytes were read, for the
-- reason that the fault gives
abbrev pub ShowsHeld : TapeView → Option Held → Bytes → ℕ → OutputState → OutputState → Result ℕ LocatedFault → Type 0
ShowsHeld view None after count output output' result = (result ≡ Ok 0) × (output' ≡ output)
ShowsHeld view (Some held) after count output output' (Ok shown) =
    Gained (held_text view held after) output output' × (shown ≡ held_over view held after)
ShowsHeld view (Some held) after count output output' (Err said) = (inner : DumpFault)
    × FailsToPut (held_text view held after) output output' inner × (said ≡ placed_at inner held.before (fault_byte inner count))

-- the fault to report: this one if the pending block was shown, otherwise the fault of showing it
abbrev pub said_after : Result ℕ LocatedFault → LocatedFault → LocatedFault
said_after (Ok shown) said = said
said_after (Err inner) said = inner

-- the pending block, if there is one, was shown with nothing after it, and this fault is reported; or showing it failed, and the
-- fault of showing it is reported
abbrev pub StopsHeld : TapeView → Option Held → DumpFault → ℕ → ℕ → OutputState → OutputState → LocatedFault → Type 0
StopsHeld view held inner passed count output output' said = (result : Result ℕ LocatedFault)
    × ShowsHeld view held [] count output output' result × (said ≡ said_after result (placed_at inner passed (fault_byte inner count)))

-- the transfer block was shown; or it wasn't, for the reason that the fault gives
abbrev pub ShowsStart : ℕ → ℕ → ℕ → OutputState → OutputState → Result (Unit {0}) LocatedFault → Type 0
ShowsStart address passed count output output' (Ok done) = Gained (start_text address) output output'
ShowsStart address passed count output output' (Err said) = (inner : DumpFault)
    × FailsToPut (start_text address) output output' inner × (said ≡ placed_at inner passed (fault_byte inner count))

-- the pending block, if there is one, and then the transfer block were shown; or one of them wasn't, for the reason that the fault gives
abbrev pub EndsHeldBy : Result ℕ LocatedFault → ℕ → ℕ → ℕ → OutputState → OutputState → Result (Unit {0}) LocatedFault → Type 0
EndsHeldBy (Ok next) address passed count middle output result = ShowsStart address passed count middle output result
EndsHeldBy (Err said) address passed count middle output result = (result ≡ Err said) × (output ≡ middle)

abbrev pub EndsHeld : TapeView → Option Held → ℕ → ℕ → ℕ → OutputState → OutputState → Result (Unit {0}) LocatedFault → Type 0
EndsHeld view held address passed count output output' result = (shown : Result ℕ LocatedFault) × (middle : OutputState)
    × ShowsHeld view held [] count output middle shown × EndsHeldBy shown address passed count middle output' result
