-- The byte of a file that shows a fault, as an offset counted from 0. (This project's own.)
use Rattle.std.specs.Prelude.{◌≡◌, ℕ, ◌+◌, ◌-◌, ◌<◌, ◌≤◌, [], ◌∷◌, ◌++◌, length, take, Err}
use Rattle.m11_base.specs.Devices.{Bytes}
use Rattle.m11_obj_blocks.specs.Blocks as blocks
use Rattle.m11_obj_blocks.specs.Tapes as tapes
use Rattle.m11_obj_blocks.specs.Limited.{EndsBetween, EndsInside, Fails, Never, Passes, Position, Read, Refuses, Stops, Why, most_bytes}
use Rattle.m11_link_modules.specs.declared.fault.ModuleFault.{ModuleFault}
use Rattle.m11_link_modules.specs.declared.fault.ModuleFault.TheVariants as rule
use Rattle.m11_obj.specs.Reading.{content_of}
use Rattle.m11_obj.specs.declared.fault.RecordFault.{RecordFault}
use Rattle.m11_obj.specs.declared.fault.RecordFault.TheVariants.{BadLength}
use Rattle.m11_dump.specs.declared.fault.DumpFault.{DumpFault}
use Rattle.m11_dump.specs.declared.fault.DumpFault.TheVariants as fault
use Rattle.m11_dump.specs.declared.fault.LocatedFault.{LocatedFault}

-- ---- a fault in the blocks of an object, library or tape

-- the bytes read before a call stopped
abbrev pub bytes_before_stop : {Fault A : Type 0} (read : Bytes → Read Fault A) (old new : Position) (why : Why Fault) → Stops read old new why
    → Bytes
bytes_before_stop read old new Fails stops = stops.0
bytes_before_stop read old new EndsBetween stops = stops.0
bytes_before_stop read old new EndsInside stops = stops.0
bytes_before_stop read old new Passes stops = stops.0
bytes_before_stop read old new (Refuses fault) stops = stops.0
bytes_before_stop read old new Never stops = absurd stops

-- the offset of the byte that shows why a call stopped, after `count` bytes of the file: that of the last byte if it is refused;
-- otherwise that of the byte that is missing or not read, which is the size of the file if the file ends there
abbrev pub stop_byte : {Fault : Type 0} → Why Fault → ℕ → ℕ
stop_byte (Refuses fault) count = count - 1
stop_byte why count = count

-- a call that began after the bytes `before` of the file stopped for this reason, and the byte at the offset `byte` shows the reason
abbrev pub StopsAt : {Fault A : Type 0} → (Bytes → Read Fault A) → Why Fault → Position → Position → Bytes → ℕ → Type 0
StopsAt read why here new before byte = (stops : Stops read here new why)
    × (byte ≡ stop_byte why (length (before ++ bytes_before_stop read here new why stops)))

-- ---- a fault in a record

-- the beginning of a block's content, up to and including the byte at this index, has this fault, and no shorter beginning has it
pub record FirstHas (fault : RecordFault) (content : Bytes) (index : ℕ) : Type 0 where
  pub within : index < length content
  pub has : content_of (take (index + 1) content) ≡ Err fault
  pub shortest : (count : ℕ) → count ≤ index → content_of (take count content) ≡ Err fault → ⊥

-- the index of the byte that shows the fault of a block's content: the last byte of the shortest prefix that has the fault; or the length
-- of the content if a field is missing
abbrev pub FaultShowsAt : RecordFault → Bytes → ℕ → Type 0
FaultShowsAt BadLength content index = index ≡ length content
FaultShowsAt fault content index = FirstHas fault content index

-- the offset of the first byte of a block's content, if the block ends after `count` bytes of the file: only the sum byte follows the
-- content
abbrev pub content_start : Bytes → ℕ → ℕ
content_start content count = count - (length content + 1)

-- a block's content lies at this index among bytes, and only the sum byte follows it
abbrev pub LiesAt : Bytes → Bytes → ℕ → Type 0
LiesAt content bytes index = (front : Bytes) × (last : ℕ) × (bytes ≡ front ++ (content ++ last ∷ [])) × (length front ≡ index)

-- the offset of the byte that shows the fault of a block's content, if the block ends after `count` bytes of the file
abbrev pub RecordShowsAt : RecordFault → Bytes → ℕ → ℕ → Type 0
RecordShowsAt fault content count byte =
    (index : ℕ) × FaultShowsAt fault content index × (byte ≡ content_start content count + index)

-- ---- a record that breaks a rule of modules

-- a fault of the rules as a fault of a dump
abbrev pub of_rule : ModuleFault → DumpFault
of_rule rule.NoMemory = fault.NoMemory
of_rule inner = fault.Rule inner

-- the offset of the byte that shows that a record breaks a rule, if its block ends after `count` bytes of the file: that of the first
-- byte of its content. If memory was refused, it is the number of bytes read
abbrev pub rule_byte : ModuleFault → Bytes → ℕ → ℕ
rule_byte rule.NoMemory content count = count
rule_byte inner content count = content_start content count

-- ---- any fault

-- the number of bytes read: the limit minus the number of bytes that may still be read
abbrev pub count_read : Position → ℕ
count_read location = most_bytes - location.room

-- the offset of the byte that shows a fault of a block or of a tape, after `count` bytes of the file; `count` for any other fault
abbrev pub fault_byte : DumpFault → ℕ → ℕ
fault_byte (fault.Block inner) count = stop_byte (blocks.why_of inner) count
fault_byte (fault.Tape inner) count = stop_byte (tapes.why_of inner) count
fault_byte other count = count

-- this fault in the block after `blocks` blocks, at this offset in the file
abbrev pub placed_at : DumpFault → ℕ → ℕ → LocatedFault
placed_at inner blocks byte = record { fault = inner; block = blocks + 1; byte = byte }
