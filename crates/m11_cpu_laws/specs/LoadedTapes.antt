-- What a load does with the bytes of a tape, as a function of these bytes and of the size of the memory. (RT-11 Volume and File Formats
-- Manual, "Absolute binary file format". The limit on the size of a tape, and the faults and their order, are this project's own choices.)
use Rattle.std.specs.Prelude.{◌≡◌, ℕ, ◌+◌, ◌-◌, nat_lt, if◌then◌else◌, List, [], ◌∷◌, ◌++◌, length, take, drop, zero, suc, Option, Some, Result, Ok, Err}
use Rattle.m11_base.specs.Devices.{Bytes}
use Rattle.m11_base.specs.Feed.{Text}
use Rattle.m11_obj_blocks.specs.Limited.{Between, Inside, Refused, Read, Stop, most_bytes}
use Rattle.m11_obj_blocks.specs.Tapes.{total_of, first_part, next_part}
use Rattle.m11_obj_blocks.specs.declared.tape_fault.TapeFault.{TapeFault}
use Rattle.m11_obj_blocks.specs.declared.tape_fault.TapeFault.TheVariants as fault
use Rattle.m11_obj_blocks.specs.declared.tape_part.TapePart.{TapePart}
use Rattle.m11_obj_blocks.specs.declared.tape_part.TapePart.TheVariants.{Data, Start}
use Rattle.m11_cpu.specs.Loading.{stored}
use Rattle.m11_cpu.specs.declared.fault.LoadFault.{LoadFault}
use Rattle.m11_cpu.specs.declared.fault.LoadFault.TheVariants.{Tape, OutsideMemory}
use Rattle.m11_cpu_machine.specs.declared.machine.Machine.{Machine}

-- what a load does with a tape: the blocks that it stores, in order, the last of which may be only the first bytes of a block of the tape;
-- the bytes of the tape that it doesn't read; and its result
pub record TapeLoad : Type 0 where
  pub blocks : List (ℕ × Bytes)
  pub unread : Bytes
  pub result : Result ℕ LoadFault

-- a load that stores nothing more
abbrev pub ended : Bytes → Result ℕ LoadFault → TapeLoad
ended unread result = record { blocks = []; unread = unread; result = result }

-- the load that stores this block first
abbrev pub storing : ℕ × Bytes → TapeLoad → TapeLoad
storing block load = record load { blocks = block ∷ load.blocks }

-- The end of a load if the bytes within the limit are too few. If the tape has no byte past the limit, the load has this fault; otherwise it
-- reads one byte past the limit.
abbrev pub lacking : TapeFault → Bytes → TapeLoad
lacking missing [] = ended [] (Err (Tape missing))
lacking missing (byte ∷ past) = ended past (Err (Tape fault.TooMuch))

-- the end of a load if the bytes within the limit don't begin with a part; these other bytes are past the limit
abbrev pub unread_part : Bytes → Stop TapeFault → TapeLoad
unread_part past Between = lacking fault.NoTransfer past
unread_part past Inside = lacking fault.Truncated past
unread_part past (Refused refused rest) = ended (rest ++ past) (Err (Tape refused))

-- the load of these bytes of a block's data, of which so many have addresses inside memory: all of them are stored, or those before the
-- first byte outside memory, which is read; `others` is what the load does then
abbrev pub data_stored : ℕ → ℕ → Bytes → Bytes → Bytes → TapeLoad → TapeLoad
data_stored address inside content bytes past others =
    if nat_lt inside (length content) then
    storing (address, take inside content) (ended (drop (inside + 1) bytes ++ past) (Err OutsideMemory))
    else storing (address, content) others

-- the load after the header of a block with this address and count, whose data is at the beginning of these bytes; `parts` is what the load
-- does with a further part and what follows it
abbrev pub data_loaded : ((Bytes → Read TapeFault TapePart) → Bytes → TapeLoad) → ℕ → Bytes → ℕ → ℕ → Bytes → TapeLoad
data_loaded parts size past address count bytes =
    data_stored address (size - address) (take count bytes) bytes past
    (if nat_lt (length bytes) count then unread_part past Inside
    else parts (next_part (total_of address (take count bytes))) (drop count bytes))

-- the load after this part was read, or wasn't
abbrev pub part_loaded : ((Bytes → Read TapeFault TapePart) → Bytes → TapeLoad) → ℕ → Bytes → Read TapeFault TapePart → TapeLoad
part_loaded parts size past (Ok (Data address count, rest)) = data_loaded parts size past address count rest
part_loaded parts size past (Ok (Start address, rest)) = ended (rest ++ past) (Ok address)
part_loaded parts size past (Err stop) = unread_part past stop

-- the load of fewer than this many parts from these bytes, into a memory of this size; `read` reads the first of the parts, and the bytes
-- past the limit follow
abbrev pub parts_loaded : ℕ → ℕ → Bytes → (Bytes → Read TapeFault TapePart) → Bytes → TapeLoad
parts_loaded zero size past read bytes = unread_part past Inside
parts_loaded (suc bound) size past read bytes = part_loaded (parts_loaded bound size past) size past (read bytes)

-- the load of a tape into a memory of this size; each part has at least one byte, so there are no more parts than bytes
unfoldable pub tape_load : ℕ → Bytes → TapeLoad
tape_load size tape = parts_loaded (suc (length tape)) size (drop most_bytes tape) first_part (take most_bytes tape)

-- a load from a feed did this: nothing of the machine changed but the blocks that were stored in its memory, the feed has the unread bytes
-- left, and it counted no failure
pub record HasLoaded (load : TapeLoad) (text : Text) (left : Option Text) (faults faults' : ℕ) (before after : Machine)
    (result : Result ℕ LoadFault) : Type 0 where
  pub result_is : result ≡ load.result
  pub machine_is : after ≡ record before { memory = stored load.blocks before.memory }
  pub left_is : left ≡ Some (record { bytes = load.unread; ending = text.ending })
  pub none_failed : faults' ≡ faults
