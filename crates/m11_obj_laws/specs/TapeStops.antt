-- Bytes that are not a whole tape. (RT-11 Volume and File Formats Manual, "Absolute binary file format". That bytes other than 001 are
-- skipped before a block, and the names of the faults, are this project's own choices.)
use Rattle.std.specs.Prelude.{◌≡◌, ◌≢◌, ℕ, ◌+◌, ◌*◌, ◌<◌, ◌≤◌, List, [], ◌∷◌, ◌++◌, length, Ok, Err}
use Rattle.m11_obj_blocks.specs.Frames.{closing}
use Rattle.m11_obj_blocks.specs.Limited.{Read, Stop, Between, Inside, Refused}
use Rattle.m11_obj_blocks.specs.Tapes.{tape_header, tape_block, data_limit, total_of, next_part, PartFits}
use Rattle.m11_obj_blocks.specs.declared.tape_fault.TapeFault.{TapeFault}
use Rattle.m11_obj_blocks.specs.declared.tape_fault.TapeFault.TheVariants as fault
use Rattle.m11_obj_blocks.specs.declared.tape_part.TapePart.{TapePart}
use Rattle.m11_obj_blocks.specs.declared.tape_part.TapePart.TheVariants.{Data, Start}
use Rattle.m11_obj_laws.specs.TapeFaults.{AreSkipped}

-- ---- one part

-- the bytes that are read as one part: the header of a data block, or the whole transfer block
abbrev pub part_bytes : TapePart → List ℕ
part_bytes (Data address count) = tape_header address count
part_bytes (Start address) = tape_block address []

abbrev pub address_of : TapePart → ℕ
address_of (Data address count) = address
address_of (Start address) = address

-- bytes that are skipped, and then a prefix of a part: at least one of its bytes, but not all
pub record IsPartCut (bytes : List ℕ) : Type 0 where
  pub skipped : List ℕ
  pub part : TapePart
  pub front : List ℕ
  pub missing : List ℕ
  pub are : AreSkipped skipped
  pub in_range : address_of part < 65536
  pub fits : PartFits part
  pub split : part_bytes part ≡ front ++ missing
  pub some : 0 < length front
  pub cut : 0 < length missing
  pub is : bytes ≡ skipped ++ front

-- after the data of a block, if the sum of its bytes so far is `total`: nothing; or the right checksum, and then a part that is cut
-- short
pub data IsCutAfterData (total : ℕ) : List ℕ → Type 0 where
  Nothing : IsCutAfterData total []
  Closed : {bytes : List ℕ} → IsPartCut bytes → IsCutAfterData total (closing total ∷ bytes)

-- after the data of a block, if the sum of its bytes so far is `total`: the right checksum, and then bytes that begin no block
abbrev pub EndsAfterData : ℕ → List ℕ → Type 0
EndsAfterData total bytes = (rest : List ℕ) × (bytes ≡ closing total ∷ rest) × AreSkipped rest

-- ---- a whole tape

-- parts are read one after another, with the data of each block between them, until the reading of a part or of a byte of data stops in
-- this way
pub data StopsFrom (stop : Stop TapeFault) : (List ℕ → Read TapeFault TapePart) → List ℕ → Type 0 where
  AtPart : {read : List ℕ → Read TapeFault TapePart} {bytes : List ℕ} → read bytes ≡ Err stop → StopsFrom stop read bytes
  InData : {read : List ℕ → Read TapeFault TapePart} {bytes : List ℕ} (address count : ℕ) (following : List ℕ)
      → read bytes ≡ Ok (Data address count, following) → length following < count → stop ≡ Inside
      → StopsFrom stop read bytes
  AfterBlock : {read : List ℕ → Read TapeFault TapePart} {bytes : List ℕ} (address : ℕ) (content following : List ℕ)
      → read bytes ≡ Ok (Data address (length content), content ++ following)
      → StopsFrom stop (next_part (total_of address content)) following → StopsFrom stop read bytes

-- whole data blocks, and then bytes of this kind; before each block, and before those bytes, there may be any bytes but 001
pub data AfterBlocks (Kind : List ℕ → Type 0) : List ℕ → Type 0 where
  Here : {bytes : List ℕ} → Kind bytes → AfterBlocks Kind bytes
  Skipped : {bytes : List ℕ} (byte : ℕ) → byte ≢ 1 → AfterBlocks Kind bytes → AfterBlocks Kind (byte ∷ bytes)
  Block : {bytes : List ℕ} (address : ℕ) (content : List ℕ) → address < 65536 → 0 < length content
      → length content ≤ data_limit → AfterBlocks Kind bytes → AfterBlocks Kind (tape_block address content ++ bytes)

-- a prefix of a block, at least one of its bytes but not all; the block may be the transfer block, and is cut short inside its header,
-- inside its data, or before its checksum
pub record IsBlockCut (bytes : List ℕ) : Type 0 where
  pub address : ℕ
  pub content : List ℕ
  pub missing : List ℕ
  pub in_range : address < 65536
  pub fits : length content ≤ data_limit
  pub split : tape_block address content ≡ bytes ++ missing
  pub some : 0 < length bytes
  pub cut : 0 < length missing

-- the bytes are not a block, as this fault says, and `rest` comes after the bytes that show it
abbrev pub IsNoBlock : TapeFault → List ℕ → List ℕ → Type 0
-- 001, and then a byte other than 000, perhaps another 001
IsNoBlock fault.BadStart bytes rest = (byte : ℕ) × (byte ≢ 0) × (bytes ≡ 1 ∷ byte ∷ rest)
-- 001 000 and a count that leaves no room for the six bytes before the data
IsNoBlock fault.TooShort bytes rest = (low high : ℕ) × (low + 256 * high < 6) × (bytes ≡ 1 ∷ 0 ∷ low ∷ high ∷ rest)
-- a block, which may be the transfer block, with a wrong checksum
IsNoBlock fault.BadSum bytes rest = (address : ℕ) × (content : List ℕ) × (byte : ℕ) × (address < 65536)
    × (length content ≤ data_limit) × (byte ≢ closing (total_of address content))
    × (bytes ≡ tape_header address (length content) ++ (content ++ byte ∷ rest))
IsNoBlock other bytes rest = ⊥

-- the bytes show why the tape can't be read further: none are left, and no transfer block was read; or they are a block that is cut
-- short; or they are not a block
abbrev pub ShowsStop : Stop TapeFault → List ℕ → Type 0
ShowsStop Between bytes = bytes ≡ []
ShowsStop Inside bytes = IsBlockCut bytes
ShowsStop (Refused said rest) bytes = IsNoBlock said bytes rest
