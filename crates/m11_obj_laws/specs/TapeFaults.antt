-- Bytes that are not a tape, for each fault. (RT-11 Volume and File Formats Manual, "Absolute binary file format". That bytes other than
-- 001 are skipped before a block, and the names of the faults, are this project's own choices.)
use Rattle.std.specs.Prelude.{◌≡◌, ◌≢◌, ℕ, ◌+◌, ◌*◌, ◌<◌, List, [], ◌∷◌, ◌++◌}
use Rattle.std.specs.List.{AllByRecursion}
use Rattle.m11_obj_blocks.specs.Frames.{closing}
use Rattle.m11_obj_blocks.specs.Tapes.{tape_header, total_of}
use Rattle.m11_obj_blocks.specs.declared.tape_fault.TapeFault.{TapeFault}
use Rattle.m11_obj_blocks.specs.declared.tape_fault.TapeFault.TheVariants as fault

-- a wrong checksum after bytes with this sum
abbrev pub IsWrong : ℕ → ℕ → Type 0
IsWrong total byte = byte ≢ closing total

-- the bytes show this fault, and `rest` comes after it
abbrev pub Shows : TapeFault → List ℕ → List ℕ → Type 0
-- 001, and then a byte other than 000, perhaps another 001
Shows fault.BadStart bytes rest = (byte : ℕ) × (byte ≢ 0) × (bytes ≡ 1 ∷ byte ∷ rest)
-- 001 000 and a count that leaves no room for the six bytes before the data
Shows fault.TooShort bytes rest = (low high : ℕ) × (low + 256 * high < 6) × (bytes ≡ 1 ∷ 0 ∷ low ∷ high ∷ rest)
-- a transfer block with a wrong checksum
Shows fault.BadSum bytes rest = (address : ℕ) × (byte : ℕ) × (address < 65536) × IsWrong (total_of address []) byte
    × (bytes ≡ tape_header address 0 ++ byte ∷ rest)
Shows other bytes rest = ⊥

-- bytes that are skipped before a block: none of them is 001
abbrev pub AreSkipped : List ℕ → Type 0
AreSkipped bytes = AllByRecursion (λ byte. byte ≢ 1) bytes

pub record ShowsAfterSkipped (fault : TapeFault) (bytes rest : List ℕ) : Type 0 where
  pub skipped : List ℕ
  pub following : List ℕ
  pub are : AreSkipped skipped
  pub split : bytes ≡ skipped ++ following
  pub shows : Shows fault following rest

-- after the data of a block, if the sum of its bytes so far is `total`: a wrong checksum, or the right one and then the fault
pub data ShowsAfterData (total : ℕ) (said : TapeFault) (rest : List ℕ) : List ℕ → Type 0 where
  Wrong : (byte : ℕ) → IsWrong total byte → said ≡ fault.BadSum → ShowsAfterData total said rest (byte ∷ rest)
  Right : {bytes : List ℕ} → ShowsAfterSkipped said bytes rest → ShowsAfterData total said rest (closing total ∷ bytes)
