-- Bytes that are not a block, for each fault. (RT-11 Volume and File Formats Manual, "Object file format", formatted binary blocks.
-- The zeros before a block, its limit, and the names of the faults are this project's own.)
use Rattle.std.specs.Prelude.{◌≡◌, ◌≢◌, ◌⊎◌, ℕ, ◌+◌, ◌*◌, ◌<◌, ◌≤◌, List, ◌∷◌, ◌++◌, length, replicate}
use Rattle.m11_obj_blocks.specs.Frames.{content_limit, header, sum_byte}
use Rattle.m11_obj_blocks.specs.declared.block_fault.BlockFault.{BlockFault}
use Rattle.m11_obj_blocks.specs.declared.block_fault.BlockFault.TheVariants as fault

-- the bytes show this fault, and `rest` comes after it
abbrev pub Shows : BlockFault → List ℕ → List ℕ → Type 0
-- a byte that begins no block; or 001, and then a byte other than 000
Shows fault.BadStart bytes rest = ((byte : ℕ) × (1 < byte) × (bytes ≡ byte ∷ rest))
    ⊎ ((byte : ℕ) × (byte ≢ 0) × (bytes ≡ 1 ∷ byte ∷ rest))
-- 001 000 and a length that leaves no room for the four bytes before the content
Shows fault.TooShort bytes rest = (low high : ℕ) × (low + 256 * high < 4) × (bytes ≡ 1 ∷ 0 ∷ low ∷ high ∷ rest)
-- 001 000, then a length greater than a block may have
Shows fault.TooLong bytes rest =
    (low high : ℕ) × (content_limit + 4 < low + 256 * high) × (bytes ≡ 1 ∷ 0 ∷ low ∷ high ∷ rest)
-- a block with content of an allowed length, and a wrong checksum
Shows fault.BadSum bytes rest = (content : List ℕ) × (byte : ℕ) × (length content ≤ content_limit)
    × (byte ≢ sum_byte (header (length content) ++ content))
    × (bytes ≡ (header (length content) ++ content) ++ byte ∷ rest)
Shows other bytes rest = ⊥

-- the bytes show the fault after zeros
pub record ShowsAfterZeros (fault : BlockFault) (bytes rest : List ℕ) : Type 0 where
  pub zeros : ℕ
  pub following : List ℕ
  pub split : bytes ≡ replicate zeros 0 ++ following
  pub shows : Shows fault following rest
