-- The image of a program: the byte at each address, and the start of the program. (RT-11 Volume and File Formats Manual, "Absolute binary
-- file format": blocks of bytes, each with an address, and a start. That a later block overwrites an earlier one at the same address is
-- this project's own choice.)
use Rattle.std.specs.Prelude.{ℕ, ◌-◌, nat_le, if◌then◌else◌, List, [], ◌∷◌, slice_get, Option, None}
use Rattle.std.specs.Option.{option_or}
use Rattle.m11_base.specs.Devices.{Bytes}

pub record Image : Type 0 where
  -- the byte at an address, if the program has one there
  pub byte : ℕ → Option ℕ
  -- the start of the program, if it has one
  pub start : Option ℕ

-- the byte that a block has at an address, if any
abbrev pub byte_within : ℕ × Bytes → ℕ → Option ℕ
byte_within block address = if nat_le block.0 address then slice_get block.1 (address - block.0) else None

-- the byte that blocks have at an address, if any; if several have one, that of the last block
abbrev pub byte_of : List (ℕ × Bytes) → ℕ → Option ℕ
byte_of [] address = None
byte_of (block ∷ blocks) address = option_or (byte_of blocks address) (byte_within block address)
