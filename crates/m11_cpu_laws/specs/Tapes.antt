-- The tapes of an image. (RT-11 Volume and File Formats Manual, "Absolute binary file format". That the tapes of an image without a start
-- have the transfer address 1, which is odd and starts no program, is this project's own choice.)
use Rattle.std.specs.Prelude.{◌≡◌, ℕ, List, Some}
use Rattle.std.specs.Option.{unwrap_or}
use Rattle.m11_base.specs.Devices.{Bytes}
use Rattle.m11_obj_blocks.specs.Tapes.{IsTape}
use Rattle.m11_cpu_laws.specs.Image.{Image, byte_of}

-- the transfer address on the tapes of an image
abbrev pub transfer_address : Image → ℕ
transfer_address image = unwrap_or image.start 1

-- the bytes are a tape of this image; its blocks may come in any order, be divided in any way, and overlap: only the byte that they leave
-- at each address matters
pub record IsTapeOf (image : Image) (tape : Bytes) : Type 0 where
  pub blocks : List (ℕ × Bytes)
  pub start : ℕ
  pub consists : IsTape blocks start tape
  pub bytes : (address : ℕ) → byte_of blocks address ≡ image.byte address
  pub start_is : start ≡ transfer_address image

-- the image of a tape with these blocks and this start
abbrev pub image_of_blocks : List (ℕ × Bytes) → ℕ → Image
image_of_blocks blocks start = record { byte = λ address. byte_of blocks address; start = Some start }
