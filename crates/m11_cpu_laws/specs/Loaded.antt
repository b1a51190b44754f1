-- The machine after loading a tape of an image. (RT-11 Volume and File Formats Manual, "Absolute binary file format". Refusing a byte
-- outside memory, and the limit on the size of a tape, are this project's own choices.)
use Rattle.std.specs.Prelude.{◌≡◌, ℕ, ◌<◌, ◌≤◌, length, Some, None, Result, Ok, Err}
use Rattle.std.specs.Option.{unwrap_or}
use Rattle.m11_base.specs.Devices.{Bytes, Rises}
use Rattle.m11_obj_blocks.specs.Limited.{most_bytes}
use Rattle.m11_obj_blocks.specs.declared.tape_fault.TapeFault.TheVariants as fault
use Rattle.m11_cpu_machine.specs.Machine.{byte_in, memory_size}
use Rattle.m11_cpu.specs.declared.fault.LoadFault.{LoadFault}
use Rattle.m11_cpu.specs.declared.fault.LoadFault.TheVariants.{Tape, OutsideMemory}
use Rattle.m11_cpu_machine.specs.declared.machine.Machine.{Machine}
use Rattle.m11_cpu_laws.specs.Image.{Image}
use Rattle.m11_cpu_laws.specs.Tapes.{transfer_address}

-- each byte of the image has an address below this size
abbrev pub LiesInside : ℕ → Image → Type 0
LiesInside size image = (address : ℕ) → size ≤ address → image.byte address ≡ None

-- some byte of the image has an address that isn't below this size
pub record LiesPast (size : ℕ) (image : Image) : Type 0 where
  pub address : ℕ
  pub byte : ℕ
  pub past : size ≤ address
  pub has : image.byte address ≡ Some byte

-- after a load the machine contains the image: each address of its memory has the image's byte, or its old byte if the image has
-- none there; the whole image is inside memory; the size of memory and the rest of the machine are unchanged; and the start is the
-- image's transfer address
pub record HoldsImage (image : Image) (before after : Machine) (start : ℕ) : Type 0 where
  pub bytes : (address : ℕ) → address < memory_size before
      → byte_in address after ≡ unwrap_or (image.byte address) (byte_in address before)
  pub inside : LiesInside (memory_size before) image
  pub size : memory_size after ≡ memory_size before
  pub others : after ≡ record before { memory = after.memory }
  pub start_is : start ≡ transfer_address image

-- loading a tape of an image has this outcome; since the bytes are a tape, no fault in its blocks can occur: the load fails only because
-- a byte lies outside memory, the tape is too long, or the device failed
abbrev pub LoadYields : Image → Bytes → ℕ → ℕ → Machine → Machine → Result ℕ LoadFault → Type 0
LoadYields image tape faults faults' before after (Ok start) = HoldsImage image before after start
LoadYields image tape faults faults' before after (Err OutsideMemory) = LiesPast (memory_size before) image
LoadYields image tape faults faults' before after (Err (Tape fault.Device)) = Rises faults faults'
LoadYields image tape faults faults' before after (Err (Tape fault.TooMuch)) = most_bytes < length tape
LoadYields image tape faults faults' before after (Err (Tape other)) = ⊥

-- two machines have the same bytes up to the end of the smaller memory, and the larger memory has 0 at each address past that end
pub record HoldsTheSame (small large : Machine) : Type 0 where
  pub bytes : (address : ℕ) → address < memory_size small → byte_in address large ≡ byte_in address small
  pub others : (address : ℕ) → memory_size small ≤ address → byte_in address large ≡ 0
