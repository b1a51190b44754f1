-- The result of assembling, linking and loading sources, defined by the sources alone. (MACRO-11 Language Reference Manual, "Relocation and
-- linking": a machine holds the image of the sources. This project's own: memory is 0 before a load, and the faults that end a chain
-- early.)
use Rattle.std.specs.Prelude.{◌≡◌, ◌<◌, ◌*◌, ℕ, List, ⊤, Result, Ok, Err}
use Rattle.std.specs.Option.{unwrap_or}
use Rattle.m11_base.specs.Devices.{Bytes}
use Rattle.m11_obj_blocks.specs.Limited.{most_bytes}
use Rattle.m11_obj_blocks.specs.declared.tape_fault.TapeFault.TheVariants.{TooMuch}
use Rattle.m11_cpu_machine.specs.Machine.{byte_in, memory_size, new_machine}
use Rattle.m11_cpu.specs.declared.fault.LoadFault.{LoadFault}
use Rattle.m11_cpu.specs.declared.fault.LoadFault.TheVariants.{Tape, OutsideMemory}
use Rattle.m11_cpu_machine.specs.declared.machine.Machine.{Machine}
use Rattle.m11_cli_image.specs.Image.{image_of}
use Rattle.m11_cli_image.specs.Refusals.{IsOfSizes, IsWithinSizes}
use Rattle.m11_cli_image.specs.Sources.{Source}
use Rattle.m11_cli_image.specs.Tapes.{tape_size}
use Rattle.m11_asm_passes.specs.Lines.{NumberedLine}
use Rattle.m11_cpu_laws.specs.Image.{Image}
use Rattle.m11_cpu_laws.specs.Loaded.{LiesInside, LiesPast}
use Rattle.m11_cpu_laws.specs.Tapes.{transfer_address}
use Rattle.m11_cli_chain.specs.Refusals.{IsOfTexts}
use Rattle.m11_cli_chain.specs.Sources.{AllLive, IsFirstRefused, sources_of}
use Rattle.m11_cli_chain.specs.declared.chain.Chained.{Chained}
use Rattle.m11_cli_chain.specs.declared.fault.ChainFault.{ChainFault}
use Rattle.m11_cli_chain.specs.declared.fault.ChainFault.TheVariants.{Assembly, Link, Load, NoMemory}

-- ---- the machine

-- A machine holds the image, and 0 where the image has no byte. No byte of the image is outside the `words` words of its memory. Everything
-- else is as in a new machine. The program starts at the image's start, or at 1 if the image has none.
pub record HasImage (image : Image) (words : ℕ) (machine : Machine) (start : ℕ) : Type 0 where
  pub bytes : (address : ℕ) → address < 2 * words → byte_in address machine ≡ unwrap_or (image.byte address) 0
  pub inside : LiesInside (2 * words) image
  pub size : memory_size machine ≡ 2 * words
  pub others : machine ≡ record (new_machine words) { memory = machine.memory }
  pub start_is : start ≡ transfer_address image

-- ---- the chain

-- no assembly of the texts is refused, their sources exceed no limit of a link, and the property `Holds` is true of the sources
pub record Linked (texts : List (List Bytes)) (bottom : ℕ) (Holds : List Source → Type 0) : Type 0 where
  pub lines : List (List NumberedLine)
  pub live : AllLive texts lines
  pub links : IsWithinSizes bottom (sources_of lines)
  pub holds : Holds (sources_of lines)

-- a load stops with this fault: `OutsideMemory`, and a byte of the image is outside memory; or `TooMuch`, and the tape has more than
-- 4,194,304 bytes; no other fault stops a load
abbrev pub StopsLoad : ℕ → ℕ → LoadFault → List Source → Type 0
StopsLoad bottom words OutsideMemory sources = LiesPast (2 * words) (image_of bottom sources)
StopsLoad bottom words (Tape TooMuch) sources = most_bytes < tape_size sources
StopsLoad bottom words (Tape other) sources = ⊥

-- A chain, in which each list of texts is one assembly, has this outcome: a machine that holds the image of the sources; a fault that stops
-- the load; a limit of the link that the sources exceed; the first refusal of an assembly; or `NoMemory`. No device fails.
abbrev pub Chains : List (List Bytes) → ℕ → ℕ → Result Chained ChainFault → Type 0
Chains texts bottom words (Ok done) =
    Linked texts bottom (λ sources. HasImage (image_of bottom sources) words done.machine done.start)
Chains texts bottom words (Err (Load stopped)) = Linked texts bottom (StopsLoad bottom words stopped)
Chains texts bottom words (Err (Link stopped)) =
    (lines : List (List NumberedLine)) × AllLive texts lines × IsOfSizes bottom (sources_of lines) stopped
Chains texts bottom words (Err (Assembly stopped)) = IsOfTexts stopped × IsFirstRefused texts stopped
Chains texts bottom words (Err NoMemory) = ⊤
