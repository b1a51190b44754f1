-- A machine that holds the bytes that the lines of sources state. (MACRO-11 Language Reference Manual, "Relocation and linking". This
-- project's own: memory is 0 before a load.)
use Rattle.std.specs.Prelude.{◌≡◌, ◌<◌, ◌*◌, ℕ, List, map}
use Rattle.std.specs.Option.{unwrap_or}
use Rattle.m11_base.specs.Devices.{Bytes}
use Rattle.m11_cli_chain.specs.Sources.{AllLive, sources_of}
use Rattle.m11_cli_image.specs.Image.{addresses_of}
use Rattle.m11_cli_image.specs.Agreement.{AbsolutesAgree}
use Rattle.m11_cli_image.specs.Lines.{all_lying}
use Rattle.m11_cpu_machine.specs.Machine.{byte_in}
use Rattle.m11_cpu_machine.specs.declared.machine.Machine.{Machine}
use Rattle.m11_asm_passes.specs.Lines.{NumberedLine, givens}
use Rattle.m11_cpu_laws.specs.Image.{byte_of}

-- A machine with `words` words holds the bytes that the live lines of these texts state in a program whose relocatable sections begin at
-- `bottom`, and 0 elsewhere. This is required only if no section that one source calls ABS is REL in the program.
pub record HoldsStated (texts : List (List Bytes)) (bottom words : ℕ) (machine : Machine) : Type 0 where
  pub lines : List (List NumberedLine)
  pub live : AllLive texts lines
  pub bytes : AbsolutesAgree (sources_of lines) → (address : ℕ) → address < 2 * words
      → byte_in address machine ≡ unwrap_or (byte_of (all_lying (addresses_of bottom (sources_of lines)) (map givens lines)) address) 0
