-- The object that an assembly of known texts writes. (RT-11 Volume and File Formats Manual, "Object file format". This project's own: the
-- faults that end an assembly early.)
use Rattle.std.specs.Prelude.{◌⊎◌, List, Result, Ok, Err}
use Rattle.std.specs.Io.KnownBytes.{Appends}
use Rattle.m11_asm.specs.declared.done.AsmDone.{AsmDone}
use Rattle.m11_asm_faults.specs.declared.fault.AsmFault.{AsmFault}
use Rattle.m11_base_writes.specs.declared.outputs.Output.TheVariants.{Product}
use Rattle.m11_base_writes.specs.Outputs.{Outputs}
use Rattle.m11_base.specs.Devices.{Bytes}
use Rattle.m11_cli_image.specs.Objects.{SourceFits, object_of}
use Rattle.m11_asm_outcome_laws.specs.Beginnings.{MayStop}
use Rattle.m11_asm_outcome_laws.specs.Live.{AreRefused}
use Rattle.m11_asm_passes.specs.Lines.{NumberedLine}
use Rattle.m11_cli_chain.specs.Sources.{AreLive, source_of}

-- the product gained the object of the source that the live lines of the texts define, and the source fits
pub record WritesObject (texts : List Bytes) (old new : Outputs) : Type 0 where
  pub lines : List NumberedLine
  pub live : AreLive texts lines
  pub fits : SourceFits (source_of lines)
  pub appends : Appends (old Product).text (new Product).text (object_of (source_of lines))

abbrev pub AssemblyYields : List Bytes → Outputs → Outputs → Result AsmDone AsmFault → Type 0
AssemblyYields texts old new (Ok done) = WritesObject texts old new
AssemblyYields texts old new (Err stopped) = MayStop stopped ⊎ AreRefused texts stopped
