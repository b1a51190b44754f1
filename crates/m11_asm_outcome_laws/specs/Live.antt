-- The result of a run over known sources, in terms of their live lines in the first pass. (Which faults can end a run early is this
-- project's own choice.)
use Rattle.std.specs.Prelude.{◌⊎◌, List, Result, Ok, Err}
use Rattle.m11_asm.specs.Outcome.{Ends, Refuses}
use Rattle.m11_asm.specs.Written.{EndOfSource, pieces_in, program_writes}
use Rattle.m11_asm.specs.declared.done.AsmDone.{AsmDone}
use Rattle.m11_asm_faults.specs.declared.fault.AsmFault.{AsmFault}
use Rattle.m11_asm_outputs.specs.Object.{AllFit, object_contents}
use Rattle.m11_asm_outputs.specs.Outputs.{Gains}
use Rattle.m11_base_writes.specs.Outputs.{AreFlushed, Outputs}
use Rattle.m11_base.specs.Devices.{Bytes}
use Rattle.m11_asm_passes.specs.Lines.{NumberedLine}
use Rattle.m11_asm_rules.specs.Meanings.{empty_map}
use Rattle.m11_scan_line_laws.specs.Readings.{reading_of}
use Rattle.m11_asm_outcome_laws.specs.Beginnings.{MayStop}
use Rattle.m11_asm_outcome_laws.specs.OneText.{program_after}
use Rattle.m11_asm_lines.specs.Counting.{none_used}

-- exactly the writes of the live lines were made, object and listing hold nothing back, and each record of the object fits its block
pub record WritesLive (sources : List Bytes) (old new : Outputs) : Type 0 where
  pub lines : List NumberedLine
  pub ended : EndOfSource
  pub ends : Ends empty_map none_used (reading_of sources) lines ended
  pub gains : Gains old new (program_writes (program_after lines) lines ended)
  pub flushed : AreFlushed new
  pub fit : AllFit (object_contents (program_after lines).rows (pieces_in (program_after lines).map lines))

-- the first pass over the sources is refused by this fault
abbrev pub AreRefused : List Bytes → AsmFault → Type 0
AreRefused sources stopped = (lines : List NumberedLine) × Refuses empty_map none_used (reading_of sources) lines stopped

-- a successful run wrote what the live lines write; any other run was stopped by a device or by a lack of memory, or its fault is the one
-- by which the first pass over the sources is refused
abbrev pub ComesTo : List Bytes → Outputs → Outputs → Result AsmDone AsmFault → Type 0
ComesTo sources old new (Ok done) = WritesLive sources old new
ComesTo sources old new (Err stopped) = MayStop stopped ⊎ AreRefused sources stopped
