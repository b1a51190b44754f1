-- The outcome of sources. (MACRO-11 Language Reference Manual, "Source program format".)
use Rattle.std.specs.Prelude.{List}
use Rattle.m11_asm.specs.Outcome.{HasOutcome, Outcome}
use Rattle.m11_base.specs.Devices.{Bytes}
use Rattle.m11_scan_line_laws.specs.Readings.{reading_of}

-- an assembly in which both passes read these sources has this outcome
abbrev pub AssembleTo : List Bytes → Outcome → Type 0
AssembleTo sources outcome = HasOutcome (reading_of sources) (reading_of sources) outcome
