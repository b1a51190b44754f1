-- What a run of the assembler does. (This project's own.)
use Rattle.std.specs.Prelude.{◌≡◌, ◌⊎◌, List, Result, Ok, Err}
use Rattle.m11_asm_faults.specs.declared.fault.AsmFault.{AsmFault}
use Rattle.m11_base_writes.specs.Outputs.{Outputs}
use Rattle.m11_asm_passes.specs.Lines.{NumberedLine, givens}
use Rattle.m11_asm.specs.Program.{program_of}
use Rattle.m11_asm.specs.declared.done.AsmDone.{AsmDone}
use Rattle.m11_base_writes.specs.Passes.{Pass}
use Rattle.m11_asm.specs.Passes.{ReadsFirst, ReadsSecond}

-- the result of a run is that of the second pass, with what the first one found; or it is the fault of the first pass, and then nothing is
-- read from the feeds of the second one, and `Untouched` holds
abbrev pub AsmRunsOr : {F : Type 0} → Type 0 → Pass F → Pass F → Outputs → Outputs → Result AsmDone AsmFault → Type 0
AsmRunsOr Untouched first second old new (Ok done) =
    (lines : List NumberedLine) × ReadsFirst first (Ok lines) × ReadsSecond second (program_of (givens lines)) old new (Ok done)
AsmRunsOr Untouched first second old new (Err stopped) =
    (ReadsFirst first (Err stopped) × (second.new ≡ second.old) × Untouched)
    ⊎ ((lines : List NumberedLine) × ReadsFirst first (Ok lines)
    × ReadsSecond second (program_of (givens lines)) old new (Err stopped))

-- a run of both passes has this result; after a fault of the first pass the outputs are unchanged
abbrev pub AsmRuns : {F : Type 0} → Pass F → Pass F → Outputs → Outputs → Result AsmDone AsmFault → Type 0
AsmRuns first second old new result = AsmRunsOr (new ≡ old) first second old new result
