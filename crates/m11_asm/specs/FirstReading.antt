-- The first pass over feeds: what it has read when it ends, with or without a fault, and the symbols that it yields. (This project's own.)
use Rattle.std.specs.Prelude.{◌≡◌, Result, Ok, Err}
use Rattle.m11_asm_faults.specs.declared.fault.AsmFault.{AsmFault}
use Rattle.m11_asm.specs.First.{FirstAfter, FirstState, Symbols, symbols_of}
use Rattle.m11_asm_rules.specs.Meanings.{empty_map}
use Rattle.m11_asm.specs.Extents.{GivesToFault}
use Rattle.m11_base_writes.specs.Passes.{Pass}
use Rattle.m11_asm.specs.Passes.{ReadsFirst}
use Rattle.m11_asm.specs.SourceRead.{SourceRead}
use Rattle.m11_asm_lines.specs.Counting.{none_used}

-- the pass is done with all lines that it reads from the feeds
abbrev pub FirstPassDone : {F : Type 0} → Pass F → FirstState → Type 0
FirstPassDone pass first = SourceRead pass (λ source. FirstAfter source first) first.has_ended

-- the pass ends with a fault, and has read the feeds no further than that fault needs
abbrev pub FirstStops : {F : Type 0} → Pass F → AsmFault → Type 0
FirstStops pass stopped = ReadsFirst pass (Err stopped) × GivesToFault pass empty_map none_used stopped

abbrev pub ReadsLines : {F : Type 0} → Pass F → FirstState → Result (Unit {0}) AsmFault → Type 0
ReadsLines pass first (Ok done) = FirstPassDone pass first
ReadsLines pass first (Err stopped) = FirstStops pass stopped

abbrev pub GivesSymbols : {F : Type 0} → Pass F → Result Symbols AsmFault → Type 0
GivesSymbols pass (Ok symbols) = (first : FirstState) × FirstPassDone pass first × (symbols ≡ symbols_of first)
GivesSymbols pass (Err stopped) = FirstStops pass stopped
