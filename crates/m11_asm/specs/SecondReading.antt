-- The second pass over feeds, call by call. (This project's own.)
use Rattle.std.specs.Prelude.{Result, Ok, Err}
use Rattle.m11_asm_faults.specs.declared.fault.AsmFault.{AsmFault}
use Rattle.m11_base_writes.specs.Outputs.{Outputs}
use Rattle.m11_asm.specs.Program.{Program}
use Rattle.m11_asm.specs.Second.{SecondAfter, SecondState}
use Rattle.m11_asm.specs.Extents.{SecondGives}
use Rattle.m11_base_writes.specs.Passes.{Pass}
use Rattle.m11_asm.specs.Passes.{ReadsSecond}
use Rattle.m11_asm.specs.SourceRead.{SourceRead}
use Rattle.m11_asm.specs.declared.done.AsmDone.{AsmDone}

-- the pass is done with all lines that it reads from the feeds, and exactly their writes were made
abbrev pub SecondPassDone : {F : Type 0} → Pass F → Program → Outputs → Outputs → SecondState → Type 0
SecondPassDone pass program old new second = SourceRead pass (λ source. SecondAfter program source old new second) second.has_ended

-- the second pass has this result: it writes what `ReadsSecond` says, and reads its feeds as far as `SecondGives` says
abbrev pub PutsAll : {F : Type 0} → Pass F → Program → Outputs → Outputs → Result AsmDone AsmFault → Type 0
PutsAll pass program old new result = ReadsSecond pass program old new result × SecondGives pass program old new result

abbrev pub PutsLines : {F : Type 0} → Pass F → Program → Outputs → Outputs → SecondState → Result (Unit {0}) AsmFault → Type 0
PutsLines pass program old new second (Ok done) = SecondPassDone pass program old new second
PutsLines pass program old new second (Err stopped) = PutsAll pass program old new (Err stopped)
