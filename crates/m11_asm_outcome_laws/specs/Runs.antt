-- The end of a run whose sources are refused. (This project's own.)
use Rattle.std.specs.Prelude.{◌≡◌, List, [], ⊤}
use Rattle.m11_asm.specs.Outcome.{HasOutcome, Refused}
use Rattle.m11_base_writes.specs.Passes.{Pass}
use Rattle.m11_asm.specs.Passes.{Reads}
use Rattle.m11_asm_faults.specs.declared.fault.AsmFault.{AsmFault}
use Rattle.m11_asm_faults.specs.declared.fault.AsmFault.TheVariants as fault
use Rattle.m11_base_writes.specs.Outputs.{Write}
use Rattle.m11_scan_line_laws.specs.Readings.{Reading}

-- the fault lies in the sources, which exceed a limit; the other faults are those of devices and of memory
abbrev pub IsOfSources : AsmFault → Type 0
IsOfSources fault.Read = ⊥
IsOfSources (fault.Write output) = ⊥
IsOfSources fault.NoMemory = ⊥
IsOfSources stopped = ⊤

-- these writes and this fault are the outcome of what was read from the feeds
pub data IsRefused {F : Type 0} (first second : Pass F) (stopped : AsmFault) (writes : List Write) : Type 0 where
  -- the first pass is refused, whatever the second one would read: nothing is read from the feeds of the second pass, and nothing is
  -- written
  InFirst : (one : Reading) → Reads first one → second.new ≡ second.old → writes ≡ []
      → ((other : Reading) → HasOutcome one other (Refused stopped [])) → IsRefused first second stopped writes
  -- the second pass is refused
  InSecond : (one other : Reading) → Reads first one → Reads second other → HasOutcome one other (Refused stopped writes)
      → IsRefused first second stopped writes
