-- The faults of an assembly, each with its number and its name, and which of them end writes early. (This project's own. The printed line
-- of a fault has both.)
use Rattle.std.specs.Prelude.{ℕ, List, Option, Some, None, codes}
use Rattle.m11_scan.specs.declared.fault.LineFault.{LineFault}
use Rattle.m11_scan.specs.declared.fault.LineFault.TheVariants as line
use Rattle.m11_unfold_rules.specs.declared.fault.UnfoldFault.{UnfoldFault}
use Rattle.m11_unfold_rules.specs.declared.fault.UnfoldFault.TheVariants as unfolded
use Rattle.m11_asm_faults.specs.declared.fault.AsmFault.{AsmFault}
use Rattle.m11_asm_faults.specs.declared.fault.AsmFault.TheVariants.{Read, Write, TooManySymbols, TooManySections, Unfold, TooMuchSource, NoMemory}
use Rattle.m11_base_writes.specs.Writes.{Between, In, Stop}
use Rattle.m11_base_writes.specs.declared.outputs.Output.{Output}

-- the number of a fault
abbrev pub number_of : AsmFault → ℕ
number_of Read = 1
number_of (Write output) = 2
number_of TooManySymbols = 3
number_of TooManySections = 4
number_of (Unfold inner) = 5
number_of TooMuchSource = 6
number_of NoMemory = 90

-- the name of a fault
abbrev pub name_of : AsmFault → List ℕ
name_of Read = codes "Read"
name_of (Write output) = codes "Write"
name_of TooManySymbols = codes "TooManySymbols"
name_of TooManySections = codes "TooManySections"
name_of (Unfold inner) = codes "Unfold"
name_of TooMuchSource = codes "TooMuchSource"
name_of NoMemory = codes "NoMemory"

-- where writes end early at this fault: in a write to the output that failed, or between two writes if memory was refused; None for any
-- other fault
abbrev pub stop_of : AsmFault → Option (Stop Output)
stop_of (Write output) = Some (In output)
stop_of NoMemory = Some Between
stop_of _ = None

-- the fault of an assembly for a fault of reading lines; too many bytes and too many lines are the same fault
abbrev pub of_lines : LineFault → AsmFault
of_lines line.Read = Read
of_lines fault = TooMuchSource

-- the fault of an assembly for a fault of unfolding; a lack of memory is `NoMemory` in both
abbrev pub of_unfolding : UnfoldFault → AsmFault
of_unfolding unfolded.NoMemory = NoMemory
of_unfolding fault = Unfold fault
