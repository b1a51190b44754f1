-- How the writes of an assembly end. (This project's own. The product of an assembly is the object, and its report is the listing; such
-- outputs, and writes to any outputs, are defined in m11_base_writes.)
use Rattle.std.specs.Prelude.{List, Result}
use Rattle.m11_asm_faults.specs.Faults.{stop_of}
use Rattle.m11_asm_faults.specs.declared.fault.AsmFault.{AsmFault}
use Rattle.m11_base_writes.specs.Outputs.{Outputs, Write, kinds_of}
use Rattle.m11_base_writes.specs.Writes as writes
use Rattle.m11_base_writes.specs.declared.outputs.Output.{Output}

-- the outputs of an assembly, with its faults, some of which say that writes have ended early
abbrev pub assembly : writes.Kinds Output AsmFault
assembly = kinds_of stop_of

abbrev pub Gains : Outputs → Outputs → List Write → Type 0
Gains old new all = writes.Gains assembly old new all

abbrev pub StopsIn : Output → Outputs → Outputs → List Write → Type 0
StopsIn failed old new all = writes.StopsIn assembly failed old new all

abbrev pub StopsBetween : Outputs → Outputs → List Write → Type 0
StopsBetween old new all = writes.StopsBetween assembly old new all

abbrev pub Stops : Outputs → Outputs → List Write → AsmFault → Type 0
Stops old new all stopped = writes.Stops assembly old new all stopped

abbrev pub Writes : {A : Type 0} → Outputs → Outputs → List Write → Result A AsmFault → Type 0
Writes old new all result = writes.Writes assembly old new all result
