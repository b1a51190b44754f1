-- The writes of a link. (This project's own. The product of a link is the tape, and its report is the map. m11_base_writes defines
-- such outputs, and writes to several outputs.)
use Rattle.std.specs.Prelude.{List, Result}
use Rattle.m11_base_writes.specs.Outputs.{Outputs, Write, files, kinds_of}
use Rattle.m11_base_writes.specs.Writes as writes
use Rattle.m11_base_writes.specs.declared.outputs.Output.{Output}
use Rattle.m11_link_layout.specs.Fault.{stop_of}
use Rattle.m11_link_layout.specs.declared.fault.LinkFault.{LinkFault}

-- the outputs of a link, and where each of its faults ends the writes
abbrev pub link : writes.Kinds Output LinkFault
link = kinds_of stop_of

abbrev pub Gains : Outputs → Outputs → List Write → Type 0
Gains old new all = writes.Gains link old new all

abbrev pub StopsIn : Output → Outputs → Outputs → List Write → Type 0
StopsIn failed old new all = writes.StopsIn link failed old new all

abbrev pub StopsBetween : Outputs → Outputs → List Write → Type 0
StopsBetween old new all = writes.StopsBetween link old new all

abbrev pub Stops : Outputs → Outputs → List Write → LinkFault → Type 0
Stops old new all stopped = writes.Stops link old new all stopped

abbrev pub Writes : {A : Type 0} → Outputs → Outputs → List Write → Result A LinkFault → Type 0
Writes old new all result = writes.Writes link old new all result

abbrev pub Finishes : {A : Type 0} → Outputs → Outputs → List Write → Result A LinkFault → Type 0
Finishes old new all result = writes.Finishes link old new all files result
