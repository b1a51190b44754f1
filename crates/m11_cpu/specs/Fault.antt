-- The faults of a run, each with the number and the name that the line reporting it shows. (This project's own: no manual has them.)
use Rattle.std.specs.Prelude.{ℕ, codes}
use Rattle.m11_base.specs.Devices.{Bytes}
use Rattle.m11_obj_blocks.specs.Tapes.{tape_fault_name, tape_fault_number}
use Rattle.m11_cpu.specs.declared.fault.LoadFault.{LoadFault}
use Rattle.m11_cpu.specs.declared.fault.LoadFault.TheVariants.{Tape, OutsideMemory}
use Rattle.m11_cpu.specs.declared.fault.SimFault.{SimFault}
use Rattle.m11_cpu.specs.declared.fault.SimFault.TheVariants.{Load, Write, NoMemory}

-- the number of a fault of loading; faults of the tape have their own numbers
abbrev pub load_fault_number : LoadFault → ℕ
load_fault_number (Tape fault) = tape_fault_number fault
load_fault_number OutsideMemory = 10

-- the name of a fault of loading
abbrev pub load_fault_name : LoadFault → Bytes
load_fault_name (Tape fault) = tape_fault_name fault
load_fault_name OutsideMemory = codes "OutsideMemory"

-- the number of a fault of a run
abbrev pub sim_fault_number : SimFault → ℕ
sim_fault_number (Load fault) = load_fault_number fault
sim_fault_number Write = 11
sim_fault_number NoMemory = 90

-- the name of a fault of a run
abbrev pub sim_fault_name : SimFault → Bytes
sim_fault_name (Load fault) = load_fault_name fault
sim_fault_name Write = codes "Write"
sim_fault_name NoMemory = codes "NoMemory"
