-- The status of a run of a tape, and the line for its fault. (This project's own.)
use Rattle.std.specs.Prelude.{List, [], ◌∷◌, ℕ, codes}
use Rattle.m11_base.specs.Devices.{Bytes}
use Rattle.m11_cpu.specs.Fault.{sim_fault_name, sim_fault_number}
use Rattle.m11_cpu.specs.declared.fault.LoadFault.{LoadFault}
use Rattle.m11_cpu.specs.declared.fault.LoadFault.TheVariants as load
use Rattle.m11_cpu.specs.declared.fault.SimFault.{SimFault}
use Rattle.m11_cpu.specs.declared.fault.SimFault.TheVariants as sim
use Rattle.m11_cpu_machine.specs.declared.stop.Stop.{Stop}
use Rattle.m11_cpu_machine.specs.declared.stop.Stop.TheVariants as stop
use Rattle.m11_obj_blocks.specs.declared.tape_fault.TapeFault.{TapeFault}
use Rattle.m11_obj_blocks.specs.declared.tape_fault.TapeFault.TheVariants as tape
use Rattle.m11_cli_reports.specs.Lines.{line_for}

-- the status of a run that stopped
abbrev pub stop_status : Stop → ℕ
stop_status stop.Halt = 0
stop_status stop.Limit = 1
stop_status stop.Wait = 1
stop_status stop.StackFault = 1
stop_status stop.NoStart = 1
stop_status stop.InputFault = 3
stop_status stop.OutputFault = 3

-- the status of a tape that is refused
abbrev pub tape_status : TapeFault → ℕ
tape_status tape.Device = 3
tape_status tape.Truncated = 4
tape_status tape.BadSum = 4
tape_status tape.BadStart = 4
tape_status tape.TooShort = 4
tape_status tape.Failed = 4
tape_status tape.NoTransfer = 4
tape_status tape.TooMuch = 6

abbrev pub load_status : LoadFault → ℕ
load_status (load.Tape fault) = tape_status fault
load_status load.OutsideMemory = 4

-- the status of a run that ended without a stop
abbrev pub sim_status : SimFault → ℕ
sim_status (sim.Load fault) = load_status fault
sim_status sim.Write = 3
sim_status sim.NoMemory = 5

-- the additions of a run's fault: `MESSAGES` if the messages could not be written, otherwise none
abbrev pub sim_added : SimFault → List Bytes
sim_added (sim.Load fault) = []
sim_added sim.Write = codes "MESSAGES" ∷ []
sim_added sim.NoMemory = []

-- the line for a fault of a run
abbrev pub sim_line : SimFault → Bytes
sim_line fault =
    line_for (codes "SIM") (sim_fault_number fault) (sim_fault_name fault) (sim_added fault)
