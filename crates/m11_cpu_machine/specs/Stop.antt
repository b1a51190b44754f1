-- The number and the name by which a stop is reported. (This project's own.)
use Rattle.std.specs.Prelude.{ℕ, codes}
use Rattle.m11_base.specs.Devices.{Bytes}
use Rattle.m11_cpu_machine.specs.declared.stop.LastingStop.{LastingStop}
use Rattle.m11_cpu_machine.specs.declared.stop.LastingStop.TheVariants as lasting
use Rattle.m11_cpu_machine.specs.declared.stop.Stop.{Stop}
use Rattle.m11_cpu_machine.specs.declared.stop.Stop.TheVariants.{Halt, Limit, Wait, StackFault, NoStart, InputFault, OutputFault}

-- a lasting stop as a `Stop`
abbrev pub stop_of : LastingStop → Stop
stop_of lasting.StackFault = StackFault
stop_of lasting.InputFault = InputFault
stop_of lasting.OutputFault = OutputFault

-- the number of a stop
abbrev pub stop_number : Stop → ℕ
stop_number Halt = 1
stop_number Limit = 2
stop_number Wait = 3
stop_number StackFault = 4
stop_number NoStart = 5
stop_number InputFault = 6
stop_number OutputFault = 7

-- the name of a stop
abbrev pub stop_name : Stop → Bytes
stop_name Halt = codes "HALT"
stop_name Limit = codes "LIMIT"
stop_name Wait = codes "WAIT"
stop_name StackFault = codes "STACK FAULT"
stop_name NoStart = codes "NO START"
stop_name InputFault = codes "INPUT FAULT"
stop_name OutputFault = codes "OUTPUT FAULT"
