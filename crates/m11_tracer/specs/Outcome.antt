-- The outcome of a command line, the line for its fault and its exit status, as for `m11 sim`. (This project's own: 0 if the program halted
-- or help was asked for; 1 if the run stopped otherwise; 2 for a refused command line; 3 if a device failed or a file couldn't be opened; 4
-- for a malformed tape or file of names, or a tape that doesn't fit the memory; 5 for lack of memory; 6 for an exceeded limit.)
use Rattle.std.specs.Prelude.{ℕ, [], ◌∷◌, Result, Ok, Err, codes}
use Rattle.m11_base.specs.Devices.{Bytes}
use Rattle.m11_cpu.specs.Fault.{sim_fault_name, sim_fault_number}
use Rattle.m11_cpu.specs.declared.fault.SimFault.TheVariants.{Write}
use Rattle.m11_cli_reports.specs.Lines.{line_for}
use Rattle.m11_cli_reports.specs.Runs.{sim_line, sim_status, stop_status}
use Rattle.m11_cli_reports.specs.Usage.{usage_line, usage_status}
use Rattle.m11_trace.specs.declared.apart.ApartFault.{ApartFault}
use Rattle.m11_trace.specs.declared.apart.ApartFault.TheVariants.{Lines, Run}
use Rattle.m11_trace.specs.declared.ending.Ending.{Ending}
use Rattle.m11_trace.specs.declared.ending.Ending.TheVariants.{Stopped, Reached, Changed}
use Rattle.m11_base_disassembly.specs.declared.map_fault.MapFault.{MapFault}
use Rattle.m11_base_disassembly.specs.declared.map_fault.MapFault.TheVariants as map
use Rattle.m11_tracer.specs.declared.outcome.Outcome.{Outcome}
use Rattle.m11_tracer.specs.declared.outcome.Outcome.TheVariants.{Usage, Refused, NotOpened, NoSymbols, LinesFailed, Ran}

-- the exit status for an ending; a run that stopped at a breakpoint or at a change of a watched word has the status of a run at its limit
abbrev pub ending_status : Ending → ℕ
ending_status (Stopped stop) = stop_status stop
ending_status Reached = 1
ending_status (Changed address) = 1

-- the exit status for a file that gives no names
abbrev pub map_status : MapFault → ℕ
map_status map.Read = 3
map_status map.BadMap = 4
map_status map.TooMuch = 6
map_status map.NoModule = 4
map_status map.NoMemory = 5

-- the outcome of a run whose trace lines have a file of their own
abbrev pub outcome_apart : Result Ending ApartFault → Outcome
outcome_apart (Ok ending) = Ran (Ok ending)
outcome_apart (Err Lines) = LinesFailed
outcome_apart (Err (Run fault)) = Ran (Err fault)

abbrev pub status_of : Outcome → ℕ
status_of (Usage fault) = usage_status fault
status_of Refused = 2
status_of NotOpened = 3
status_of (NoSymbols fault) = map_status fault
status_of LinesFailed = 3
status_of (Ran (Ok ending)) = ending_status ending
status_of (Ran (Err fault)) = sim_status fault

-- the line for an outcome: empty without a fault, and where the reason has been reported already, for a refused value and for a file that
-- can't be opened or gives no names
abbrev pub line_of : Outcome → Bytes
line_of (Usage fault) = usage_line fault
line_of Refused = []
line_of NotOpened = []
line_of (NoSymbols fault) = []
line_of LinesFailed = line_for (codes "SIM") (sim_fault_number Write) (sim_fault_name Write) (codes "LINES" ∷ [])
line_of (Ran (Ok ending)) = []
line_of (Ran (Err fault)) = sim_line fault
