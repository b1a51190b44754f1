-- The two lines at the end of a traced run. They are those of an untraced run, with the keyword REACHED if the run stopped at a
-- breakpoint, or CHANGED if it stopped at a change of a watched word. (This project's own.)
use Rattle.std.specs.Prelude.{ℕ, nat_lt, if◌then◌else◌, ◌++◌, codes, length}
use Rattle.m11_base.specs.Devices.{Bytes}
use Rattle.m11_base.specs.Octal.{octal_text}
use Rattle.m11_cpu.specs.Messages.{end_text}
use Rattle.m11_cpu_machine.specs.Machine.{psw_in}
use Rattle.m11_cpu_machine.specs.Stop.{stop_name}
use Rattle.m11_cpu_machine.specs.declared.machine.Machine.{Machine}
use Rattle.m11_trace.specs.declared.ending.Ending.{Ending}
use Rattle.m11_trace.specs.declared.ending.Ending.TheVariants.{Stopped, Reached, Changed}
use Rattle.m11_trace.specs.declared.stops.Stops.{Stops}

-- the keyword CHANGED, with the address of the word after it if several words are watched
abbrev pub change_name : Stops → ℕ → Bytes
change_name stops address =
    if nat_lt 1 (length stops.watched.items) then codes "CHANGED " ++ octal_text address else codes "CHANGED"

-- the keyword of an ending
abbrev pub ending_name : Stops → Ending → Bytes
ending_name stops (Stopped stop) = stop_name stop
ending_name stops Reached = codes "REACHED"
ending_name stops (Changed address) = change_name stops address

-- the two lines of an ending: its keyword and the number of steps; and the registers and the processor status word
abbrev pub ending_text : Stops → Ending → ℕ → Machine → Bytes
ending_text stops ending steps m = end_text (ending_name stops ending) steps m.registers (psw_in m)
