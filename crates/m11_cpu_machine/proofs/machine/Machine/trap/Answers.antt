use Rattle.m11_cpu_machine.proofs.StepsDone.{trap_done, trap_fails, trap_stops}
use Rattle.m11_cpu_machine.proofs.machine.Machine.trap.Goals as goal

pub returns-in-Ok : goal.returns-in-Ok
returns-in-Ok g c = trap_done _ _ _ _ _ _ c.in-Ok.ensures c.load_vector.ensures

pub returns-in-Err-Traps : goal.returns-in-Err-Traps
returns-in-Err-Traps g c =
    trap_fails _ c.in-Err-Traps.field-0-0 _ _ _ _ _ (rw c.in-Err-Traps.field-0-is at c.in-Err-Traps.ensures) c.stop_by.ensures

pub returns-in-Err-Stops : goal.returns-in-Err-Stops
returns-in-Err-Stops g c =
    trap_stops _ c.in-Err-Stops.stop _ _ _ _ _ _ (rw c.in-Err-Stops.field-0-is at c.in-Err-Stops.ensures)
    c.in-Err-Stops.stop-is c.stop_by-in-Err-Stops.ensures
