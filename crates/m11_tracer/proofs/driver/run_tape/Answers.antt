use Rattle.m11_cpu_machine.specs.Dialogue.{input_of}
use Rattle.m11_tracer.proofs.driver.run_tape.Goals as goal

pub returns : goal.returns
returns g c =
    (input_of (g.T.Feed.text c.trace_run.new.tape) (g.T.Feed.faults c.trace_run.new.tape), rw c.as_slice.ensures.value at c.trace_run.ensures)
