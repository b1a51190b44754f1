use Rattle.std.proofs.Common.{ap₂}
use Rattle.m11_base_writes.specs.States.{output_of}
use Rattle.m11_cpu_machine.specs.Dialogue.{input_of}
use Rattle.m11_cli_reports.specs.Streams.{store}
use Rattle.m11_tracer.proofs.driver.run_apart.Goals as goal

pub returns : goal.returns
returns g c = (
  input_of (g.F.Input.Feed.text c.trace_apart-returned.new.tape) (g.F.Input.Feed.faults c.trace_apart-returned.new.tape),
  output_of g.F.Output.Sink c.trace_apart-returned.new.lines,
  rw c.as_slice.ensures.value at c.trace_apart-returned.ensures,
  ap₂ store c.keep.ensures.keeps c.keep.ensures.counts,
)
