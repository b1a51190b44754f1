use Rattle.std.proofs.Common.{inl, ap₂}
use Rattle.m11_cpu_machine.specs.Dialogue.{input_of}
use Rattle.m11_cli_reports.specs.Streams.{store}
use Rattle.m11_trace.specs.Known.{known_of}
use Rattle.m11_tracer.proofs.Carried.{runs_named, runs_unnamed}
use Rattle.m11_tracer.proofs.driver.carry_named.Goals as goal

pub returns-in-None : goal.returns-in-None
returns-in-None g c = inl (
  input_of (g.F.Input.Feed.text c.in-Ok.tape) (g.F.Input.Feed.faults c.in-Ok.tape),
  c.in-Ok.ensures.finds,
  runs_unnamed c.args.task.now c.args.asked.now (known_of c.args.known) _ _ _ _ _ _ c.in-None.is c.run_tape.ensures (ap₂ store c.in-Ok.ensures.files c.in-Ok.ensures.counts),
)

pub returns-in-Some : goal.returns-in-Some
returns-in-Some g c =
    runs_named c.args.task.now c.args.asked.now (known_of c.args.known) (input_of (g.F.Input.Feed.text c.in-Ok.tape) (g.F.Input.Feed.faults c.in-Ok.tape)) _ _ _ _ _
    c.run_into.result c.in-Some.path c.in-Some.is c.in-Ok.ensures.finds (ap₂ store c.in-Ok.ensures.files c.in-Ok.ensures.counts) c.run_into.ensures
