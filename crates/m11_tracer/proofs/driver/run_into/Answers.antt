use Rattle.std.proofs.Common.{inl, subst, ap₂}
use Rattle.m11_base_writes.specs.States.{output_of}
use Rattle.m11_cpu_machine.specs.Dialogue.{input_of}
use Rattle.m11_cli_reports.specs.Streams.{Store, store, streams}
use Rattle.m11_trace.specs.Known.{known_of}
use Rattle.m11_tracer.specs.Driver.{RunsApart}
use Rattle.m11_tracer.proofs.driver.run_into.Goals as goal

pub returns-in-Ok : goal.returns-in-Ok
returns-in-Ok g c =
    let P : Store → Type 0 = λ s. RunsApart c.args.task.now c.args.asked.now c.args.path.now (known_of c.args.known)
    (input_of (g.F.Input.Feed.text c.args.tape) (g.F.Input.Feed.faults c.args.tape)) (output_of g.F.Output.Sink c.in-Ok.lines) s
    (store (g.F.Opens.files c.run_apart.new.files) (g.F.Opens.refusals c.run_apart.new.files))
    (streams g.I.Feed g.O.Sink g.E.Sink c.args.input.now c.args.out.now c.args.err.now)
    (streams g.I.Feed g.O.Sink g.E.Sink c.run_apart.new.input c.run_apart.new.out c.run_apart.new.err) c.run_apart.result in
    inl (
      output_of g.F.Output.Sink c.in-Ok.lines,
      c.run_apart.result,
      c.in-Ok.ensures.empty,
      subst P (ap₂ store c.in-Ok.ensures.creates c.in-Ok.ensures.counts) c.run_apart.ensures,
      c.outcome_apart.ensures,
    )
