use Rattle.std.proofs.lemmas.Result.{err_from_is_err_and}
use Rattle.m11_cpu.specs.Simulation.{request_of}
use Rattle.m11_cpu_machine.specs.Dialogue.{both, input_of, output_of}
use Rattle.m11_trace.specs.Known.{known_of}
use Rattle.m11_trace.proofs.Whole.{all_reported, end_failed, report_failed}
use Rattle.m11_trace.proofs.tracing.trace_run.Goals as goal

pub returns-in_err-traced : goal.returns-in_err-traced
returns-in_err-traced g c =
    let r = c.from_residual in
    let p = err_from_is_err_and r.result r.ensures.1 in
    rw (p.1, p.2) (report_failed (request_of c.args.start c.args.words c.args.limit) (known_of c.args.known) c.args.first c.args.last c.args.stops.now c.args.ranges.now _ _ _ c.in_err-traced.ensures)

pub returns-in_err-put_stop : goal.returns-in_err-put_stop
returns-in_err-put_stop g c =
    let r = c.from_residual-in_err-put_stop in
    let p = err_from_is_err_and r.result r.ensures.1 in
    rw (p.1, p.2) (end_failed (request_of c.args.start c.args.words c.args.limit) (known_of c.args.known) c.args.first c.args.last c.args.stops.now c.args.ranges.now
    (input_of (g.T.Feed.text c.args.tape.now) (g.T.Feed.faults c.args.tape.now))
    (input_of (g.T.Feed.text c.trace_steps.new.tape) (g.T.Feed.faults c.trace_steps.new.tape))
    (both (g.I.Feed.text c.args.input.now) (g.I.Feed.faults c.args.input.now) (g.O.Sink.text c.args.output.now) (g.O.Sink.faults c.args.output.now))
    (both (g.I.Feed.text c.trace_steps.new.input) (g.I.Feed.faults c.trace_steps.new.input) (g.O.Sink.text c.trace_steps.new.output) (g.O.Sink.faults c.trace_steps.new.output))
    (output_of (g.M.Sink.text c.args.messages.now) (g.M.Sink.faults c.args.messages.now))
    (output_of (g.M.Sink.text c.trace_steps.new.messages) (g.M.Sink.faults c.trace_steps.new.messages))
    (output_of (g.M.Sink.text c.put_stop.new.messages) (g.M.Sink.faults c.put_stop.new.messages))
    _ c.in_ok-traced.ensures _ c.in_err-put_stop.ensures)

pub returns : goal.returns
returns g c =
    all_reported (request_of c.args.start c.args.words c.args.limit) (known_of c.args.known) c.args.first c.args.last c.args.stops.now c.args.ranges.now
    (input_of (g.T.Feed.text c.args.tape.now) (g.T.Feed.faults c.args.tape.now))
    (input_of (g.T.Feed.text c.trace_steps.new.tape) (g.T.Feed.faults c.trace_steps.new.tape))
    (both (g.I.Feed.text c.args.input.now) (g.I.Feed.faults c.args.input.now) (g.O.Sink.text c.args.output.now) (g.O.Sink.faults c.args.output.now))
    (both (g.I.Feed.text c.trace_steps.new.input) (g.I.Feed.faults c.trace_steps.new.input) (g.O.Sink.text c.trace_steps.new.output) (g.O.Sink.faults c.trace_steps.new.output))
    (output_of (g.M.Sink.text c.args.messages.now) (g.M.Sink.faults c.args.messages.now))
    (output_of (g.M.Sink.text c.trace_steps.new.messages) (g.M.Sink.faults c.trace_steps.new.messages))
    (output_of (g.M.Sink.text c.put_stop.new.messages) (g.M.Sink.faults c.put_stop.new.messages))
    _ c.in_ok-traced.ensures c.in_ok-put_stop.ensures
