use Rattle.m11_cpu.specs.Simulation.{request_of}
use Rattle.m11_cpu_machine.specs.Dialogue.{both, input_of, output_of}
use Rattle.m11_trace.specs.Known.{known_of}
use Rattle.m11_trace.proofs.Separate.{all_apart, flush_failed, report_apart_failed, steps_failed}
use Rattle.m11_trace.proofs.apart.trace_apart.Goals as goal

pub returns-in-Err : goal.returns-in-Err
returns-in-Err g c =
    rw c.fault_of_steps.ensures (steps_failed (request_of c.args.start c.args.words c.args.limit) (known_of c.args.known) c.args.first c.args.last c.args.stops.now c.args.ranges.now
    (input_of (g.T.Feed.text c.args.tape.now) (g.T.Feed.faults c.args.tape.now))
    (input_of (g.T.Feed.text c.trace_steps.new.tape) (g.T.Feed.faults c.trace_steps.new.tape))
    (both (g.I.Feed.text c.args.input.now) (g.I.Feed.faults c.args.input.now) (g.O.Sink.text c.args.output.now) (g.O.Sink.faults c.args.output.now))
    (both (g.I.Feed.text c.trace_steps.new.input) (g.I.Feed.faults c.trace_steps.new.input) (g.O.Sink.text c.trace_steps.new.output) (g.O.Sink.faults c.trace_steps.new.output))
    (output_of (g.L.Sink.text c.args.lines.now) (g.L.Sink.faults c.args.lines.now))
    (output_of (g.L.Sink.text c.trace_steps.new.messages) (g.L.Sink.faults c.trace_steps.new.messages))
    (output_of (g.M.Sink.text c.args.messages.now) (g.M.Sink.faults c.args.messages.now))
    (g.L.Sink.held c.trace_steps.new.messages) c.in-Err.fault c.in-Err.ensures)

pub returns-in-Err-flush : goal.returns-in-Err-flush
returns-in-Err-flush g c =
    flush_failed (request_of c.args.start c.args.words c.args.limit) (known_of c.args.known) c.args.first c.args.last c.args.stops.now c.args.ranges.now
    (input_of (g.T.Feed.text c.args.tape.now) (g.T.Feed.faults c.args.tape.now))
    (input_of (g.T.Feed.text c.trace_steps.new.tape) (g.T.Feed.faults c.trace_steps.new.tape))
    (both (g.I.Feed.text c.args.input.now) (g.I.Feed.faults c.args.input.now) (g.O.Sink.text c.args.output.now) (g.O.Sink.faults c.args.output.now))
    (both (g.I.Feed.text c.trace_steps.new.input) (g.I.Feed.faults c.trace_steps.new.input) (g.O.Sink.text c.trace_steps.new.output) (g.O.Sink.faults c.trace_steps.new.output))
    (output_of (g.L.Sink.text c.args.lines.now) (g.L.Sink.faults c.args.lines.now))
    (output_of (g.L.Sink.text c.trace_steps.new.messages) (g.L.Sink.faults c.trace_steps.new.messages))
    (output_of (g.M.Sink.text c.args.messages.now) (g.M.Sink.faults c.args.messages.now))
    c.in-Ok.traced c.in-Ok.ensures (output_of (g.L.Sink.text c.flush.new.self) (g.L.Sink.faults c.flush.new.self)) c.in-Err-flush.ensures.keeps (g.L.Sink.held c.flush.new.self) c.in-Err-flush.ensures.counts

pub returns-in-Ok-put_stop : goal.returns-in-Ok-put_stop
returns-in-Ok-put_stop g c =
    all_apart (request_of c.args.start c.args.words c.args.limit) (known_of c.args.known) c.args.first c.args.last c.args.stops.now c.args.ranges.now
    (input_of (g.T.Feed.text c.args.tape.now) (g.T.Feed.faults c.args.tape.now))
    (input_of (g.T.Feed.text c.trace_steps.new.tape) (g.T.Feed.faults c.trace_steps.new.tape))
    (both (g.I.Feed.text c.args.input.now) (g.I.Feed.faults c.args.input.now) (g.O.Sink.text c.args.output.now) (g.O.Sink.faults c.args.output.now))
    (both (g.I.Feed.text c.trace_steps.new.input) (g.I.Feed.faults c.trace_steps.new.input) (g.O.Sink.text c.trace_steps.new.output) (g.O.Sink.faults c.trace_steps.new.output))
    (output_of (g.L.Sink.text c.args.lines.now) (g.L.Sink.faults c.args.lines.now))
    (output_of (g.L.Sink.text c.trace_steps.new.messages) (g.L.Sink.faults c.trace_steps.new.messages))
    (output_of (g.M.Sink.text c.args.messages.now) (g.M.Sink.faults c.args.messages.now))
    c.in-Ok.traced c.in-Ok.ensures (output_of (g.L.Sink.text c.flush.new.self) (g.L.Sink.faults c.flush.new.self)) c.in-Ok-flush.ensures.keeps (g.L.Sink.held c.flush.new.self) c.in-Ok-flush.ensures.all
    c.in-Ok-flush.ensures.counts (output_of (g.M.Sink.text c.put_stop.new.messages) (g.M.Sink.faults c.put_stop.new.messages)) c.in-Ok-put_stop.ensures

pub returns : goal.returns
returns g c =
    report_apart_failed (request_of c.args.start c.args.words c.args.limit) (known_of c.args.known) c.args.first c.args.last c.args.stops.now c.args.ranges.now
    (input_of (g.T.Feed.text c.args.tape.now) (g.T.Feed.faults c.args.tape.now))
    (input_of (g.T.Feed.text c.trace_steps.new.tape) (g.T.Feed.faults c.trace_steps.new.tape))
    (both (g.I.Feed.text c.args.input.now) (g.I.Feed.faults c.args.input.now) (g.O.Sink.text c.args.output.now) (g.O.Sink.faults c.args.output.now))
    (both (g.I.Feed.text c.trace_steps.new.input) (g.I.Feed.faults c.trace_steps.new.input) (g.O.Sink.text c.trace_steps.new.output) (g.O.Sink.faults c.trace_steps.new.output))
    (output_of (g.L.Sink.text c.args.lines.now) (g.L.Sink.faults c.args.lines.now))
    (output_of (g.L.Sink.text c.trace_steps.new.messages) (g.L.Sink.faults c.trace_steps.new.messages))
    (output_of (g.M.Sink.text c.args.messages.now) (g.M.Sink.faults c.args.messages.now))
    c.in-Ok.traced c.in-Ok.ensures (output_of (g.L.Sink.text c.flush.new.self) (g.L.Sink.faults c.flush.new.self)) c.in-Ok-flush.ensures.keeps (g.L.Sink.held c.flush.new.self) c.in-Ok-flush.ensures.all
    c.in-Ok-flush.ensures.counts (output_of (g.M.Sink.text c.put_stop.new.messages) (g.M.Sink.faults c.put_stop.new.messages)) c.in-Err-put_stop.fault c.in-Err-put_stop.ensures
