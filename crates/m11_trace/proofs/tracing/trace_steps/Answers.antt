use Rattle.std.proofs.Common.{◌∙◌, ap, refl}
use Rattle.std.proofs.lemmas.Result.{err_from_is_err_and}
use Rattle.circular_buffer.specs.Buffer.{Buffer}
use Rattle.m11_trace.specs.declared.shots.Shot.{Shot}
use Rattle.m11_cpu.specs.Simulation.{request_of, run_devices}
use Rattle.m11_cpu_machine.specs.Dialogue.{both, input_of, output_of}
use Rattle.m11_trace.specs.Known.{known_of}
use Rattle.m11_trace.proofs.Whole.{all_shown, line_failed, not_loaded, recent_failed}
use Rattle.m11_trace.proofs.tracing.trace_steps.Goals as goal

pub started-requires-clause-waiting : goal.started-requires-clause-waiting
started-requires-clause-waiting g c =
    c.deref_mut.ensures.value ∙ c.in_ok-waiting.ensures.items_if_clones_equal (λ x y e. e) ∙ c.as_slice.ensures.value

pub returns-in_err-transfer : goal.returns-in_err-transfer
returns-in_err-transfer g c =
    let r = c.from_residual-in_err-transfer in
    let p = err_from_is_err_and r.result r.ensures.1 in
    rw (p.1, p.2) (not_loaded (request_of c.args.start c.args.words c.args.limit) (known_of c.args.known) c.args.first c.args.last c.args.stops.now _ _ _ _ _ _ _
    c.in_ok-machine.ensures c.in_err-transfer.ensures)

pub returns-in_err-steps : goal.returns-in_err-steps
returns-in_err-steps g c =
    let r = c.from_residual-in_err-steps in
    let p = err_from_is_err_and r.result r.ensures.1 in
    rw (p.1, p.2) (line_failed (request_of c.args.start c.args.words c.args.limit) (known_of c.args.known) c.args.first c.args.last c.args.stops.now
    (run_devices (input_of (g.T.Feed.text c.args.tape.now) (g.T.Feed.faults c.args.tape.now))
    (both (g.I.Feed.text c.args.input.now) (g.I.Feed.faults c.args.input.now) (g.O.Sink.text c.args.output.now) (g.O.Sink.faults c.args.output.now))
    (output_of (g.M.Sink.text c.args.messages.now) (g.M.Sink.faults c.args.messages.now)))
    (run_devices (input_of (g.T.Feed.text c.load.new.tape) (g.T.Feed.faults c.load.new.tape))
    (both (g.I.Feed.text c.started.new.input) (g.I.Feed.faults c.started.new.input) (g.O.Sink.text c.started.new.output) (g.O.Sink.faults c.started.new.output))
    (output_of (g.M.Sink.text c.started.new.messages) (g.M.Sink.faults c.started.new.messages)))
    _ _ _ _ _ c.in_ok-machine.ensures c.in_ok-transfer.ensures c.unwrap_or.ensures c.in_ok-recent.recent.capacity c.started.new.recent.items _ c.in_err-steps.ensures)

pub returns-in_err-put_recent : goal.returns-in_err-put_recent
returns-in_err-put_recent g c =
    let r = c.from_residual-in_err-put_recent in
    let p = err_from_is_err_and r.result r.ensures.1 in
    rw (p.1, p.2) (recent_failed (request_of c.args.start c.args.words c.args.limit) (known_of c.args.known) c.args.first c.args.last c.args.stops.now
    (run_devices (input_of (g.T.Feed.text c.args.tape.now) (g.T.Feed.faults c.args.tape.now))
    (both (g.I.Feed.text c.args.input.now) (g.I.Feed.faults c.args.input.now) (g.O.Sink.text c.args.output.now) (g.O.Sink.faults c.args.output.now))
    (output_of (g.M.Sink.text c.args.messages.now) (g.M.Sink.faults c.args.messages.now)))
    (run_devices (input_of (g.T.Feed.text c.load.new.tape) (g.T.Feed.faults c.load.new.tape))
    (both (g.I.Feed.text c.started.new.input) (g.I.Feed.faults c.started.new.input) (g.O.Sink.text c.started.new.output) (g.O.Sink.faults c.started.new.output))
    (output_of (g.M.Sink.text c.put_recent.new.messages) (g.M.Sink.faults c.put_recent.new.messages)))
    _ _ _ _ _ c.in_ok-machine.ensures c.in_ok-transfer.ensures c.unwrap_or.ensures _ (ap (λ (b : Buffer Shot). b.capacity) c.in_ok-recent.ensures ∙ c.from.ensures) _ _ _ c.in_ok-steps.ensures _ c.in_err-put_recent.ensures)

pub returns : goal.returns
returns g c =
    all_shown (request_of c.args.start c.args.words c.args.limit) (known_of c.args.known) c.args.first c.args.last c.args.stops.now
    (run_devices (input_of (g.T.Feed.text c.args.tape.now) (g.T.Feed.faults c.args.tape.now))
    (both (g.I.Feed.text c.args.input.now) (g.I.Feed.faults c.args.input.now) (g.O.Sink.text c.args.output.now) (g.O.Sink.faults c.args.output.now))
    (output_of (g.M.Sink.text c.args.messages.now) (g.M.Sink.faults c.args.messages.now)))
    (run_devices (input_of (g.T.Feed.text c.load.new.tape) (g.T.Feed.faults c.load.new.tape))
    (both (g.I.Feed.text c.started.new.input) (g.I.Feed.faults c.started.new.input) (g.O.Sink.text c.started.new.output) (g.O.Sink.faults c.started.new.output))
    (output_of (g.M.Sink.text c.put_recent.new.messages) (g.M.Sink.faults c.put_recent.new.messages)))
    _ _ _ _ _ c.in_ok-machine.ensures c.in_ok-transfer.ensures c.unwrap_or.ensures _ (ap (λ (b : Buffer Shot). b.capacity) c.in_ok-recent.ensures ∙ c.from.ensures) _ c.in_ok-steps.steps _ c.in_ok-steps.ensures
    _ refl refl c.in_ok-put_recent.ensures
