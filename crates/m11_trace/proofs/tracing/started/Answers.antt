use Rattle.std.proofs.Common.{◌≡◌, ◌%◌, ◌==◌, true, false, refl}
use Rattle.std.proofs.lemmas.Grind.{common_steps}
use Rattle.std.proofs.Common.{arith}
use Rattle.m11_cpu_machine.specs.Dialogue.{output_of}
use Rattle.m11_trace.specs.Known.{known_of}
use Rattle.m11_trace.proofs.Whole.{nothing_started, steps_started}
use Rattle.m11_trace.proofs.tracing.started.Goals as goal

pub returns-then-address-eq1 : goal.returns-then-address-eq1
returns-then-address-eq1 g c =
    let odd : (c.args.address % 2 == 1) ≡ true = grind (arith, common_steps) in
    nothing_started c.args.address c.args.limit (known_of c.args.known) c.args.first c.args.recent.now.capacity c.args.stops.now c.args.machine.now _ _ _
    (record { ending = _; count = 0 }) odd refl refl c.requires.none

pub returns : goal.returns
returns g c =
    let even : (c.args.address % 2 == 1) ≡ false = grind (arith, common_steps) in
    steps_started c.args.address c.args.limit c.args.stops.now c.args.machine.now _ _ _ even (known_of c.args.known) c.args.first c.args.recent.now.capacity _
    (output_of (g.M.Sink.text c.args.messages.now) (g.M.Sink.faults c.args.messages.now))
    (output_of (g.M.Sink.text c.steps_with_lines.new.messages) (g.M.Sink.faults c.steps_with_lines.new.messages)) _ _
    c.start_at.ensures c.steps_with_lines.ensures
