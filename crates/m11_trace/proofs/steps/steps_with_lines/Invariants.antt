use Rattle.std.proofs.Common.{◌≡◌, List, map, ◌-◌}
use Rattle.m11_cpu_machine.specs.Dialogue.{both, output_of}
use Rattle.m11_cpu_machine.specs.declared.stop.Turn.TheVariants.{Next}
use Rattle.m11_trace.specs.Changes.{CopyMatches}
use Rattle.m11_trace.specs.Stops.{AreQuiet}
use Rattle.m11_trace.specs.Taken.{TracedStep}
use Rattle.m11_trace.specs.Known.{known_of}
use Rattle.m11_trace.proofs.Going.{Going, Shown}
use Rattle.m11_trace.proofs.Waiting.{left_of}
use Rattle.m11_trace.proofs.Watching.{after_steps}
use Rattle.m11_trace.proofs.steps.steps_with_lines.Given as goal

abbrev pub invariant-steps : goal.invariant-steps
invariant-steps g l = (taken : List TracedStep)
    × Going l.fn.limit l.count l.fn.stops l.fn.machine l.machine
    (both (g.I.Feed.text l.fn.input) (g.I.Feed.faults l.fn.input) (g.O.Sink.text l.fn.output) (g.O.Sink.faults l.fn.output))
    (both (g.I.Feed.text l.input) (g.I.Feed.faults l.input) (g.O.Sink.text l.output) (g.O.Sink.faults l.output))
    Next taken
    × Shown (known_of l.fn.known) l.fn.first l.fn.recent.capacity taken l.recent.items (output_of (g.M.Sink.text l.fn.messages) (g.M.Sink.faults l.fn.messages))
    (output_of (g.M.Sink.text l.messages) (g.M.Sink.faults l.messages))
    × AreQuiet l.fn.stops taken × CopyMatches l.fn.first l.count l.before l.machine.memory
    × (l.waiting ≡ map (left_of taken) l.fn.stops.breakpoints.items)
    × (l.watches ≡ map (after_steps taken l.machine.memory) l.fn.stops.watched.items)
    × (l.recent.capacity ≡ l.fn.recent.capacity)

abbrev pub decreases-steps : goal.decreases-steps
decreases-steps g l = l.fn.limit - l.count
