use Rattle.std.proofs.Common.{◌-◌, ◌≤◌}
use Rattle.m11_cpu_machine.specs.Dialogue.{both}
use Rattle.m11_cpu.proofs.RunsDone.{GoesOn}
use Rattle.m11_cpu_states.proofs.slices.run_counted.Given as goal

abbrev pub invariant-steps : goal.invariant-steps
invariant-steps g l = (l.done ≤ l.fn.limit) × GoesOn l.fn.limit l.done l.fn.machine l.machine
    (both (g.F.Feed.text l.fn.feed) (g.F.Feed.faults l.fn.feed) (g.S.Sink.text l.fn.sink) (g.S.Sink.faults l.fn.sink))
    (both (g.F.Feed.text l.feed) (g.F.Feed.faults l.feed) (g.S.Sink.text l.sink) (g.S.Sink.faults l.sink))

abbrev pub decreases-steps : goal.decreases-steps
decreases-steps g l = l.fn.limit - l.done
