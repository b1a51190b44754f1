use Rattle.std.proofs.Common.{◌≤◌}
use Rattle.m11_cpu_quick.specs.Beside.{shown}
use Rattle.m11_cpu_quick.specs.Quick.{QuickRuns, StepsAtOnce}
use Rattle.m11_cpu_quick.proofs.quick.steps_of.Given as goal

abbrev pub invariant-steps : goal.invariant-steps
invariant-steps l = StepsAtOnce l.done l.fn.start (shown l.next l.registers l.machine) × QuickRuns l.machine × (l.done ≤ l.fn.limit)
