use Rattle.m11_cpu_quick.specs.Beside.{shown}
use Rattle.m11_cpu_quick.specs.Quick.{QuickRuns, StepsAtOnce}
use Rattle.m11_cpu_quick.proofs.quick.plain_steps.Given as goal

abbrev pub invariant-plain : goal.invariant-plain
invariant-plain l =
    StepsAtOnce l.made (shown l.fn.counter l.fn.registers l.fn.machine) (shown l.next l.registers l.machine)
    × QuickRuns l.machine
