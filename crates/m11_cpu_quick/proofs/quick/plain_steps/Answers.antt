use Rattle.m11_cpu_quick.specs.Beside.{shown}
use Rattle.m11_cpu_quick.proofs.StepsMade.{one_more}
use Rattle.m11_cpu_quick.proofs.QuickDone.{no_steps}
use Rattle.m11_cpu_quick.proofs.quick.plain_steps.Goals as goal

pub plain-init : goal.plain-init
plain-init c = (no_steps (shown c.args.counter c.args.registers.now c.args.machine.now), c.requires)

pub plain-preserved : goal.plain-preserved
plain-preserved c = (
  one_more c.plain.made (shown c.args.counter c.args.registers.now c.args.machine.now) c.plain.next c.in-Some.after
      c.plain.registers c.quick_step.new.registers c.plain.machine c.quick_step.new.machine c.plain.invariant.0
      c.in-Some.ensures.some,
  c.in-Some.ensures.runs,
)
