use Rattle.std.proofs.Common.{◌+◌, arith}
use Rattle.m11_cpu_quick.specs.Beside.{shown}
use Rattle.m11_cpu_quick.proofs.StepsMade.{begun, one_more}
use Rattle.m11_cpu_quick.proofs.QuickDone.{steps_joined}
use Rattle.m11_cpu_quick.proofs.quick.steps_of.Goals as goal

pub steps-init : goal.steps-init
steps-init c = (begun c.register-next.result c.args.start c.register-next.ensures, c.requires, omega arith)

pub returns-then-done-limit-clause-made : goal.returns-then-done-limit-clause-made
returns-then-done-limit-clause-made c =
    rw c.put_back.ensures
    (steps_joined _ _ _ (shown c.steps.next c.steps.registers c.steps.machine) _ c.steps.invariant.0
    c.plain_steps-made.ensures.made)

pub returns-in-None-clause-made : goal.returns-in-None-clause-made
returns-in-None-clause-made c =
    rw (c.put_back-in-None.ensures, c.in-None.ensures.none, c.in-None.ensures.registers)
    (steps_joined _ _ _ (shown c.steps.next c.steps.registers c.steps.machine) _ c.steps.invariant.0
    c.plain_steps-made.ensures.made)

pub steps-preserved : goal.steps-preserved
steps-preserved c =
    let machine = c.plain_steps-made.new.machine in (
      one_more (c.steps.done + c.plain_steps-made.result.0) c.args.start c.plain_steps-made.result.1 c.in-Some.after
          c.plain_steps-made.new.registers c.rarer_step.new.registers machine c.rarer_step.new.machine
          (steps_joined _ _ _ (shown c.steps.next c.steps.registers c.steps.machine) _ c.steps.invariant.0
          c.plain_steps-made.ensures.made)
          c.in-Some.ensures.some,
      c.in-Some.ensures.runs,
      omega (arith, c.plain_steps-made.ensures.most, c.if-done-limit.false, c.steps.invariant.2),
    )
