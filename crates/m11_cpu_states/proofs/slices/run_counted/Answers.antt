use Rattle.std.proofs.Common.{arith}
use Rattle.m11_cpu.proofs.RunsDone.{begins_quickly, ends, goes_on, quick_goes_on, stops}
use Rattle.m11_cpu_states.proofs.slices.run_counted.Goals as goal

pub steps-init : goal.steps-init
steps-init g c = (c.quick_steps-done.ensures.most, begins_quickly _ _ _ _ _ c.quick_steps-done.ensures.most c.quick_steps-done.ensures.made)

pub returns-in-Stopped-clause-runs : goal.returns-in-Stopped-clause-runs
returns-in-Stopped-clause-runs g c =
    stops _ _ _ _ _ _ _ _ _ (omega arith) c.steps.invariant.1 (rw c.in-Stopped.is at c.step.ensures)

pub returns-clause-runs : goal.returns-clause-runs
returns-clause-runs g c = ends _ _ _ _ _ _ (omega arith) c.steps.invariant.1

pub steps-preserved : goal.steps-preserved
steps-preserved g c =
    let most = c.quick_steps-quick.ensures.most in (
      omega (arith, most),
      quick_goes_on _ _ _ _ _ _ _ _ (omega (arith, most))
          (goes_on _ _ _ _ _ _ _ _ (omega arith) c.steps.invariant.1 (rw c.in-Next.is at c.step.ensures))
          c.quick_steps-quick.ensures.made,
    )
