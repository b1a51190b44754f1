use Rattle.std.proofs.Common.{rules}
use Rattle.m11_cpu_machine.proofs.Dialogues.{writes_beside}
use Rattle.m11_cpu_machine.proofs.StepsDone.{step_goes, step_stopped}
use Rattle.m11_cpu_machine.proofs.machine.Machine.step.Goals as goal

pub returns-in-Some : goal.returns-in-Some
returns-in-Some g c = step_stopped _ c.in-Some.stop _ _ c.in-Some.is c.stop.ensures

pub returns : goal.returns
returns g c =
    step_goes _ _ _ _ _ _ _ (search rules) c.instruction-ending.ensures (writes_beside _ _ _ _ _ c.turned.ensures)
