use Rattle.m11_cpu.proofs.RunsDone.{run_reported}
use Rattle.m11_cpu.proofs.machine.Machine.run.Goals as goal

pub returns : goal.returns
returns g c = run_reported _ _ _ _ _ _ (rw c.self.view_is at c.run_counted.ensures)
