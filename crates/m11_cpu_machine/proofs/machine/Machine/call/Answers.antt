use Rattle.m11_cpu_machine.specs.Jumps.{call}
use Rattle.m11_cpu_machine.proofs.Dialogues.{bind_reads, bind_reads_aborts, writes_beside}
use Rattle.m11_cpu_machine.proofs.machine.Machine.call.Goals as goal

pub returns : goal.returns
unfolding call
returns g c =
    bind_reads _ _ _ _ _ _ _ _ _ _ c.in_ok-target.ensures
    (writes_beside _ _ _ _ _ c.enter.ensures)

pub returns-in_err-target : goal.returns-in_err-target
unfolding call
returns-in_err-target g c =
    bind_reads_aborts _ _ _ _ _ _ _ _ _ c.in_err-target.ensures c.from_residual.ensures.1
