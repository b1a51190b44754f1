use Rattle.m11_cpu_machine.specs.DoubleOperands.{exclusive_or}
use Rattle.m11_cpu_machine.proofs.Dialogues.{bind_reads, bind_reads_aborts, change_exclusive_at}
use Rattle.m11_cpu_machine.proofs.machine.Machine.exclusive_or.Goals as goal

pub returns : goal.returns
unfolding exclusive_or
returns g c =
    bind_reads _ _ _ _ _ _ _ _ _ _ c.in_ok-location.ensures
    (change_exclusive_at _ _ _ _ _ _ _ c.register-source.ensures c.change_exclusive.ensures)

pub returns-in_err-location : goal.returns-in_err-location
unfolding exclusive_or
returns-in_err-location g c =
    bind_reads_aborts _ _ _ _ _ _ _ _ _ c.in_err-location.ensures c.from_residual.ensures.1
