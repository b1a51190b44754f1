use Rattle.m11_cpu_machine.specs.SingleOperands.{change_single}
use Rattle.m11_cpu_machine.proofs.Dialogues.{bind_reads, bind_reads_aborts}
use Rattle.m11_cpu_machine.proofs.machine.Machine.change_single.Goals as goal

pub returns : goal.returns
unfolding change_single
returns g c =
    bind_reads _ _ _ _ _ _ _ _ _ _ c.in_ok-location.ensures
    c.change_at.ensures

pub returns-in_err-location : goal.returns-in_err-location
unfolding change_single
returns-in_err-location g c =
    bind_reads_aborts _ _ _ _ _ _ _ _ _ c.in_err-location.ensures c.from_residual.ensures.1
