use Rattle.m11_cpu_machine.specs.DoubleOperands.{double}
use Rattle.m11_cpu_machine.proofs.Dialogues.{bind_reads, bind_reads_aborts}
use Rattle.m11_cpu_machine.proofs.machine.Machine.double.Goals as goal

pub returns : goal.returns
unfolding double
returns g c =
    bind_reads _ _ _ _ _ _ _ _ _ _ c.in_ok-source.ensures.does
    (bind_reads _ _ _ _ _ _ _ _ _ _ c.in_ok-location.ensures
    c.double_at.ensures)

pub returns-in_err-source : goal.returns-in_err-source
unfolding double
returns-in_err-source g c =
    bind_reads_aborts _ _ _ _ _ _ _ _ _ c.in_err-source.ensures.does c.from_residual.ensures.1

pub returns-in_err-location : goal.returns-in_err-location
unfolding double
returns-in_err-location g c =
    bind_reads _ _ _ _ _ _ _ _ _ _ c.in_ok-source.ensures.does
    (bind_reads_aborts _ _ _ _ _ _ _ _ _ c.in_err-location.ensures c.from_residual-in_err-location.ensures.1)
