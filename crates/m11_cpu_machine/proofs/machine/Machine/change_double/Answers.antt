use Rattle.m11_cpu_machine.specs.DoubleOperands.{change_double}
use Rattle.m11_cpu_machine.proofs.Dialogues.{bind_reads, bind_reads_aborts, store_result_at, writes_beside}
use Rattle.m11_cpu_machine.proofs.machine.Machine.change_double.Goals as goal

pub returns : goal.returns
unfolding change_double
returns g c =
    bind_reads _ _ _ _ _ _ _ _ _ _ c.in_ok-destination.ensures.does
    (store_result_at _ _ _ _ _ _ _ _ c.double-computed.ensures.computed (writes_beside _ _ _ _ _ c.store_result.ensures))

pub returns-in_err-destination : goal.returns-in_err-destination
unfolding change_double
returns-in_err-destination g c =
    bind_reads_aborts _ _ _ _ _ _ _ _ _ c.in_err-destination.ensures.does c.from_residual.ensures.1
