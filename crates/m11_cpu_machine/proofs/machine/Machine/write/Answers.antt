use Rattle.m11_cpu_machine.specs.SingleOperands.{write}
use Rattle.m11_cpu_machine.proofs.Dialogues.{bind_reads, bind_reads_aborts, store_result_at, writes_beside}
use Rattle.m11_cpu_machine.proofs.machine.Machine.write.Goals as goal

pub returns : goal.returns
unfolding write
returns g c =
    bind_reads _ _ _ _ _ _ _ _ _ _ c.in_ok-location.ensures
    (store_result_at _ _ _ _ _ _ _ _ c.single-computed.ensures.computed (writes_beside _ _ _ _ _ c.store_result.ensures))

pub returns-in_err-location : goal.returns-in_err-location
unfolding write
returns-in_err-location g c =
    bind_reads_aborts _ _ _ _ _ _ _ _ _ c.in_err-location.ensures c.from_residual.ensures.1
