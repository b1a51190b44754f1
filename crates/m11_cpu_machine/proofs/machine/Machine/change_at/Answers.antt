use Rattle.m11_cpu_machine.specs.SingleOperands.{change_at}
use Rattle.m11_cpu_machine.proofs.Dialogues.{bind_reads, bind_reads_aborts, store_result_at, writes_beside}
use Rattle.m11_cpu_machine.proofs.machine.Machine.change_at.Goals as goal

pub returns : goal.returns
unfolding change_at
returns g c =
    bind_reads _ _ _ _ _ _ _ _ _ _ c.in_ok-value.ensures.does
    (store_result_at _ _ _ _ _ _ _ _ c.single-computed.ensures.computed (writes_beside _ _ _ _ _ c.store_result.ensures))

pub returns-in_err-value : goal.returns-in_err-value
unfolding change_at
returns-in_err-value g c =
    bind_reads_aborts _ _ _ _ _ _ _ _ _ c.in_err-value.ensures.does c.from_residual.ensures.1
