use Rattle.m11_cpu_machine.proofs.Dialogues.{bind_reads, bind_reads_aborts}
use Rattle.m11_cpu_machine.specs.Steps.{instruction}
use Rattle.m11_cpu_machine.proofs.StepsDone.{execute_at}
use Rattle.m11_cpu_machine.proofs.machine.Machine.instruction.Goals as goal

pub returns : goal.returns
unfolding instruction
returns g c =
    bind_reads _ _ _ _ _ _ _ _ _ _ c.in_ok-word.ensures
    (execute_at _ _ _ _ _ _ c.decode.ensures.instruction c.execute.ensures)

pub returns-in_err-word : goal.returns-in_err-word
unfolding instruction
returns-in_err-word g c =
    bind_reads_aborts _ _ _ _ _ _ _ _ _ c.in_err-word.ensures c.from_residual.ensures.1
