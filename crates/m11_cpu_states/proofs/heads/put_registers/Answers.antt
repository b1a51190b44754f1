use Rattle.std.proofs.Common.{arith}
use Rattle.m11_cpu_states.proofs.StateBytes.{word_put}
use Rattle.m11_cpu_states.proofs.heads.put_registers.Goals as goal

pub loop-register-preserved : goal.loop-register-preserved
loop-register-preserved c =
    word_put _ _ _ _ _ (omega arith) c.loop-register.invariant c.in_ok-extend_from_slice.ensures.items
