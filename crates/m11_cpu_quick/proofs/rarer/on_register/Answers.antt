use Rattle.m11_cpu_quick.proofs.StepsMade.{decoded_call, decoded_exclusive}
use Rattle.m11_cpu_quick.proofs.rarer.on_register.Goals as goal

pub returns-in_ok-target-in-Jsr-clause-some : goal.returns-in_ok-target-in-Jsr-clause-some
returns-in_ok-target-in-Jsr-clause-some c =
    decoded_call c.args.code.word c.args.register c.args.operand _ _ (rw c.in-Jsr.is at c.requires)
    c.in_ok-target-in-Jsr.ensures.some

pub returns-in_ok-after-in-Xor-clause-some : goal.returns-in_ok-after-in-Xor-clause-some
returns-in_ok-after-in-Xor-clause-some c =
    decoded_exclusive c.args.code.word c.args.register c.args.operand _ _ (rw c.in-Xor.is at c.requires)
    c.in_ok-after-in-Xor.ensures.some
